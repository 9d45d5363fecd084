-- Each peer was sent each change that concerns it.
use Rattle.std.proofs.Common.{◌≡◌, ℕ, ◌+◌, Bool, true, false, List, [], ◌∷◌, ◌++◌, length, map, filter, reverse, Option, Some, None, refl, sym, ap, ◌∙◌, subst, arith, append_assoc, slice_set}
use Rattle.std.specs.Prelude.{cond, nat_lt, if◌then◌else◌, slice_get}
use Rattle.std.specs.List.{flat_map, list_any}
use Rattle.std.specs.BTreeMap.{insert_entry}
use Rattle.std.specs.Map.{lookup, remove_entry, set_value}
use Rattle.std.specs.Ordering.{is_eq, match_ordering, ordering_reverse}
use Rattle.std.specs.declared.cmp.Ordering.{Ordering}
use Rattle.std.specs.declared.cmp.Ordering.TheVariants.{Less, Equal, Greater}
use Rattle.std.proofs.lemmas.List.{length-append, reverse-append}
use Rattle.rtps_types.specs.declared.identity.GuidPrefix.{GuidPrefix}
use Rattle.rtps_types.specs.declared.locator.Locator.{Locator}
use Rattle.rtps_discovery.specs.Known.{prefix_order, same_prefix}
use Rattle.rtps_discovery.proofs.Guids.{prefix_total}
use Rattle.rtps_announcer.specs.Ack.{AckView}
use Rattle.rtps_announcer.specs.declared.hearing.Facts.{Facts}
use Rattle.rtps_announcer.specs.declared.hearing.Hearing.{Hearing}
use Rattle.rtps_announcer.specs.declared.hearing.Hearing.TheVariants.{Passes, Comes, Leaves, Acks, Joins, Parts}
use Rattle.rtps_announcer.specs.declared.now.Now.{Now}
use Rattle.rtps_announcer.specs.declared.peer.Peer.{Peer}
use Rattle.rtps_announcer.specs.declared.rules.Rules.{Rules}
use Rattle.rtps_announcer.specs.declared.said.Change.{Change}
use Rattle.rtps_announcer.specs.declared.said.Change.TheVariants.{Asks, Ends}
use Rattle.rtps_announcer.specs.declared.said.Said.{Said}
use Rattle.rtps_announcer.specs.declared.said.Said.TheVariants.{Told}
use Rattle.rtps_announcer.specs.declared.said.Sending.{Sending}
use Rattle.rtps_announcer.specs.Announcing.{Peers, State, acknowledging, acks_by, all_told, answer_at, at_moment, comes_by, first, found, heard_again, news_to, now_of, oldest, parts_by, quiet, room, state_run, stays, step, welcome, without}
use Rattle.rtps_announcer.specs.Peer.{acknowledged, is_late, newcomer, reminded, renewed, told_more}
use Rattle.rtps_announcer.specs.Said.{beat_of, to_one}
use Rattle.rtps_announcer.specs.Telling.{has_gone}
use Rattle.rtps_announcer.specs.Told.{AllTold, AreTold, EachIsTold, finds, is_to, is_told, said_since, said_then, said_to, state_after}
use Rattle.rtps_announcer.proofs.Running.{state_more}
use Rattle.rtps_announcer.proofs.Told.{any_left, any_right, gone_more, gone_one, said_more, told_itself, told_one_more, welcome_tells}

-- ---- what is said to a participant

pub itself : (p : GuidPrefix) → same_prefix p p ≡ true
itself p = by_order (prefix_order p p) refl (prefix_total.antisymm p p)
  where
    by_order : (o : Ordering) → prefix_order p p ≡ o → prefix_order p p ≡ ordering_reverse (prefix_order p p) → is_eq (prefix_order p p) ≡ true
    by_order Less e f = let bad : Less ≡ Greater = rw e at f in absurd cc
    by_order Equal e f = rw e refl
    by_order Greater e f = let bad : Greater ≡ Less = rw e at f in absurd cc

pub said_to-append : (p : GuidPrefix) (xs ys : List Sending) → said_to p (xs ++ ys) ≡ said_to p xs ++ said_to p ys
said_to-append p [] ys = refl
said_to-append p (x ∷ xs) ys = by_case (is_to p x.to) (said_to-append p xs ys)
  where
    by_case : (b : Bool) → said_to p (xs ++ ys) ≡ said_to p xs ++ said_to p ys
        → (if b then x.said ∷ said_to p (xs ++ ys) else said_to p (xs ++ ys)) ≡ (if b then x.said ∷ said_to p xs else said_to p xs) ++ said_to p ys
    by_case true h = ap (λ (l : List Said). x.said ∷ l) h
    by_case false h = h

pub said_to-one : (p : GuidPrefix) (to : List Locator) (xs : List Said) → said_to p (to_one p to xs) ≡ xs
said_to-one p to [] = refl
said_to-one p to (x ∷ xs) = rw (itself p) (ap (λ (l : List Said). x ∷ l) (said_to-one p to xs))

-- the last change is said to each of these peers
abbrev Reached : ℕ → Change → (GuidPrefix → List Said) → Peers → Type 0
Reached n c said [] = Unit {0}
Reached n c said (e ∷ es) = (list_any (is_told n c) (said e.0) ≡ true) × Reached n c said es

news_reach : (now : Now) (c : Change) (front : List Sending) (es : Peers) → Reached now.last c (λ q. said_to q (front ++ flat_map (news_to now c) es)) es
news_reach now c front [] = tt
news_reach now c front (e ∷ es) =
    let own = news_to now c e in
    let rest = flat_map (news_to now c) es in
    let said : List Said = Told now.last c ∷ beat_of now ∷ [] in
    let here : list_any (is_told now.last c) (said_to e.0 own) ≡ true = rw (said_to-one e.0 e.1.to said, told_itself now.last c) refl in
    let there : list_any (is_told now.last c) (said_to e.0 own ++ said_to e.0 rest) ≡ true = any_left now.last c (said_to e.0 own) (said_to e.0 rest) here in (
      ap (list_any (is_told now.last c)) (said_to-append e.0 front (own ++ rest) ∙ ap (λ (l : List Said). said_to e.0 front ++ l) (said_to-append e.0 own rest))
          ∙ any_right now.last c (said_to e.0 front) (said_to e.0 own ++ said_to e.0 rest) there,
      subst (λ (l : List Sending). Reached now.last c (λ q. said_to q l) es) (append_assoc front own rest) (news_reach now c (front ++ own) es),
    )

-- ---- peers, one after the other

-- more is said to those whom it concerns
said_each : (gone : List Bool) (cs : List Change) (said more later : GuidPrefix → List Said) → ((q : GuidPrefix) → later q ≡ said q ++ more q) → (es : Peers) → EachIsTold gone cs said es → EachIsTold gone cs later es
said_each gone cs said more later are [] told = tt
said_each gone cs said more later are (e ∷ es) told = (
  subst (λ (l : List Said). AreTold gone e.1.since l 1 cs) (sym (are e.0)) (said_more gone e.1.since (said e.0) (more e.0) 1 cs told.0),
  said_each gone cs said more later are es told.1,
)

filter_told : (gone : List Bool) (cs : List Change) (said : GuidPrefix → List Said) (p : GuidPrefix × Peer → Bool) (es : Peers) → EachIsTold gone cs said es → EachIsTold gone cs said (filter p es)
filter_told gone cs said p [] told = tt
filter_told gone cs said p (e ∷ es) told = by_case (p e) (filter_told gone cs said p es told.1)
  where
    by_case : (b : Bool) → EachIsTold gone cs said (filter p es) → EachIsTold gone cs said (if b then e ∷ filter p es else filter p es)
    by_case true rest = (told.0, rest)
    by_case false rest = rest

remove_told : (gone : List Bool) (cs : List Change) (said : GuidPrefix → List Said) (p : GuidPrefix → Bool) (es : Peers) → EachIsTold gone cs said es → EachIsTold gone cs said (remove_entry p es)
remove_told gone cs said p [] told = tt
remove_told gone cs said p (e ∷ es) told = by_case (p e.0) (remove_told gone cs said p es told.1)
  where
    by_case : (b : Bool) → EachIsTold gone cs said (remove_entry p es) → EachIsTold gone cs said (cond b es (e ∷ remove_entry p es))
    by_case true rest = told.1
    by_case false rest = (told.0, rest)

map_told : (gone : List Bool) (cs : List Change) (said : GuidPrefix → List Said) (f : Peer → Peer) → ((p : Peer) → (f p).since ≡ p.since) → (es : Peers) → EachIsTold gone cs said es
    → EachIsTold gone cs said (map (λ (e : GuidPrefix × Peer). (e.0, f e.1)) es)
map_told gone cs said f keeps [] told = tt
map_told gone cs said f keeps (e ∷ es) told = (
  subst (λ (n : ℕ). AreTold gone n (said e.0) 1 cs) (sym (keeps e.1)) told.0,
  map_told gone cs said f keeps es told.1,
)

set_told : (gone : List Bool) (cs : List Change) (said : GuidPrefix → List Said) (p : GuidPrefix → Bool) (old new : Peer) → new.since ≡ old.since → (es : Peers) → lookup p es ≡ Some old
    → EachIsTold gone cs said es → EachIsTold gone cs said (set_value p es new)
set_told gone cs said p old new keeps [] some told = tt
set_told gone cs said p old new keeps (e ∷ es) some told = by_case (p e.0) some (set_told gone cs said p old new keeps es)
  where
    by_case : (b : Bool) → cond b (Some e.1) (lookup p es) ≡ Some old → (lookup p es ≡ Some old → EachIsTold gone cs said es → EachIsTold gone cs said (set_value p es new))
        → EachIsTold gone cs said (cond b ((e.0, new) ∷ es) (e ∷ set_value p es new))
    by_case true is rest =
        let same : e.1 ≡ old = cc in
        (subst (λ (n : ℕ). AreTold gone n (said e.0) 1 cs) (ap (λ (x : Peer). x.since) same ∙ sym keeps) told.0, told.1)
    by_case false is rest = (told.0, rest is told.1)

-- ---- a participant that isn't among the peers

abbrev Apart : GuidPrefix → Peers → Type 0
Apart p [] = Unit {0}
Apart p (e ∷ es) = (same_prefix p e.0 ≡ false) × Apart p es

apart : (p : GuidPrefix) (es : Peers) → lookup (same_prefix p) es ≡ None → Apart p es
apart p [] none = tt
apart p (e ∷ es) none = by_case (same_prefix p e.0) refl none (apart p es)
  where
    by_case : (b : Bool) → same_prefix p e.0 ≡ b → cond b (Some e.1) (lookup (same_prefix p) es) ≡ None → (lookup (same_prefix p) es ≡ None → Apart p es) → Apart p (e ∷ es)
    by_case true is h rest = absurd cc
    by_case false is h rest = (is, rest h)

remove_apart : (p : GuidPrefix) (test : GuidPrefix → Bool) (es : Peers) → Apart p es → Apart p (remove_entry test es)
remove_apart p test [] none = tt
remove_apart p test (e ∷ es) none = by_case (test e.0) (remove_apart p test es none.1)
  where
    by_case : (b : Bool) → Apart p (remove_entry test es) → Apart p (cond b es (e ∷ remove_entry test es))
    by_case true rest = none.1
    by_case false rest = (none.0, rest)

apart_told : (gone : List Bool) (cs : List Change) (said more later : GuidPrefix → List Said) (p : GuidPrefix) → ((q : GuidPrefix) → same_prefix p q ≡ false → later q ≡ said q ++ more q)
    → (es : Peers) → Apart p es → EachIsTold gone cs said es → EachIsTold gone cs later es
apart_told gone cs said more later p are [] none told = tt
apart_told gone cs said more later p are (e ∷ es) none told = (
  subst (λ (l : List Said). AreTold gone e.1.since l 1 cs) (sym (are e.0 none.0)) (said_more gone e.1.since (said e.0) (more e.0) 1 cs told.0),
  apart_told gone cs said more later p are es none.1 told.1,
)

insert_told : (gone : List Bool) (cs : List Change) (said : GuidPrefix → List Said) (p : GuidPrefix) (new : Peer) → AreTold gone new.since (said p) 1 cs → (es : Peers) → Apart p es
    → EachIsTold gone cs said es → EachIsTold gone cs said (insert_entry prefix_order es p new)
insert_told gone cs said p new is [] none told = (is, tt)
insert_told gone cs said p new is (e ∷ es) none told = by_order (prefix_order p e.0) none.0 (insert_told gone cs said p new is es none.1 told.1)
  where
    by_order : (o : Ordering) → is_eq o ≡ false → EachIsTold gone cs said (insert_entry prefix_order es p new)
        → EachIsTold gone cs said (match_ordering o ((p, new) ∷ e ∷ es) ((e.0, new) ∷ es) (e ∷ insert_entry prefix_order es p new))
    by_order Less apart rest = (is, told)
    by_order Equal apart rest = absurd cc
    by_order Greater apart rest = (told.0, rest)

-- ---- there is one change more

news_told : (gone later : List Bool) (cs : List Change) (c : Change) (said more : GuidPrefix → List Said) (f : Peer → Peer) → ((p : Peer) → (f p).since ≡ p.since)
    → ((rank : ℕ) → has_gone later rank ≡ false → has_gone gone rank ≡ false) → (es : Peers) → EachIsTold gone cs said es → Reached (length cs + 1) c more es
    → EachIsTold later (cs ++ c ∷ []) (λ q. said q ++ more q) (map (λ (e : GuidPrefix × Peer). (e.0, f e.1)) es)
news_told gone later cs c said more f keeps stays [] told reached = tt
news_told gone later cs c said more f keeps stays (e ∷ es) told reached = (
  subst (λ (n : ℕ). AreTold later n (said e.0 ++ more e.0) 1 (cs ++ c ∷ [])) (sym (keeps e.1))
      (told_one_more gone later e.1.since (said e.0 ++ more e.0) c 1 cs stays (said_more gone e.1.since (said e.0) (more e.0) 1 cs told.0)
      (any_right (1 + length cs) c (said e.0) (more e.0) (subst (λ (n : ℕ). list_any (is_told n c) (more e.0) ≡ true) (omega arith) reached.0))),
  news_told gone later cs c said more f keeps stays es told.1 reached.1,
)

pub told_since : (r : Rules) (now : Now) (p : Peer) → (told_more r now p).since ≡ p.since
told_since r now p = refl

-- one more change is sent to all peers, in a state to which it is added
all_are_told : (r : Rules) (s : State) (later : List Bool) (c : Change) (said : GuidPrefix → List Said) → ((rank : ℕ) → has_gone later rank ≡ false → has_gone s.gone rank ≡ false)
    → EachIsTold s.gone s.changes said s.peers
    → EachIsTold later (s.changes ++ c ∷ []) (λ q. said q ++ said_to q (all_told r c (record s { changes = s.changes ++ c ∷ []; gone = later })).sends)
    (all_told r c (record s { changes = s.changes ++ c ∷ []; gone = later })).state.peers
all_are_told r s later c said stays told =
    let t : State = record s { changes = s.changes ++ c ∷ []; gone = later } in
    let more : GuidPrefix → List Said = λ q. said_to q (flat_map (news_to (now_of t) c) s.peers) in
    let count : length (s.changes ++ c ∷ []) ≡ length s.changes + 1 = length-append s.changes (c ∷ []) in
    news_told s.gone later s.changes c said more (told_more r (now_of t)) (told_since r (now_of t)) stays s.peers told
    (subst (λ (n : ℕ). Reached n c more s.peers) count (news_reach (now_of t) c [] s.peers))

-- ---- one step

abbrev Told_by : (GuidPrefix → List Said) → State → Type 0
Told_by said s = EachIsTold s.gone s.changes said s.peers

if_since : (b : Bool) (n : ℕ) (x y : Peer) → x.since ≡ n → y.since ≡ n → (if b then x else y).since ≡ n
if_since true n x y hx hy = hx
if_since false n x y hx hy = hy

pub reminded_since : (r : Rules) (now : Now) (p : Peer) → (reminded r now p).since ≡ p.since
reminded_since r now p = if_since (is_late r now p) p.since _ p refl refl

-- what is said at this hearing comes after what was said before
abbrev behind : (GuidPrefix → List Said) → List Sending → GuidPrefix → List Said
behind said sends q = said q ++ said_to q sends

more_told : (s : State) (said : GuidPrefix → List Said) (sends : List Sending) → Told_by said s → Told_by (behind said sends) s
more_told s said sends told = said_each s.gone s.changes said (λ q. said_to q sends) (behind said sends) (λ q. refl) s.peers told

ack_told : (r : Rules) (p : GuidPrefix) (a : AckView) (s : State) (said : GuidPrefix → List Said) → Told_by said s → (o : Option Peer) → lookup (same_prefix p) s.peers ≡ o
    → EachIsTold s.gone s.changes said (acknowledging r p a s o)
ack_told r p a s said told None is = told
ack_told r p a s said told (Some peer) is = set_told s.gone s.changes said (same_prefix p) peer (acknowledged r (now_of s) a peer) refl s.peers is told

acks_told : (r : Rules) (p : GuidPrefix) (a : AckView) (s : State) (said : GuidPrefix → List Said) → Told_by said s → (o : Option (List Sending)) → Told_by said (acks_by r p a s o).state
acks_told r p a s said told None = told
acks_told r p a s said told (Some sends) = ack_told r p a s said told (lookup (same_prefix p) s.peers) refl

again_told : (r : Rules) (p : GuidPrefix) (f : Facts) (s : State) (said : GuidPrefix → List Said) (peer : Peer) → Told_by said s → lookup (same_prefix p) s.peers ≡ Some peer
    → Told_by said (heard_again r p f s peer).state
again_told r p f s said peer told is = by_case f.hears
  where
    by_case : (b : Bool) → EachIsTold s.gone s.changes said (if b then set_value (same_prefix p) s.peers (renewed r (now_of s) f peer) else remove_entry (same_prefix p) s.peers)
    by_case true = set_told s.gone s.changes said (same_prefix p) peer (renewed r (now_of s) f peer) refl s.peers is told
    by_case false = remove_told s.gone s.changes said (same_prefix p) s.peers told

-- what holds of the peers, whoever loses its place, holds of those with room for one more
pub room_keeps : (P : Peers → Type 0) (most : ℕ) (peers left : Peers) → P peers → ((test : GuidPrefix → Bool) → P (remove_entry test peers)) → room most peers ≡ Some left → P left
room_keeps P most peers left all fewer is = by_case (nat_lt (length peers) most) (oldest None peers) is
  where
    by_case : (b : Bool) (o : Option (GuidPrefix × ℕ)) → (if b then Some peers else without o peers) ≡ Some left → P left
    by_case true o h = let same : peers ≡ left = cc in subst P same all
    by_case false None h = absurd cc
    by_case false (Some mute) h = let same : remove_entry (same_prefix mute.0) peers ≡ left = cc in subst P same (fewer (same_prefix mute.0))

-- all that was said to a participant since it was found, once a participant comes
abbrev once_come : Rules → State → GuidPrefix → Facts → (GuidPrefix → List Said) → GuidPrefix → List Said
once_come r s p f said q = said_then (finds r s (Comes p f) q) (said q) (said_to q (step r (Comes p f) s).sends)

-- where it isn't found, more is said to all
none_found : (r : Rules) (s : State) (p : GuidPrefix) (f : Facts) (said : GuidPrefix → List Said) → ((q : GuidPrefix) → finds r s (Comes p f) q ≡ false) → Told_by said s → Told_by (once_come r s p f said) s
none_found r s p f said none told =
    said_each s.gone s.changes said (λ q. said_to q (step r (Comes p f) s).sends) (once_come r s p f said)
    (λ q. ap (λ (b : Bool). said_then b (said q) (said_to q (step r (Comes p f) s).sends)) (none q)) s.peers told

-- where it is found, all is sent to it
one_found : (r : Rules) (s : State) (p : GuidPrefix) (f : Facts) (said : GuidPrefix → List Said) (left : Peers) → lookup (same_prefix p) s.peers ≡ None → f.hears ≡ true → room r.peers s.peers ≡ Some left
    → Told_by said s → Told_by (once_come r s p f said) (found r p f s (Some left)).state
one_found r s p f said left none hears is told =
    let sends : (step r (Comes p f) s).sends ≡ to_one p f.to (welcome s) = rw (none, hears, is) refl in
    let found_by : (q : GuidPrefix) → finds r s (Comes p f) q ≡ same_prefix p q = λ q. rw (none, hears, is) refl in
    let own : once_come r s p f said p ≡ welcome s =
    ap (λ (b : Bool). said_then b (said p) (said_to p (step r (Comes p f) s).sends)) (found_by p ∙ itself p)
    ∙ ap (said_to p) sends ∙ said_to-one p f.to (welcome s) in
    let far : Apart p left = room_keeps (Apart p) r.peers s.peers left (apart p s.peers none) (λ test. remove_apart p test s.peers (apart p s.peers none)) is in
    let kept : EachIsTold s.gone s.changes said left = room_keeps (EachIsTold s.gone s.changes said) r.peers s.peers left told (λ test. remove_told s.gone s.changes said test s.peers told) is in
    insert_told s.gone s.changes (once_come r s p f said) p (newcomer r (now_of s) f)
    (subst (λ (l : List Said). AreTold s.gone (length s.changes) l 1 s.changes) (sym own) (welcome_tells s))
    left far
    (apart_told s.gone s.changes said (λ q. said_to q (step r (Comes p f) s).sends) (once_come r s p f said) p
    (λ q other. ap (λ (b : Bool). said_then b (said q) (said_to q (step r (Comes p f) s).sends)) (found_by q ∙ other)) left far kept)

comes_told : (r : Rules) (s : State) (p : GuidPrefix) (f : Facts) (said : GuidPrefix → List Said) → Told_by said s → (o : Option Peer) → lookup (same_prefix p) s.peers ≡ o
    → Told_by (once_come r s p f said) (comes_by r p f s o).state
comes_told r s p f said told (Some peer) is =
    again_told r p f s (once_come r s p f said) peer (none_found r s p f said (λ q. rw is refl) told) is
comes_told r s p f said told None is = by_hears f.hears refl
  where
    by_room : f.hears ≡ true → (o : Option Peers) → room r.peers s.peers ≡ o → Told_by (once_come r s p f said) (found r p f s o).state
    by_room hears None full = none_found r s p f said (λ q. rw (is, hears, full) refl) told
    by_room hears (Some left) there = one_found r s p f said left is hears there told

    by_hears : (b : Bool) → f.hears ≡ b → Told_by (once_come r s p f said) (if b then found r p f s (room r.peers s.peers) else quiet s).state
    by_hears true hears = by_room hears (room r.peers s.peers) refl
    by_hears false hears = none_found r s p f said (λ q. rw (is, hears) refl) told

parts_told : (r : Rules) (rank : ℕ) (s : State) (said : GuidPrefix → List Said) → Told_by said s → (o : Option Bool) → Told_by (behind said (parts_by r rank s o).sends) (parts_by r rank s o).state
parts_told r rank s said told None = more_told s said [] told
parts_told r rank s said told (Some true) = more_told s said [] told
parts_told r rank s said told (Some false) = all_are_told r s (slice_set s.gone rank true) (Ends rank) said (gone_one s.gone rank) told

step_told : (r : Rules) (s : State) (h : Hearing) (said : GuidPrefix → List Said) → Told_by said s
    → Told_by (λ q. said_then (finds r s h q) (said q) (said_to q (step r h s).sends)) (step r h s).state
step_told r s (Passes m) said told =
    let t = at_moment m s in
    let later = behind said (step r (Passes m) s).sends in
    map_told s.gone s.changes later (reminded r (now_of t)) (reminded_since r (now_of t)) t.peers
    (filter_told s.gone s.changes later (stays t.moment) s.peers (more_told s said (step r (Passes m) s).sends told))
step_told r s (Comes p f) said told = comes_told r s p f said told (lookup (same_prefix p) s.peers) refl
step_told r s (Leaves p) said told = remove_told s.gone s.changes (behind said []) (same_prefix p) s.peers (more_told s said [] told)
step_told r s (Acks p a) said told =
    acks_told r p a s (behind said (step r (Acks p a) s).sends) (more_told s said (step r (Acks p a) s).sends told) (answer_at r p a s)
step_told r s Joins said told = all_are_told r s (s.gone ++ false ∷ []) (Asks (length s.gone)) said (λ rank h. sym (gone_more s.gone rank) ∙ h) told
step_told r s (Parts rank) said told = parts_told r rank s said told (slice_get s.gone rank)

run_told : (r : Rules) (hs : List Hearing) → Told_by (said_since r hs) (state_after r hs)
run_told r [] = tt
run_told r (h ∷ hs) = step_told r (state_after r hs) h (said_since r hs) (run_told r hs)

after_is : (r : Rules) (hs : List Hearing) → state_after r hs ≡ state_run r first (reverse hs)
after_is r [] = refl
after_is r (h ∷ hs) =
    ap (λ (s : State). (step r h s).state) (after_is r hs)
    ∙ sym (ap (state_run r first) (reverse-append (h ∷ []) hs) ∙ state_more r first (reverse hs) (h ∷ []))

pub all_told_since : AllTold
all_told_since = record { told = run_told; state = after_is }
