-- Each peer was found when there were no more changes than now.
use Rattle.std.proofs.Common.{◌≡◌, ℕ, ◌+◌, ◌≤◌, Bool, true, false, List, [], ◌∷◌, ◌++◌, length, map, filter, slice_set, Option, Some, None, refl, sym, ap, subst, arith}
use Rattle.std.specs.Prelude.{cond, if◌then◌else◌, slice_get}
use Rattle.std.specs.BTreeMap.{insert_entry}
use Rattle.std.specs.Map.{lookup, remove_entry, set_value}
use Rattle.std.specs.Ordering.{match_ordering}
use Rattle.std.specs.declared.cmp.Ordering.{Ordering}
use Rattle.std.specs.declared.cmp.Ordering.TheVariants.{Less, Equal, Greater}
use Rattle.std.proofs.lemmas.Bool.{lt-ltb}
use Rattle.std.proofs.lemmas.List.{length-append}
use Rattle.rtps_types.specs.declared.identity.GuidPrefix.{GuidPrefix}
use Rattle.rtps_discovery.specs.Known.{prefix_order, same_prefix}
use Rattle.rtps_announcer.specs.Ack.{AckView}
use Rattle.rtps_announcer.specs.declared.hearing.Facts.{Facts}
use Rattle.rtps_announcer.specs.declared.hearing.Hearing.{Hearing}
use Rattle.rtps_announcer.specs.declared.hearing.Hearing.TheVariants.{Passes, Comes, Leaves, Acks, Joins, Parts}
use Rattle.rtps_announcer.specs.declared.peer.Peer.{Peer}
use Rattle.rtps_announcer.specs.declared.rules.Rules.{Rules}
use Rattle.rtps_announcer.specs.declared.said.Change.{Change}
use Rattle.rtps_announcer.specs.declared.said.Change.TheVariants.{Asks, Ends}
use Rattle.rtps_announcer.specs.declared.said.Sending.{Sending}
use Rattle.rtps_announcer.specs.Announcing.{Peers, State, acknowledging, acks_by, answer_at, at_moment, comes_by, found, heard_again, now_of, parts_by, quiet, room, stays, step}
use Rattle.rtps_announcer.specs.Concerned.{ConcernsEach}
use Rattle.rtps_announcer.specs.Peer.{acknowledged, newcomer, reminded, renewed, told_more}
use Rattle.rtps_announcer.specs.Told.{state_after}
use Rattle.rtps_announcer.proofs.AllTold.{reminded_since, room_keeps, told_since}

abbrev AreSince : ℕ → Peers → Type 0
AreSince n [] = Unit {0}
AreSince n (e ∷ es) = (e.1.since ≤ n) × AreSince n es

grow_since : (n m : ℕ) → n ≤ m → (es : Peers) → AreSince n es → AreSince m es
grow_since n m less [] h = tt
grow_since n m less (e ∷ es) h = (let here = h.0 in omega (arith, here), grow_since n m less es h.1)

filter_since : (n : ℕ) (p : GuidPrefix × Peer → Bool) (es : Peers) → AreSince n es → AreSince n (filter p es)
filter_since n p [] h = tt
filter_since n p (e ∷ es) h = by_case (p e) (filter_since n p es h.1)
  where
    by_case : (b : Bool) → AreSince n (filter p es) → AreSince n (if b then e ∷ filter p es else filter p es)
    by_case true rest = (h.0, rest)
    by_case false rest = rest

remove_since : (n : ℕ) (p : GuidPrefix → Bool) (es : Peers) → AreSince n es → AreSince n (remove_entry p es)
remove_since n p [] h = tt
remove_since n p (e ∷ es) h = by_case (p e.0) (remove_since n p es h.1)
  where
    by_case : (b : Bool) → AreSince n (remove_entry p es) → AreSince n (cond b es (e ∷ remove_entry p es))
    by_case true rest = h.1
    by_case false rest = (h.0, rest)

map_since : (n : ℕ) (f : Peer → Peer) → ((p : Peer) → (f p).since ≡ p.since) → (es : Peers) → AreSince n es → AreSince n (map (λ (e : GuidPrefix × Peer). (e.0, f e.1)) es)
map_since n f keeps [] h = tt
map_since n f keeps (e ∷ es) h = (subst (λ (k : ℕ). k ≤ n) (sym (keeps e.1)) h.0, map_since n f keeps es h.1)

lookup_since : (n : ℕ) (p : GuidPrefix → Bool) (es : Peers) (old : Peer) → AreSince n es → lookup p es ≡ Some old → old.since ≤ n
lookup_since n p [] old h some = absurd cc
lookup_since n p (e ∷ es) old h some = by_case (p e.0) some (lookup_since n p es old h.1)
  where
    by_case : (b : Bool) → cond b (Some e.1) (lookup p es) ≡ Some old → (lookup p es ≡ Some old → old.since ≤ n) → old.since ≤ n
    by_case true is rest = let same : e.1 ≡ old = cc in subst (λ (x : Peer). x.since ≤ n) same h.0
    by_case false is rest = rest is

set_since : (n : ℕ) (p : GuidPrefix → Bool) (es : Peers) (new : Peer) → new.since ≤ n → AreSince n es → AreSince n (set_value p es new)
set_since n p [] new is h = tt
set_since n p (e ∷ es) new is h = by_case (p e.0) (set_since n p es new is h.1)
  where
    by_case : (b : Bool) → AreSince n (set_value p es new) → AreSince n (cond b ((e.0, new) ∷ es) (e ∷ set_value p es new))
    by_case true rest = (is, h.1)
    by_case false rest = (h.0, rest)

insert_since : (n : ℕ) (es : Peers) (p : GuidPrefix) (new : Peer) → new.since ≤ n → AreSince n es → AreSince n (insert_entry prefix_order es p new)
insert_since n [] p new is h = (is, tt)
insert_since n (e ∷ es) p new is h = by_order (prefix_order p e.0) (insert_since n es p new is h.1)
  where
    by_order : (o : Ordering) → AreSince n (insert_entry prefix_order es p new)
        → AreSince n (match_ordering o ((p, new) ∷ e ∷ es) ((e.0, new) ∷ es) (e ∷ insert_entry prefix_order es p new))
    by_order Less rest = (is, h)
    by_order Equal rest = (is, h.1)
    by_order Greater rest = (h.0, rest)

abbrev Since : State → Type 0
Since s = AreSince (length s.changes) s.peers

again_since : (r : Rules) (p : GuidPrefix) (f : Facts) (s : State) (peer : Peer) → Since s → lookup (same_prefix p) s.peers ≡ Some peer → Since (heard_again r p f s peer).state
again_since r p f s peer h some = by_case f.hears
  where
    by_case : (b : Bool) → AreSince (length s.changes) (if b then set_value (same_prefix p) s.peers (renewed r (now_of s) f peer) else remove_entry (same_prefix p) s.peers)
    by_case true = set_since (length s.changes) (same_prefix p) s.peers (renewed r (now_of s) f peer) (lookup_since (length s.changes) (same_prefix p) s.peers peer h some) h
    by_case false = remove_since (length s.changes) (same_prefix p) s.peers h

found_since : (r : Rules) (p : GuidPrefix) (f : Facts) (s : State) → Since s → (o : Option Peers) → room r.peers s.peers ≡ o → Since (found r p f s o).state
found_since r p f s h None is = h
found_since r p f s h (Some left) is =
    insert_since (length s.changes) left p (newcomer r (now_of s) f) (omega arith)
    (room_keeps (AreSince (length s.changes)) r.peers s.peers left h (λ test. remove_since (length s.changes) test s.peers h) is)

comes_since : (r : Rules) (p : GuidPrefix) (f : Facts) (s : State) → Since s → (o : Option Peer) → lookup (same_prefix p) s.peers ≡ o → Since (comes_by r p f s o).state
comes_since r p f s h (Some peer) is = again_since r p f s peer h is
comes_since r p f s h None is = by_case f.hears
  where
    by_case : (b : Bool) → Since (if b then found r p f s (room r.peers s.peers) else quiet s).state
    by_case true = found_since r p f s h (room r.peers s.peers) refl
    by_case false = h

acked_since : (r : Rules) (p : GuidPrefix) (a : AckView) (s : State) → Since s → (o : Option Peer) → lookup (same_prefix p) s.peers ≡ o → AreSince (length s.changes) (acknowledging r p a s o)
acked_since r p a s h None is = h
acked_since r p a s h (Some peer) is =
    set_since (length s.changes) (same_prefix p) s.peers (acknowledged r (now_of s) a peer) (lookup_since (length s.changes) (same_prefix p) s.peers peer h is) h

acks_since : (r : Rules) (p : GuidPrefix) (a : AckView) (s : State) → Since s → (o : Option (List Sending)) → Since (acks_by r p a s o).state
acks_since r p a s h None = h
acks_since r p a s h (Some sends) = acked_since r p a s h (lookup (same_prefix p) s.peers) refl

more_since : (r : Rules) (s t : State) (c : Change) → t.changes ≡ s.changes ++ c ∷ [] → Since s → AreSince (length t.changes) (map (λ (e : GuidPrefix × Peer). (e.0, told_more r (now_of t) e.1)) s.peers)
more_since r s t c is h =
    let count = ap length is in
    let more = length-append s.changes (c ∷ []) in
    map_since (length t.changes) (told_more r (now_of t)) (told_since r (now_of t)) s.peers
    (grow_since (length s.changes) (length t.changes) (omega (arith, count, more)) s.peers h)

parts_since : (r : Rules) (rank : ℕ) (s : State) → Since s → (o : Option Bool) → Since (parts_by r rank s o).state
parts_since r rank s h None = h
parts_since r rank s h (Some true) = h
parts_since r rank s h (Some false) = more_since r s (record s { changes = s.changes ++ Ends rank ∷ []; gone = slice_set s.gone rank true }) (Ends rank) refl h

step_since : (r : Rules) (s : State) (h : Hearing) → Since s → Since (step r h s).state
step_since r s (Passes m) is =
    let t = at_moment m s in
    map_since (length s.changes) (reminded r (now_of t)) (reminded_since r (now_of t)) t.peers (filter_since (length s.changes) (stays t.moment) s.peers is)
step_since r s (Comes p f) is = comes_since r p f s is (lookup (same_prefix p) s.peers) refl
step_since r s (Leaves p) is = remove_since (length s.changes) (same_prefix p) s.peers is
step_since r s (Acks p a) is = acks_since r p a s is (answer_at r p a s)
step_since r s Joins is = more_since r s (record s { changes = s.changes ++ Asks (length s.gone) ∷ []; gone = s.gone ++ false ∷ [] }) (Asks (length s.gone)) refl is
step_since r s (Parts rank) is = parts_since r rank s is (slice_get s.gone rank)

run_since : (r : Rules) (hs : List Hearing) → Since (state_after r hs)
run_since r [] = tt
run_since r (h ∷ hs) = step_since r (state_after r hs) h (run_since r hs)

end_concerns : (gone : List Bool) (rank n : ℕ) (es : Peers) → AreSince n es → ConcernsEach gone (n + 1) (Ends rank) es
end_concerns gone rank n [] h = tt
end_concerns gone rank n (e ∷ es) h = (lt-ltb e.1.since (n + 1) (let here = h.0 in omega (arith, here)), end_concerns gone rank n es h.1)

pub went : (r : Rules) (hs : List Hearing) (gone : List Bool) (rank : ℕ) → ConcernsEach gone (length (state_after r hs).changes + 1) (Ends rank) (state_after r hs).peers
went r hs gone rank = end_concerns gone rank (length (state_after r hs).changes) (state_after r hs).peers (run_since r hs)
