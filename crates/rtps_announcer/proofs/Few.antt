-- There are never more peers than the rules allow.
use Rattle.std.proofs.Common.{◌≡◌, ℕ, ◌+◌, ◌≤◌, ◌⊎◌, inl, inr, Bool, true, false, List, [], ◌∷◌, ◌++◌, length, map, slice_set, Option, Some, None, refl, ap, arith}
use Rattle.std.specs.Prelude.{◌&&◌, ◌||◌, cond, nat_lt, if◌then◌else◌, slice_get}
use Rattle.std.specs.List.{list_any}
use Rattle.std.specs.BTreeMap.{insert_entry}
use Rattle.std.specs.Map.{lookup, remove_entry, set_value}
use Rattle.std.specs.Ordering.{match_ordering}
use Rattle.std.specs.declared.cmp.Ordering.{Ordering}
use Rattle.std.specs.declared.cmp.Ordering.TheVariants.{Less, Equal, Greater}
use Rattle.std.proofs.lemmas.Bool.{ltb-true}
use Rattle.rtps_types.specs.declared.identity.GuidPrefix.{GuidPrefix}
use Rattle.rtps_discovery.specs.Known.{prefix_order, same_prefix}
use Rattle.rtps_announcer.specs.Ack.{AckView}
use Rattle.rtps_announcer.specs.declared.hearing.Facts.{Facts}
use Rattle.rtps_announcer.specs.declared.hearing.Hearing.{Hearing}
use Rattle.rtps_announcer.specs.declared.hearing.Hearing.TheVariants.{Passes, Comes, Leaves, Acks, Joins, Parts}
use Rattle.rtps_announcer.specs.declared.peer.Peer.{Peer}
use Rattle.rtps_announcer.specs.declared.rules.Rules.{Rules}
use Rattle.rtps_announcer.specs.declared.said.Change.TheVariants.{Asks, Ends}
use Rattle.rtps_announcer.specs.declared.said.Sending.{Sending}
use Rattle.rtps_announcer.specs.Announcing.{Peers, State, acknowledging, acks_by, answer_at, at_moment, comes_by, found, heard_again, is_older, now_of, oldest, parts_by, quiet, room, stays, step, without}
use Rattle.rtps_announcer.specs.Bounds.{FewPeers}
use Rattle.rtps_announcer.specs.Peer.{acknowledged, is_mute, newcomer, reminded, renewed, told_more}
use Rattle.rtps_announcer.specs.Told.{state_after}
use Rattle.rtps_announcer.proofs.AllTold.{itself}
use Rattle.rtps_announcer.proofs.Bounds.{filter_few}

set_few : (p : GuidPrefix → Bool) (es : Peers) (new : Peer) → length (set_value p es new) ≡ length es
set_few p [] new = refl
set_few p (e ∷ es) new = by_case (p e.0) (set_few p es new)
  where
    by_case : (b : Bool) → length (set_value p es new) ≡ length es → length (cond b ((e.0, new) ∷ es) (e ∷ set_value p es new)) ≡ length (e ∷ es)
    by_case true h = refl
    by_case false h = omega (arith, h)

remove_few : (p : GuidPrefix → Bool) (es : Peers) → length (remove_entry p es) ≤ length es
remove_few p [] = omega arith
remove_few p (e ∷ es) = by_case (p e.0) (remove_few p es)
  where
    by_case : (b : Bool) → length (remove_entry p es) ≤ length es → length (cond b es (e ∷ remove_entry p es)) ≤ length (e ∷ es)
    by_case true h = omega arith
    by_case false h = omega arith

insert_few : (es : Peers) (p : GuidPrefix) (new : Peer) → length (insert_entry prefix_order es p new) ≤ 1 + length es
insert_few [] p new = omega arith
insert_few (e ∷ es) p new = by_order (prefix_order p e.0) (insert_few es p new)
  where
    by_order : (o : Ordering) → length (insert_entry prefix_order es p new) ≤ 1 + length es
        → length (match_ordering o ((p, new) ∷ e ∷ es) ((e.0, new) ∷ es) (e ∷ insert_entry prefix_order es p new)) ≤ 1 + length (e ∷ es)
    by_order Less h = omega arith
    by_order Equal h = omega arith
    by_order Greater h = omega arith

-- ---- who loses its place is a peer

abbrev has : GuidPrefix → Peers → Bool
has p es = list_any (λ (e : GuidPrefix × Peer). same_prefix p e.0) es

remove_one : (p : GuidPrefix) (es : Peers) → has p es ≡ true → length (remove_entry (same_prefix p) es) + 1 ≡ length es
remove_one p [] h = absurd cc
remove_one p (e ∷ es) h = by_case (same_prefix p e.0) h (remove_one p es)
  where
    by_case : (b : Bool) → (b || has p es) ≡ true → (has p es ≡ true → length (remove_entry (same_prefix p) es) + 1 ≡ length es)
        → length (cond b es (e ∷ remove_entry (same_prefix p) es)) + 1 ≡ length (e ∷ es)
    by_case true h rest = omega arith
    by_case false h rest = let r = rest h in omega (arith, r)

or_right : (a b : Bool) → b ≡ true → (a || b) ≡ true
or_right true b h = refl
or_right false b h = h

oldest_there : (chosen : Option (GuidPrefix × ℕ)) (es : Peers) (x : GuidPrefix × ℕ) → oldest chosen es ≡ Some x → (chosen ≡ Some x) ⊎ (has x.0 es ≡ true)
oldest_there chosen [] x is = inl is
oldest_there chosen (e ∷ es) x is = by_case (is_mute e.1 && is_older e.1.heard chosen) is (λ c. oldest_there c es x)
  where
    first : (Some (e.0, e.1.heard) ≡ Some x) ⊎ (has x.0 es ≡ true) → (chosen ≡ Some x) ⊎ (has x.0 (e ∷ es) ≡ true)
    first (inl same) = let key : x ≡ (e.0, e.1.heard) = cc in inr (rw key (rw (itself e.0) refl))
    first (inr there) = inr (or_right (same_prefix x.0 e.0) (has x.0 es) there)

    other : (chosen ≡ Some x) ⊎ (has x.0 es ≡ true) → (chosen ≡ Some x) ⊎ (has x.0 (e ∷ es) ≡ true)
    other (inl same) = inl same
    other (inr there) = inr (or_right (same_prefix x.0 e.0) (has x.0 es) there)

    by_case : (b : Bool) → oldest (if b then Some (e.0, e.1.heard) else chosen) es ≡ Some x
        → ((c : Option (GuidPrefix × ℕ)) → oldest c es ≡ Some x → (c ≡ Some x) ⊎ (has x.0 es ≡ true)) → (chosen ≡ Some x) ⊎ (has x.0 (e ∷ es) ≡ true)
    by_case true h rest = first (rest (Some (e.0, e.1.heard)) h)
    by_case false h rest = other (rest chosen h)

room_few : (most : ℕ) (peers left : Peers) → length peers ≤ most → room most peers ≡ Some left → 1 + length left ≤ most
room_few most peers left few is = by_case (nat_lt (length peers) most) refl (oldest None peers) refl is
  where
    there : (mute : GuidPrefix × ℕ) → (None ≡ Some mute) ⊎ (has mute.0 peers ≡ true) → remove_entry (same_prefix mute.0) peers ≡ left → 1 + length left ≤ most
    there mute (inl same) h = absurd cc
    there mute (inr is) h = let count = remove_one mute.0 peers is in let same = ap length h in omega (arith, count, same)

    by_case : (b : Bool) → nat_lt (length peers) most ≡ b → (o : Option (GuidPrefix × ℕ)) → oldest None peers ≡ o → (if b then Some peers else without o peers) ≡ Some left → 1 + length left ≤ most
    by_case true lt o old h = let same : peers ≡ left = cc in let less = ltb-true (length peers) most lt in let count = ap length same in omega (arith, less, count)
    by_case false lt None old h = absurd cc
    by_case false lt (Some mute) old h = let same : remove_entry (same_prefix mute.0) peers ≡ left = cc in there mute (oldest_there None peers mute old) same

-- ---- one step

map_few : (f : Peer → Peer) (es : Peers) → length {A = GuidPrefix × Peer} (map (λ (e : GuidPrefix × Peer). (e.0, f e.1)) es) ≡ length es
map_few f [] = refl
map_few f (e ∷ es) = let rest = map_few f es in omega (arith, rest)

again_few : (r : Rules) (p : GuidPrefix) (f : Facts) (s : State) (peer : Peer) → length (heard_again r p f s peer).state.peers ≤ length s.peers
again_few r p f s peer = by_case f.hears
  where
    by_case : (b : Bool) → length (if b then set_value (same_prefix p) s.peers (renewed r (now_of s) f peer) else remove_entry (same_prefix p) s.peers) ≤ length s.peers
    by_case true = let same = set_few (same_prefix p) s.peers (renewed r (now_of s) f peer) in omega (arith, same)
    by_case false = remove_few (same_prefix p) s.peers

found_few : (r : Rules) (p : GuidPrefix) (f : Facts) (s : State) → length s.peers ≤ r.peers → (o : Option Peers) → room r.peers s.peers ≡ o → length (found r p f s o).state.peers ≤ r.peers
found_few r p f s few None is = few
found_few r p f s few (Some left) is =
    let more = insert_few left p (newcomer r (now_of s) f) in
    let place = room_few r.peers s.peers left few is in
    omega (arith, more, place)

comes_few : (r : Rules) (p : GuidPrefix) (f : Facts) (s : State) → length s.peers ≤ r.peers → (o : Option Peer) → length (comes_by r p f s o).state.peers ≤ r.peers
comes_few r p f s few (Some peer) = let less = again_few r p f s peer in omega (arith, less, few)
comes_few r p f s few None = by_case f.hears
  where
    by_case : (b : Bool) → length (if b then found r p f s (room r.peers s.peers) else quiet s).state.peers ≤ r.peers
    by_case true = found_few r p f s few (room r.peers s.peers) refl
    by_case false = few

acked_few : (r : Rules) (p : GuidPrefix) (a : AckView) (s : State) (o : Option Peer) → length (acknowledging r p a s o) ≡ length s.peers
acked_few r p a s None = refl
acked_few r p a s (Some peer) = set_few (same_prefix p) s.peers (acknowledged r (now_of s) a peer)

acks_few : (r : Rules) (p : GuidPrefix) (a : AckView) (s : State) (o : Option (List Sending)) → length (acks_by r p a s o).state.peers ≡ length s.peers
acks_few r p a s None = refl
acks_few r p a s (Some sends) = acked_few r p a s (lookup (same_prefix p) s.peers)

parts_few : (r : Rules) (rank : ℕ) (s : State) (o : Option Bool) → length (parts_by r rank s o).state.peers ≡ length s.peers
parts_few r rank s None = refl
parts_few r rank s (Some true) = refl
parts_few r rank s (Some false) =
    map_few (told_more r (now_of (record s { changes = s.changes ++ Ends rank ∷ []; gone = slice_set s.gone rank true }))) s.peers

step_few : (r : Rules) (s : State) (h : Hearing) → length s.peers ≤ r.peers → length (step r h s).state.peers ≤ r.peers
step_few r s (Passes m) few =
    let t = at_moment m s in
    let fewer = filter_few (stays t.moment) s.peers in
    let same = map_few (reminded r (now_of t)) t.peers in
    omega (arith, fewer, same, few)
step_few r s (Comes p f) few = comes_few r p f s few (lookup (same_prefix p) s.peers)
step_few r s (Leaves p) few = let fewer = remove_few (same_prefix p) s.peers in omega (arith, fewer, few)
step_few r s (Acks p a) few = let same = acks_few r p a s (answer_at r p a s) in omega (arith, same, few)
step_few r s Joins few =
    let same = map_few (told_more r (now_of (record s { changes = s.changes ++ Asks (length s.gone) ∷ []; gone = s.gone ++ false ∷ [] }))) s.peers in
    omega (arith, same, few)
step_few r s (Parts rank) few = let same = parts_few r rank s (slice_get s.gone rank) in omega (arith, same, few)

pub few_peers : FewPeers
few_peers r [] = omega arith
few_peers r (h ∷ hs) = step_few r (state_after r hs) h (few_peers r hs)
