-- How much is sent at one hearing.
use Rattle.std.proofs.Common.{◌≡◌, ℕ, ◌+◌, ◌*◌, ◌≤◌, Bool, true, false, List, [], ◌∷◌, ◌++◌, length, filter, slice_set, Option, Some, None, refl, arith}
use Rattle.std.specs.Prelude.{◌==◌, nat_le, if◌then◌else◌, slice_get}
use Rattle.std.specs.List.{flat_map}
use Rattle.std.specs.Map.{lookup}
use Rattle.std.proofs.lemmas.List.{length-append, length-map, length-take}
use Rattle.rtps_types.specs.declared.identity.GuidPrefix.{GuidPrefix}
use Rattle.rtps_types.specs.declared.locator.Locator.{Locator}
use Rattle.rtps_discovery.specs.Known.{same_prefix}
use Rattle.rtps_announcer.specs.Ack.{AckView}
use Rattle.rtps_announcer.specs.declared.hearing.Facts.{Facts}
use Rattle.rtps_announcer.specs.declared.hearing.Hearing.TheVariants.{Passes, Comes, Leaves, Acks, Joins, Parts}
use Rattle.rtps_announcer.specs.declared.now.Now.{Now}
use Rattle.rtps_announcer.specs.declared.peer.Peer.{Peer}
use Rattle.rtps_announcer.specs.declared.rules.Rules.{Rules}
use Rattle.rtps_announcer.specs.declared.said.Change.{Change}
use Rattle.rtps_announcer.specs.declared.said.Change.TheVariants.{Asks, Ends}
use Rattle.rtps_announcer.specs.declared.said.Said.{Said}
use Rattle.rtps_announcer.specs.declared.said.Said.TheVariants.{Bye, Hello, Told, Void, Beat}
use Rattle.rtps_announcer.specs.declared.said.Sending.{Sending}
use Rattle.rtps_announcer.specs.Announcing.{Peers, State, acks_by, answer_at, answer_by, answering, at_moment, comes_by, found, hello_if, is_due, news_to, now_of, parts_by, quiet, reminder_to, reply, room, stays, step, welcome}
use Rattle.rtps_announcer.specs.Bounds.{BoundedSends}
use Rattle.rtps_announcer.specs.Peer.{is_late, is_new}
use Rattle.rtps_announcer.specs.Said.{beat_of, to_one, to_peer}
use Rattle.rtps_announcer.specs.Telling.{before, merged, retelling, telling, told_of, wanted, with_void}

void_few : (first last : ℕ) (more : List Said) → length (with_void first last more) ≤ 1 + length more
void_few first last [] = omega arith
void_few first last (Bye ∷ more) = omega arith
void_few first last (Hello ∷ more) = omega arith
void_few first last (Told m d ∷ more) = omega arith
void_few first last (Void next end ∷ more) = by_case (next == last + 1)
  where
    by_case : (b : Bool) → length (if b then Void first end ∷ more else Void first last ∷ Void next end ∷ more) ≤ 1 + length (Void next end ∷ more)
    by_case true = omega arith
    by_case false = omega arith
void_few first last (Beat end count ∷ more) = omega arith

before_few : (x : Said) (more : List Said) → length (before x more) ≤ 1 + length more
before_few Bye more = omega arith
before_few Hello more = omega arith
before_few (Told n c) more = omega arith
before_few (Void first last) more = void_few first last more
before_few (Beat last count) more = omega arith

merged_few : (xs : List Said) → length (merged xs) ≤ length xs
merged_few [] = omega arith
merged_few (x ∷ xs) = let here = before_few x (merged xs) in let rest = merged_few xs in omega arith

telling_few : (gone : List Bool) (since n : ℕ) (cs : List Change) → length (telling gone since n cs) ≡ length cs
telling_few gone since n [] = refl
telling_few gone since n (c ∷ cs) = let rest = telling_few gone since (n + 1) cs in omega (arith, rest)

to_one_few : (p : GuidPrefix) (to : List Locator) (xs : List Said) → length (to_one p to xs) ≡ length xs
to_one_few p to xs = length-map xs (to_peer p to)

welcome_few : (s : State) → length (welcome s) ≤ 3 + length s.changes
welcome_few s =
    let all = telling s.gone (length s.changes) 1 s.changes in
    let count = telling_few s.gone (length s.changes) 1 s.changes in
    let less = merged_few all in
    let more = length-append (merged all) (beat_of (now_of s) ∷ []) in
    omega (arith, count, less, more)

answering_few : (beat : Said) (xs : List Said) (final : Bool) → length (answering beat xs final) ≤ 1 + length xs
answering_few beat [] true = omega arith
answering_few beat [] false = omega arith
answering_few beat (x ∷ xs) final = let more = length-append xs (beat ∷ []) in omega (arith, more)

reply_few : (r : Rules) (s : State) (peer : Peer) (a : AckView) → length (reply r s peer a) ≤ 1 + r.again
reply_few r s peer a =
    let numbers = wanted r.again (length s.changes) a in
    let said = retelling s.changes s.gone peer.since numbers in
    let few = length-take r.again (filter (λ (n : ℕ). nat_le n (length s.changes)) a.asked) in
    let same = length-map numbers (told_of s.changes s.gone peer.since) in
    let less = merged_few said in
    let all = answering_few (beat_of (now_of s)) (merged said) a.is_final in
    omega (arith, few, same, less, all)

reminder_few : (r : Rules) (now : Now) (e : GuidPrefix × Peer) → length (reminder_to r now e) ≤ 1
reminder_few r now e = by_case (is_late r now e.1)
  where
    by_case : (b : Bool) → length (if b then to_peer e.0 e.1.to (beat_of now) ∷ [] else []) ≤ 1
    by_case true = omega arith
    by_case false = omega arith

reminders_few : (r : Rules) (now : Now) (es : Peers) → length (flat_map (reminder_to r now) es) ≤ length es
reminders_few r now [] = omega arith
reminders_few r now (e ∷ es) =
    let here = reminder_few r now e in
    let rest = reminders_few r now es in
    let all = length-append (reminder_to r now e) (flat_map (reminder_to r now) es) in
    omega (arith, here, rest, all)

pub filter_few : (p : GuidPrefix × Peer → Bool) (es : Peers) → length (filter p es) ≤ length es
filter_few p [] = omega arith
filter_few p (e ∷ es) = by_case (p e) (filter_few p es)
  where
    by_case : (b : Bool) → length (filter p es) ≤ length es → length (if b then e ∷ filter p es else filter p es) ≤ length (e ∷ es)
    by_case true h = omega arith
    by_case false h = omega arith

hello_few : (due : Bool) → length (hello_if due) ≤ 1
hello_few true = omega arith
hello_few false = omega arith

passes_few : (r : Rules) (m : ℕ) (s : State) → length (step r (Passes m) s).sends ≤ 1 + length s.peers
passes_few r m s =
    let t = at_moment m s in
    let due = is_due r.period t.moment t.announced in
    let hello = hello_few due in
    let reminders = reminders_few r (now_of t) t.peers in
    let fewer = filter_few (stays t.moment) s.peers in
    let all = length-append (hello_if due) (flat_map (reminder_to r (now_of t)) t.peers) in
    omega (arith, hello, reminders, fewer, all)

news_few : (now : Now) (c : Change) (es : Peers) → length (flat_map (news_to now c) es) ≡ 2 * length es
news_few now c [] = refl
news_few now c (e ∷ es) =
    let rest = news_few now c es in
    let all = length-append (news_to now c e) (flat_map (news_to now c) es) in
    omega (arith, rest, all)

found_few : (r : Rules) (p : GuidPrefix) (f : Facts) (s : State) (o : Option Peers) → length (found r p f s o).sends ≤ 3 + length s.changes
found_few r p f s None = omega arith
found_few r p f s (Some left) = let same = to_one_few p f.to (welcome s) in let few = welcome_few s in omega (arith, same, few)

comes_few : (r : Rules) (p : GuidPrefix) (f : Facts) (s : State) (o : Option Peer) → length (comes_by r p f s o).sends ≤ 3 + length s.changes
comes_few r p f s (Some peer) = omega arith
comes_few r p f s None = by_case f.hears (found_few r p f s (room r.peers s.peers))
  where
    by_case : (b : Bool) → length (found r p f s (room r.peers s.peers)).sends ≤ 3 + length s.changes → length (if b then found r p f s (room r.peers s.peers) else quiet s).sends ≤ 3 + length s.changes
    by_case true h = h
    by_case false h = omega arith

abbrev Few : ℕ → Option (List Sending) → Type 0
Few n None = Unit {0}
Few n (Some sends) = length sends ≤ n

answer_few : (r : Rules) (p : GuidPrefix) (a : AckView) (s : State) (o : Option Peer) → Few (1 + r.again) (answer_by r p a s o)
answer_few r p a s None = tt
answer_few r p a s (Some peer) = by_case (is_new peer a)
  where
    by_case : (b : Bool) → Few (1 + r.again) (if b then Some (to_one p peer.to (reply r s peer a)) else None)
    by_case true = let same = to_one_few p peer.to (reply r s peer a) in let few = reply_few r s peer a in omega (arith, same, few)
    by_case false = tt

acks_few : (r : Rules) (p : GuidPrefix) (a : AckView) (s : State) (o : Option (List Sending)) → Few (1 + r.again) o → length (acks_by r p a s o).sends ≤ 1 + r.again
acks_few r p a s None few = omega arith
acks_few r p a s (Some sends) few = few

parts_few : (r : Rules) (rank : ℕ) (s : State) (o : Option Bool) → length (parts_by r rank s o).sends ≤ 2 * length s.peers
parts_few r rank s None = omega arith
parts_few r rank s (Some true) = omega arith
parts_few r rank s (Some false) =
    let t : State = record s { changes = s.changes ++ Ends rank ∷ []; gone = slice_set s.gone rank true } in
    let all = news_few (now_of t) (Ends rank) s.peers in
    omega (arith, all)

pub bounded_sends : BoundedSends
bounded_sends r s (Passes m) = passes_few r m s
bounded_sends r s (Comes p f) = comes_few r p f s (lookup (same_prefix p) s.peers)
bounded_sends r s (Leaves p) = omega arith
bounded_sends r s (Acks p a) = acks_few r p a s (answer_at r p a s) (answer_few r p a s (lookup (same_prefix p) s.peers))
bounded_sends r s Joins =
    let t : State = record s { changes = s.changes ++ Asks (length s.gone) ∷ []; gone = s.gone ++ false ∷ [] } in
    let all = news_few (now_of t) (Asks (length s.gone)) s.peers in
    omega (arith, all)
bounded_sends r s (Parts rank) = parts_few r rank s (slice_get s.gone rank)
