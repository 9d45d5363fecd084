-- What a change does to what a reliable proxy keeps.
use Rattle.std.proofs.Common.{◌≡◌, ℕ, suc, ◌+◌, ◌<◌, ◌≤◌, Bool, true, false, not, ◌&&◌, ◌||◌, List, [], ◌∷◌, refl, sym, ◌∙◌, ap, arith, ltb, leb, eqb, inl, inr, length, Option}
use Rattle.std.specs.List.{filter, list_any}
use Rattle.std.proofs.lemmas.Bool.Decides.{nat_tests, leb_tells, eqb_tells}
use Rattle.rtps_types.specs.declared.time.Timestamp.{Timestamp}
use Rattle.rtps_receiver.specs.EventBody.{WholeView, Whole}
use Rattle.rtps_types.specs.Numbers.{all_below}
use Rattle.rtps_proxy.specs.Runs.{AreApart, Run, marks}
use Rattle.rtps_proxy.specs.Change.{ChangeView, change_of}
use Rattle.rtps_proxy.specs.Gap.{is_irrelevant}
use Rattle.rtps_proxy.specs.Heartbeat.{first_of}
use Rattle.rtps_proxy.specs.History.{MatchEvent}
use Rattle.rtps_proxy.specs.Settled.{has_room_by}
use Rattle.rtps_proxy.specs.Received.{held, in_order, is_covered, is_settled, put, ready, received}
use Rattle.rtps_proxy.specs.Held.{behind_front, front_below, is_below, not_below}
use Rattle.rtps_proxy.proofs.Ordering.{AtLeast, all_behind, behind_is, front_is, in_order_rises, none_below, put_at_least, put_front}
use Rattle.rtps_proxy.proofs.Standing.{Shows, all_below_is, covered_is, frontier_rises, marks_at, marks_below, or_true, settle_held, settle_ready}

abbrev pub change_at : Option Timestamp → WholeView → MatchEvent
change_at time c = record { time = time; body = Whole c }

-- the change is taken
abbrev pub takes : List MatchEvent → ℕ → Bool
takes past n = not (is_settled past n) && has_room_by (received past) past n

length_put : (s : ChangeView) (ts : List ChangeView) → length (put s ts) ≡ suc (length ts)
length_put s [] = refl
length_put s (t ∷ ts) =
    let rest : length (put s ts) ≡ suc (length ts) = length_put s ts in
    elim (leb_tells (suc t.number) s.number) [ inl w ↦ rw w.0 (ap suc rest) | inr w ↦ rw w.0 refl ]

length-in_order : (ss : List ChangeView) → length (in_order ss) ≡ length ss
length-in_order [] = refl
length-in_order (s ∷ ss) = length_put s (in_order ss) ∙ ap suc (length-in_order ss)

-- whether a change is taken, by what the proxy keeps
pub takes_is : (past : List MatchEvent) (n f : ℕ) (rs : List Run) (count : ℕ) (waiting : List ChangeView) → Shows past f rs → waiting ≡ in_order (held past) → count ≡ length waiting → takes past n ≡ (not (marks f rs n) && (leb n f || ltb count 65536))
takes_is past n f rs count waiting shows is counted =
    let few : count ≡ length (held past) = counted ∙ ap length is ∙ length-in_order (held past) in
    ap (λ b. not b && (all_below (is_settled past) n || ltb (length (held past)) 65536)) (shows.settled n)
    ∙ ap (λ b. not (marks f rs n) && (b || ltb (length (held past)) 65536)) (all_below_is (is_settled past) f (λ k l. shows.settled k ∙ marks_below f rs k l) (shows.settled f ∙ marks_at f rs shows.apart) n)
    ∙ ap (λ k. not (marks f rs n) && (leb n f || ltb k 65536)) (sym few)

-- a change that isn't taken does nothing
pub left_received : (past : List MatchEvent) (time : Option Timestamp) (c : WholeView) → takes past c.number ≡ false → received (change_at time c ∷ past) ≡ received past
left_received past time c h = rw h refl

pub left_settled : (past : List MatchEvent) (time : Option Timestamp) (c : WholeView) → takes past c.number ≡ false → (m : ℕ) → is_settled (change_at time c ∷ past) m ≡ is_settled past m
left_settled past time c h m = rw h refl

-- one that is taken is received
pub taken_received : (past : List MatchEvent) (time : Option Timestamp) (c : WholeView) → takes past c.number ≡ true → received (change_at time c ∷ past) ≡ change_of time c ∷ received past
taken_received past time c h = rw h refl

one_number : (m n : ℕ) → (leb m n && ltb n (m + 1)) ≡ eqb m n
one_number m n = grind (arith, nat_tests)

or_taken : (first named here got : Bool) → ((first || named) || (here || got)) ≡ (here || ((first || named) || got))
or_taken true named true got = refl
or_taken true named false got = refl
or_taken false true true got = refl
or_taken false true false got = refl
or_taken false false here got = refl

-- what a proxy keeps before and after a change that is taken
pub record Takes (past : List MatchEvent) (event : MatchEvent) (s : ChangeView) (f f' : ℕ) (rs rs' : List Run) (waiting : List ChangeView) : Type 0 where
  pub before : Shows past f rs
  pub got : received (event ∷ past) ≡ s ∷ received past
  pub first : first_of (event ∷ past) ≡ first_of past
  pub named : (m : ℕ) → is_irrelevant (event ∷ past) m ≡ is_irrelevant past m
  pub new : is_settled past s.number ≡ false
  pub adds : (m : ℕ) → marks f' rs' m ≡ ((leb s.number m && ltb m (s.number + 1)) || marks f rs m)
  pub apart : AreApart f' rs'
  pub waits : waiting ≡ in_order (held past)

pub not_and : (a b : Bool) → (not a && b) ≡ true → a ≡ false
not_and true b h = absurd cc
not_and false b h = refl

module _ (past : List MatchEvent) (event : MatchEvent) (s : ChangeView) (f f' : ℕ) (rs rs' : List Run) (waiting : List ChangeView) (t : Takes past event s f f' rs rs' waiting) where
  pub taken_shows : Shows (event ∷ past) f' rs'
  taken_shows = record {
    settled = λ m.
        rw (t.first, t.named m, t.got)
        (or_taken (ltb m (first_of past)) (is_irrelevant past m) (eqb s.number m) (list_any (λ s. eqb s.number m) (received past))
        ∙ ap (λ b. eqb s.number m || b) (t.before.settled m)
        ∙ sym (t.adds m ∙ ap (λ b. b || marks f rs m) (one_number s.number m)));
    apart = t.apart;
  }

  pub rises : f ≤ f'
  rises = frontier_rises f rs f' rs' (λ m e. t.adds m ∙ ap (λ b. (leb s.number m && ltb m (s.number + 1)) || b) e ∙ or_true (leb s.number m && ltb m (s.number + 1))) t.apart

  -- its number wasn't settled
  fresh : marks f rs s.number ≡ false
  fresh = sym (t.before.settled s.number) ∙ t.new

  above : f ≤ s.number
  above = elim (leb_tells (suc s.number) f) [ inl w ↦ (let both : true ≡ false = sym (marks_below f rs s.number (omega arith)) ∙ fresh in absurd cc) | inr w ↦ omega arith ]

  -- those that wait, with the change at its place
  pub waiting_with : put s waiting ≡ in_order (filter (λ s. not (is_covered past s.number)) (received (event ∷ past)))
  waiting_with =
      let behind : ltb s.number f ≡ false = (let le : f ≤ s.number = above in grind (arith, nat_tests)) in
      let waits : is_covered past s.number ≡ false = covered_is past f rs t.before s.number ∙ behind in
      rw (t.got, waits) (ap (put s) t.waits)

  behind_all : (ss : List ChangeView) → AtLeast f (filter (λ s. not (is_covered past s.number)) ss)
  behind_all [] = tt
  behind_all (s ∷ ss) = by_test (is_covered past s.number) refl (behind_all ss)
    where
      by_test : (b : Bool) → is_covered past s.number ≡ b → AtLeast f (filter (λ s. not (is_covered past s.number)) ss) → AtLeast f (filter (λ s. not (is_covered past s.number)) (s ∷ ss))
      by_test true e rest = rw e rest
      by_test false e rest =
          let no : ltb s.number f ≡ false = sym (covered_is past f rs t.before s.number) ∙ e in
          let le : f ≤ s.number = grind (arith, nat_tests) in
          rw e (le, rest)

  in_order_behind : (ss : List ChangeView) → AtLeast f ss → AtLeast f (in_order ss)
  in_order_behind [] h = tt
  in_order_behind (s ∷ ss) h = put_at_least f s (in_order ss) h.0 (in_order_behind ss h.1)

  waiting_behind : AtLeast f waiting
  waiting_behind = rw t.waits (in_order_behind (held past) (behind_all (received past)))

  -- a change that is below the frontier now was the next one
  next_one : s.number < f' → s.number ≡ f
  next_one below =
      elim (eqb_tells s.number f) [
        | inl w ↦ w.1
        | inr w ↦ (
            let le : f ≤ s.number = above in
            let was : marks f rs f ≡ false = marks_at f rs t.before.apart in
            let far : (leb s.number f && ltb f (s.number + 1)) ≡ false = one_number s.number f ∙ w.0 in
            let not_now : marks f' rs' f ≡ false = t.adds f ∙ rw (far, was) refl in
            let now : marks f' rs' f ≡ true = marks_below f' rs' f (omega arith) in
            absurd cc
            )
      ]

  pub ready_at_once : s.number < f' → s ∷ front_below f' waiting ≡ ready past (event)
  ready_at_once below =
      let same : s.number ≡ f = next_one below in
      let front : put s waiting ≡ s ∷ waiting = put_front (s) waiting (rw same waiting_behind) in
      let passes : ltb s.number f' ≡ true = grind (arith, nat_tests) in
      let risen : front_below f' waiting ≡ filter (is_below f') waiting = rw t.waits (front_is f' (in_order (held past)) (in_order_rises (held past))) in
      let all : filter (is_below f') (put s waiting) ≡ ready past (event) = settle_ready past (event) f' rs' (put s waiting) taken_shows waiting_with in
      rw risen (rw (front, passes) at all)

  pub held_at_once : s.number < f' → behind_front f' waiting ≡ in_order (held (event ∷ past))
  held_at_once below =
      let same : s.number ≡ f = next_one below in
      let front : put s waiting ≡ s ∷ waiting = put_front (s) waiting (rw same waiting_behind) in
      let passes : ltb s.number f' ≡ true = grind (arith, nat_tests) in
      let risen : behind_front f' waiting ≡ filter (not_below f') waiting = rw t.waits (behind_is f' (in_order (held past)) (in_order_rises (held past))) in
      let all : filter (not_below f') (put s waiting) ≡ in_order (held (event ∷ past)) = settle_held past (event) f f' rs rs' (put s waiting) t.before taken_shows rises waiting_with in
      rw risen (rw (front, passes) at all)

  -- where it isn't below the frontier now, this stays
  stays : f' ≤ s.number → f' ≡ f
  stays le =
      elim (leb_tells (suc f) f') [
        | inl w ↦ (
            let now : marks f' rs' f ≡ true = marks_below f' rs' f (omega arith) in
            let was : marks f rs f ≡ false = marks_at f rs t.before.apart in
            let far : (leb s.number f && ltb f (s.number + 1)) ≡ false = grind (arith, nat_tests) in
            let not_now : marks f' rs' f ≡ false = t.adds f ∙ rw (far, was) refl in
            absurd cc
            )
        | inr w ↦ (let rise : f ≤ f' = rises in omega arith)
      ]

  with_behind : f' ≤ s.number → AtLeast f' (put s waiting)
  with_behind le = put_at_least f' (s) waiting le (rw (stays le) waiting_behind)

  pub none_yet : f' ≤ s.number → ready past (event) ≡ []
  none_yet le =
      sym (settle_ready past (event) f' rs' (put s waiting) taken_shows waiting_with)
      ∙ none_below f' f' (put s waiting) (omega arith) (with_behind le)

  pub held_then : f' ≤ s.number → put s waiting ≡ in_order (held (event ∷ past))
  held_then le =
      sym (all_behind f' f' (put s waiting) (omega arith) (with_behind le))
      ∙ settle_held past (event) f f' rs rs' (put s waiting) t.before taken_shows rises waiting_with
