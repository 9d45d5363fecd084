-- Outputs of the ranks that were planned, and outputs by rank.
use Rattle.std.proofs.Common.{◌≡◌, ℕ, zero, suc, ◌<◌, ◌≤◌, ◌==◌, ◌||◌, not, nat_lt, List, [], ◌∷◌, ◌++◌, length, map, filter, get_or, set, Bool, true, false, if◌then◌else◌, Option, Some, None, Result, Ok, Err, refl, sym, ap, ◌∙◌, arith, append-nil, true≢false, inr}
use Rattle.std.specs.List.{AllByRecursion, list_any}
use Rattle.std.specs.Result.{IsErrAnd}
use Rattle.std.proofs.lemmas.Bool.{eq-eqb, eqb-false, eqb-true, le-ltb, ltb-false, not-false, or_left, or_parts, or_right}
use Rattle.std.proofs.lemmas.List.{get_or-set_other, get_or-set_same, length-set}
use Rattle.rtps_types.specs.declared.place.Place.{Place}
use Rattle.rtps_proxy.specs.Replies.{ReplyView}
use Rattle.rtps_reader.specs.declared.notice.Output.{Output}
use Rattle.rtps_reader.specs.Notice as reader
use Rattle.rtps_planner.specs.declared.outputs.GatherFault.{GatherFault}
use Rattle.rtps_planner.specs.declared.outputs.GatherFault.TheVariants as fault
use Rattle.rtps_run.specs.BatchOutput.{sent_in}
use Rattle.rtps_planner.specs.Outputs.{IsJudged, fault_of, is_among, outputs_with, ranks_of, replies_by, times}

-- ---- where nothing is wrong

-- the planned ranks come once each, and no other
pub record IsRight (planned given : List ℕ) : Type 0 where
  pub there : list_any (λ rank. times rank given == 0) planned ≡ false
  pub once : list_any (λ rank. nat_lt 1 (times rank given)) planned ≡ false
  pub known : list_any (λ rank. not (is_among planned rank)) given ≡ false

pub right : (planned given : List ℕ) → fault_of planned given ≡ None → IsRight planned given
right planned given = by_test (list_any (λ rank. times rank given == 0) planned) (list_any (λ rank. nat_lt 1 (times rank given)) planned) (list_any (λ rank. not (is_among planned rank)) given) refl refl refl
  where
    by_test : (a b c : Bool) → list_any (λ rank. times rank given == 0) planned ≡ a → list_any (λ rank. nat_lt 1 (times rank given)) planned ≡ b → list_any (λ rank. not (is_among planned rank)) given ≡ c
        → (if a then Some fault.Missing else (if b then Some fault.Double else (if c then Some fault.Stranger else None))) ≡ None → IsRight planned given
    by_test true b c there once known e = absurd cc
    by_test false true c there once known e = absurd cc
    by_test false false true there once known e = absurd cc
    by_test false false false there once known e = record { there = there; once = once; known = known }

-- a test that no item passes
pub any_at : (test : ℕ → Bool) (xs : List ℕ) (x : ℕ) → is_among xs x ≡ true → list_any test xs ≡ false → test x ≡ false
any_at test [] x is none = absurd (true≢false (sym is))
any_at test (y ∷ ys) x is none = by_test (y == x) refl is (λ rest. any_at test ys x rest (or_parts (test y) (list_any test ys) none).1)
  where
    by_test : (b : Bool) → (y == x) ≡ b → (b || is_among ys x) ≡ true → (is_among ys x ≡ true → test x ≡ false) → test x ≡ false
    by_test true same e rest = ap test (sym (eqb-true y x same)) ∙ (or_parts (test y) (list_any test ys) none).0
    by_test false same e rest = rest e

among_at : (xs : List ℕ) (x k d : ℕ) → k < length xs → get_or xs k d ≡ x → is_among xs x ≡ true
among_at [] x k d below is = absurd (omega (arith, below))
among_at (y ∷ ys) x zero d below is = or_left (y == x) (is_among ys x) (eq-eqb y x is)
among_at (y ∷ ys) x (suc k) d below is = or_right (y == x) (is_among ys x) (among_at ys x k d (omega (arith, below)) is)

module _ {V A : Type 0} where
  -- an output's rank was planned
  pub given_planned : (planned : List ℕ) (outputs : List (ℕ × Output V A)) → list_any (λ rank. not (is_among planned rank)) (ranks_of outputs) ≡ false
      → (k : ℕ) (d : ℕ × Output V A) → k < length outputs → is_among planned (get_or outputs k d).0 ≡ true
  given_planned planned [] known k d below = absurd (omega (arith, below))
  given_planned planned (o ∷ os) known zero d below = not-false (is_among planned o.0) (or_parts (not (is_among planned o.0)) (list_any (λ rank. not (is_among planned rank)) (ranks_of os)) known).0
  given_planned planned (o ∷ os) known (suc k) d below = given_planned planned os (or_parts (not (is_among planned o.0)) (list_any (λ rank. not (is_among planned rank)) (ranks_of os)) known).1 k d (omega (arith, below))

  -- a rank that wasn't planned has no output
  pub unplanned : (planned : List ℕ) (outputs : List (ℕ × Output V A)) → list_any (λ rank. not (is_among planned rank)) (ranks_of outputs) ≡ false
      → (rank : ℕ) → is_among planned rank ≡ false → times rank (ranks_of outputs) ≡ 0
  unplanned planned [] known rank none = refl
  unplanned planned (o ∷ os) known rank none = by_test (o.0 == rank) refl (unplanned planned os parts.1 rank none)
    where
      parts : (not (is_among planned o.0) ≡ false) × (list_any (λ rank. not (is_among planned rank)) (ranks_of os) ≡ false)
      parts = or_parts (not (is_among planned o.0)) (list_any (λ rank. not (is_among planned rank)) (ranks_of os)) known

      by_test : (b : Bool) → (o.0 == rank) ≡ b → times rank (ranks_of os) ≡ 0 → length (if b then o.0 ∷ filter (λ r. r == rank) (ranks_of os) else filter (λ r. r == rank) (ranks_of os)) ≡ 0
      by_test true same rest = absurd (true≢false (sym (not-false (is_among planned o.0) parts.0) ∙ ap (is_among planned) (eqb-true o.0 rank same) ∙ none))
      by_test false same rest = rest

  -- ---- outputs by rank, with these in their places

  pub count_with : (by_rank : List (Output V A)) (outputs : List (ℕ × Output V A)) → length (outputs_with by_rank outputs) ≡ length by_rank
  count_with by_rank [] = refl
  count_with by_rank (o ∷ os) = count_with (set by_rank o.0 o.1) os ∙ length-set by_rank o.0 o.1

  pub untouched : (by_rank : List (Output V A)) (outputs : List (ℕ × Output V A)) (rank : ℕ) (other : Output V A) → times rank (ranks_of outputs) ≡ 0
      → get_or (outputs_with by_rank outputs) rank other ≡ get_or by_rank rank other
  untouched by_rank [] rank other none = refl
  untouched by_rank (o ∷ os) rank other none = by_test (o.0 == rank) refl none (λ rest. untouched (set by_rank o.0 o.1) os rank other rest)
    where
      by_test : (b : Bool) → (o.0 == rank) ≡ b → length (if b then o.0 ∷ filter (λ r. r == rank) (ranks_of os) else filter (λ r. r == rank) (ranks_of os)) ≡ 0
          → (times rank (ranks_of os) ≡ 0 → get_or (outputs_with (set by_rank o.0 o.1) os) rank other ≡ get_or (set by_rank o.0 o.1) rank other)
          → get_or (outputs_with (set by_rank o.0 o.1) os) rank other ≡ get_or by_rank rank other
      by_test true same none rest = absurd (omega (arith, none))
      by_test false same none rest = rest none ∙ get_or-set_other by_rank o.0 rank o.1 other (λ (e : rank ≡ o.0). eqb-false o.0 rank same (sym e))

  -- an output is in the place of its rank, where no other output is of that rank
  pub moved_at : (by_rank : List (Output V A)) (outputs : List (ℕ × Output V A)) (k : ℕ) (o : ℕ × Output V A) (other : Output V A)
      → o.0 < length by_rank → nat_lt 1 (times o.0 (ranks_of outputs)) ≡ false → k < length outputs → get_or outputs k o ≡ o → get_or (outputs_with by_rank outputs) o.0 other ≡ o.1
  moved_at by_rank [] k o other inside once below is = absurd (omega (arith, below))
  moved_at by_rank (p ∷ ps) zero o other inside once below is = rw is by_once
    where
      first : (b : Bool) → b ≡ true → nat_lt 1 (length (if b then p.0 ∷ filter (λ r. r == o.0) (ranks_of ps) else filter (λ r. r == o.0) (ranks_of ps))) ≡ false → times o.0 (ranks_of ps) ≡ 0
      first true e h = let most = ltb-false 1 (suc (times o.0 (ranks_of ps))) h in omega (arith, most)
      first false e h = absurd (true≢false (sym e))

      by_once : get_or (outputs_with (set by_rank o.0 o.1) ps) o.0 other ≡ o.1
      by_once =
          untouched (set by_rank o.0 o.1) ps o.0 other (first (p.0 == o.0) (eq-eqb p.0 o.0 (ap (λ (q : ℕ × Output V A). q.0) is)) once)
          ∙ get_or-set_same by_rank o.0 o.1 other inside
  moved_at by_rank (p ∷ ps) (suc k) o other inside once below is =
      moved_at (set by_rank p.0 p.1) ps k o other (omega (arith, inside, length-set by_rank p.0 p.1)) (fewer (p.0 == o.0) once) (omega (arith, below)) is
    where
      fewer : (b : Bool) → nat_lt 1 (length (if b then p.0 ∷ filter (λ r. r == o.0) (ranks_of ps) else filter (λ r. r == o.0) (ranks_of ps))) ≡ false → nat_lt 1 (times o.0 (ranks_of ps)) ≡ false
      fewer true h = let most = ltb-false 1 (suc (times o.0 (ranks_of ps))) h in le-ltb 1 (times o.0 (ranks_of ps)) (omega (arith, most))
      fewer false h = h

  -- it sends nothing
  pub none_sent : (outputs : List (ℕ × Output V A)) (rank : ℕ) → times rank (ranks_of outputs) ≡ 0 → replies_by outputs rank ≡ []
  none_sent [] rank none = refl
  none_sent (o ∷ os) rank none = by_test (o.0 == rank) none (λ rest. none_sent os rank rest)
    where
      by_test : (b : Bool) → length (if b then o.0 ∷ filter (λ r. r == rank) (ranks_of os) else filter (λ r. r == rank) (ranks_of os)) ≡ 0
          → (times rank (ranks_of os) ≡ 0 → replies_by os rank ≡ []) → (if b then map reader.answer_view o.1.answers.items ++ replies_by os rank else replies_by os rank) ≡ []
      by_test true none rest = absurd (omega (arith, none))
      by_test false none rest = rest none

  -- what it sends, where it is alone of its rank
  pub one_sent : (sent : ℕ → List (Place × ReplyView)) (outputs : List (ℕ × Output V A)) → AllByRecursion (λ o. map reader.answer_view o.1.answers.items ≡ sent o.0) outputs
      → (rank : ℕ) → (times rank (ranks_of outputs) == 0) ≡ false → nat_lt 1 (times rank (ranks_of outputs)) ≡ false → replies_by outputs rank ≡ sent rank
  one_sent sent [] all rank some once = absurd (true≢false some)
  one_sent sent (o ∷ os) all rank some once = by_test (o.0 == rank) refl some once (λ more most. one_sent sent os all.1 rank more most)
    where
      by_test : (b : Bool) → (o.0 == rank) ≡ b
          → (length (if b then o.0 ∷ filter (λ r. r == rank) (ranks_of os) else filter (λ r. r == rank) (ranks_of os)) == 0) ≡ false
          → nat_lt 1 (length (if b then o.0 ∷ filter (λ r. r == rank) (ranks_of os) else filter (λ r. r == rank) (ranks_of os))) ≡ false
          → ((times rank (ranks_of os) == 0) ≡ false → nat_lt 1 (times rank (ranks_of os)) ≡ false → replies_by os rank ≡ sent rank)
          → (if b then map reader.answer_view o.1.answers.items ++ replies_by os rank else replies_by os rank) ≡ sent rank
      by_test true e some once rest =
          let most = ltb-false 1 (suc (times rank (ranks_of os))) once in
          let none : times rank (ranks_of os) ≡ 0 = omega (arith, most) in
          ap (λ l. map reader.answer_view o.1.answers.items ++ l) (none_sent os rank none)
          ∙ append-nil (map reader.answer_view o.1.answers.items)
          ∙ all.0
          ∙ ap sent (eqb-true o.0 rank e)
      by_test false e some once rest = rest some once

  -- what the reader of a rank sends, by outputs by rank
  pub sent_at : (os : List (Output V A)) (rank : ℕ) (other : Output V A) → rank < length os → sent_in os rank ≡ map reader.answer_view (get_or os rank other).answers.items
  sent_at [] rank other below = absurd (omega (arith, below))
  sent_at (o ∷ os) zero other below = refl
  sent_at (o ∷ os) (suc rank) other below = sent_at os rank other (omega (arith, below))

  pub sent_past : (os : List (Output V A)) (rank : ℕ) → length os ≤ rank → sent_in os rank ≡ []
  sent_past [] rank past = refl
  sent_past (o ∷ os) zero past = absurd (omega (arith, past))
  sent_past (o ∷ os) (suc rank) past = sent_past os rank (omega (arith, past))

  -- ---- tests of outputs, and of their ranks

  pub any_of_ranks : (test : ℕ → Bool) (outputs : List (ℕ × Output V A)) → list_any (λ o. test o.0) outputs ≡ list_any test (ranks_of outputs)
  any_of_ranks test [] = refl
  any_of_ranks test (o ∷ os) = ap (λ b. test o.0 || b) (any_of_ranks test os)

  pub times_of_ranks : (rank : ℕ) (outputs : List (ℕ × Output V A)) → length (filter (λ o. o.0 == rank) outputs) ≡ times rank (ranks_of outputs)
  times_of_ranks rank [] = refl
  times_of_ranks rank (o ∷ os) = by_test (o.0 == rank) (times_of_ranks rank os)
    where
      by_test : (b : Bool) → length (filter (λ (p : ℕ × Output V A). p.0 == rank) os) ≡ times rank (ranks_of os)
          → length (if b then o ∷ filter (λ (p : ℕ × Output V A). p.0 == rank) os else filter (λ (p : ℕ × Output V A). p.0 == rank) os)
          ≡ length (if b then o.0 ∷ filter (λ r. r == rank) (ranks_of os) else filter (λ r. r == rank) (ranks_of os))
      by_test true rest = ap suc rest
      by_test false rest = rest

-- memory ran out, where nothing is wrong
pub refused : {X : Type 0} (wrong : Option GatherFault) (r : Result X GatherFault) → wrong ≡ None → IsErrAnd r (λ e. e ≡ fault.NoMemory) → IsJudged wrong r
unfolding IsJudged
refused wrong (Ok x) none h = absurd h
refused wrong (Err e) none h = inr (none, h)
