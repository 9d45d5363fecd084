-- What an outcome has that was made of outputs by rank.
use Rattle.std.proofs.Common.{◌≡◌, ℕ, zero, suc, ◌<◌, ◌≤◌, ◌==◌, nat_lt, List, [], ◌∷◌, length, map, get_or, Bool, true, false, None, refl, sym, ap, ◌∙◌, subst, arith, true≢false, inl, inr}
use Rattle.std.specs.List.{All, AllByRecursion, Contains, list_any}
use Rattle.std.specs.declared.vec.Vec.{Vec}
use Rattle.std.proofs.lemmas.Bool.{cases_lt, ne_eqb, or_from}
use Rattle.std.proofs.lemmas.List.{get_or_default, length-map}
use Rattle.std.proofs.lemmas.List.Elements.{All-nil, recursion_from_All}
use Rattle.rtps_types.specs.declared.place.Place.{Place}
use Rattle.rtps_proxy.specs.Replies.{ReplyView}
use Rattle.rtps_reader.specs.declared.notice.Notice.{Notice}
use Rattle.rtps_reader.specs.declared.notice.Output.{Output}
use Rattle.rtps_reader.specs.Notice as reader
use Rattle.rtps_run.specs.declared.outcome.Outcome.{Outcome}
use Rattle.rtps_run.specs.Outcome.{IsOutcomeOf, answer_view}
use Rattle.rtps_run.specs.Seen.{answers_in}
use Rattle.rtps_planner.specs.declared.jobs.Rest.{Rest}
use Rattle.rtps_run.specs.Merged.{AreRising, merged, same_place}
use Rattle.rtps_run.specs.BatchOutput.{sent_in}
use Rattle.rtps_planner.specs.Outputs.{IsGathered, StandAmong, fault_of, is_among, outputs_with, parts_in, ranks_of, replies_by, said_in, times}
use Rattle.rtps_planner.proofs.Adding.{along_same}
use Rattle.rtps_planner.proofs.Gathered.{along, merged_seen, sorted_merged}
use Rattle.rtps_planner.proofs.Judged.{IsRight, any_at, count_with, given_planned, moved_at, none_sent, one_sent, right, sent_at, sent_past, unplanned, untouched}

not_past : (xs : List ℕ) (n rank : ℕ) → All (λ r. r < n) xs → n ≤ rank → is_among xs rank ≡ false
not_past [] n rank all past = refl
not_past (x ∷ xs) n rank all past =
    let first : x < n = all 0 x (omega arith) in
    or_from (x == rank) (is_among xs rank) (ne_eqb x rank (λ e. omega (arith, first, e, past))) (not_past xs n rank (λ k d less. all (suc k) d (omega (arith, less))) past)

-- the list of notices of a rank is that of its output
pub list_at : {V A : Type 0} (os : List (Output V A)) (rank : ℕ) (other : Vec (Notice V) A) (some : Output V A) → rank < length os → get_or (map (λ (o : Output V A). o.notices) os) rank other ≡ (get_or os rank some).notices
list_at [] rank other some below = absurd (omega (arith, below))
list_at (o ∷ os) zero other some below = refl
list_at (o ∷ os) (suc rank) other some below = list_at os rank other some (omega (arith, below))

some_one : {X : Type 0} (xs : List X) (rank : ℕ) → rank < length xs → X
some_one [] rank below = absurd (omega (arith, below))
some_one (x ∷ xs) rank below = x

module _ {V A : Type 0} (rest : Rest A) (outputs : List (ℕ × Output V A)) (first by_rank : List (Output V A)) (outcome : Outcome V A)
    (fine : fault_of rest.ranks.items (ranks_of outputs) ≡ None) (count : length first ≡ rest.readers)
    (empty : (rank : ℕ) (other : Output V A) → rank < rest.readers → ((get_or first rank other).notices.items ≡ []) × ((get_or first rank other).answers.items ≡ []))
    (put : by_rank ≡ outputs_with first outputs) (has : IsOutcomeOf rest.answers.items by_rank outcome) where
  is_right : IsRight rest.ranks.items (ranks_of outputs)
  is_right = right rest.ranks.items (ranks_of outputs) fine

  alone : (rank : ℕ) → is_among rest.ranks.items rank ≡ true → nat_lt 1 (times rank (ranks_of outputs)) ≡ false
  alone rank is = any_at (λ r. nat_lt 1 (times r (ranks_of outputs))) rest.ranks.items rank is is_right.once

  there : (rank : ℕ) → is_among rest.ranks.items rank ≡ true → (times rank (ranks_of outputs) == 0) ≡ false
  there rank is = any_at (λ r. times r (ranks_of outputs) == 0) rest.ranks.items rank is is_right.there

  total : length by_rank ≡ rest.readers
  total = ap length put ∙ count_with first outputs ∙ count

  within : (rank : ℕ) → rank < rest.readers → rank < length by_rank
  within rank less = subst (λ n. rank < n) (sym total) less

  -- the output of a rank that was planned, and of one that wasn't
  output_at : (k : ℕ) (o : ℕ × Output V A) → is_among rest.ranks.items o.0 ≡ true → o.0 < rest.readers → k < length outputs → get_or outputs k o ≡ o → get_or by_rank o.0 o.1 ≡ o.1
  output_at k o planned less below is = ap (λ l. get_or l o.0 o.1) put ∙ moved_at first outputs k o o.1 (subst (λ n. o.0 < n) (sym count) less) (alone o.0 planned) below is

  none_at : (rank : ℕ) (other : Output V A) → is_among rest.ranks.items rank ≡ false → get_or by_rank rank other ≡ get_or first rank other
  none_at rank other none = ap (λ l. get_or l rank other) put ∙ untouched first outputs rank other (unplanned rest.ranks.items outputs is_right.known rank none)

  moved : (rank : ℕ) (output : Output V A) (other : Vec (Notice V) A) → rank < rest.readers → Contains outputs (rank, output) → get_or outcome.notices.items rank other ≡ output.notices
  moved rank output other less at =
      let planned : is_among rest.ranks.items rank ≡ true
      = ap (λ (o : ℕ × Output V A). is_among rest.ranks.items o.0) (sym at.2) ∙ given_planned rest.ranks.items outputs is_right.known at.0 (rank, output) at.1 in
      ap (λ l. get_or l rank other) has.notices
      ∙ list_at by_rank rank other output (within rank less)
      ∙ ap (λ (o : Output V A). o.notices) (output_at at.0 (rank, output) planned less at.1 at.2)

  others : (rank : ℕ) (other : Vec (Notice V) A) → rank < rest.readers → is_among rest.ranks.items rank ≡ false → (get_or outcome.notices.items rank other).items ≡ []
  others rank other less none =
      let some : Output V A = some_one by_rank rank (within rank less) in
      ap (λ l. (get_or l rank other).items) has.notices
      ∙ ap (λ (v : Vec (Notice V) A). v.items) (list_at by_rank rank other some (within rank less))
      ∙ ap (λ (o : Output V A). o.notices.items) (none_at rank some none)
      ∙ (empty rank some less).0

  module _ (below : All (λ rank. rank < rest.readers) rest.ranks.items) where
    planned_below : (rank : ℕ) → is_among rest.ranks.items rank ≡ true → rank < rest.readers
    planned_below rank is = elim (cases_lt rank rest.readers) [
      | inl less ↦ less
      | inr past ↦ absurd (true≢false (sym is ∙ not_past rest.ranks.items rest.readers rank below past))
    ]

    all_sent : AllByRecursion (λ (o : ℕ × Output V A). map reader.answer_view o.1.answers.items ≡ sent_in by_rank o.0) outputs
    all_sent = recursion_from_All (λ (o : ℕ × Output V A). map reader.answer_view o.1.answers.items ≡ sent_in by_rank o.0) outputs (λ k d less.
        let o : ℕ × Output V A = get_or outputs k d in
        let planned = given_planned rest.ranks.items outputs is_right.known k d less in
        let inside = planned_below o.0 planned in
        sym (sent_at by_rank o.0 o.1 (within o.0 inside)
        ∙ ap (λ (q : Output V A). map reader.answer_view q.answers.items) (output_at k o planned inside less (get_or_default outputs k o d less))))

    sent_is : (rank : ℕ) → rank < rest.readers → sent_in by_rank rank ≡ replies_by outputs rank
    sent_is rank less = by_test (is_among rest.ranks.items rank) refl
      where
        some : Output V A
        some = some_one by_rank rank (within rank less)

        by_test : (b : Bool) → is_among rest.ranks.items rank ≡ b → sent_in by_rank rank ≡ replies_by outputs rank
        by_test true is = sym (one_sent (sent_in by_rank) outputs all_sent rank (there rank is) (alone rank is))
        by_test false none =
            sent_at by_rank rank some (within rank less)
            ∙ ap (λ (o : Output V A). map reader.answer_view o.answers.items) (none_at rank some none)
            ∙ ap (map reader.answer_view) (empty rank some less).1
            ∙ sym (none_sent outputs rank (unplanned rest.ranks.items outputs is_right.known rank none))

    sent_stand : (places : List Place) → ((rank : ℕ) → StandAmong places (replies_by outputs rank)) → (rank : ℕ) → StandAmong places (sent_in by_rank rank)
    sent_stand places stands rank = elim (cases_lt rank rest.readers) [
      | inl less ↦ subst (StandAmong places) (sym (sent_is rank less)) (stands rank)
      | inr past ↦ subst (StandAmong places) (sym (sent_past by_rank rank (subst (λ n. n ≤ rank) (sym total) past))) (All-nil (λ (s : Place × ReplyView). list_any (same_place s.0) places ≡ true))
    ]

    answers : (places : List Place) → AreRising places → StandAmong places (said_in rest) → ((rank : ℕ) → StandAmong places (replies_by outputs rank))
        → map answer_view outcome.answers.items ≡ answers_in (merged (parts_in rest outputs) rest.readers places)
    answers places up stand stands =
        sorted_merged rest.answers.items by_rank places outcome has up stand (sent_stand places stands)
        ∙ ap (λ n. along (said_in rest) (sent_in by_rank) n places) total
        ∙ along_same (said_in rest) (sent_in by_rank) (replies_by outputs) rest.readers places sent_is
        ∙ sym (merged_seen (parts_in rest outputs) rest.readers places)

  pub gathered : IsGathered rest outputs outcome
  gathered = record {
    readers = ap length has.notices ∙ length-map by_rank (λ (o : Output V A). o.notices) ∙ total;
    moved = moved;
    others = others;
    answers = λ places below up stand stands. answers below places up stand stands;
  }
