-- What a batch gives, as an outcome.
use Rattle.std.proofs.Common.{◌≡◌, ℕ, ◌<◌, List, [], ◌∷◌, ◌++◌, length, map, Bool, true, false, if◌then◌else◌, Global, get_or, refl, sym, ap, ◌∙◌, subst, arith}
use Rattle.std.specs.List.{AllByRecursion, flat_map, list_any}
use Rattle.std.specs.declared.vec.Vec.{Vec}
use Rattle.std.proofs.lemmas.Bool.{or_left, or_right}
use Rattle.std.proofs.lemmas.List.{length-map}
use Rattle.std.proofs.lemmas.List.Elements.{All-from_recursion}
use Rattle.rtps_types.specs.declared.place.Place.{Place}
use Rattle.rtps_proxy.specs.Replies.{ReplyView}
use Rattle.rtps_reader.specs.declared.notice.Notice.{Notice}
use Rattle.rtps_reader.specs.declared.notice.Output.{Output}
use Rattle.rtps_reader.specs.Notice as reader
use Rattle.rtps_run.specs.declared.outcome.Outcome.{Outcome}
use Rattle.rtps_run.specs.Outcome.{Adds, IsOutcomeOf, answer_view, notices_in}
use Rattle.rtps_run.specs.Seen.{answers_in, notices_by}
use Rattle.rtps_run.specs.World.{World}
use Rattle.rtps_run.proofs.Dealt.{answers_in-append}
use Rattle.rtps_run.proofs.Places.{all_append, all_weaker}
use Rattle.rtps_run.specs.Merged.{answers_at, merged, same_place}
use Rattle.rtps_run.specs.BatchOutput.{AreAnswersAlong, IsGiven, parts_given, sent_in, told_in}
use Rattle.rtps_planner.specs.Outputs.{StandAmong}
use Rattle.rtps_planner.proofs.Gathered.{merged_seen, sorted_merged}
use Rattle.rtps_planner.proofs.Gathering.{list_at}
use Rattle.rtps_run.specs.declared.batch_output.BatchOutput.{BatchOutput}
use Rattle.dds_participant.proofs.Giving.{told_at}

-- ---- what is by place is at places that there are

at_place : (p : Place) (ss : List (Place × ReplyView)) → AllByRecursion (λ s. same_place s.0 p ≡ true) (answers_at p ss)
at_place p [] = tt
at_place p (s ∷ ss) = by_test (same_place s.0 p) refl (at_place p ss)
  where
    by_test : (b : Bool) → same_place s.0 p ≡ b → AllByRecursion (λ s. same_place s.0 p ≡ true) (answers_at p ss) → AllByRecursion (λ s. same_place s.0 p ≡ true) (if b then s ∷ answers_at p ss else answers_at p ss)
    by_test true e rest = (e, rest)
    by_test false e rest = rest

at_some : (ss : List (Place × ReplyView)) (places : List Place) → AllByRecursion (λ s. list_any (same_place s.0) places ≡ true) (flat_map (λ p. answers_at p ss) places)
at_some ss [] = tt
at_some ss (p ∷ ps) =
    all_append (λ s. list_any (same_place s.0) (p ∷ ps) ≡ true) (answers_at p ss) (flat_map (λ p. answers_at p ss) ps)
    (all_weaker (λ s. same_place s.0 p ≡ true) (λ s. list_any (same_place s.0) (p ∷ ps) ≡ true) (answers_at p ss) (λ s e. or_left (same_place s.0 p) (list_any (same_place s.0) ps) e) (at_place p ss))
    (all_weaker (λ s. list_any (same_place s.0) ps ≡ true) (λ s. list_any (same_place s.0) (p ∷ ps) ≡ true) (flat_map (λ p. answers_at p ss) ps) (λ s e. or_right (same_place s.0 p) (list_any (same_place s.0) ps) e) (at_some ss ps))

stand_among : (places : List Place) (ss : List (Place × ReplyView)) → AreAnswersAlong places ss → StandAmong places ss
stand_among places ss along =
    All-from_recursion (λ (s : Place × ReplyView). list_any (same_place s.0) places ≡ true) ss
    (subst (AllByRecursion (λ (s : Place × ReplyView). list_any (same_place s.0) places ≡ true)) along (at_some ss places))

-- ---- the outcome

some_one : {X : Type 0} (xs : List X) (rank : ℕ) → rank < length xs → X
some_one [] rank below = absurd (omega (arith, below))
some_one (x ∷ xs) rank below = x

module _ {V M : Type 0} (f : V → M) (before after : World M) (given : BatchOutput V) (is : IsGiven f before after given) (outcome : Outcome V Global) (has : IsOutcomeOf given.answers.items given.outputs.items outcome) where
  abbrev outputs : List (Output V Global)
  outputs = given.outputs.items

  abbrev places : List Place
  places = given.places.items

  pub readers_are : length outcome.notices.items ≡ length outputs
  readers_are = ap length has.notices ∙ length-map outputs (λ (o : Output V Global). o.notices)

  answers_are : map answer_view outcome.answers.items ≡ answers_in (merged (parts_given f given) (length outputs) places)
  answers_are =
      sorted_merged given.answers.items outputs places outcome has is.in_order.rising (stand_among places (map reader.answer_view given.answers.items) is.in_order.said)
      (λ rank. stand_among places (sent_in outputs rank) (is.in_order.sent rank))
      ∙ sym (merged_seen (parts_given f given) (length outputs) places)

  notices_are : (rank : ℕ) (other : Vec (Notice V) Global) → rank < length outputs → notices_in f (get_or outcome.notices.items rank other) ≡ told_in f outputs rank
  notices_are rank other less =
      let some : Output V Global = some_one outputs rank less in
      ap (λ l. notices_in f (get_or l rank other)) has.notices
      ∙ ap (notices_in f) (list_at outputs rank other some less)
      ∙ sym (told_at f outputs rank some less)

  pub deals : Adds f before after outcome
  deals = record {
    readers = readers_are ∙ is.readers;
    notices = λ rank other less.
        let inside : rank < length outputs = subst (λ n. rank < n) (sym is.readers) less in
        is.told rank inside ∙ ap (λ l. notices_by rank before.put ++ l) (sym (notices_are rank other inside));
    answers =
        ap answers_in is.put
        ∙ answers_in-append before.put (merged (parts_given f given) (length outputs) places)
        ∙ ap (λ l. answers_in before.put ++ l) (sym answers_are);
  }
