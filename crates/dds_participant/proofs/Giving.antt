-- What a batch gives is what the run puts out more.
use Rattle.std.proofs.Common.{◌≡◌, ℕ, zero, suc, ◌<◌, ◌≤◌, List, [], ◌∷◌, ◌++◌, length, map, Global, get_or, None, Some, inl, inr, refl, sym, ap, ◌∙◌, subst, arith}
use Rattle.std.proofs.lemmas.Bool.{cases_lt}
use Rattle.rtps_types.specs.declared.place.Place.{Place}
use Rattle.rtps_receiver.specs.Events.{EventView}
use Rattle.rtps_discovery.specs.Kept.{RegistryView}
use Rattle.dds_topic.specs.Decoding.{Decoding}
use Rattle.rtps_reader.specs.declared.notice.Output.{Output}
use Rattle.rtps_reader.specs.Notice as reader
use Rattle.rtps_reader.specs.Standing.{ReaderView}
use Rattle.rtps_run.specs.Occurrence.{Occurrence}
use Rattle.rtps_run.specs.Rising.{IsSteady, OccurrencesRise}
use Rattle.rtps_run.specs.Run.{world_run}
use Rattle.rtps_run.specs.Seen.{notices_by, reader_count}
use Rattle.rtps_run.specs.World.{NoticeOf, World, sent_by}
use Rattle.rtps_planner.specs.declared.jobs.Plan.{Plan}
use Rattle.rtps_run.specs.Merged.{AreRising, PartsByRank, answers_at, merged, merged_below, notices_at}
use Rattle.rtps_planner.specs.Commuting.{parts_of, spoken}
use Rattle.rtps_run.specs.BatchOutput.{AreAnswersAlong, AreNoticesAlong, IsGiven, parts_given, sent_in, told_in}
use Rattle.rtps_planner.specs.Job.{discovery_answers, job_of, job_sent, job_told}
use Rattle.rtps_planner.specs.Plan.{IsPlan}
use Rattle.rtps_planner.proofs.Alone.{parts}
use Rattle.rtps_planner.proofs.Along.{answers_spoken, sent_spoken, spoken_rises, told_spoken}
use Rattle.rtps_planner.proofs.Judged.{sent_at, sent_past}
use Rattle.rtps_planner.proofs.Spoken.{by_spoken}
use Rattle.dds_participant.specs.Batch.{shares_in}
use Rattle.rtps_run.specs.declared.batch_output.BatchOutput.{BatchOutput}
use Rattle.dds_participant.specs.declared.readers.Readers.{Readers}
use Rattle.dds_participant.specs.Readers.{AreRun}
use Rattle.dds_participant.proofs.Taken.{same_count}

-- ---- what is given by a rank

module _ {V M : Type 0} (f : V → M) where
  pub told_at : (outputs : List (Output V Global)) (rank : ℕ) (other : Output V Global) → rank < length outputs → told_in f outputs rank ≡ map (reader.notice_view f) (get_or outputs rank other).notices.items
  told_at [] rank other below = absurd (omega (arith, below))
  told_at (o ∷ os) zero other below = refl
  told_at (o ∷ os) (suc rank) other below = told_at os rank other (omega (arith, below))

  pub told_past : (outputs : List (Output V Global)) (rank : ℕ) → length outputs ≤ rank → told_in f outputs rank ≡ []
  told_past [] rank past = refl
  told_past (o ∷ os) zero past = absurd (omega (arith, past))
  told_past (o ∷ os) (suc rank) past = told_past os rank (omega (arith, past))

module _ {V : Type 0} where
  some_output : (outputs : List (Output V Global)) (rank : ℕ) → rank < length outputs → Output V Global
  some_output [] rank below = absurd (omega (arith, below))
  some_output (o ∷ os) rank below = o

-- ---- only the ranks below the count are merged

module _ {M : Type 0} (a b : PartsByRank M) where
  abbrev AreSameBelow : ℕ → Type 0
  AreSameBelow n = (rank : ℕ) → rank < n → (a.told rank ≡ b.told rank) × (a.sent rank ≡ b.sent rank)

  below_same : (p : Place) (n : ℕ) → AreSameBelow n → merged_below p a n ≡ merged_below p b n
  below_same p zero same = refl
  below_same p (suc n) same =
      let here = same n (omega arith) in
      ap (λ l. l ++ (map (NoticeOf n) (notices_at p (a.told n)) ++ map (sent_by (Some n)) (answers_at p (a.sent n)))) (below_same p n (λ rank less. same rank (omega (arith, less))))
      ∙ ap (λ l. merged_below p b n ++ (map (NoticeOf n) (notices_at p l) ++ map (sent_by (Some n)) (answers_at p (a.sent n)))) here.0
      ∙ ap (λ l. merged_below p b n ++ (map (NoticeOf n) (notices_at p (b.told n)) ++ map (sent_by (Some n)) (answers_at p l))) here.1

  pub merged_same : (n : ℕ) (places : List Place) → a.answers ≡ b.answers → AreSameBelow n → merged a n places ≡ merged b n places
  merged_same n [] said same = refl
  merged_same n (p ∷ ps) said same =
      ap (λ l. (map (sent_by None) (answers_at p l) ++ merged_below p a n) ++ merged a n ps) said
      ∙ ap (λ l. (map (sent_by None) (answers_at p b.answers) ++ l) ++ merged a n ps) (below_same p n same)
      ∙ ap (λ l. (map (sent_by None) (answers_at p b.answers) ++ merged_below p b n) ++ l) (merged_same n ps said same)

-- ---- what isn't there is by place

no_notices : (M : Type 0) (places : List Place) → AreNoticesAlong {M = M} places []
no_notices M [] = refl
no_notices M (p ∷ ps) = no_notices M ps

no_answers : (places : List Place) → AreAnswersAlong places []
no_answers [] = refl
no_answers (p ∷ ps) = no_answers ps

-- ---- what the jobs of a batch give

module _ {V M : Type 0} (f : V → M) (decoding : Decoding M) (w : World M) (es : List EventView) (os : List Occurrence) (rise : OccurrencesRise os) (steady : IsSteady os) (plan : Plan Global) (kept : RegistryView) (old : List ReaderView) (p : Readers V) (given : BatchOutput V)
    (planned : IsPlan w.known es os plan kept) (ran : AreRun f decoding (shares_in w os) old p) (total : length given.outputs.items ≡ reader_count w)
    (at : given.places.items ≡ plan.rest.places.items) (said : given.answers.items ≡ plan.rest.answers.items) (put : given.outputs.items ≡ p.outputs.items) where
  abbrev places : List Place
  places = spoken w.known os

  placed : given.places.items ≡ places
  placed = at ∙ planned.places

  abbrev outputs : List (Output V Global)
  outputs = given.outputs.items

  inside : (rank : ℕ) → rank < length outputs → rank < length p.outputs.items
  inside rank below = subst (λ l. rank < length l) put below

  told_is : (rank : ℕ) → rank < length outputs → told_in f outputs rank ≡ job_told decoding (w.readers rank) (job_of rank w.known os)
  told_is rank below =
      let other = some_output outputs rank below in
      ap (λ l. told_in f l rank) put ∙ told_at f p.outputs.items rank other (inside rank below) ∙ (ran.outputs rank other (inside rank below)).told

  sent_is : (rank : ℕ) → rank < length outputs → sent_in outputs rank ≡ job_sent (w.readers rank) (job_of rank w.known os)
  sent_is rank below =
      let other = some_output outputs rank below in
      ap (λ l. sent_in l rank) put ∙ sent_at p.outputs.items rank other (inside rank below) ∙ (ran.outputs rank other (inside rank below)).sent

  answers_are : map reader.answer_view given.answers.items ≡ discovery_answers w.known os
  answers_are = ap (map reader.answer_view) said ∙ planned.answers

  merged_are : merged (parts_given f given) (length outputs) given.places.items ≡ merged (parts_of decoding w.known w.readers os) (reader_count w) places
  merged_are =
      ap (merged (parts_given f given) (length outputs)) placed
      ∙ ap (λ n. merged (parts_given f given) n places) total
      ∙ merged_same (parts_given f given) (parts_of decoding w.known w.readers os) (reader_count w) places answers_are
      (λ rank less. (told_is rank (subst (λ n. rank < n) (sym total) less), sent_is rank (subst (λ n. rank < n) (sym total) less)))

  notices_along : (rank : ℕ) → AreNoticesAlong given.places.items (told_in f outputs rank)
  notices_along rank = elim (cases_lt rank (length outputs)) [
    | inl less ↦ subst (λ l. AreNoticesAlong l (told_in f outputs rank)) (sym placed) (subst (AreNoticesAlong places) (sym (told_is rank less)) (told_spoken decoding rank w.known (w.readers rank) os rise))
    | inr past ↦ subst (AreNoticesAlong given.places.items) (sym (told_past f outputs rank past)) (no_notices M given.places.items)
  ]

  sent_by_place : (rank : ℕ) → AreAnswersAlong given.places.items (sent_in outputs rank)
  sent_by_place rank = elim (cases_lt rank (length outputs)) [
    | inl less ↦ subst (λ l. AreAnswersAlong l (sent_in outputs rank)) (sym placed) (subst (AreAnswersAlong places) (sym (sent_is rank less)) (sent_spoken rank w.known (w.readers rank) os rise))
    | inr past ↦ subst (AreAnswersAlong given.places.items) (sym (sent_past outputs rank past)) (no_answers given.places.items)
  ]

  gives : IsGiven f w (world_run decoding w os) given
  gives = record {
    readers = total ∙ sym (same_count decoding w os steady);
    put = by_spoken decoding w os rise steady ∙ ap (λ l. w.put ++ l) (sym merged_are);
    told = λ rank below. (parts decoding w os rank).told (subst (λ n. rank < n) total below) ∙ ap (λ l. notices_by rank w.put ++ l) (sym (told_is rank below));
    in_order = record {
      rising = subst AreRising (sym placed) (spoken_rises w.known os rise);
      said = subst (λ l. AreAnswersAlong l (map reader.answer_view given.answers.items)) (sym placed) (subst (AreAnswersAlong places) (sym answers_are) (answers_spoken w.known os rise));
      told = notices_along;
      sent = sent_by_place;
    };
  }

pub run_gives : {V M : Type 0} (f : V → M) (decoding : Decoding M) (w : World M) (es : List EventView) (os hs : List Occurrence) (plan : Plan Global) (kept : RegistryView) (old : List ReaderView) (p : Readers V) (given : BatchOutput V)
    → os ≡ hs → OccurrencesRise hs → IsSteady os → IsPlan w.known es os plan kept → AreRun f decoding (shares_in w os) old p → length given.outputs.items ≡ reader_count w
    → given.places.items ≡ plan.rest.places.items → given.answers.items ≡ plan.rest.answers.items → given.outputs.items ≡ p.outputs.items
    → IsGiven f w (world_run decoding w hs) given
run_gives f decoding w es os hs plan kept old p given read rise steady planned ran total placed said put =
    subst (λ l. IsGiven f w (world_run decoding w l) given) read
    (gives f decoding w es os (subst OccurrencesRise (sym read) rise) steady plan kept old p given planned ran total placed said put)
