-- What is counted of a run, batch after batch.
use Rattle.std.proofs.Common.{◌≡◌, ℕ, zero, suc, ◌+◌, ◌-◌, ◌^◌, ◌≤◌, ◌<◌, List, [], ◌∷◌, ◌++◌, length, map, min, sum, Global, Result, Ok, Err, OnOk, None, Some, sum_by, refl, sym, ap, ap₂, subst, ◌∙◌, arith, length-append, take, get_or, Option}
use Rattle.std.specs.Option.{option_map_or}
use Rattle.std.specs.List.{flat_map}
use Rattle.std.proofs.lemmas.List.{length-map, map-append, take_all, take_more}
use Rattle.std.proofs.lemmas.List.Sums.{sum-map, sum_by-cons}
use Rattle.rtps_types.specs.declared.datagram.Datagram as types
use Rattle.rtps_types.specs.declared.place.Place.{Place}
use Rattle.rtps_proxy.specs.Replies.{ReplyView}
use Rattle.rtps_reader.specs.declared.notice.Output.{Output}
use Rattle.rtps_reader.specs.Notice as reader
use Rattle.rtps_receiver.specs.Counters.{all_counted, none_counted}
use Rattle.rtps_receiver.proofs.Summing.{all_counted_apart}
use Rattle.rtps_records.specs.Batches.{record_of, records_in}
use Rattle.rtps_records.specs.declared.batch.Batch.{Batch}
use Rattle.rtps_reader.specs.declared.status.Status.{Status}
use Rattle.rtps_records.specs.RecordFile.{Datagram, Record, Tick}
use Rattle.rtps_records.specs.Text.{datagrams_of}
use Rattle.rtps_run.specs.Input.{Input, arrived}
use Rattle.rtps_run.specs.Seen.{answers_in, status_seen}
use Rattle.rtps_run.specs.World.{AnswerView, World, answer_by}
use Rattle.rtps_run.proofs.Dealt.{answers_in-append}
use Rattle.rtps_run.specs.Merged.{answers_at, merged}
use Rattle.rtps_run.specs.BatchOutput.{AreAnswersAlong, IsGiven, parts_given, sent_in}
use Rattle.rtps_planner.proofs.Gathered.{along, below, here, merged_seen}
use Rattle.dds_participant.specs.Decode.{octets_of}
use Rattle.rtps_run.specs.declared.batch_output.BatchOutput.{BatchOutput}
use Rattle.dds_participant.specs.Kept.{ParticipantView}
use Rattle.dds_participant.specs.Ports.{NoneAttached}
use Rattle.dds_topic.specs.Decoding.{Decoding}
use Rattle.rtps_discovery.specs.declared.config.Config.{Config}
use Rattle.rtps_run.specs.Standing as standing
use Rattle.rtps_bench.specs.Counting.{HasCounted, TakesRecords, answer_count, answers_given, capped, counters_of, totals_below}
use Rattle.rtps_bench.proofs.Holding.{batches_more}
use Rattle.rtps_bench.specs.Inputs.{input_of, inputs_of, run, run_by}

-- ---- how many answers a batch has

none_added : (k : ℕ) → k ≡ 0 → 0 ≡ 0 + k
none_added k none = omega (arith, none)

crossed : (a b c d : ℕ) → (a + b) + (c + d) ≡ (a + c) + (b + d)
crossed a b c d = omega arith

-- the number of answers of the ranks below a count
abbrev sent_below : (ℕ → ℕ) → ℕ → ℕ
sent_below f zero = 0
sent_below f (suc n) = sent_below f n + f n

module _ (said : List (Place × ReplyView)) (sent : ℕ → List (Place × ReplyView)) where
  -- their number at one place
  below_length : (p : Place) (n : ℕ) → length (below said sent p n) ≡ sent_below (λ rank. length (answers_at p (sent rank))) n
  below_length p zero = refl
  below_length p (suc n) =
      length-append (below said sent p n) (map (answer_by (Some n)) (answers_at p (sent n)))
      ∙ ap₂ (λ a b. a + b) (below_length p n) (length-map (answers_at p (sent n)) (answer_by (Some n)))

  -- where each list is sorted by place, their number at all places
  abbrev spread : (List Place) → List (Place × ReplyView) → List (Place × ReplyView)
  spread ps ss = flat_map (λ p. answers_at p ss) ps

  both_sums : (f g : ℕ → ℕ) (n : ℕ) → sent_below (λ rank. f rank + g rank) n ≡ sent_below f n + sent_below g n
  both_sums f g zero = refl
  both_sums f g (suc n) = let rest = both_sums f g n in omega (arith, rest)

  same_sums : (f g : ℕ → ℕ) (n : ℕ) → ((rank : ℕ) → f rank ≡ g rank) → sent_below f n ≡ sent_below g n
  same_sums f g zero same = refl
  same_sums f g (suc n) same = ap₂ (λ a b. a + b) (same_sums f g n same) (same n)

  no_sums : (n : ℕ) → sent_below (λ rank. 0) n ≡ 0
  no_sums zero = refl
  no_sums (suc n) = let rest = no_sums n in omega (arith, rest)

  along_length : (n : ℕ) (ps : List Place) → length (along said sent n ps) ≡ length (spread ps said) + sent_below (λ rank. length (spread ps (sent rank))) n
  along_length n [] = none_added _ (no_sums n)
  along_length n (p ∷ ps) =
      let split =
      same_sums (λ rank. length (answers_at p (sent rank) ++ spread ps (sent rank))) (λ rank. length (answers_at p (sent rank)) + length (spread ps (sent rank))) n
      (λ rank. length-append (answers_at p (sent rank)) (spread ps (sent rank)))
      ∙ both_sums (λ rank. length (answers_at p (sent rank))) (λ rank. length (spread ps (sent rank))) n in
      let one =
      length-append (map (answer_by None) (answers_at p said)) (below said sent p n)
      ∙ ap₂ (λ a b. a + b) (length-map (answers_at p said) (answer_by None)) (below_length p n) in
      length-append (here said sent p n) (along said sent n ps)
      ∙ ap₂ (λ a b. a + b) one (along_length n ps)
      ∙ crossed (length (answers_at p said)) (sent_below (λ rank. length (answers_at p (sent rank))) n) (length (spread ps said)) (sent_below (λ rank. length (spread ps (sent rank))) n)
      ∙ ap₂ (λ a b. a + b) (sym (length-append (answers_at p said) (spread ps said))) (sym split)

-- ---- the outputs of readers

sum_shift : (f : ℕ → ℕ) (n : ℕ) → sent_below f (suc n) ≡ f 0 + sent_below (λ rank. f (suc rank)) n
sum_shift f zero = omega arith
sum_shift f (suc n) = let rest = sum_shift f n in omega (arith, rest)

outputs_by : {V : Type 0} (os : List (Output V Global)) → sent_below (λ rank. length (sent_in os rank)) (length os) ≡ sum_by (λ o. length o.answers.items) os
outputs_by [] = refl
outputs_by (o ∷ os) =
    sum_shift (λ rank. length (sent_in (o ∷ os) rank)) (length os)
    ∙ ap₂ (λ a b. a + b) (length-map o.answers.items reader.answer_view) (outputs_by os)
    ∙ sym (sum_by-cons (λ o. length o.answers.items) o os)

outputs_length : {V : Type 0} (os : List (Output V Global)) → sent_below (λ rank. length (sent_in os rank)) (length os) ≡ sum (map (λ o. length o.answers.items) os)
outputs_length os = outputs_by os ∙ sym (sum-map (λ o. length o.answers.items) os)

-- their number is that of those put out between two worlds
pub answers_more : {V M : Type 0} (f : V → M) (before after : World M) (given : BatchOutput V) → IsGiven f before after given → answer_count after ≡ answer_count before + answers_given given
answers_more f before after given is =
    let places = given.places.items in
    let outputs = given.outputs.items in
    let count = length outputs in
    let said = map reader.answer_view given.answers.items in
    let whole : length (along said (sent_in outputs) count places) ≡ length said + sent_below (λ rank. length (sent_in outputs rank)) count =
    along_length said (sent_in outputs) count places
    ∙ ap₂ (λ a b. a + b) (ap length is.in_order.said)
    (same_sums said (sent_in outputs) (λ rank. length (spread said (sent_in outputs) places (sent_in outputs rank))) (λ rank. length (sent_in outputs rank)) count (λ rank. ap length (is.in_order.sent rank))) in
    ap length (ap answers_in is.put ∙ answers_in-append before.put (merged (parts_given f given) count places))
    ∙ length-append (answers_in before.put) (answers_in (merged (parts_given f given) count places))
    ∙ ap (λ n. answer_count before + n)
    (ap length (merged_seen (parts_given f given) count places) ∙ whole ∙ ap₂ (λ a b. a + b) (length-map given.answers.items reader.answer_view) (outputs_length outputs))

-- sums that stop at the greatest number
pub capped_more : (a b c : ℕ) → c ≡ a + b → min (capped a + capped b) (2 ^ 64 - 1) ≡ capped c
capped_more a b c is = omega (arith, is)

-- ---- records and datagrams

pub datagrams-append : (xs ys : List Record) → datagrams_of (xs ++ ys) ≡ datagrams_of xs ++ datagrams_of ys
datagrams-append [] ys = refl
datagrams-append (Datagram moment octets ∷ xs) ys = ap (λ l. octets ∷ l) (datagrams-append xs ys)
datagrams-append (Tick moment ∷ xs) ys = datagrams-append xs ys

pub octets_are : (ds : List types.Datagram) → datagrams_of (map record_of ds) ≡ octets_of ds
octets_are [] = refl
octets_are (d ∷ ds) = ap (λ l. d.bytes.now ∷ l) (octets_are ds)

pub inputs_are : (ds : List types.Datagram) → map arrived ds ≡ inputs_of (map record_of ds)
inputs_are [] = refl
inputs_are (d ∷ ds) = ap (λ l. arrived d ∷ l) (inputs_are ds)

-- ---- a batch

-- if a result is Ok, the inputs that these records are were processed, whatever records came before
pub takes_records : {C V M U E : Type 0} (f : V → M) (decoding : C → Decoding M) (inputs : List Input) (batch : List Record) (old new : ParticipantView C V) (given : BatchOutput V) (r : Result U E)
    → inputs ≡ inputs_of batch
    → ((earlier : List Input) → standing.StandsAt decoding earlier old.engine → OnOk r (standing.StandsAt decoding (earlier ++ inputs) new.engine))
    → ((earlier : List Input) → standing.StandsAt decoding earlier old.engine → OnOk r (IsGiven f (standing.run_by decoding old.engine earlier) (standing.run_by decoding old.engine (earlier ++ inputs)) given))
    → OnOk r (new.counters.received ≡ all_counted old.engine.config.own (datagrams_of batch) old.counters.received) → NoneAttached new.ports
    → OnOk r (TakesRecords f decoding batch old new given)
takes_records {C} {V} {M} f decoding inputs batch old new given (Ok x) same stands gives counters alone =
    let whole : (records : List Record) → inputs_of records ++ inputs ≡ inputs_of (records ++ batch) =
    λ records. ap (λ l. inputs_of records ++ l) same ∙ sym (map-append input_of records batch) in
    record {
      stands = λ records h. subst (λ (l : List Input). standing.StandsAt decoding l new.engine) (whole records) (stands (inputs_of records) h);
      gives = λ records h. subst (λ (l : List Input). IsGiven f (run_by decoding old.engine records) (standing.run_by decoding old.engine l) given) (whole records) (gives (inputs_of records) h);
      counters = counters;
      alone = alone;
    }
takes_records f decoding inputs batch old new given (Err e) same stands gives counters alone = tt

-- what is counted after a batch
pub counted_more : {C V M : Type 0} (f : V → M) (decoding : C → Decoding M) (records batch : List Record) (old new : ParticipantView C V) (given : BatchOutput V) (answers more : ℕ)
    → (new.engine.catalog ≡ old.engine.catalog) × (new.engine.config ≡ old.engine.config) → TakesRecords f decoding batch old new given → more ≡ capped (answers_given given)
    → HasCounted decoding records old answers → HasCounted decoding (records ++ batch) new (min (answers + more) (2 ^ 64 - 1))
counted_more {C} {V} {M} f decoding records batch old new given answers more same takes is h =
    let own = old.engine.config.own in
    let put = answers_more f (run_by decoding old.engine records) (run_by decoding old.engine (records ++ batch)) given (takes.gives records h.stands) in
    let counters : new.counters.received ≡ counters_of own (records ++ batch) =
    takes.counters ∙ ap (all_counted own (datagrams_of batch)) h.counters
    ∙ sym (all_counted_apart own (datagrams_of records) (datagrams_of batch) none_counted)
    ∙ ap (λ ds. all_counted own ds none_counted) (sym (datagrams-append records batch)) in
    let sent : min (answers + more) (2 ^ 64 - 1) ≡ capped (answer_count (run_by decoding old.engine (records ++ batch))) =
    ap₂ (λ a b. min (a + b) (2 ^ 64 - 1)) h.answers is ∙ capped_more _ _ _ put in
    record {
      stands = takes.stands records h.stands;
      counters = counters ∙ ap (λ (config : Config). counters_of config.own (records ++ batch)) (sym same.1);
      answers = sent
          ∙ ap (λ (k : C). capped (answer_count (run (decoding k) old.engine.config (records ++ batch)))) (sym same.0)
          ∙ ap (λ (config : Config). capped (answer_count (run (decoding new.engine.catalog) config (records ++ batch)))) (sym same.1);
      alone = takes.alone;
    }

-- ---- statuses

-- the total of one rank more
pub totals_more : {M : Type 0} (total : Status → ℕ) (w : World M) (rank : ℕ) (status : Option Status) (before one : ℕ) → status ≡ status_seen w rank → one ≡ option_map_or total status 0
    → before ≡ totals_below total w rank → before + one ≡ totals_below total w (rank + 1)
totals_more total w rank status before one seen is have =
    let next : rank + 1 ≡ suc rank = omega arith in
    ap₂ (λ a b. a + b) have (is ∙ ap (λ o. option_map_or total o 0) seen) ∙ sym (ap (totals_below total w) next)

-- ---- batches

-- the records of one batch more
pub records_more : {A : Type 0} (batches : List (Batch A)) (n : ℕ) (other : Batch A) → n < length batches
    → flat_map records_in (take n batches) ++ records_in (get_or batches n other) ≡ flat_map records_in (take (n + 1) batches)
records_more batches n other below = sym (batches_more (take (n + 1) batches) (take n batches) (get_or batches n other) (take_more batches n other below))

-- all of them
pub records_all : {A : Type 0} (batches : List (Batch A)) (n : ℕ) → length batches ≤ n → flat_map records_in (take n batches) ≡ flat_map records_in batches
records_all batches n all = ap (flat_map records_in) (take_all n batches all)
