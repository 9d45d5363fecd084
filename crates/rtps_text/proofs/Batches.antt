-- A run and its text, after one more batch.
use Rattle.std.proofs.Common.{◌≡◌, ℕ, ◌+◌, ◌*◌, ◌<◌, ◌≤◌, ◌-◌, true, false, List, ◌++◌, ◌≢◌, Option, Result, Ok, Err, OnOk, arith, refl, subst, sym, ap, ◌∙◌, length, take}
use Rattle.std.proofs.lemmas.Grind.{flat_map-append}
use Rattle.std.specs.Io.KnownBytes.{IsAtEnd}
use Rattle.rtps_records.specs.Batches.{EndsBatch, fault_in, ticks_in}
use Rattle.std.proofs.lemmas.List.{map-append}
use Rattle.rtps_records.specs.RecordFile.{Record}
use Rattle.rtps_records.specs.declared.batch_end.BatchEnd.{BatchEnd}
use Rattle.rtps_records.specs.declared.batch_end.BatchEnd.TheVariants.{End, Fault, More, Tick}
use Rattle.rtps_records.specs.declared.format.Format.{Format}
use Rattle.rtps_records.specs.declared.fault.RunFault.{RunFault}
use Rattle.std.specs.Io.KnownBytes.{Appends}
use Rattle.std.proofs.Math.Seq.{take-append_seam}
use Rattle.rtps_records.specs.Runs.{Moves, PutsFront}
use Rattle.rtps_records.proofs.Progress.{EndsHere}
use Rattle.dds_topic.specs.Decoding.{Decoding}
use Rattle.rtps_discovery.specs.declared.config.Config.{Config}
use Rattle.rtps_text.specs.Inputs.{run}
use Rattle.rtps_run.specs.Standing.{EngineView}
use Rattle.rtps_run.specs.Input.{Input}
use Rattle.rtps_run.specs.Standing as standing
use Rattle.rtps_text.specs.Ahead.{ReadsAhead, goes_on}
use Rattle.rtps_text.specs.Inputs.{input_of, inputs_of, run_by}
use Rattle.rtps_text.specs.Batched.{TakesRecords, batch_lines}
use Rattle.rtps_run.specs.BatchOutput.{IsGiven, given_puts}
use Rattle.rtps_run.specs.World.{World}
use Rattle.rtps_text.specs.Replayed.{HasSaid, put_line, put_lines}
use Rattle.rtps_run.specs.declared.batch_output.BatchOutput.{BatchOutput}

-- the results of a batch are what the run puts out more, so their lines are what the batch adds to
-- the run's lines
given_lines : {V M : Type 0} (text : M → List ℕ) (f : V → M) (before after : World M)
    (given : BatchOutput V) → IsGiven f before after given
    → put_lines text before.put ++ batch_lines text f given ≡ put_lines text after.put
given_lines text f before after given is =
    sym (flat_map-append (put_line text) before.put (given_puts f given))
    ∙ ap (put_lines text) (sym is.put)

-- after a batch, the text is what was said before, followed by the lines of the batch
said_here : {C V M : Type 0} (text : C → M → List ℕ) (f : V → M) (decoding : C → Decoding M)
    (before after : EngineView C) (batch : List Record) (given : BatchOutput V)
    → (after.catalog ≡ before.catalog) × (after.config ≡ before.config)
    → TakesRecords f decoding batch before after given
    → (records : List Record) (said : List ℕ) → HasSaid text decoding records said before
    → HasSaid text decoding (records ++ batch) (said ++ batch_lines (text after.catalog) f given)
    after
said_here {C} text f decoding before after batch given same takes records said h =
    let is = takes.gives records h.stands in
    let lines = batch_lines (text after.catalog) f given in
    record {
      stands = takes.stands records h.stands;
      lines = ap (λ l. l ++ lines) h.lines
          ∙ ap (λ (k : C). put_lines (text k) (run (decoding k) before.config records).put ++ lines)
          (sym same.0)
          ∙ ap (λ (config : Config). put_lines (text after.catalog)
          (run (decoding after.catalog) config records).put ++ lines) (sym same.1)
          ∙ given_lines (text after.catalog) f (run (decoding after.catalog) after.config records)
          (run (decoding after.catalog) after.config (records ++ batch)) given
          (subst (λ (config : Config). IsGiven f (run (decoding after.catalog) config records)
          (run (decoding after.catalog) config (records ++ batch)) given) (sym same.1)
          (subst (λ (k : C). IsGiven f (run (decoding k) before.config records)
          (run (decoding k) before.config (records ++ batch)) given) (sym same.0) is));
    }

-- the same, with any catalog that equals the run's own
pub said_more : {C V M : Type 0} (text : C → M → List ℕ) (f : V → M) (decoding : C → Decoding M)
    (records batch : List Record) (said : List ℕ) (before next : EngineView C)
    (given : BatchOutput V) (k : C)
    → (next.catalog ≡ before.catalog) × (next.config ≡ before.config)
    → TakesRecords f decoding batch before next given → next.catalog ≡ k
    → HasSaid text decoding records said before
    → HasSaid text decoding (records ++ batch) (said ++ batch_lines (text k) f given) next
said_more {C} text f decoding records batch said before next given k same takes own h =
    subst (λ l. HasSaid text decoding (records ++ batch) (said ++ l) next)
    (ap (λ (c : C). batch_lines (text c) f given) own)
    (said_here text f decoding before next batch given same takes records said h)

-- if a result is Ok, the inputs that these records are were processed, whatever records came before
pub takes_records : {C V M U E : Type 0} (f : V → M) (decoding : C → Decoding M)
    (inputs : List Input) (batch : List Record) (old new : EngineView C) (given : BatchOutput V)
    (r : Result U E)
    → inputs ≡ inputs_of batch
    → ((earlier : List Input) → standing.StandsAt decoding earlier old
    → OnOk r (standing.StandsAt decoding (earlier ++ inputs) new))
    → ((earlier : List Input) → standing.StandsAt decoding earlier old
    → OnOk r (IsGiven f (standing.run_by decoding old earlier)
    (standing.run_by decoding old (earlier ++ inputs)) given))
    → OnOk r (TakesRecords f decoding batch old new given)
takes_records {C} {V} {M} f decoding inputs batch old new given (Ok x) same stands gives =
    let whole : (records : List Record) → inputs_of records ++ inputs
    ≡ inputs_of (records ++ batch) =
    λ records. ap (λ l. inputs_of records ++ l) same ∙ sym (map-append input_of records batch) in
    record {
      stands = λ records h. subst (λ (l : List Input). standing.StandsAt decoding l new)
          (whole records) (stands (inputs_of records) h);
      gives = λ records h. subst
          (λ (l : List Input). IsGiven f (run_by decoding old records)
          (standing.run_by decoding old l) given) (whole records) (gives (inputs_of records) h);
    }
takes_records f decoding inputs batch old new given (Err e) same stands gives = tt

-- if a part of these octets was written and the rest is kept back, a prefix of them was written
pub moved_front : (old new : Option (List ℕ)) (octets left : List ℕ) → Moves old new octets left
    → PutsFront old new octets
moved_front old new octets left m = (
  length m.0,
  subst (Appends old new)
      (sym (ap (take (length m.0)) m.2 ∙ take-append_seam m.0 left)) m.1,
)

pub ends_here : (format : Format) (end : BatchEnd) (m : ℕ) (records : List Record)
    (here after : Option (List ℕ)) → goes_on end ≡ false → m ≤ 4294967295
    → EndsBatch format end m records here after → EndsHere format (fault_in end) m here after
ends_here format More m records here after not few ends = absurd
    (let bad : true ≡ false = not in cc)
ends_here format (Tick moment) m records here after not few ends = absurd
    (let bad : true ≡ false = not in cc)
ends_here format End m records here after not few ends = (few, ends)
ends_here format (Fault fault) m records here after not few ends = ends

-- if nothing may follow a batch and it ends with no fault, the file ends after it
pub at_end : (format : Format) (end : BatchEnd) (m : ℕ) (records : List Record)
    (here after : Option (List ℕ)) → goes_on end ≡ false → ((fault : RunFault) → end ≢ Fault fault)
    → EndsBatch format end m records here after → IsAtEnd here
at_end format More m records here after not none ends = absurd (let bad : true ≡ false = not in cc)
at_end format (Tick moment) m records here after not none ends = absurd
    (let bad : true ≡ false = not in cc)
at_end format End m records here after not none ends = ends
at_end format (Fault fault) m records here after not none ends = absurd (none fault refl)

-- a number that decreases with each batch: twice the number of records that may follow one with
-- this end, and one for the tick that was read
abbrev pub left_of : BatchEnd → ℕ → ℕ
left_of More count = 2 * (4294967296 - count)
left_of (Tick moment) count = 2 * (4294967296 - count) + 1
left_of End count = 0
left_of (Fault fault) count = 0

pub fewer_left : (format : Format) (before after : Option (List ℕ)) (last end : BatchEnd)
    (count n m : ℕ) (records : List Record) → goes_on last ≡ true → n ≤ 4294967295
    → count ≡ n + ticks_in last → ReadsAhead format last before after n m records end
    → left_of end m < left_of last count
fewer_left format before after End end count n m records on few is r = absurd
    (let bad : false ≡ true = on in cc)
fewer_left format before after (Fault fault) end count n m records on few is r = absurd
    (let bad : false ≡ true = on in cc)
fewer_left format before after More More count n m records on few is r = let more = r.reads.few
    few in omega (arith, is, r.reads.count, r.reads.ends.0, more, few)
fewer_left format before after More (Tick moment) count n m records on few is r = let more =
    r.reads.few few in omega (arith, is, r.reads.count, more, few)
fewer_left format before after More End count n m records on few is r = omega (arith, is, few)
fewer_left format before after More (Fault fault) count n m records on few is r =
    omega (arith, is, few)
fewer_left format before after (Tick moment) More count n m records on few is r = let more =
    r.reads.few few in omega (arith, is, r.reads.count, r.reads.ends.0, more, few)
fewer_left format before after (Tick moment) (Tick next) count n m records on few is r = absurd
    (let bad : Tick next ≡ More = r.next refl in cc)
fewer_left format before after (Tick moment) End count n m records on few is r = absurd
    (let bad : End ≡ More = r.next refl in cc)
fewer_left format before after (Tick moment) (Fault fault) count n m records on few is r = absurd
    (let bad : Fault fault ≡ More = r.next refl in cc)
