-- A run over a file: one more batch, and how it ends.
use Rattle.std.proofs.Common.{◌≡◌, ℕ, ◌+◌, ◌≤◌, ◌⊎◌, arith, List, [], ◌++◌, Bool, true, false, Option, Some, None, refl, subst, sym, ap, ◌∙◌, length, inl, inr, append-nil}
use Rattle.std.specs.Io.KnownBytes.{Appends}
use Rattle.std.proofs.KnownBytes.{Appends-nil, Appends-trans}
use Rattle.rtps_records.specs.Batches.{EndsBatch, ReadsBatch}
use Rattle.rtps_records.specs.Runs.{Stops, WroteFront, WroteReadFront, fault_after}
use Rattle.rtps_records.specs.Text.{IsFront, Says}
use Rattle.rtps_records.specs.declared.batch_end.BatchEnd.{BatchEnd}
use Rattle.rtps_records.specs.declared.fault.RunFault.{RunFault}
use Rattle.rtps_records.specs.declared.format.Format.{Format}
use Rattle.rtps_records.specs.declared.fault.RunFault.TheVariants.{CannotRead, NotRecordFile, CutRecord, RecordTooLong, TooManyRecords, CannotWrite, CannotReadNorWrite, NoMemory}
use Rattle.rtps_records.proofs.Progress.{EndsHere, Finished, Progress, many_more, stops_printing, wrote_at_end}
use Rattle.rtps_text.specs.Ahead.{Ended, ReadsAhead}
use Rattle.rtps_text.specs.Caches.{StopsLate}
use Rattle.rtps_text.specs.Taken.{ComesLast, Finishes, FinishesFront, StopsBy, Takes, TakesFront}
use Rattle.rtps_text.proofs.Sampled.{late}
use Rattle.rtps_records.specs.RecordFile.{Record}

-- ---- one more batch

-- the records are these, and what was said for them is this
abbrev pub AreRead : List Record → List ℕ → List Record → List ℕ → Type 0
AreRead these words records said = (records ≡ these) × (said ≡ words)

more_read : (format : Format) (said : List Record → List ℕ → Type 0) (file now after old new : Option (List ℕ)) (n m : ℕ) (batch : List Record) (end : BatchEnd) (kept : List ℕ)
    → (p : Progress format said file now old new n kept) → (r : ReadsBatch format now after n m batch end) → Progress format (AreRead (p.records ++ batch) (p.written ++ kept)) file r.here old new (n + length batch) kept
unfolding Says
more_read format said file now after old new n m batch end kept p r =
    let here : Progress format (AreRead p.records (p.written ++ kept)) file now old new n kept = record {
      records = p.records;
      written = p.written;
      count = p.count;
      each = p.each;
      read = p.read;
      wrote = p.wrote;
      says = (refl, refl);
    } in
    let nothing : Says (AreRead p.records (p.written ++ kept)) (AreRead (p.records ++ batch) (p.written ++ kept)) n batch kept kept
    = ([], sym (append-nil kept), λ records words h count. (ap (λ l. l ++ batch) h.0, append-nil words ∙ h.1)) in
    many_more format _ _ file now r.here old new n kept kept batch here r.read r.each nothing

-- one more batch was processed
pub batch_taken : (format : Format) (said then_said : List Record → List ℕ → Type 0) (file now after old new newer : Option (List ℕ)) (n m : ℕ) (batch : List Record) (end : BatchEnd) (kept left : List ℕ)
    → Progress format said file now old new n kept → (r : ReadsBatch format now after n m batch end) → Takes said then_said batch new newer kept left
    → Progress format then_said file r.here old newer (n + length batch) left
unfolding Takes
batch_taken format said then_said file now after old new newer n m batch end kept left p r t =
    let q = more_read format said file now after old new n m batch end kept p r in
    let s = t p.records q.written (subst (said p.records) (sym q.says.1) p.says) in
    record {
      records = q.records;
      written = q.written ++ s.0;
      count = q.count;
      each = q.each;
      read = q.read;
      wrote = Appends-trans _ _ _ _ _ q.wrote s.1;
      says = subst (λ rs. then_said rs ((q.written ++ s.0) ++ left)) (sym q.says.0) s.2;
    }

-- ---- how a run stops

pub stops_by : (is_late : Bool) (text : List Record → List ℕ) (fault : RunFault) (before after old new : Option (List ℕ)) → Stops text fault before after old new → StopsBy is_late text fault before after old new
unfolding StopsBy
stops_by false text fault before after old new h = h
stops_by true text fault before after old new h = late text fault before after old new h

-- what was written is a prefix of the text of any records that begin with these
abbrev Begins : (List Record → List ℕ) → List Record → List ℕ → Type 0
Begins text records words = (more : List Record) → IsFront words (text (records ++ more))

-- a run that has written such a prefix stops if a write fails or memory runs out
stops_begun : (format : Format) (said : List Record → List ℕ → Type 0) (text whole : List Record → List ℕ) (file now after old new newer : Option (List ℕ)) (n : ℕ) (kept put : List ℕ) (fault : RunFault)
    → n ≤ 4294967295 → (fault ≡ CannotWrite) ⊎ (fault ≡ NoMemory) → (p : Progress format said file now old new n kept) → ((records : List Record) → text records ≡ whole records)
    → Appends new newer put → Begins text p.records (p.written ++ put) → Stops whole fault file after old newer
stops_begun format said text whole file now after old new newer n kept put fault few cause p same wrote begins =
    let here : Progress format (Begins text) file now old newer n [] = record {
      records = p.records;
      written = p.written ++ put;
      count = p.count;
      each = p.each;
      read = p.read;
      wrote = Appends-trans _ _ _ _ _ p.wrote wrote;
      says = λ more. subst (λ l. IsFront l (text (p.records ++ more))) (sym (append-nil (p.written ++ put))) (begins more);
    } in
    stops_printing format (Begins text) text whole file now after old newer newer n [] fault few cause (0, Appends-nil newer) here (λ records more words s. s more) same

-- a run stops if a batch is not processed completely
pub stops_taking : (format : Format) (said : List Record → List ℕ → Type 0) (text whole : List Record → List ℕ) (file now after last old new newer : Option (List ℕ)) (n m : ℕ) (batch : List Record) (end : BatchEnd) (kept : List ℕ) (fault : RunFault)
    → n ≤ 4294967295 → (fault ≡ CannotWrite) ⊎ (fault ≡ NoMemory) → Progress format said file now old new n kept → ReadsBatch format now after n m batch end → ((records : List Record) → text records ≡ whole records)
    → TakesFront said text batch new newer kept → Stops whole fault file last old newer
unfolding TakesFront
stops_taking format said text whole file now after last old new newer n m batch end kept fault few cause p r same t =
    let q = more_read format said file now after old new n m batch end kept p r in
    let s = t p.records q.written (subst (said p.records) (sym q.says.1) p.says) in
    let more = r.few few in
    stops_begun format _ text whole file r.here last old new newer (n + length batch) kept s.0 fault (omega (arith, r.count, more)) cause q same s.1
    (λ more. subst (λ rs. IsFront (q.written ++ s.0) (text (rs ++ more))) (sym q.says.0) (s.2 more))

-- the whole text was written
pub all_written : (format : Format) (said : List Record → List ℕ → Type 0) (text whole : List Record → List ℕ) (file now old new newer : Option (List ℕ)) (n : ℕ) (kept : List ℕ)
    → Progress format said file now old new n kept → ((records : List Record) → text records ≡ whole records) → Finishes said text new newer kept → Finished format whole file now old newer n
unfolding Finishes
all_written format said text whole file now old new newer n kept p same t =
    let s = t p.records p.written p.says in
    record {
      records = p.records;
      count = p.count;
      each = p.each;
      read = p.read;
      wrote = subst (Appends old newer) (sym s.2 ∙ same p.records) (Appends-trans _ _ _ _ _ p.wrote s.1);
    }

-- a prefix of the text of all records was written
front_at_end : (format : Format) (said : List Record → List ℕ → Type 0) (whole : List Record → List ℕ) (file now after old new newer : Option (List ℕ)) (n : ℕ) (kept put : List ℕ) (end : Option RunFault)
    → n ≤ 4294967295 → EndsHere format end n now after → (p : Progress format said file now old new n kept) → Appends new newer put → IsFront (p.written ++ put) (whole p.records)
    → Stops whole (fault_after CannotWrite end) file after old newer
front_at_end format said whole file now after old new newer n kept put end few ends p wrote front =
    wrote_at_end format whole file now after old newer p.records (p.written ++ put) end p.read p.each
    (subst (λ k. EndsHere format end k now after) (sym p.count) ends) front (Appends-trans _ _ _ _ _ p.wrote wrote)

-- where a write failed, a prefix was written of the text of the whole input, or of what was read
front_or_read : (whole : List Record → List ℕ) (end : Option RunFault) (file after old new : Option (List ℕ)) → Stops whole (fault_after CannotWrite end) file after old new
    → WroteFront whole file old new ⊎ WroteReadFront whole file after old new
unfolding Stops
front_or_read whole None file after old new h = inl h
front_or_read whole (Some CannotRead) file after old new h = inr h
front_or_read whole (Some NotRecordFile) file after old new h = inl h
front_or_read whole (Some (CutRecord n)) file after old new h = inl h
front_or_read whole (Some (RecordTooLong n)) file after old new h = inl h
front_or_read whole (Some TooManyRecords) file after old new h = inl h
front_or_read whole (Some CannotWrite) file after old new h = inl h
front_or_read whole (Some CannotReadNorWrite) file after old new h = inl h
front_or_read whole (Some NoMemory) file after old new h = inl h

of_front : (is_late : Bool) (whole : List Record → List ℕ) (fault : RunFault) (end : Option RunFault) (file after old new : Option (List ℕ)) → ComesLast is_late fault
    → Stops whole (fault_after CannotWrite end) file after old new → StopsBy is_late whole (fault_after fault end) file after old new
unfolding StopsLate StopsBy
of_front is_late whole fault end file after old new cause stops = elim cause [
  | inl cannot ↦ subst (λ f. StopsBy is_late whole (fault_after f end) file after old new) (sym cannot) (stops_by is_late whole (fault_after CannotWrite end) file after old new stops)
  | inr none ↦ subst (λ f. StopsBy is_late whole (fault_after f end) file after old new) (sym none.0)
      (subst (λ l. StopsBy l whole NoMemory file after old new) (sym none.1) (front_or_read whole end file after old new stops))
]

-- a run stops if the last text is not written completely
pub stops_finishing : (format : Format) (late_now is_late : Bool) → late_now ≡ is_late → (said : List Record → List ℕ → Type 0) (text whole : List Record → List ℕ) (file now after old new newer : Option (List ℕ)) (n : ℕ) (kept : List ℕ) (end : Option RunFault) (fault : RunFault)
    → n ≤ 4294967295 → EndsHere format end n now after → (fault ≡ CannotWrite) ⊎ (fault ≡ NoMemory) → Progress format said file now old new n kept → ((records : List Record) → text records ≡ whole records)
    → FinishesFront late_now fault said text new newer kept → StopsBy is_late whole (fault_after fault end) file after old newer
unfolding FinishesFront
stops_finishing format late_now is_late alike said text whole file now after old new newer n kept end fault few ends cause p same t =
    let s = t p.records p.written p.says in
    let by : RunFault → Type 0 = λ f. StopsBy is_late whole (fault_after f end) file after old newer in
    let at_end = front_at_end format said whole file now after old new newer n kept s.0 end few ends p s.1 in
    elim s.2 [
      | inl begins ↦ elim cause [
        | inl cannot ↦
            let front = subst (λ l. IsFront (p.written ++ s.0) (text l)) (append-nil p.records) (begins []) in
            subst by (sym cannot) (stops_by is_late whole (fault_after CannotWrite end) file after old newer (at_end (subst (IsFront (p.written ++ s.0)) (same p.records) front)))
        | inr none ↦
            subst by (sym none) (stops_by is_late whole NoMemory file after old newer (stops_begun format said text whole file now after old new newer n kept s.0 NoMemory few (inr refl) p same s.1 begins))
      ]
      | inr front ↦
          of_front is_late whole fault end file after old newer (subst (λ l. ComesLast l fault) alike front.0) (at_end (subst (IsFront (p.written ++ s.0)) (same p.records) front.1))
    ]

-- ---- batches that are read ahead

-- what was said for the records was written or is kept back; and a batch was read that is not
-- processed yet
pub record IsTaking (format : Format) (said : List Record → List ℕ → Type 0) (file old : Option (List ℕ)) (batch : List Record) (end : BatchEnd) (now : Option (List ℕ)) (count : ℕ) (new : Option (List ℕ)) (kept : List ℕ) : Type 0 where
  pub last : BatchEnd
  pub before : Option (List ℕ)
  pub n : ℕ
  pub few : n ≤ 4294967295
  pub ahead : ReadsAhead format last before now n count batch end
  pub so_far : Progress format said file before old new n kept

-- how that batch ended
pub ended : (format : Format) (last end : BatchEnd) (before now : Option (List ℕ)) (n count : ℕ) (batch : List Record) → (r : ReadsAhead format last before now n count batch end)
    → Ended format end count now (n + length batch) r.reads.here
ended format last end before now n count batch r = record {
  batch = batch;
  ends = r.reads.ends;
  count = r.reads.count;
}

pub few_then : (format : Format) (last end : BatchEnd) (before now : Option (List ℕ)) (n count : ℕ) (batch : List Record) → n ≤ 4294967295 → ReadsAhead format last before now n count batch end
    → n + length batch ≤ 4294967295
few_then format last end before now n count batch few r = let more = r.reads.few few in omega (arith, r.reads.count, more)

-- that batch was processed, and the next one was read
pub taken_on : (format : Format) (said then_said : List Record → List ℕ → Type 0) (file old : Option (List ℕ)) (batch next : List Record) (end then : BatchEnd) (now after : Option (List ℕ)) (count more : ℕ) (new newer : Option (List ℕ)) (kept left : List ℕ)
    → IsTaking format said file old batch end now count new kept
    → ((here : Option (List ℕ)) (n : ℕ) → Ended format end count now n here → ReadsAhead format end here after n more next then)
    → Takes said then_said batch new newer kept left
    → IsTaking format then_said file old next then after more newer left
taken_on format said then_said file old batch next end then now after count more new newer kept left p reads t = record {
  last = end;
  before = p.ahead.reads.here;
  n = p.n + length batch;
  few = few_then format p.last end p.before now p.n count batch p.few p.ahead;
  ahead = reads p.ahead.reads.here (p.n + length batch) (ended format p.last end p.before now p.n count batch p.ahead);
  so_far = batch_taken format said then_said file p.before now old new newer p.n count batch end kept left p.so_far p.ahead.reads t;
}

-- all records were processed, and reading ended in this way
pub record IsTakenTo (format : Format) (said : List Record → List ℕ → Type 0) (file old : Option (List ℕ)) (end : BatchEnd) (after new : Option (List ℕ)) (kept : List ℕ) : Type 0 where
  pub here : Option (List ℕ)
  pub n : ℕ
  pub few : n ≤ 4294967295
  pub batch : List Record
  pub ends : EndsBatch format end n batch here after
  pub so_far : Progress format said file here old new n kept

-- the last batch was processed, and nothing was read after it
pub taken_last : (format : Format) (said then_said : List Record → List ℕ → Type 0) (file old : Option (List ℕ)) (batch : List Record) (end : BatchEnd) (now after : Option (List ℕ)) (count : ℕ) (new newer : Option (List ℕ)) (kept left : List ℕ)
    → IsTaking format said file old batch end now count new kept → after ≡ now → Takes said then_said batch new newer kept left → IsTakenTo format then_said file old end after newer left
taken_last format said then_said file old batch end now after count new newer kept left p still t = record {
  here = p.ahead.reads.here;
  n = p.n + length batch;
  few = few_then format p.last end p.before now p.n count batch p.few p.ahead;
  batch = batch;
  ends = subst (EndsBatch format end (p.n + length batch) batch p.ahead.reads.here) (sym still) p.ahead.reads.ends;
  so_far = batch_taken format said then_said file p.before now old new newer p.n count batch end kept left p.so_far p.ahead.reads t;
}
