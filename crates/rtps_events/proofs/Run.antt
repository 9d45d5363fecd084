-- A run over a file: one more batch, and how it ends.
use Rattle.std.proofs.Common.{◌≡◌, ℕ, ◌+◌, ◌≤◌, ◌⊎◌, ◌≢◌, inr, arith, List, [], ◌∷◌, ◌++◌, true, false, Option, refl, subst, sym, ap, ◌∙◌, length, length-append, append-nil, append_assoc}
use Rattle.std.specs.Io.KnownBytes.{Appends, Consumes, IsAtEnd}
use Rattle.std.proofs.KnownBytes.{Appends-nil, Appends-trans}
use Rattle.rtps_records.specs.Batches.{EndsBatch, ReadsBatch, fault_in, ticks_in}
use Rattle.rtps_records.specs.RecordFile.{Record, Tick, frame}
use Rattle.rtps_records.specs.Runs.{Closes, Moves, PutsFront, Stops, fault_after}
use Rattle.rtps_records.specs.Text.{Ends, Says, datagrams_of, text_from, text_of}
use Rattle.rtps_records.specs.declared.batch_end.BatchEnd.{BatchEnd}
use Rattle.rtps_records.specs.declared.batch_end.BatchEnd.TheVariants.{End, Fault, More}
use Rattle.rtps_records.specs.declared.batch_end.BatchEnd.TheVariants as code
use Rattle.rtps_records.specs.declared.fault.RunFault.{RunFault}
use Rattle.rtps_records.specs.declared.fault.RunFault.TheVariants.{CannotWrite, NoMemory}
use Rattle.rtps_records.specs.declared.format.Format.{Format}
use Rattle.rtps_records.proofs.Printed.{text_both, texts_begin}
use Rattle.rtps_records.proofs.Progress.{EndsHere, Finished, Progress, SaidIsFront, closes, closes_not, many_more, stops_closing, stops_printing}
use Rattle.rtps_events.specs.Printed.{goes_on, printed_text}
use Rattle.rtps_events.proofs.Batches.{datagrams_both, datagrams_fewer}

-- the lines of a datagram, by its number and its octets
abbrev pub Line : Type 0
Line = ℕ → List ℕ → List ℕ

-- what comes after datagrams
abbrev pub Ending : Type 0
Ending = List (List ℕ) → List ℕ

-- The lines of these records were said, and the next datagram has this number. What comes last is
-- `begun` after all datagrams, and `now` after those that follow.
pub record HasPrinted (line : Line) (begun now : Ending) (next : ℕ) (records : List Record) (said : List ℕ) : Type 0 where
  pub lines : said ≡ text_of line records
  pub number : next ≡ length (datagrams_of records)
  pub ending : (rest : List (List ℕ)) → now rest ≡ begun (datagrams_of records ++ rest)

-- the lines of these records were said
abbrev HasLines : Line → List Record → List ℕ → Type 0
HasLines line records said = said ≡ text_of line records

-- they are a prefix of the text of any records that begin with these
lines_begin : (line : Line) (begun : Ending) → SaidIsFront (HasLines line) (printed_text line begun)
lines_begin line begun records more words lines =
    let front = texts_begin line records more words lines in
    let last = begun (datagrams_of (records ++ more)) in
    (front.0 ++ last, ap (λ l. l ++ last) front.1 ∙ append_assoc words front.0 last)

-- the lines of one more batch
lines_both : (line : Line) (next : ℕ) (records batch : List Record) → next ≡ length (datagrams_of records)
    → text_of line (records ++ batch) ≡ text_of line records ++ text_from line next batch
lines_both line next records batch number =
    let same : 0 + length (datagrams_of records) ≡ next = omega (arith, number) in
    text_both line 0 records batch ∙ ap (λ n. text_of line records ++ text_from line n batch) same

-- what comes after the datagrams of one more batch
abbrev pub IsAfter : Ending → Ending → List Record → Type 0
IsAfter later now batch = (rest : List (List ℕ)) → later rest ≡ now (datagrams_of batch ++ rest)

-- one more batch was printed
says_more : (line : Line) (begun now later : Ending) (next then : ℕ) (records batch : List Record) (said : List ℕ) → HasPrinted line begun now next records said
    → then ≡ next + length (datagrams_of batch) → IsAfter later now batch
    → HasPrinted line begun later then (records ++ batch) (said ++ text_from line next batch)
says_more line begun now later next then records batch said h count after = record {
  lines = ap (λ l. l ++ text_from line next batch) h.lines ∙ sym (lines_both line next records batch h.number);
  number = count ∙ ap (λ n. n + length (datagrams_of batch)) h.number ∙ sym (length-append (datagrams_of records) (datagrams_of batch)) ∙ ap length (sym (datagrams_both records batch));
  ending = λ rest. after rest ∙ h.ending (datagrams_of batch ++ rest) ∙ ap begun (sym (append_assoc (datagrams_of records) (datagrams_of batch) rest) ∙ ap (λ l. l ++ rest) (sym (datagrams_both records batch)));
}

-- the records of a batch were read, and their lines are kept back
batch_read : (format : Format) (line : Line) (begun now later : Ending) (file here after old new : Option (List ℕ)) (n m next then : ℕ) (batch : List Record) (end : BatchEnd) (kept : List ℕ)
    → Progress format (HasPrinted line begun now next) file here old new n kept → (r : ReadsBatch format here after n m batch end)
    → then ≡ next + length (datagrams_of batch) → IsAfter later now batch
    → Progress format (HasPrinted line begun later then) file r.here old new (n + length batch) (kept ++ text_from line next batch)
unfolding Says
batch_read format line begun now later file here after old new n m next then batch end kept p r count ends =
    many_more format (HasPrinted line begun now next) (HasPrinted line begun later then) file here r.here old new n kept (kept ++ text_from line next batch) batch p r.read r.each
    (text_from line next batch, refl, λ records said h k. says_more line begun now later next then records batch said h count ends)

-- a part of what is kept back was written
moved : (format : Format) (said : List Record → List ℕ → Type 0) (file now old new newer : Option (List ℕ)) (n : ℕ) (kept left : List ℕ)
    → Progress format said file now old new n kept → Moves new newer kept left → Progress format said file now old newer n left
moved format said file now old new newer n kept left p m = record {
  records = p.records;
  written = p.written ++ m.0;
  count = p.count;
  each = p.each;
  read = p.read;
  wrote = Appends-trans _ _ _ _ _ p.wrote m.1;
  says = subst (said p.records) (ap (λ l. p.written ++ l) m.2 ∙ sym (append_assoc p.written m.0 left)) p.says;
}

-- a run whose last batch ended in this way: all records up to there were printed, but for a tick
-- that was read after them
pub record IsPrinting (format : Format) (line : Line) (begun now : Ending) (file here old new : Option (List ℕ)) (end : BatchEnd) (count next : ℕ) (kept : List ℕ) : Type 0 where
  pub there : Option (List ℕ)
  pub n : ℕ
  pub few : n ≤ 4294967295
  pub batch : List Record
  pub ends : EndsBatch format end n batch there here
  pub read : count ≡ n + ticks_in end
  pub so_far : Progress format (HasPrinted line begun now next) file there old new n kept

-- before the first batch
pub begins : (format : Format) (line : Line) (begun : Ending) (file here old : Option (List ℕ)) (end : BatchEnd) (count next : ℕ) (kept : List ℕ) → end ≡ More → count ≡ 0 → next ≡ 0 → kept ≡ []
    → Progress format (HasPrinted line begun begun 0) file here old old 0 [] → IsPrinting format line begun begun file here old old end count next kept
begins format line begun file here old end count next kept more none first empty p = rw more (rw none (rw first (rw empty (record {
  there = here;
  n = 0;
  few = omega arith;
  batch = Tick 0 ∷ [];
  ends = (omega arith, refl);
  read = omega arith;
  so_far = p;
}))))

pub nothing_said : (line : Line) (begun : Ending) → HasPrinted line begun begun 0 [] []
nothing_said line begun = record { lines = refl; number = refl; ending = λ rest. refl }

-- where more may follow, the tick counts among the records that were printed
pub goes_on_from : (format : Format) (line : Line) (begun now : Ending) (file here old new : Option (List ℕ)) (end : BatchEnd) (count next : ℕ) (kept : List ℕ) → goes_on end ≡ true
    → IsPrinting format line begun now file here old new end count next kept → Progress format (HasPrinted line begun now next) file here old new count kept
unfolding Says
goes_on_from format line begun now file here old new More count next kept on x =
    let same : x.n ≡ count = omega (arith, x.read) in
    subst (λ k. Progress format (HasPrinted line begun now next) file here old new k kept) same
    (subst (λ h. Progress format (HasPrinted line begun now next) file h old new x.n kept) (sym x.ends.1) x.so_far)
goes_on_from format line begun now file here old new (code.Tick moment) count next kept on x =
    let same : x.n + length (Tick moment ∷ []) ≡ count = omega (arith, x.read) in
    subst (λ k. Progress format (HasPrinted line begun now next) file here old new k kept) same
    (many_more format (HasPrinted line begun now next) (HasPrinted line begun now next) file x.there here old new x.n kept kept (Tick moment ∷ []) x.so_far
    (subst (Consumes x.there here) (sym (append-nil (frame format (Tick moment)))) x.ends.2) (x.ends.1, tt)
    ([], sym (append-nil kept), λ records said h k. says_more line begun now now next next records (Tick moment ∷ []) said h (omega arith) (λ rest. refl)))
goes_on_from format line begun now file here old new End count next kept on x = absurd (let bad : false ≡ true = on in cc)
goes_on_from format line begun now file here old new (Fault fault) count next kept on x = absurd (let bad : false ≡ true = on in cc)

-- one more batch was printed
pub taken_on : (format : Format) (line : Line) (begun now later : Ending) (file here after old new newer : Option (List ℕ)) (n m next then : ℕ) (batch : List Record) (end : BatchEnd) (kept left : List ℕ) → n ≤ 4294967295
    → Progress format (HasPrinted line begun now next) file here old new n kept → ReadsBatch format here after n m batch end
    → then ≡ next + length (datagrams_of batch) → IsAfter later now batch
    → Moves new newer (kept ++ text_from line next batch) left
    → IsPrinting format line begun later file after old newer end m then left
taken_on format line begun now later file here after old new newer n m next then batch end kept left few p r count ends move =
    let fewer = r.few few in
    record {
      there = r.here;
      n = n + length batch;
      few = omega (arith, r.count, fewer);
      batch = batch;
      ends = r.ends;
      read = r.count;
      so_far = moved format _ file r.here old new newer (n + length batch) _ left (batch_read format line begun now later file here after old new n m next then batch end kept p r count ends) move;
    }

-- ---- how a run stops

-- lines that were said, whatever comes after them
only_lines : (format : Format) (line : Line) (begun now : Ending) (file here old new : Option (List ℕ)) (n next : ℕ) (kept : List ℕ)
    → Progress format (HasPrinted line begun now next) file here old new n kept → Progress format (HasLines line) file here old new n kept
only_lines format line begun now file here old new n next kept p = record {
  records = p.records;
  written = p.written;
  count = p.count;
  each = p.each;
  read = p.read;
  wrote = p.wrote;
  says = p.says.lines;
}

-- a run stops if memory runs out between two writes
pub stops_between : (format : Format) (line : Line) (begun now : Ending) (file here after old new : Option (List ℕ)) (n next : ℕ) (kept : List ℕ) (fault : RunFault) → n ≤ 4294967295 → fault ≡ NoMemory
    → Progress format (HasPrinted line begun now next) file here old new n kept → Stops (printed_text line begun) fault file after old new
stops_between format line begun now file here after old new n next kept fault few none p =
    stops_printing format (HasLines line) (printed_text line begun) (printed_text line begun) file here after old new new n kept fault few (inr none) (0, Appends-nil new)
    (only_lines format line begun now file here old new n next kept p) (lines_begin line begun) (λ records. refl)

-- a run stops if a batch is not printed completely
pub stops_taking : (format : Format) (line : Line) (begun now : Ending) (file here after last old new newer : Option (List ℕ)) (n m next : ℕ) (batch : List Record) (end : BatchEnd) (kept : List ℕ) (fault : RunFault)
    → n ≤ 4294967295 → (fault ≡ CannotWrite) ⊎ (fault ≡ NoMemory) → Progress format (HasPrinted line begun now next) file here old new n kept → ReadsBatch format here after n m batch end
    → PutsFront new newer (kept ++ text_from line next batch) → Stops (printed_text line begun) fault file last old newer
stops_taking format line begun now file here after last old new newer n m next batch end kept fault few cause p r put =
    let fewer = r.few few in
    let later : Ending = λ rest. now (datagrams_of batch ++ rest) in
    stops_printing format (HasLines line) (printed_text line begun) (printed_text line begun) file r.here last old new newer (n + length batch) (kept ++ text_from line next batch) fault (omega (arith, r.count, fewer)) cause put
    (only_lines format line begun later file r.here old new (n + length batch) _ _ (batch_read format line begun now later file here after old new n m next _ batch end kept p r refl (λ rest. refl))) (lines_begin line begun) (λ records. refl)

ends_here : (format : Format) (end : BatchEnd) (n : ℕ) (records : List Record) (here after : Option (List ℕ)) → goes_on end ≡ false → n ≤ 4294967295 → EndsBatch format end n records here after → EndsHere format (fault_in end) n here after
ends_here format More n records here after not few ends = absurd (let bad : true ≡ false = not in cc)
ends_here format (code.Tick moment) n records here after not few ends = absurd (let bad : true ≡ false = not in cc)
ends_here format End n records here after not few ends = (few, ends)
ends_here format (Fault fault) n records here after not few ends = ends

-- what comes last is all that is left to say
ends_said : (line : Line) (begun now : Ending) (next : ℕ) (kept out : List ℕ) → out ≡ kept ++ now [] → Ends (HasPrinted line begun now next) (printed_text line begun) kept out
unfolding Ends
ends_said line begun now next kept out e = (
  now [],
  e,
  λ records said h. ap (λ l. l ++ begun (datagrams_of records)) (sym h.lines) ∙ ap (λ l. said ++ l) (ap begun (sym (append-nil (datagrams_of records))) ∙ sym (h.ending [])),
)

said_begins : (line : Line) (begun now : Ending) (next : ℕ) → SaidIsFront (HasPrinted line begun now next) (printed_text line begun)
said_begins line begun now next records more words h = lines_begin line begun records more words h.lines

-- a run stops if there is no memory for what comes last
pub stops_ending : (format : Format) (line : Line) (begun now : Ending) (file here old new after : Option (List ℕ)) (end : BatchEnd) (count next : ℕ) (kept : List ℕ) (fault : RunFault) → fault ≡ NoMemory
    → IsPrinting format line begun now file here old new end count next kept → Stops (printed_text line begun) fault file after old new
stops_ending format line begun now file here old new after end count next kept fault none x =
    stops_between format line begun now file x.there after old new x.n next kept fault x.few none x.so_far

-- a run stops if the last lines can't be written
pub stops_closing_here : (format : Format) (line : Line) (begun now : Ending) (file here old new newer : Option (List ℕ)) (end : BatchEnd) (count next : ℕ) (kept out : List ℕ) (fault : RunFault) → goes_on end ≡ false → fault ≡ CannotWrite
    → IsPrinting format line begun now file here old new end count next kept → out ≡ kept ++ now [] → PutsFront new newer out → Stops (printed_text line begun) (fault_after fault (fault_in end)) file here old newer
stops_closing_here format line begun now file here old new newer end count next kept out fault not cannot x e put =
    stops_closing format (HasPrinted line begun now next) (printed_text line begun) (printed_text line begun) file x.there here old new newer x.n kept (fault_in end) fault x.few
    (ends_here format end x.n x.batch x.there here not x.few x.ends) x.so_far (said_begins line begun now next) (λ records. refl)
    (closes_not (HasPrinted line begun now next) (printed_text line begun) fault new newer kept out cannot (ends_said line begun now next kept out e) put)

-- the whole text was written
pub all_written : (format : Format) (line : Line) (begun now : Ending) (file here old new newer : Option (List ℕ)) (end : BatchEnd) (count next : ℕ) (kept out : List ℕ)
    → (x : IsPrinting format line begun now file here old new end count next kept) → out ≡ kept ++ now [] → Appends new newer out → Finished format (printed_text line begun) file x.there old newer x.n
unfolding Closes
all_written format line begun now file here old new newer end count next kept out x e put =
    let c = closes (HasPrinted line begun now next) (printed_text line begun) new newer kept out (ends_said line begun now next kept out e) put in
    let p = x.so_far in
    record {
      records = p.records;
      count = p.count;
      each = p.each;
      read = p.read;
      wrote = subst (Appends old newer) (sym (c.2 p.records p.written p.says)) (Appends-trans _ _ _ _ _ p.wrote c.1);
    }

-- if nothing may follow and there is no fault, the file ends
pub at_end : (format : Format) (line : Line) (begun now : Ending) (file here old new : Option (List ℕ)) (end : BatchEnd) (count next : ℕ) (kept : List ℕ) → goes_on end ≡ false → ((fault : RunFault) → end ≢ Fault fault)
    → (x : IsPrinting format line begun now file here old new end count next kept) → IsAtEnd x.there
at_end format line begun now file here old new More count next kept not none x = absurd (let bad : true ≡ false = not in cc)
at_end format line begun now file here old new (code.Tick moment) count next kept not none x = absurd (let bad : true ≡ false = not in cc)
at_end format line begun now file here old new End count next kept not none x = x.ends
at_end format line begun now file here old new (Fault fault) count next kept not none x = absurd (none fault refl)

-- the next datagrams can be numbered
pub numbered : (format : Format) (line : Line) (begun now : Ending) (file here old new : Option (List ℕ)) (n next : ℕ) (kept : List ℕ) (batch : List Record) → n + length batch ≤ 4294967295
    → Progress format (HasPrinted line begun now next) file here old new n kept → next + length batch ≤ 4294967295
numbered format line begun now file here old new n next kept batch few p =
    let fewer = datagrams_fewer p.records in
    omega (arith, p.count, p.says.number, fewer, few)
