-- A run so far: the records that were read, and what was said and written of them.
use Rattle.std.proofs.Common.{◌≡◌, ℕ, ◌+◌, ◌<◌, ◌≤◌, ◌⊎◌, inl, inr, List, [], ◌∷◌, ◌++◌, Option, None, Some, IfSome, Result, Ok, Err, IfErr, OnErr, refl, length, take, drop, sym, ap, subst, ◌∙◌, length-append, append-nil, append_assoc, take-append-drop}
use Rattle.std.specs.List.{flat_map, AllByRecursion}
use Rattle.std.proofs.lemmas.Grind.{flat_map-append}
use Rattle.std.specs.Io.KnownBytes.{Appends, Consumes, IsAtEnd}
use Rattle.std.proofs.KnownBytes.{Consumes-trans, Appends-trans, Appends-nil, Appends-kept, Keeps-refl}
use Rattle.rtps_records.specs.declared.fault.RunFault.{RunFault}
use Rattle.rtps_records.specs.declared.fault.RunFault.TheVariants.{CannotRead, NotRecordFile, CutRecord, RecordTooLong, TooManyRecords, CannotWrite, CannotReadNorWrite, NoMemory}
use Rattle.rtps_records.specs.declared.format.Format.{Format}
use Rattle.rtps_records.specs.RecordFile.{Record, magic_of, frame, Holds, EndsBy, IsOther, IsRecord, IsPartial, FaultHere, FaultFirst, Reads}
use Rattle.rtps_records.specs.Text.{IsFront, Says, Ends}
use Rattle.rtps_records.proofs.OneReading.{one_reading, reading_goes_on}
use Rattle.rtps_records.specs.Runs.{IsFrontOf, WroteAll, WroteRead, WroteFront, WroteReadFront, PutsFront, Stops, Closes, ClosesNot, fault_after}

-- the octets of a file that begins with these records
abbrev file_of : Format → List Record → List ℕ
file_of format records = magic_of format ++ flat_map (frame format) records

-- n records were read; what is said of them was written or is kept back
pub record Progress (format : Format) (said : List Record → List ℕ → Type 0) (before now old new : Option (List ℕ)) (n : ℕ) (kept : List ℕ) : Type 0 where
  pub records : List Record
  pub written : List ℕ
  pub count : length records ≡ n
  pub each : AllByRecursion (IsRecord format) records
  pub read : Consumes before now (magic_of format ++ flat_map (frame format) records)
  pub wrote : Appends old new written
  pub says : said records (written ++ kept)

-- n records were read, and their whole text was written
pub record Finished (format : Format) (text : List Record → List ℕ) (before now old new : Option (List ℕ)) (n : ℕ) : Type 0 where
  pub records : List Record
  pub count : length records ≡ n
  pub each : AllByRecursion (IsRecord format) records
  pub read : Consumes before now (magic_of format ++ flat_map (frame format) records)
  pub wrote : Appends old new (text records)

pub started : (format : Format) (said : List Record → List ℕ → Type 0) (before now old : Option (List ℕ)) → said [] [] → Consumes before now (magic_of format) → Progress format said before now old old 0 []
started format said before now old fresh p = record {
  records = [];
  written = [];
  count = refl;
  each = tt;
  read = subst (Consumes before now) (sym (append-nil (magic_of format))) p;
  wrote = Appends-nil old;
  says = fresh;
}

pub all_more : (P : Record → Type 0) (xs : List Record) (x : Record) → AllByRecursion P xs → P x → AllByRecursion P (xs ++ x ∷ [])
all_more P [] x all here = (here, tt)
all_more P (y ∷ xs) x all here = (all.0, all_more P xs x all.1 here)

pub frames_more : (format : Format) (xs : List Record) (x : Record) → flat_map (frame format) xs ++ frame format x ≡ flat_map (frame format) (xs ++ x ∷ [])
frames_more format xs x = ap (λ l. flat_map (frame format) xs ++ l) (sym (append-nil (frame format x))) ∙ sym (flat_map-append (frame format) xs (x ∷ []))

pub all_both : (P : Record → Type 0) (xs ys : List Record) → AllByRecursion P xs → AllByRecursion P ys → AllByRecursion P (xs ++ ys)
all_both P [] ys all more = more
all_both P (x ∷ xs) ys all more = (all.0, all_both P xs ys all.1 more)

-- some records more were read, and their text was added
pub many_more : (format : Format) (said then_said : List Record → List ℕ → Type 0) (before now after old new : Option (List ℕ)) (n : ℕ) (kept out : List ℕ) (more : List Record)
    → Progress format said before now old new n kept → Consumes now after (flat_map (frame format) more) → AllByRecursion (IsRecord format) more → Says said then_said n more kept out
    → Progress format then_said before after old new (n + length more) out
unfolding Says
many_more format said then_said before now after old new n kept out more p read small s = record {
  records = p.records ++ more;
  written = p.written;
  count = length-append p.records more ∙ ap (λ k. k + length more) p.count;
  each = all_both (IsRecord format) p.records more p.each small;
  read = subst (Consumes before after) (append_assoc (magic_of format) (flat_map (frame format) p.records) (flat_map (frame format) more) ∙ ap (λ l. magic_of format ++ l) (sym (flat_map-append (frame format) p.records more))) (Consumes-trans _ _ _ _ _ p.read read);
  wrote = p.wrote;
  says = subst (then_said (p.records ++ more)) (append_assoc p.written kept s.0 ∙ ap (λ l. p.written ++ l) (sym s.1)) (s.2 p.records (p.written ++ kept) p.says p.count);
}

-- the input is what was read, and then what is left
holds : (format : Format) (input : List ℕ) (now : Option (List ℕ)) (records : List Record) (rest : List ℕ) → Consumes (Some input) now (file_of format records) → AllByRecursion (IsRecord format) records
    → now ≡ Some rest → Holds format input records rest
holds format input now records rest read each e = record {
  whole = let h = subst (λ m. Consumes (Some input) m (file_of format records)) e read in h ∙ append_assoc (magic_of format) (flat_map (frame format) records) rest;
  each = each;
}

-- the records that were read are the reading of an input, with its end or its fault
reads : (format : Format) (input rest : List ℕ) (records : List Record) (end : Option RunFault) → Consumes (Some input) (Some rest) (file_of format records) → AllByRecursion (IsRecord format) records
    → EndsBy format end (length records) rest → Reads input records end
reads format input rest records end read each ends = record { format = format; rest = rest; holds = holds format input (Some rest) records rest read each refl; ends = ends }

pub ended : (format : Format) (text : List Record → List ℕ) (before now old new : Option (List ℕ)) (n : ℕ) → n ≤ 4294967295 → Finished format text before now old new n → IsAtEnd now → WroteAll text before old new None
unfolding WroteAll
ended format text None now old new n few p end = tt
ended format text (Some input) None old new n few p end = absurd p.read
ended format text (Some input) (Some rest) old new n few p end =
    let fits : length p.records ≤ 4294967295 = rw p.count few in
    (p.records, reads format input rest p.records None p.read p.each (fits, end), p.wrote)

faulted : (format : Format) (text : List Record → List ℕ) (before now old new : Option (List ℕ)) (n : ℕ) (fault : RunFault) → Finished format text before now old new n → IfSome now (EndsBy format (Some fault) n)
    → WroteAll text before old new (Some fault)
unfolding WroteAll
faulted format text None now old new n fault p ends = tt
faulted format text (Some input) None old new n fault p ends = absurd p.read
faulted format text (Some input) (Some rest) old new n fault p ends =
    (p.records, reads format input rest p.records (Some fault) p.read p.each (subst (λ k. EndsBy format (Some fault) k rest) (sym p.count) ends), p.wrote)

cut_off : (format : Format) (text : List Record → List ℕ) (before now after old new : Option (List ℕ)) (n : ℕ) → Finished format text before now old new n → (x : List ℕ) × Consumes now after x × IsPartial format n x
    → WroteRead text before after old new
unfolding WroteRead
cut_off format text before now after old new n p part = (
  file_of format p.records ++ part.0,
  Consumes-trans _ _ _ _ _ p.read part.1,
  inr (format, p.records, part.0, record { whole = append_assoc (magic_of format) (flat_map (frame format) p.records) part.0; each = p.each }, subst (λ k. IsPartial format k part.0) (sym p.count) part.2, p.wrote),
)

-- a read fault before the magic was read
cut_first : (text : List Record → List ℕ) (before after old : Option (List ℕ)) → (x : List ℕ) × Consumes before after x × (length x < 4) → WroteRead text before after old old
unfolding WroteRead
cut_first text before after old part = (part.0, part.1, inl (part.2, Keeps-refl old))

-- the run stops at a fault after the records
pub stops_here : (format : Format) (text : List Record → List ℕ) (fault : RunFault) (before now after old new : Option (List ℕ)) (n : ℕ) → Finished format text before now old new n → FaultHere format fault n now after
    → Stops text fault before after old new
unfolding Stops
stops_here format text CannotRead before now after old new n p h = cut_off format text before now after old new n p h
stops_here format text NotRecordFile before now after old new n p h = absurd h
stops_here format text (CutRecord at) before now after old new n p h = faulted format text before now old new n (CutRecord at) p h
stops_here format text (RecordTooLong at) before now after old new n p h = faulted format text before now old new n (RecordTooLong at) p h
stops_here format text TooManyRecords before now after old new n p h = faulted format text before now old new n TooManyRecords p h
stops_here format text CannotWrite before now after old new n p h = absurd h
stops_here format text CannotReadNorWrite before now after old new n p h = absurd h
stops_here format text NoMemory before now after old new n p h = absurd h

-- the run stops before the records
pub stops_first : (text : List Record → List ℕ) (fault : RunFault) (before after old : Option (List ℕ)) → FaultFirst fault before after → Stops text fault before after old old
unfolding Stops
stops_first text CannotRead before after old h = cut_first text before after old h
stops_first text NotRecordFile before after old h = (h, Keeps-refl old)
stops_first text (CutRecord at) before after old h = absurd h
stops_first text (RecordTooLong at) before after old h = absurd h
stops_first text TooManyRecords before after old h = absurd h
stops_first text CannotWrite before after old h = absurd h
stops_first text CannotReadNorWrite before after old h = absurd h
stops_first text NoMemory before after old h = absurd h

-- nothing was read or written
pub stops_at_once : (text : List Record → List ℕ) (before after old : Option (List ℕ)) → Stops text NoMemory before after old old
unfolding Stops WroteFront
stops_at_once text None after old = ([], Appends-nil old, tt)
stops_at_once text (Some input) after old =
    let front : IsFrontOf text [] input =
    record { front = λ records fault r. (text records, refl); other = λ other. refl } in
    ([], Appends-nil old, front)

-- what was said begins the text of all records, of which those come first that it was said of
abbrev pub SaidIsFront : (List Record → List ℕ → Type 0) → (List Record → List ℕ) → Type 0
SaidIsFront said text = (records more : List Record) (words : List ℕ) → said records words → IsFront words (text (records ++ more))

-- a front of what was said is a front of the whole text
front_on : (written put kept text : List ℕ) → IsFront put kept → IsFront (written ++ kept) text → IsFront (written ++ put) text
front_on written put kept text inner outer = (
  inner.0 ++ outer.0,
  outer.1 ∙ ap (λ l. (written ++ l) ++ outer.0) inner.1 ∙ ap (λ l. l ++ outer.0) (sym (append_assoc written put inner.0)) ∙ append_assoc (written ++ put) inner.0 outer.0,
)

-- the records that were read are the first ones of any reading of the input
read_first : (format : Format) (input : List ℕ) (now : Option (List ℕ)) (records all : List Record) (fault : Option RunFault) → Consumes (Some input) now (file_of format records)
    → AllByRecursion (IsRecord format) records → length records ≤ 4294967295 → Reads input all fault → (more : List Record) × (all ≡ records ++ more)
read_first format input None records all fault read each few r = absurd read
read_first format input (Some left) records all fault read each few r = reading_goes_on format input records all left fault (holds format input (Some left) records left read each refl) few r

-- an input of which the magic was read is a record file
no_other : (format : Format) (input : List ℕ) (now : Option (List ℕ)) (records : List Record)
    → Consumes (Some input) now (file_of format records) → ¬ IsOther input
no_other format input None records read other = absurd read
no_other format input (Some left) records read other =
    other format (flat_map (frame format) records ++ left) (read ∙ append_assoc (magic_of format) (flat_map (frame format) records) left)

-- what begins the text of all records that begin so is a front of the text of the whole input
front_of_all : (format : Format) (whole : List Record → List ℕ) (before now : Option (List ℕ)) (records : List Record) (put : List ℕ) → Consumes before now (file_of format records)
    → AllByRecursion (IsRecord format) records → length records ≤ 4294967295 → ((more : List Record) → IsFront put (whole (records ++ more)))
    → IfSome before (IsFrontOf whole put)
front_of_all format whole None now records put read each few fronts = tt
front_of_all format whole (Some input) now records put read each few fronts = record {
  front = λ all fault r.
      let first = read_first format input now records all fault read each few r in
      subst (λ l. IsFront put (whole l)) (sym first.1) (fronts first.0);
  other = λ other. absurd (no_other format input now records read other);
}

put_front : (format : Format) (said : List Record → List ℕ → Type 0) (text whole : List Record → List ℕ) (before now old mid new : Option (List ℕ)) (n : ℕ) (kept : List ℕ)
    → n ≤ 4294967295 → Progress format said before now old mid n kept → SaidIsFront said text → ((records : List Record) → text records ≡ whole records) → PutsFront mid new kept
    → WroteFront whole before old new
unfolding WroteFront
put_front format said text whole before now old mid new n kept few p fronts same put = (
  p.written ++ take put.0 kept,
  Appends-trans _ _ _ _ _ p.wrote put.1,
  front_of_all format whole before now p.records (p.written ++ take put.0 kept) p.read p.each (rw p.count few) (λ more.
      front_on p.written (take put.0 kept) kept (whole (p.records ++ more)) (drop put.0 kept, sym (take-append-drop put.0 kept))
      (subst (IsFront (p.written ++ kept)) (same (p.records ++ more)) (fronts p.records more (p.written ++ kept) p.says))),
)

pub stops_printing : (format : Format) (said : List Record → List ℕ → Type 0) (text whole : List Record → List ℕ) (before now after old mid new : Option (List ℕ)) (n : ℕ) (kept : List ℕ) (fault : RunFault)
    → n ≤ 4294967295 → (fault ≡ CannotWrite) ⊎ (fault ≡ NoMemory) → PutsFront mid new kept → Progress format said before now old mid n kept → SaidIsFront said text
    → ((records : List Record) → text records ≡ whole records) → Stops whole fault before after old new
unfolding Stops
stops_printing format said text whole before now after old mid new n kept fault few cause put p fronts same =
    let front = put_front format said text whole before now old mid new n kept few p fronts same put in
    elim cause [ inl cannot ↦ rw cannot front | inr none ↦ rw none front ]

-- how the reading of an input ended, of which n records were read: at its end, or at a fault
abbrev pub EndsHere : Format → Option RunFault → ℕ → Option (List ℕ) → Option (List ℕ) → Type 0
EndsHere format None n now after = (n ≤ 4294967295) × IsAtEnd now
EndsHere format (Some fault) n now after = FaultHere format fault n now after

-- the records that were read are all
reads_all : (format : Format) (before now : Option (List ℕ)) (records : List Record) (end : Option RunFault) → Consumes before now (file_of format records) → AllByRecursion (IsRecord format) records
    → IfSome now (EndsBy format end (length records)) → IfSome before (λ input. Reads input records end)
reads_all format None now records end read each ends = tt
reads_all format (Some input) None records end read each ends = absurd read
reads_all format (Some input) (Some rest) records end read each ends = reads format input rest records end read each ends

at_end : (format : Format) (now : Option (List ℕ)) (n : ℕ) → n ≤ 4294967295 → IsAtEnd now → IfSome now (EndsBy format None n)
at_end format None n few end = tt
at_end format (Some rest) n few end = (few, end)

-- where the records are all, a front of their text is a front of the text of the whole input
front_of_these : (whole : List Record → List ℕ) (before : Option (List ℕ)) (records : List Record) (end : Option RunFault) (put : List ℕ) → IfSome before (λ input. Reads input records end)
    → IsFront put (whole records) → IfSome before (IsFrontOf whole put)
front_of_these whole None records end put reads front = tt
front_of_these whole (Some input) records end put reads front = record {
  front = λ all fault r.
      subst (λ l. IsFront put (whole l)) (one_reading input records all end fault reads r).0 front;
  other = λ other. absurd (other reads.format (flat_map (frame reads.format) records ++ reads.rest) reads.holds.whole);
}

-- a front of the text of the records that were read was written, and so is what is left of them
pub wrote_at_end : (format : Format) (whole : List Record → List ℕ) (before now after old new : Option (List ℕ)) (records : List Record) (put : List ℕ) (end : Option RunFault)
    → Consumes before now (file_of format records) → AllByRecursion (IsRecord format) records → EndsHere format end (length records) now after → IsFront put (whole records) → Appends old new put
    → Stops whole (fault_after CannotWrite end) before after old new
unfolding Stops WroteFront WroteReadFront
wrote_at_end format whole before now after old new records put None read each ends front wrote =
    (put, wrote, front_of_these whole before records None put (reads_all format before now records None read each (at_end format now (length records) ends.0 ends.1)) front)
wrote_at_end format whole before now after old new records put (Some CannotRead) read each ends front wrote = (
  file_of format records ++ ends.0,
  Consumes-trans _ _ _ _ _ read ends.1,
  (format, records, ends.0, put, record { whole = append_assoc (magic_of format) (flat_map (frame format) records) ends.0; each = each }, ends.2, front, wrote),
)
wrote_at_end format whole before now after old new records put (Some (CutRecord at)) read each ends front wrote =
    (put, wrote, front_of_these whole before records (Some (CutRecord at)) put (reads_all format before now records (Some (CutRecord at)) read each ends) front)
wrote_at_end format whole before now after old new records put (Some (RecordTooLong at)) read each ends front wrote =
    (put, wrote, front_of_these whole before records (Some (RecordTooLong at)) put (reads_all format before now records (Some (RecordTooLong at)) read each ends) front)
wrote_at_end format whole before now after old new records put (Some TooManyRecords) read each ends front wrote =
    (put, wrote, front_of_these whole before records (Some TooManyRecords) put (reads_all format before now records (Some TooManyRecords) read each ends) front)
wrote_at_end format whole before now after old new records put (Some NotRecordFile) read each ends front wrote = absurd ends
wrote_at_end format whole before now after old new records put (Some CannotWrite) read each ends front wrote = absurd ends
wrote_at_end format whole before now after old new records put (Some CannotReadNorWrite) read each ends front wrote = absurd ends
wrote_at_end format whole before now after old new records put (Some NoMemory) read each ends front wrote = absurd ends

-- the run stops at its last text
pub stops_closing : (format : Format) (said : List Record → List ℕ → Type 0) (text whole : List Record → List ℕ) (before now after old mid new : Option (List ℕ)) (n : ℕ) (kept : List ℕ) (end : Option RunFault) (fault : RunFault)
    → n ≤ 4294967295 → EndsHere format end n now after → Progress format said before now old mid n kept → SaidIsFront said text → ((records : List Record) → text records ≡ whole records) → ClosesNot fault said text mid new kept
    → Stops whole (fault_after fault end) before after old new
unfolding Stops ClosesNot
stops_closing format said text whole before now after old mid new n kept end fault few ends p fronts same c = elim c [
  | inl none ↦
      rw none.0 (put_front format said text whole before now old mid new n kept few p fronts same (0, Appends-kept _ _ _ _ (Appends-nil mid) none.1))
  | inr front ↦
      let all = front.1.2 p.records p.written p.says in
      let put = front.1.0 in
      rw front.0 (
      wrote_at_end format whole before now after old new p.records (p.written ++ take front.1.1.0 put) end p.read p.each (subst (λ k. EndsHere format end k now after) (sym p.count) ends)
      (drop front.1.1.0 put, sym (same p.records) ∙ all ∙ ap (λ l. p.written ++ l) (sym (take-append-drop front.1.1.0 put)) ∙ sym (append_assoc p.written (take front.1.1.0 put) (drop front.1.1.0 put)))
      (Appends-trans _ _ _ _ _ p.wrote front.1.1.1)
      )
]

-- what is to be said after the text that was kept back was written with it
pub closes : (said : List Record → List ℕ → Type 0) (text : List Record → List ℕ) (old new : Option (List ℕ)) (kept out : List ℕ) → Ends said text kept out → Appends old new out
    → Closes said text old new kept
unfolding Ends Closes
closes said text old new kept out e put = (
  out,
  put,
  λ records written s. e.2 records (written ++ kept) s ∙ append_assoc written kept e.0 ∙ ap (λ l. written ++ l) (sym e.1),
)

pub closes_not : (said : List Record → List ℕ → Type 0) (text : List Record → List ℕ) (fault : RunFault) (old new : Option (List ℕ)) (kept out : List ℕ) → fault ≡ CannotWrite → Ends said text kept out
    → PutsFront old new out → ClosesNot fault said text old new kept
unfolding Ends ClosesNot
closes_not said text fault old new kept out same e put = inr (
  same,
  (out, put, λ records written s. e.2 records (written ++ kept) s ∙ append_assoc written kept e.0 ∙ ap (λ l. written ++ l) (sym e.1)),
)

pub closes_without : (said : List Record → List ℕ → Type 0) (text : List Record → List ℕ) (old : Option (List ℕ)) (kept : List ℕ) → ClosesNot NoMemory said text old old kept
unfolding ClosesNot
closes_without said text old kept = inl (refl, Keeps-refl old)

-- the last text is written, or it isn't
pub closes_if : {U : Type 0} (said : List Record → List ℕ → Type 0) (text : List Record → List ℕ) (old new : Option (List ℕ)) (kept out : List ℕ) (r : Result U RunFault) → Ends said text kept out
    → IfErr r (λ fault. fault ≡ CannotWrite) → OnErr r (PutsFront old new out) → IfErr r (λ fault. ClosesNot fault said text old new kept)
closes_if said text old new kept out (Ok x) e fault put = tt
closes_if said text old new kept out (Err f) e fault put = closes_not said text f old new kept out fault e put
