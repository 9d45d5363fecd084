-- Batches that are read one after the other, and held.
use Rattle.std.proofs.Common.{◌≡◌, ℕ, ◌+◌, ◌-◌, ◌<◌, ◌≤◌, List, [], ◌∷◌, ◌++◌, Bool, true, false, Option, None, Some, IfSome, Result, Ok, Err, IfOk, OnOk, refl, length, sym, ap, subst, ◌∙◌, length-append, append-nil, append_assoc, arith}
use Rattle.std.specs.List.{flat_map, AllByRecursion}
use Rattle.std.proofs.lemmas.Grind.{flat_map-append}
use Rattle.std.specs.Io.KnownBytes.{Consumes, IsAtEnd}
use Rattle.std.proofs.KnownBytes.{Consumes-nil, Consumes-trans}
use Rattle.std.proofs.lemmas.List.Elements.{All-push}
use Rattle.rtps_records.specs.Batches.{HasRead, ReadsBatch, records_in}
use Rattle.rtps_records.specs.RecordFile.{EndsBy, FaultFirst, FaultHere, Holds, IsRecord, Reads, Record, Tick, frame, magic_of}
use Rattle.rtps_records.specs.declared.batch.Batch.{Batch}
use Rattle.rtps_records.specs.declared.batch_end.BatchEnd.{BatchEnd}
use Rattle.rtps_records.specs.declared.batch_end.BatchEnd.TheVariants.{End, Fault, More}
use Rattle.rtps_records.specs.declared.batch_end.BatchEnd.TheVariants as batch_end
use Rattle.rtps_records.specs.declared.fault.RunFault.{RunFault}
use Rattle.rtps_records.specs.declared.fault.RunFault.TheVariants.{CannotRead, NotRecordFile, CutRecord, RecordTooLong, TooManyRecords, CannotWrite, CannotReadNorWrite, NoMemory}
use Rattle.rtps_records.specs.declared.format.Format.{Format}
use Rattle.rtps_records.proofs.Progress.{all_both}
use Rattle.rtps_bench.specs.Reading.{AreFew, HasHeld, IsFaultOf, IsRead, goes_on}

-- how much of a file may be left
abbrev pub left_of : BatchEnd → ℕ → ℕ
left_of More count = 4294967296 - count
left_of (batch_end.Tick moment) count = 0
left_of End count = 0
left_of (Fault fault) count = 0

-- records that are read after others
both : (format : Format) (a b c : Option (List ℕ)) (n m k : ℕ) (xs ys : List Record) → HasRead format a b n m xs → HasRead format b c m k ys → HasRead format a c n k (xs ++ ys)
both format a b c n m k xs ys p q = record {
  each = all_both (IsRecord format) xs ys p.each q.each;
  count = let whole = length-append xs ys in omega (arith, whole, p.count, q.count);
  few = λ few. q.few (p.few few);
  read = subst (Consumes a c) (sym (flat_map-append (frame format) xs ys)) (Consumes-trans _ _ _ _ _ p.read q.read);
}

-- a batch is read after others
after_more : (format : Format) (end : BatchEnd) (first now here : Option (List ℕ)) (n m : ℕ) (xs ys : List Record) → HasHeld format More first now n xs → HasRead format now here n m ys → HasRead format first here 0 m (xs ++ ys)
after_more format end first now here n m xs ys held read =
    both format first now here 0 n m xs ys (subst (λ o. HasRead format first o 0 n xs) (sym held.follows) held.read) read

-- the datagrams of a batch, without the tick that ended it
datagrams_read : (format : Format) (last : BatchEnd) (now after : Option (List ℕ)) (n m : ℕ) (ys : List Record) → (r : ReadsBatch format now after n m ys last) → HasRead format now r.here n (n + length ys) ys
datagrams_read format last now after n m ys r = record {
  each = r.each;
  count = refl;
  few = λ few. let whole = r.few few in omega (arith, whole, r.count);
  read = r.read;
}

-- a batch was read that no tick ended
pub held_more : (format : Format) (first now after : Option (List ℕ)) (n m : ℕ) (xs ys : List Record) (end : BatchEnd) → ((moment : ℕ) → ¬ (end ≡ batch_end.Tick moment))
    → HasHeld format More first now n xs → ReadsBatch format now after n m ys end → HasHeld format end first after m (xs ++ ys)
held_more format first now after n m xs ys More plain held r =
    let same : n + length ys ≡ m = omega (arith, r.count) in
    subst (λ k. HasHeld format More first after k (xs ++ ys)) same
    (record { here = r.here; read = after_more format More first now r.here n (n + length ys) xs ys held (datagrams_read format More now after n m ys r); follows = r.ends.1 })
held_more format first now after n m xs ys (batch_end.Tick moment) plain held r = absurd (plain moment refl)
held_more format first now after n m xs ys End plain held r =
    let same : n + length ys ≡ m = omega (arith, r.count) in
    subst (λ k. HasHeld format End first after k (xs ++ ys)) same
    (record { here = r.here; read = after_more format End first now r.here n (n + length ys) xs ys held (datagrams_read format End now after n m ys r); follows = r.ends })
held_more format first now after n m xs ys (Fault fault) plain held r =
    let same : n + length ys ≡ m = omega (arith, r.count) in
    subst (λ k. HasHeld format (Fault fault) first after k (xs ++ ys)) same
    (record { here = r.here; read = after_more format (Fault fault) first now r.here n (n + length ys) xs ys held (datagrams_read format (Fault fault) now after n m ys r); follows = r.ends })

-- a batch was read, and the tick that ended it
pub held_tick : (format : Format) (first now after : Option (List ℕ)) (n m moment : ℕ) (xs ys : List Record) → HasHeld format More first now n xs → ReadsBatch format now after n m ys (batch_end.Tick moment)
    → HasHeld format More first after m ((xs ++ ys) ++ Tick moment ∷ [])
held_tick format first now after n m moment xs ys held r =
    let before = after_more format (batch_end.Tick moment) first now r.here n (n + length ys) xs ys held (datagrams_read format (batch_end.Tick moment) now after n m ys r) in
    let one : HasRead format r.here after (n + length ys) m (Tick moment ∷ []) = record {
      each = (r.ends.1, tt);
      count = r.count;
      few = λ few. let least = r.ends.0 in omega (arith, least, r.count);
      read = subst (Consumes r.here after) (sym (append-nil (frame format (Tick moment)))) r.ends.2;
    } in
    record { here = after; read = both format first r.here after 0 (n + length ys) m (xs ++ ys) (Tick moment ∷ []) before one; follows = refl }

-- one batch more
pub batches_more : {A : Type 0} (all before : List (Batch A)) (last : Batch A) → all ≡ before ++ last ∷ [] → flat_map records_in all ≡ flat_map records_in before ++ records_in last
batches_more all before last more =
    ap (flat_map records_in) more ∙ flat_map-append records_in before (last ∷ []) ∙ ap (λ l. flat_map records_in before ++ l) (append-nil (records_in last))

-- if a call says that more may follow, this is what it says
pub if_more : {E : Type 0} (r : Result BatchEnd E) (P : BatchEnd → Type 0) (Q : Type 0) → IfOk r (λ end. end ≡ More) → OnOk r Q → (Q → P More) → IfOk r P
if_more (Ok end) P Q is q more = subst P (sym is) (more q)
if_more (Err e) P Q is q more = tt

-- nothing was read yet
pub held_none : (format : Format) (first : Option (List ℕ)) → Consumes first first [] → HasHeld format More first first 0 []
held_none format first nothing = record { here = first; read = record { each = tt; count = refl; few = λ few. few; read = nothing }; follows = refl }

-- ---- the whole input

-- the octets of a file that begins with these records
abbrev file_of : Format → List Record → List ℕ
file_of format records = magic_of format ++ flat_map (frame format) records

read_to : (format : Format) (input here : Option (List ℕ)) (records : List Record) (fault : Option RunFault) → Consumes input here (file_of format records) → AllByRecursion (IsRecord format) records
    → IfSome here (EndsBy format fault (length records)) → IsRead input records fault
read_to format None here records fault read each ends = tt
read_to format (Some input) None records fault read each ends = absurd read
read_to format (Some input) (Some rest) records fault read each ends = record {
  format = format;
  rest = rest;
  holds = record { whole = read ∙ append_assoc (magic_of format) (flat_map (frame format) records) rest; each = each };
  ends = ends;
}

whole_read : (format : Format) (input first here : Option (List ℕ)) (m : ℕ) (records : List Record) → Consumes input first (magic_of format) → HasRead format first here 0 m records → Consumes input here (file_of format records)
whole_read format input first here m records magic read = Consumes-trans _ _ _ _ _ magic read.read

at_end : (format : Format) (here : Option (List ℕ)) (n : ℕ) → n ≤ 4294967295 → IsAtEnd here → IfSome here (EndsBy format None n)
at_end format None n few end = tt
at_end format (Some rest) n few end = (few, end)

-- the input begins as a file of this format does, and m records after that are held
abbrev pub IsHolding : Format → BatchEnd → Option (List ℕ) → Option (List ℕ) → ℕ → List Record → Type 0
IsHolding format end input now m records = (first : Option (List ℕ)) × Consumes input first (magic_of format) × HasHeld format end first now m records

pub begun : (format : Format) (input first : Option (List ℕ)) → Consumes input first (magic_of format) → IsHolding format More input first 0 []
begun format input first magic = (first, magic, held_none format first (Consumes-nil first))

-- it was read to its end
pub read_whole : (format : Format) (input now : Option (List ℕ)) (m : ℕ) (records : List Record) → IsHolding format End input now m records → IsRead input records None
read_whole format input now m records (first, magic, held) =
    let few : length records ≤ 4294967295 = let all = held.read.few (omega arith) in omega (arith, all, held.read.count) in
    read_to format input held.here records None (whole_read format input first held.here m records magic held.read) held.read.each (at_end format held.here (length records) few held.follows)

-- it was read to its end, if nothing follows and there is no fault
pub read_last : (format : Format) (end : BatchEnd) (input now : Option (List ℕ)) (m : ℕ) (records : List Record) → goes_on end ≡ false → ((fault : RunFault) → ¬ (end ≡ Fault fault))
    → IsHolding format end input now m records → IsRead input records None
read_last format More input now m records off sound h = cc
read_last format (batch_end.Tick moment) input now m records off sound (first, magic, held) = absurd held.follows
read_last format End input now m records off sound h = read_whole format input now m records h
read_last format (Fault fault) input now m records off sound h = absurd (sound fault refl)

-- a batch was read, and perhaps a tick
pub held_on : (format after_format : Format) (last end : BatchEnd) (input now after : Option (List ℕ)) (n m : ℕ) (xs ys : List Record) → after_format ≡ format → goes_on last ≡ true
    → ((first : Option (List ℕ)) → HasHeld format More first now n xs → HasHeld format end first after m ys) → IsHolding format last input now n xs → IsHolding after_format end input after m ys
held_on format after_format More end input now after n m xs ys same on step (first, magic, held) = subst (λ (f : Format). IsHolding f end input after m ys) (sym same) (first, magic, step first held)
held_on format after_format (batch_end.Tick moment) end input now after n m xs ys same on step h = cc
held_on format after_format End end input now after n m xs ys same on step h = cc
held_on format after_format (Fault fault) end input now after n m xs ys same on step h = cc

-- there are no more records than there may be
pub few_held : (format : Format) (end : BatchEnd) (input now : Option (List ℕ)) (m : ℕ) (records : List Record) → IsHolding format end input now m records → m ≤ 4294967295
few_held format end input now m records (first, magic, held) = held.read.few (omega arith)

-- after one more batch less is left
pub less_left : (last end : BatchEnd) (n m : ℕ) → goes_on last ≡ true → n ≤ 4294967295 → (end ≡ More → (n < m) × (m ≤ 4294967295)) → left_of end m < left_of last n
less_left (batch_end.Tick moment) end n m on few rises = cc
less_left End end n m on few rises = cc
less_left (Fault fault) end n m on few rises = cc
less_left More More n m on few rises = let more = rises refl in omega (arith, few, more.0, more.1)
less_left More (batch_end.Tick moment) n m on few rises = omega (arith, few)
less_left More End n m on few rises = omega (arith, few)
less_left More (Fault fault) n m on few rises = omega (arith, few)

-- a batch after which more may follow has a record
pub rises : (format : Format) (now after : Option (List ℕ)) (n m : ℕ) (ys : List Record) (end : BatchEnd) → ReadsBatch format now after n m ys end → n ≤ 4294967295 → end ≡ More → (n < m) × (m ≤ 4294967295)
rises format now after n m ys More r few is = (omega (arith, r.count, r.ends.0), r.few few)
rises format now after n m ys (batch_end.Tick moment) r few is = cc
rises format now after n m ys End r few is = cc
rises format now after n m ys (Fault fault) r few is = cc

-- it was read to a fault
faulted : (format : Format) (input first here : Option (List ℕ)) (m : ℕ) (records : List Record) (fault : RunFault) → Consumes input first (magic_of format) → HasRead format first here 0 m records
    → IfSome here (EndsBy format (Some fault) m) → (rs : List Record) × IsRead input rs (Some fault)
faulted format input first here m records fault magic read ends =
    let same : m ≡ length records = omega (arith, read.count) in
    (records, read_to format input here records (Some fault) (whole_read format input first here m records magic read) read.each (subst (λ k. IfSome here (EndsBy format (Some fault) k)) same ends))

pub read_fault : (format : Format) (input now : Option (List ℕ)) (m : ℕ) (records : List Record) (fault : RunFault) → IsHolding format (Fault fault) input now m records → IsFaultOf input fault
read_fault format input now m records CannotRead (first, magic, held) = tt
read_fault format input now m records NotRecordFile (first, magic, held) = absurd held.follows
read_fault format input now m records (CutRecord at) (first, magic, held) = faulted format input first held.here m records (CutRecord at) magic held.read held.follows
read_fault format input now m records (RecordTooLong at) (first, magic, held) = faulted format input first held.here m records (RecordTooLong at) magic held.read held.follows
read_fault format input now m records TooManyRecords (first, magic, held) = faulted format input first held.here m records TooManyRecords magic held.read held.follows
read_fault format input now m records CannotWrite (first, magic, held) = absurd held.follows
read_fault format input now m records CannotReadNorWrite (first, magic, held) = absurd held.follows
read_fault format input now m records NoMemory (first, magic, held) = tt

-- it is no record file
pub first_fault : (input after : Option (List ℕ)) (fault : RunFault) → FaultFirst fault input after → IsFaultOf input fault
first_fault input after CannotRead h = tt
first_fault input after NotRecordFile h = h
first_fault input after (CutRecord at) h = absurd h
first_fault input after (RecordTooLong at) h = absurd h
first_fault input after TooManyRecords h = absurd h
first_fault input after CannotWrite h = absurd h
first_fault input after CannotReadNorWrite h = absurd h
first_fault input after NoMemory h = absurd h

-- one batch more that has few records
pub few_more : {A : Type 0} (all before : List (Batch A)) (last : Batch A) → all ≡ before ++ last ∷ [] → AreFew before → length (records_in last) ≤ 4096 → AreFew all
few_more all before last more few one = subst AreFew (sym more) (All-push (λ batch. length (records_in batch) ≤ 4096) before last few one)
