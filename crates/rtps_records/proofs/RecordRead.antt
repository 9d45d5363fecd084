-- What the reads of the parts of a record say of the record.
use Rattle.std.proofs.Common.{◌≡◌, ℕ, ◌+◌, ◌<◌, ◌≤◌, ◌^◌, ◌==◌, nat_le, true, false, inr, List, [], ◌++◌, Option, None, Some, IfSome, arith, refl, length, sym, ap, subst, ◌∙◌, length-append, append-nil}
use Rattle.std.proofs.lemmas.Bool.Decides.{nat_tests}
use Rattle.std.proofs.lemmas.Nat.{from_be_bytes-to_be_bytes_4}
use Rattle.std.specs.Int.{w32, w64, to_be_bytes}
use Rattle.std.specs.Io.KnownBytes.{Consumes, IsAtEnd}
use Rattle.std.proofs.KnownBytes.{Consumes-trans}
use Rattle.rtps_records.specs.Parts.{FaultInside}
use Rattle.rtps_records.specs.RecordFile.{EndsBy, FaultHere, IsCut, IsOther, IsShort, magic_of, octets_after, stamp, stated_length, tick_length}
use Rattle.rtps_records.specs.declared.fault.RunFault.{RunFault}
use Rattle.rtps_records.specs.declared.fault.RunFault.TheVariants.{CannotRead, NotRecordFile, CutRecord, RecordTooLong, TooManyRecords, CannotWrite, CannotReadNorWrite, NoMemory}
use Rattle.rtps_records.specs.declared.format.Format.{Format}
use Rattle.rtps_records.specs.declared.format.Format.TheVariants.{Rdg1, Rdg2}

-- octets that were read up to the end of the file are all of it
all_read : (P : List ℕ → Type 0) (a b : Option (List ℕ)) (bs : List ℕ) → Consumes a b bs → IsAtEnd b → P bs → IfSome a P
all_read P None b bs read end p = tt
all_read P (Some x) None bs read end p = absurd read
all_read P (Some x) (Some y) bs read end p = subst P (sym (read ∙ ap (λ l. bs ++ l) end ∙ append-nil bs)) p

stated_front : (stated : ℕ) (rest : List ℕ) → stated < 2 ^ 32 → stated_length (to_be_bytes w32 stated ++ rest) ≡ stated
stated_front stated rest fits = from_be_bytes-to_be_bytes_4 stated fits

-- a length, and fewer octets than come after it
cut_record : (format : Format) (stated n : ℕ) (part : List ℕ) → stated < 2 ^ 32 → octets_after format stated ≡ Some n → length part < n → IsCut format (to_be_bytes w32 stated ++ part)
cut_record format stated n part fits after short =
    let long : length (to_be_bytes w32 stated ++ part) ≡ 4 + length part = length-append (to_be_bytes w32 stated) part in
    let less : length (to_be_bytes w32 stated ++ part) < 4 + n = omega (arith, long, short) in
    let same : Some n ≡ octets_after format (stated_length (to_be_bytes w32 stated ++ part)) = sym after ∙ ap (octets_after format) (sym (stated_front stated part fits)) in
    (omega (arith, long), inr (omega (arith, long), subst (IsShort (to_be_bytes w32 stated ++ part)) same less))

-- the fault after a length and some of the octets after it
inside : (format : Format) (fault : RunFault) (a b c : Option (List ℕ)) (number stated n asked : ℕ) (front : List ℕ) → number < 4294967295 → stated < 2 ^ 32 → octets_after format stated ≡ Some n
    → length front + asked ≤ n → Consumes a b (to_be_bytes w32 stated ++ front) → FaultInside fault number asked b c → FaultHere format fault number a c
inside format CannotRead a b c number stated n asked front below fits after within read (taken, part, short) = (
  to_be_bytes w32 stated ++ (front ++ taken),
  Consumes-trans a b c (to_be_bytes w32 stated ++ front) taken read part,
  inr (below, cut_record format stated n (front ++ taken) fits after (omega (arith, within, short, length-append front taken))),
)
inside format (CutRecord at) a b c number stated n asked front below fits after within read (same, (taken, part, short), end) =
    all_read (EndsBy format (Some (CutRecord at)) number) a c (to_be_bytes w32 stated ++ (front ++ taken))
    (Consumes-trans a b c (to_be_bytes w32 stated ++ front) taken read part) end
    (same, below, cut_record format stated n (front ++ taken) fits after (omega (arith, within, short, length-append front taken)))
inside format NotRecordFile a b c number stated n asked front below fits after within read h = absurd h
inside format (RecordTooLong at) a b c number stated n asked front below fits after within read h = absurd h
inside format TooManyRecords a b c number stated n asked front below fits after within read h = absurd h
inside format CannotWrite a b c number stated n asked front below fits after within read h = absurd h
inside format CannotReadNorWrite a b c number stated n asked front below fits after within read h = absurd h
inside format NoMemory a b c number stated n asked front below fits after within read h = absurd h

small : (stated : ℕ) → stated ≤ 65507 → nat_le stated 65507 ≡ true
small stated le = grind (arith, nat_tests)

other : (stated : ℕ) → ¬ (stated ≡ 4294967295) → (stated == tick_length) ≡ false
other stated ne = grind (arith, nat_tests)

-- the fault after a tick's length
pub tick_inside : (format : Format) (fault : RunFault) (a b c : Option (List ℕ)) (number stated : ℕ) → format ≡ Rdg2 → number < 4294967295 → stated ≡ 4294967295 → Consumes a b (to_be_bytes w32 stated)
    → FaultInside fault number 8 b c → FaultHere format fault number a c
tick_inside format fault a b c number stated is below tick read h =
    subst (λ f. FaultHere f fault number a c) (sym is)
    (inside Rdg2 fault a b c number stated 8 8 [] below (omega (arith, tick)) (ap (octets_after Rdg2) tick) (omega arith) read h)

-- the fault after a datagram's length
pub moment_inside : (format : Format) (fault : RunFault) (a b c : Option (List ℕ)) (number stated : ℕ) → format ≡ Rdg2 → number < 4294967295 → stated ≤ 65507 → Consumes a b (to_be_bytes w32 stated)
    → FaultInside fault number 8 b c → FaultHere format fault number a c
moment_inside format fault a b c number stated is below fits read h =
    let no_tick = other stated (λ e. absurd (omega (arith, e, fits))) in
    let le = small stated fits in
    subst (λ f. FaultHere f fault number a c) (sym is)
    (inside Rdg2 fault a b c number stated (8 + stated) 8 [] below (omega (arith, fits)) (rw (no_tick, le) refl) (omega arith) read h)

-- the fault after a datagram's moment
pub octets_inside : (format : Format) (fault : RunFault) (a b c d : Option (List ℕ)) (number stated moment asked : ℕ) → number < 4294967295 → stated ≤ 65507 → Consumes a b (to_be_bytes w32 stated)
    → Consumes b c (stamp format moment) → FaultInside fault number asked c d → asked ≡ stated → FaultHere format fault number a d
octets_inside Rdg1 fault a b c d number stated moment asked below fits read next h same =
    let le = small stated fits in
    inside Rdg1 fault a c d number stated stated asked [] below (omega (arith, fits)) (rw le refl) (omega (arith, same)) (Consumes-trans a b c (to_be_bytes w32 stated) [] read next) h
octets_inside Rdg2 fault a b c d number stated moment asked below fits read next h same =
    let no_tick = other stated (λ e. absurd (omega (arith, e, fits))) in
    let le = small stated fits in
    inside Rdg2 fault a c d number stated (8 + stated) asked (to_be_bytes w64 moment) below (omega (arith, fits)) (rw (no_tick, le) refl) (omega (arith, same))
    (Consumes-trans a b c (to_be_bytes w32 stated) (to_be_bytes w64 moment) read next) h

-- too few octets for a magic
pub other_short : (a b : Option (List ℕ)) (bs : List ℕ) → Consumes a b bs → IsAtEnd b → length bs < 4 → IfSome a IsOther
other_short a b bs read end short = all_read IsOther a b bs read end (λ format more e. absurd (too_short format more e))
  where
    too_short : (f : Format) (more : List ℕ) → bs ≡ magic_of f ++ more → ⊥
    too_short Rdg1 more e = let same = ap length e in omega (arith, same, short)
    too_short Rdg2 more e = let same = ap length e in omega (arith, same, short)
