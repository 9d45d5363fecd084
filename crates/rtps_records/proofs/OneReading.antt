-- Octets have one reading.
use Rattle.std.proofs.Common.{◌≡◌, ℕ, suc, ◌+◌, ◌<◌, ◌≤◌, inl, inr, Option, None, Some, List, [], ◌∷◌, ◌++◌, arith, refl, length, drop, sym, ap, subst, ◌∙◌, length-append, append_assoc, zero-add}
use Rattle.std.specs.List.{flat_map, AllByRecursion}
use Rattle.rtps_records.specs.declared.fault.RunFault.{RunFault}
use Rattle.rtps_records.specs.declared.fault.RunFault.TheVariants.{CannotRead, NotRecordFile, CutRecord, RecordTooLong, TooManyRecords, CannotWrite, CannotReadNorWrite, NoMemory}
use Rattle.std.proofs.lemmas.List.{append_cancel_left}
use Rattle.rtps_records.specs.RecordFile.{Record, EndsBy, Holds, IsRecord, IsShort, OneReading, Reads, body_of, octets_after, frame, magic_of, stated_length}
use Rattle.rtps_records.specs.declared.format.Format.{Format}
use Rattle.rtps_records.specs.declared.format.Format.TheVariants.{Rdg1, Rdg2}
use Rattle.rtps_records.proofs.Frames.{body_length, frame_same, stated_front}

-- the number of octets after the length of a whole record is that of its body
follow_front : (f : Format) (x : List ℕ) (r : Record) (y : List ℕ) → x ≡ frame f r ++ y → IsRecord f r → octets_after f (stated_length x) ≡ Some (length (body_of f r))
follow_front f x r y e is = ap (λ l. octets_after f (stated_length l)) e ∙ ap (octets_after f) (stated_front f r y is) ∙ body_length f r is

long_front : (f : Format) (x : List ℕ) (r : Record) (y : List ℕ) → x ≡ frame f r ++ y → length x ≡ 4 + (length (body_of f r) + length y)
long_front f x r y e = ap length e ∙ omega (arith, length-append (body_of f r) y)

-- nothing ends where a whole record is
no_end : (f : Format) (g : Option RunFault) (n : ℕ) (x : List ℕ) (r : Record) (y : List ℕ) → x ≡ frame f r ++ y → IsRecord f r → n < 4294967295 → EndsBy f g n x → ⊥
no_end f None n x r y e is few h = let none = ap length h.1 in let long = long_front f x r y e in omega arith
no_end f (Some (CutRecord at)) n x r y e is few h =
    let long = long_front f x r y e in
    elim h.2.1 [ inl short ↦ omega arith | inr cut ↦ (let less : length x < 4 + length (body_of f r) = subst (IsShort x) (follow_front f x r y e is) cut.1 in omega arith) ]
no_end f (Some (RecordTooLong at)) n x r y e is few h = let bad : Some (length (body_of f r)) ≡ None = sym (follow_front f x r y e is) ∙ h.2.1 in cc
no_end f (Some TooManyRecords) n x r y e is few h = let same = h.0 in omega arith
no_end f (Some NotRecordFile) n x r y e is few h = h
no_end f (Some CannotRead) n x r y e is few h = h
no_end f (Some CannotWrite) n x r y e is few h = h
no_end f (Some CannotReadNorWrite) n x r y e is few h = h
no_end f (Some NoMemory) n x r y e is few h = h

at_most : (f : Format) (g : Option RunFault) (n : ℕ) (x : List ℕ) → EndsBy f g n x → n ≤ 4294967295
at_most f None n x h = h.0
at_most f (Some (CutRecord at)) n x h = let few = h.1 in omega arith
at_most f (Some (RecordTooLong at)) n x h = let few = h.1 in omega arith
at_most f (Some TooManyRecords) n x h = let same = h.0 in omega arith
at_most f (Some NotRecordFile) n x h = absurd h
at_most f (Some CannotRead) n x h = absurd h
at_most f (Some CannotWrite) n x h = absurd h
at_most f (Some CannotReadNorWrite) n x h = absurd h
at_most f (Some NoMemory) n x h = absurd h

records_same : (t : Format) (rs ss : List Record) (n : ℕ) (x y : List ℕ) (f g : Option RunFault) → AllByRecursion (IsRecord t) rs → AllByRecursion (IsRecord t) ss
    → flat_map (frame t) rs ++ x ≡ flat_map (frame t) ss ++ y → EndsBy t f (n + length rs) x → EndsBy t g (n + length ss) y → rs ≡ ss
records_same t [] [] n x y f g p q e h k = refl
records_same t [] (s ∷ ss) n x y f g p q e h k =
    let most = at_most t g _ y k in
    absurd (no_end t f _ x s (flat_map (frame t) ss ++ y) (e ∙ append_assoc (frame t s) (flat_map (frame t) ss) y) q.0 (omega arith) h)
records_same t (r ∷ rs) [] n x y f g p q e h k =
    let most = at_most t f _ x h in
    absurd (no_end t g _ y r (flat_map (frame t) rs ++ x) (sym e ∙ append_assoc (frame t r) (flat_map (frame t) rs) x) p.0 (omega arith) k)
records_same t (r ∷ rs) (s ∷ ss) n x y f g p q e h k =
    let both = frame_same t r s (flat_map (frame t) rs ++ x) (flat_map (frame t) ss ++ y) p.0 q.0 (sym (append_assoc (frame t r) (flat_map (frame t) rs) x) ∙ e ∙ append_assoc (frame t s) (flat_map (frame t) ss) y) in
    let up : (m : ℕ) → n + suc m ≡ (n + 1) + m = λ m. omega arith in
    let rest = records_same t rs ss (n + 1) x y f g p.1 q.1 both.1 (subst (λ i. EndsBy t f i x) (up (length rs)) h) (subst (λ i. EndsBy t g i y) (up (length ss)) k) in
    ap (λ u. u ∷ rs) both.0 ∙ ap (λ l. s ∷ l) rest

-- what is short isn't too long
short_some : (x : List ℕ) (o : Option ℕ) → IsShort x o → o ≡ None → ⊥
short_some x None h e = h
short_some x (Some n) h e = cc

-- there is one end at one place
ends_same : (t : Format) (n : ℕ) (x : List ℕ) (f g : Option RunFault) → EndsBy t f n x → EndsBy t g n x → f ≡ g
ends_same t n x None None h k = refl
ends_same t n x None (Some (CutRecord at)) h k = let none = ap length h.1 in let some = k.2.0 in absurd (omega arith)
ends_same t n x None (Some (RecordTooLong at)) h k = let none = ap length h.1 in let some = k.2.0 in absurd (omega arith)
ends_same t n x None (Some TooManyRecords) h k = let none = ap length h.1 in let some = k.1 in absurd (omega arith)
ends_same t n x (Some (CutRecord at)) None h k = let none = ap length k.1 in let some = h.2.0 in absurd (omega arith)
ends_same t n x (Some (CutRecord at)) (Some (CutRecord to)) h k = ap (λ m. Some (CutRecord m)) (h.0 ∙ sym k.0)
ends_same t n x (Some (CutRecord at)) (Some (RecordTooLong to)) h k =
    let enough = k.2.0 in
    elim h.2.1 [ inl short ↦ absurd (omega arith) | inr cut ↦ absurd (short_some x (octets_after t (stated_length x)) cut.1 k.2.1) ]
ends_same t n x (Some (CutRecord at)) (Some TooManyRecords) h k = let few = h.1 in let top = k.0 in absurd (omega arith)
ends_same t n x (Some (RecordTooLong at)) None h k = let none = ap length k.1 in let some = h.2.0 in absurd (omega arith)
ends_same t n x (Some (RecordTooLong at)) (Some (CutRecord to)) h k =
    let enough = h.2.0 in
    elim k.2.1 [ inl short ↦ absurd (omega arith) | inr cut ↦ absurd (short_some x (octets_after t (stated_length x)) cut.1 h.2.1) ]
ends_same t n x (Some (RecordTooLong at)) (Some (RecordTooLong to)) h k = ap (λ m. Some (RecordTooLong m)) (h.0 ∙ sym k.0)
ends_same t n x (Some (RecordTooLong at)) (Some TooManyRecords) h k = let few = h.1 in let top = k.0 in absurd (omega arith)
ends_same t n x (Some TooManyRecords) None h k = let none = ap length k.1 in let some = h.1 in absurd (omega arith)
ends_same t n x (Some TooManyRecords) (Some (CutRecord to)) h k = let few = k.1 in let top = h.0 in absurd (omega arith)
ends_same t n x (Some TooManyRecords) (Some (RecordTooLong to)) h k = let few = k.1 in let top = h.0 in absurd (omega arith)
ends_same t n x (Some TooManyRecords) (Some TooManyRecords) h k = refl
ends_same t n x (Some NotRecordFile) g h k = absurd h
ends_same t n x (Some CannotRead) g h k = absurd h
ends_same t n x (Some CannotWrite) g h k = absurd h
ends_same t n x (Some CannotReadNorWrite) g h k = absurd h
ends_same t n x (Some NoMemory) g h k = absurd h
ends_same t n x None (Some NotRecordFile) h k = absurd k
ends_same t n x None (Some CannotRead) h k = absurd k
ends_same t n x None (Some CannotWrite) h k = absurd k
ends_same t n x None (Some CannotReadNorWrite) h k = absurd k
ends_same t n x None (Some NoMemory) h k = absurd k
ends_same t n x (Some (CutRecord at)) (Some NotRecordFile) h k = absurd k
ends_same t n x (Some (CutRecord at)) (Some CannotRead) h k = absurd k
ends_same t n x (Some (CutRecord at)) (Some CannotWrite) h k = absurd k
ends_same t n x (Some (CutRecord at)) (Some CannotReadNorWrite) h k = absurd k
ends_same t n x (Some (CutRecord at)) (Some NoMemory) h k = absurd k
ends_same t n x (Some (RecordTooLong at)) (Some NotRecordFile) h k = absurd k
ends_same t n x (Some (RecordTooLong at)) (Some CannotRead) h k = absurd k
ends_same t n x (Some (RecordTooLong at)) (Some CannotWrite) h k = absurd k
ends_same t n x (Some (RecordTooLong at)) (Some CannotReadNorWrite) h k = absurd k
ends_same t n x (Some (RecordTooLong at)) (Some NoMemory) h k = absurd k
ends_same t n x (Some TooManyRecords) (Some NotRecordFile) h k = absurd k
ends_same t n x (Some TooManyRecords) (Some CannotRead) h k = absurd k
ends_same t n x (Some TooManyRecords) (Some CannotWrite) h k = absurd k
ends_same t n x (Some TooManyRecords) (Some CannotReadNorWrite) h k = absurd k
ends_same t n x (Some TooManyRecords) (Some NoMemory) h k = absurd k

-- and one format
abbrev fourth : List ℕ → ℕ
fourth (a ∷ b ∷ c ∷ d ∷ rest) = d
fourth others = 0

formats_same : (t u : Format) (x y : List ℕ) → magic_of t ++ x ≡ magic_of u ++ y → t ≡ u
formats_same Rdg1 Rdg1 x y e = refl
formats_same Rdg2 Rdg2 x y e = refl
formats_same Rdg1 Rdg2 x y e = let bad : 49 ≡ 50 = ap fourth e in absurd (omega (arith, bad))
formats_same Rdg2 Rdg1 x y e = let bad : 50 ≡ 49 = ap fourth e in absurd (omega (arith, bad))

without_magic : (t : Format) (x y : List ℕ) → magic_of t ++ x ≡ magic_of t ++ y → x ≡ y
without_magic Rdg1 x y e = ap (drop 4) e
without_magic Rdg2 x y e = ap (drop 4) e

in_one_format : (t : Format) (rs ss : List Record) (x y : List ℕ) (f g : Option RunFault) → AllByRecursion (IsRecord t) rs → AllByRecursion (IsRecord t) ss → flat_map (frame t) rs ++ x ≡ flat_map (frame t) ss ++ y
    → EndsBy t f (length rs) x → EndsBy t g (length ss) y → (rs ≡ ss) × (f ≡ g)
in_one_format t rs ss x y f g p q same h k =
    let records : rs ≡ ss = records_same t rs ss 0 x y f g p q same (subst (λ i. EndsBy t f i x) (sym (zero-add _)) h) (subst (λ i. EndsBy t g i y) (sym (zero-add _)) k) in
    let front = ap (λ l. flat_map (frame t) l ++ x) (sym records) in
    let rests : x ≡ y = append_cancel_left (flat_map (frame t) ss) x y (front ∙ same) in
    let moved : EndsBy t f (length ss) y = subst (λ l. EndsBy t f (length ss) l) rests (subst (λ l. EndsBy t f (length l) x) records h) in
    (records, ends_same t (length ss) y f g moved k)

-- whole records that come first are the first ones of any reading
pub records_first : (t : Format) (rs ss : List Record) (n : ℕ) (x y : List ℕ) (g : Option RunFault) → AllByRecursion (IsRecord t) rs → AllByRecursion (IsRecord t) ss
    → flat_map (frame t) rs ++ x ≡ flat_map (frame t) ss ++ y → n + length rs ≤ 4294967295 → EndsBy t g (n + length ss) y → (more : List Record) × (ss ≡ rs ++ more)
records_first t [] ss n x y g p q e few k = (ss, refl)
records_first t (r ∷ rs) [] n x y g p q e few k =
    absurd (no_end t g _ y r (flat_map (frame t) rs ++ x) (sym e ∙ append_assoc (frame t r) (flat_map (frame t) rs) x) p.0 (omega arith) k)
records_first t (r ∷ rs) (s ∷ ss) n x y g p q e few k =
    let both = frame_same t r s (flat_map (frame t) rs ++ x) (flat_map (frame t) ss ++ y) p.0 q.0 (sym (append_assoc (frame t r) (flat_map (frame t) rs) x) ∙ e ∙ append_assoc (frame t s) (flat_map (frame t) ss) y) in
    let up : n + suc (length ss) ≡ (n + 1) + length ss = omega arith in
    let rest = records_first t rs ss (n + 1) x y g p.1 q.1 both.1 (omega arith) (subst (λ i. EndsBy t g i y) up k) in
    (rest.0, ap (λ u. u ∷ ss) (sym both.0) ∙ ap (λ l. r ∷ l) rest.1)

-- whole records at the front of an input are the first ones of any reading of it
pub reading_goes_on : (t : Format) (input : List ℕ) (rs ss : List Record) (x : List ℕ) (g : Option RunFault) → Holds t input rs x → length rs ≤ 4294967295
    → Reads input ss g → (more : List Record) × (ss ≡ rs ++ more)
reading_goes_on t input rs ss x g p few q =
    let both : magic_of t ++ (flat_map (frame t) rs ++ x) ≡ magic_of q.format ++ (flat_map (frame q.format) ss ++ q.rest) = sym p.whole ∙ q.holds.whole in
    let one : t ≡ q.format = formats_same t q.format (flat_map (frame t) rs ++ x) (flat_map (frame q.format) ss ++ q.rest) both in
    records_first t rs ss 0 x q.rest g p.each (subst (λ u. AllByRecursion (IsRecord u) ss) (sym one) q.holds.each)
    (without_magic t (flat_map (frame t) rs ++ x) (flat_map (frame t) ss ++ q.rest) (both ∙ ap (λ u. magic_of u ++ (flat_map (frame u) ss ++ q.rest)) (sym one)))
    (omega (arith, few)) (subst (λ k. EndsBy t g k q.rest) (sym (zero-add (length ss))) (subst (λ u. EndsBy u g (length ss) q.rest) (sym one) q.ends))

pub one_reading : OneReading
one_reading octets rs ss f g p q =
    let both : magic_of p.format ++ (flat_map (frame p.format) rs ++ p.rest) ≡ magic_of q.format ++ (flat_map (frame q.format) ss ++ q.rest) = sym p.holds.whole ∙ q.holds.whole in
    let one : p.format ≡ q.format = formats_same p.format q.format (flat_map (frame p.format) rs ++ p.rest) (flat_map (frame q.format) ss ++ q.rest) both in
    in_one_format p.format rs ss p.rest q.rest f g p.holds.each (subst (λ t. AllByRecursion (IsRecord t) ss) (sym one) q.holds.each)
    (without_magic p.format (flat_map (frame p.format) rs ++ p.rest) (flat_map (frame p.format) ss ++ q.rest) (both ∙ ap (λ t. magic_of t ++ (flat_map (frame t) ss ++ q.rest)) (sym one)))
    p.ends (subst (λ t. EndsBy t g (length ss) q.rest) (sym one) q.ends)
