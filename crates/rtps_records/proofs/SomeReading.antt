-- Octets that begin as a record file have a reading.
use Rattle.std.proofs.Common.{◌≡◌, ℕ, zero, suc, ◌+◌, ◌-◌, ◌<◌, ◌≤◌, ◌^◌, ◌==◌, nat_le, Bool, true, false, inl, inr, Option, None, Some, List, [], ◌∷◌, ◌++◌, arith, lit<, refl, length, take, drop, get_or, sym, ap, subst, ◌∙◌, take-append-drop, length-take-le, length-drop, append_assoc, add-zero, zero-add, if◌then◌else◌}
use Rattle.std.proofs.Math.Nat.{eq-or-lt_of_le}
use Rattle.std.proofs.lemmas.Bool.{cases_lt}
use Rattle.std.proofs.lemmas.Bool.Decides.{nat_tests}
use Rattle.std.proofs.lemmas.Nat.{be_bytes_4, be_bytes_8}
use Rattle.std.specs.List.{flat_map, AllByRecursion}
use Rattle.std.specs.Int.{w32, w64, from_be_bytes, to_be_bytes}
use Rattle.rtps_records.specs.declared.fault.RunFault.{RunFault}
use Rattle.rtps_records.specs.declared.fault.RunFault.TheVariants.{CutRecord, RecordTooLong, TooManyRecords}
use Rattle.rtps_records.specs.RecordFile.{Record, Datagram, Tick, EndsBy, IsRecord, IsShort, OthersHaveNone, SomeReading, body_of, octets_after, frame, length_of, magic_of, tick_length, stated_length}
use Rattle.rtps_records.specs.declared.format.Format.{Format}
use Rattle.rtps_records.specs.declared.format.Format.TheVariants.{Rdg1, Rdg2}

abbrev IsOctet : ℕ → Type 0
IsOctet octet = octet < 256

-- a reading of what is there from record n on
record Parse (f : Format) (n : ℕ) (xs : List ℕ) : Type 0 where
  records : List Record
  rest : List ℕ
  fault : Option RunFault
  whole : xs ≡ flat_map (frame f) records ++ rest
  each : AllByRecursion (IsRecord f) records
  ends : EndsBy f fault (n + length records) rest

stops : (f : Format) (n : ℕ) (xs : List ℕ) (fault : Option RunFault) → EndsBy f fault n xs → Parse f n xs
stops f n xs fault h = record {
  records = [];
  rest = xs;
  fault = fault;
  whole = refl;
  each = tt;
  ends = subst (λ k. EndsBy f fault k xs) (sym (add-zero n)) h;
}

goes_on : (f : Format) (n : ℕ) (xs : List ℕ) (r : Record) (rest : List ℕ) → xs ≡ frame f r ++ rest → IsRecord f r → Parse f (n + 1) rest → Parse f n xs
goes_on f n xs r rest e is p =
    let up : (m : ℕ) → (n + 1) + m ≡ n + suc m = λ m. omega arith in
    record {
      records = r ∷ p.records;
      rest = p.rest;
      fault = p.fault;
      whole = e ∙ ap (λ l. frame f r ++ l) p.whole ∙ sym (append_assoc (frame f r) (flat_map (frame f) p.records) p.rest);
      each = (is, p.each);
      ends = subst (λ k. EndsBy f p.fault k p.rest) (up (length p.records)) p.ends;
    }

octet_at : (xs : List ℕ) → AllByRecursion IsOctet xs → (i : ℕ) → get_or xs i 0 < 256
octet_at [] all i = lit< tt
octet_at (x ∷ xs) all zero = all.0
octet_at (x ∷ xs) all (suc i) = octet_at xs all.1 i

all_take : (n : ℕ) (xs : List ℕ) → AllByRecursion IsOctet xs → AllByRecursion IsOctet (take n xs)
all_take zero xs all = tt
all_take (suc n) [] all = tt
all_take (suc n) (x ∷ xs) all = (all.0, all_take n xs all.1)

all_drop : (n : ℕ) (xs : List ℕ) → AllByRecursion IsOctet xs → AllByRecursion IsOctet (drop n xs)
all_drop zero xs all = all
all_drop (suc n) [] all = tt
all_drop (suc n) (x ∷ xs) all = all_drop n xs all.1

-- eight octets encode a moment
moment_fits : (xs : List ℕ) → length xs ≡ 8 → AllByRecursion IsOctet xs → from_be_bytes w64 xs < 2 ^ 64
moment_fits (a ∷ b ∷ c ∷ d ∷ e ∷ f ∷ g ∷ h ∷ []) l all =
    let i0 = all.0 in let i1 = all.1.0 in let i2 = all.1.1.0 in let i3 = all.1.1.1.0 in
    let i4 = all.1.1.1.1.0 in let i5 = all.1.1.1.1.1.0 in let i6 = all.1.1.1.1.1.1.0 in let i7 = all.1.1.1.1.1.1.1.0 in
    omega arith
moment_fits [] l all = absurd (omega (arith, l))
moment_fits (a ∷ []) l all = absurd (omega (arith, l))
moment_fits (a ∷ b ∷ []) l all = absurd (omega (arith, l))
moment_fits (a ∷ b ∷ c ∷ []) l all = absurd (omega (arith, l))
moment_fits (a ∷ b ∷ c ∷ d ∷ []) l all = absurd (omega (arith, l))
moment_fits (a ∷ b ∷ c ∷ d ∷ e ∷ []) l all = absurd (omega (arith, l))
moment_fits (a ∷ b ∷ c ∷ d ∷ e ∷ f ∷ []) l all = absurd (omega (arith, l))
moment_fits (a ∷ b ∷ c ∷ d ∷ e ∷ f ∷ g ∷ []) l all = absurd (omega (arith, l))
moment_fits (a ∷ b ∷ c ∷ d ∷ e ∷ f ∷ g ∷ h ∷ i ∷ xs) l all = absurd (omega (arith, l))

-- the record of a length and of the octets after it
record Decoded (f : Format) (stated : ℕ) (body : List ℕ) : Type 0 where
  one : Record
  is : IsRecord f one
  states : length_of one ≡ stated
  has : body_of f one ≡ body

stamped : (body : List ℕ) → 8 ≤ length body → AllByRecursion IsOctet body → to_be_bytes w64 (from_be_bytes w64 (take 8 body)) ≡ take 8 body
stamped body long all = be_bytes_8 (take 8 body) (from_be_bytes w64 (take 8 body)) (length-take-le 8 body long) (octet_at (take 8 body) (all_take 8 body all)) refl

decoded : (f : Format) (stated n : ℕ) (body : List ℕ) → octets_after f stated ≡ Some n → length body ≡ n → AllByRecursion IsOctet body → Decoded f stated body
decoded Rdg1 stated n body e l all = by_small (nat_le stated 65507) refl e
  where
    by_small : (b : Bool) → nat_le stated 65507 ≡ b → (if b then Some stated else None) ≡ Some n → Decoded Rdg1 stated body
    by_small true small e =
        let same : stated ≡ n = cc in
        let le : stated ≤ 65507 = grind (arith, nat_tests) in
        record { one = Datagram 0 body; is = (refl, subst (λ k. k ≤ 65507) (same ∙ sym l) le); states = l ∙ sym same; has = refl }
    by_small false small e = absurd cc
decoded Rdg2 stated n body e l all = by_tick (stated == tick_length) refl e
  where
    by_small : (b : Bool) → nat_le stated 65507 ≡ b → (if b then Some (8 + stated) else None) ≡ Some n → Decoded Rdg2 stated body
    by_small true small e =
        let same : 8 + stated ≡ n = cc in
        let le : stated ≤ 65507 = grind (arith, nat_tests) in
        let long : 8 ≤ length body = omega (arith, same, l) in
        let rest : length (drop 8 body) ≡ length body - 8 = length-drop 8 body in
        let states : length (drop 8 body) ≡ stated = omega (arith, rest, same, l) in
        let eight : length (take 8 body) ≡ 8 = length-take-le 8 body long in
        record {
          one = Datagram (from_be_bytes w64 (take 8 body)) (drop 8 body);
          is = (moment_fits (take 8 body) eight (all_take 8 body all), subst (λ k. k ≤ 65507) (sym states) le);
          states = states;
          has = ap (λ s. s ++ drop 8 body) (stamped body long all) ∙ take-append-drop 8 body;
        }
    by_small false small e = absurd cc

    by_tick : (b : Bool) → (stated == tick_length) ≡ b → (if b then Some 8 else if nat_le stated 65507 then Some (8 + stated) else None) ≡ Some n → Decoded Rdg2 stated body
    by_tick true tick e =
        let same : 8 ≡ n = cc in
        let is : stated ≡ tick_length = grind (arith, nat_tests) in
        let eight : length body ≡ 8 = l ∙ sym same in
        record {
          one = Tick (from_be_bytes w64 body);
          is = moment_fits body eight all;
          states = sym is;
          has = be_bytes_8 body (from_be_bytes w64 body) eight (octet_at body all) refl;
        }
    by_tick false tick e = by_small (nat_le stated 65507) refl e

-- a length and the octets after it are a frame
framed : (f : Format) (xs : List ℕ) (n : ℕ) → AllByRecursion IsOctet xs → 4 + n ≤ length xs → (d : Decoded f (stated_length xs) (take n (drop 4 xs))) → xs ≡ frame f d.one ++ drop n (drop 4 xs)
framed f xs n all enough d =
    let four : length (take 4 xs) ≡ 4 = length-take-le 4 xs (omega arith) in
    let head : to_be_bytes w32 (length_of d.one) ≡ take 4 xs = ap (to_be_bytes w32) d.states ∙ be_bytes_4 (take 4 xs) (stated_length xs) four (octet_at (take 4 xs) (all_take 4 xs all)) refl in
    sym (take-append-drop 4 xs) ∙ ap (λ l. take 4 xs ++ l) (sym (take-append-drop n (drop 4 xs)))
    ∙ sym (append_assoc (take 4 xs) (take n (drop 4 xs)) (drop n (drop 4 xs)))
    ∙ ap (λ l. (l ++ take n (drop 4 xs)) ++ drop n (drop 4 xs)) (sym head)
    ∙ ap (λ b. (to_be_bytes w32 (length_of d.one) ++ b) ++ drop n (drop 4 xs)) (sym d.has)

parse : (f : Format) (k n : ℕ) (xs : List ℕ) → length xs ≤ k → n ≤ 4294967295 → AllByRecursion IsOctet xs → Parse f n xs
parse f k n [] fits few all = stops f n [] None (few, refl)
parse f zero n (x ∷ xs) fits few all = absurd (omega arith)
parse f (suc k) n (x ∷ xs) fits few all =
    let some : 0 < length (x ∷ xs) = omega arith in
    elim (eq-or-lt_of_le few) [
      | inl top ↦ stops f n (x ∷ xs) (Some TooManyRecords) (top, some)
      | inr below ↦ elim (cases_lt (length (x ∷ xs)) 4) [
        | inl short ↦ stops f n (x ∷ xs) (Some (CutRecord n)) (refl, below, (some, inl short))
        | inr enough ↦ by_rest below enough some (octets_after f (stated_length (x ∷ xs))) refl (λ m le. parse f k (n + 1) (drop m (drop 4 (x ∷ xs))) (left m le) (omega arith) (all_drop m (drop 4 (x ∷ xs)) (all_drop 4 (x ∷ xs) all)))
      ]
    ]
  where
    left : (m : ℕ) → 4 + m ≤ length (x ∷ xs) → length (drop m (drop 4 (x ∷ xs))) ≤ k
    left m le =
        let after : length (drop 4 (x ∷ xs)) ≡ length (x ∷ xs) - 4 = length-drop 4 (x ∷ xs) in
        let left : length (drop m (drop 4 (x ∷ xs))) ≡ length (drop 4 (x ∷ xs)) - m = length-drop m (drop 4 (x ∷ xs)) in
        omega arith

    by_rest : n < 4294967295 → 4 ≤ length (x ∷ xs) → 0 < length (x ∷ xs) → (o : Option ℕ) → octets_after f (stated_length (x ∷ xs)) ≡ o → ((m : ℕ) → 4 + m ≤ length (x ∷ xs) → Parse f (n + 1) (drop m (drop 4 (x ∷ xs)))) → Parse f n (x ∷ xs)
    by_rest below enough some None e more = stops f n (x ∷ xs) (Some (RecordTooLong n)) (refl, below, (enough, e))
    by_rest below enough some (Some m) e more = elim (cases_lt (length (x ∷ xs)) (4 + m)) [
      | inl cut ↦ stops f n (x ∷ xs) (Some (CutRecord n)) (refl, below, (some, inr (enough, subst (λ o. IsShort (x ∷ xs) o) (sym e) cut)))
      | inr whole ↦ (
          let after : length (drop 4 (x ∷ xs)) ≡ length (x ∷ xs) - 4 = length-drop 4 (x ∷ xs) in
          let body : length (take m (drop 4 (x ∷ xs))) ≡ m = length-take-le m (drop 4 (x ∷ xs)) (omega arith) in
          let d = decoded f (stated_length (x ∷ xs)) m (take m (drop 4 (x ∷ xs))) e body (all_take m (drop 4 (x ∷ xs)) (all_drop 4 (x ∷ xs) all)) in
          goes_on f n (x ∷ xs) d.one (drop m (drop 4 (x ∷ xs))) (framed f (x ∷ xs) m all whole d) d.is (more m whole)
          )
    ]

pub some_reading : SomeReading
some_reading format octets all =
    let p = parse format (length octets) 0 octets (omega arith) (omega arith) all in (
      p.records,
      p.fault,
      record {
        format = format;
        rest = p.rest;
        holds = record { whole = ap (λ l. magic_of format ++ l) p.whole; each = p.each };
        ends = subst (λ k. EndsBy format p.fault k p.rest) (zero-add (length p.records)) p.ends;
      },
    )

pub others_have_none : OthersHaveNone
others_have_none octets records fault other reads = other reads.format (flat_map (frame reads.format) records ++ reads.rest) reads.holds.whole
