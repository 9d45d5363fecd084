-- Frames of records, in either format.
use Rattle.std.proofs.Common.{◌≡◌, ℕ, ◌<◌, ◌≤◌, ◌^◌, ◌==◌, nat_le, true, false, Some, List, ◌++◌, arith, refl, length, take, drop, sym, ap, ◌∙◌, length-append}
use Rattle.std.proofs.lemmas.Bool.Decides.{nat_tests}
use Rattle.std.proofs.lemmas.Nat.{from_be_bytes-to_be_bytes_4, from_be_bytes-to_be_bytes_8}
use Rattle.std.proofs.Math.Seq.{take-append_seam, drop-append_seam}
use Rattle.std.specs.Int.{w64, from_be_bytes, to_be_bytes}
use Rattle.rtps_records.specs.RecordFile.{Record, Datagram, Tick, IsRecord, body_of, octets_after, frame, length_of, tick_length, stated_length}
use Rattle.rtps_records.specs.declared.format.Format.{Format}
use Rattle.rtps_records.specs.declared.format.Format.TheVariants.{Rdg1, Rdg2}

pub short_length : (f : Format) (r : Record) → IsRecord f r → length_of r < 2 ^ 32
short_length Rdg1 (Datagram m o) h = let small = h.1 in omega arith
short_length Rdg1 (Tick m) h = absurd h
short_length Rdg2 (Datagram m o) h = let small = h.1 in omega arith
short_length Rdg2 (Tick m) h = omega arith

-- the number of octets after the length of a record is that of its body
pub body_length : (f : Format) (r : Record) → IsRecord f r → octets_after f (length_of r) ≡ Some (length (body_of f r))
body_length Rdg1 (Datagram m o) h = let small : nat_le (length o) 65507 ≡ true = at_most (length o) h.1 in rw small refl
  where
    at_most : (n : ℕ) → n ≤ 65507 → nat_le n 65507 ≡ true
    at_most n le = grind (arith, nat_tests)
body_length Rdg1 (Tick m) h = absurd h
body_length Rdg2 (Datagram m o) h =
    let small : nat_le (length o) 65507 ≡ true = at_most (length o) h.1 in
    let no_tick : (length o == tick_length) ≡ false = other (length o) h.1 in
    rw (no_tick, small) (ap (λ n. Some n) (sym (length-append (to_be_bytes w64 m) o)))
  where
    at_most : (n : ℕ) → n ≤ 65507 → nat_le n 65507 ≡ true
    at_most n le = grind (arith, nat_tests)

    other : (n : ℕ) → n ≤ 65507 → (n == tick_length) ≡ false
    other n le = grind (arith, nat_tests)
body_length Rdg2 (Tick m) h = refl

moments_same : (m n : ℕ) → m < 2 ^ 64 → n < 2 ^ 64 → to_be_bytes w64 m ≡ to_be_bytes w64 n → m ≡ n
moments_same m n p q e = sym (from_be_bytes-to_be_bytes_8 m p) ∙ ap (from_be_bytes w64) e ∙ from_be_bytes-to_be_bytes_8 n q

-- length and body determine the record
pub record_same : (f : Format) (r s : Record) → IsRecord f r → IsRecord f s → length_of r ≡ length_of s → body_of f r ≡ body_of f s → r ≡ s
record_same Rdg1 (Datagram m o) (Datagram n p) h k len e = ap (λ i. Datagram i o) (h.0 ∙ sym k.0) ∙ ap (Datagram n) e
record_same Rdg1 (Datagram m o) (Tick n) h k len e = absurd k
record_same Rdg1 (Tick m) s h k len e = absurd h
record_same Rdg2 (Datagram m o) (Datagram n p) h k len e =
    let moments : to_be_bytes w64 m ≡ to_be_bytes w64 n = ap (take 8) e in
    let octets : o ≡ p = ap (drop 8) e in
    ap (λ i. Datagram i o) (moments_same m n h.0 k.0 moments) ∙ ap (Datagram n) octets
record_same Rdg2 (Datagram m o) (Tick n) h k len e = let small = h.1 in absurd (omega (arith, len))
record_same Rdg2 (Tick m) (Datagram n p) h k len e = let small = k.1 in absurd (omega (arith, len))
record_same Rdg2 (Tick m) (Tick n) h k len e = ap Tick (moments_same m n h k e)

some_inside : (a b : ℕ) → Some a ≡ Some b → a ≡ b
some_inside a b e = cc

pub stated_front : (f : Format) (r : Record) (x : List ℕ) → IsRecord f r → stated_length (frame f r ++ x) ≡ length_of r
stated_front f r x h = from_be_bytes-to_be_bytes_4 (length_of r) (short_length f r h)

-- two frames in one place are one
pub frame_same : (f : Format) (r s : Record) (x y : List ℕ) → IsRecord f r → IsRecord f s → frame f r ++ x ≡ frame f s ++ y → (r ≡ s) × (x ≡ y)
frame_same f r s x y p q e =
    let len : length_of r ≡ length_of s = sym (stated_front f r x p) ∙ ap stated_length e ∙ stated_front f s y q in
    let tails : body_of f r ++ x ≡ body_of f s ++ y = ap (drop 4) e in
    let same : length (body_of f r) ≡ length (body_of f s) = some_inside (length (body_of f r)) (length (body_of f s)) (sym (body_length f r p) ∙ ap (octets_after f) len ∙ body_length f s q) in
    let bodies : body_of f r ≡ body_of f s = sym (take-append_seam (body_of f r) x) ∙ ap (take (length (body_of f r))) tails ∙ ap (λ k. take k (body_of f s ++ y)) same ∙ take-append_seam (body_of f s) y in (
      record_same f r s p q len bodies,
      sym (drop-append_seam (body_of f r) x) ∙ ap (drop (length (body_of f r))) tails ∙ ap (λ k. drop k (body_of f s ++ y)) same ∙ drop-append_seam (body_of f s) y,
    )
