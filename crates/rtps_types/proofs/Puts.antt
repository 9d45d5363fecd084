-- Fields that are put into octets.
use Rattle.std.proofs.Common.{◌≡◌, ℕ, ◌+◌, ◌*◌, ◌^◌, ◌≤◌, ◌<◌, List, ◌++◌, length, take, drop, ℤ, ◌/◌, ◌%◌, Some, true, leb, refl, sym, ap, ◌∙◌, arith}
use Rattle.std.proofs.lemmas.Bool.{le-leb}
use Rattle.std.proofs.lemmas.List.{length-append, length-take, length-drop, length-take-le, drop_at, drop-drop, append_assoc}
use Rattle.std.proofs.lemmas.Slice.{take-put_mid_below, take-put_mid, drop-put_mid}
use borrow.Rule.Slice.PartMut.{put_mid}
use Rattle.std.specs.Int.{w64, cast_signed, cast_unsigned}
use Rattle.std.specs.Prelude.{FitsSigned}
use Rattle.std.proofs.lemmas.Int.{to_z-of_z}
use Rattle.std.proofs.Math.Facts.{Fits-of_z}
use Rattle.byteorder.specs.Numbers.{big_number-reads_back, little_number-reads_back, length-bytes_high_first, length-bytes_low_first}
use Rattle.rtps_types.specs.declared.field.Endian.{Endian}
use Rattle.rtps_types.specs.declared.field.Endian.TheVariants.{Big, Little}
use Rattle.rtps_types.specs.Field.{number, number_at, put_at, sequence_number_at, encoded, encoded_sn, StaysOutside}

-- the same octets, as a write through a part of a slice leaves them
put_at-mid : (at : ℕ) (field old : List ℕ) → put_at at field old ≡ put_mid at (length field) old field
put_at-mid at field old = ap (λ (behind : List ℕ). take at old ++ (field ++ behind)) (sym (drop-drop (length field) at old))

-- octets that are put in reach no others
pub puts_outside : (at : ℕ) (field old new : List ℕ) → new ≡ put_at at field old → at + length field ≤ length old → StaysOutside at (length field) old new
puts_outside at field old new e h =
    rw (e, put_at-mid at field old) record {
      before = take-put_mid_below at (length field) old field at (omega arith) (omega arith);
      behind = drop-put_mid at (length field) old field (at + length field) (omega arith) (omega arith) refl;
      count = simp (length-append, length-take, length-drop) (omega arith);
    }

-- octets of the wanted count encode a number
pub length-encoded : (e : Endian) (n x : ℕ) → length (encoded e n x) ≡ n
length-encoded Big n x = length-bytes_high_first n x
length-encoded Little n x = length-bytes_low_first 0 n x

-- the octets of a number are read as it
pub number-encoded : (e : Endian) (n x : ℕ) (rest : List ℕ) → x < 256 ^ n → number e n (encoded e n x ++ rest) ≡ x
number-encoded Big n x rest h = big_number-reads_back n x rest h
number-encoded Little n x rest h = little_number-reads_back n x rest h

number_at-put_at : (at n : ℕ) (e : Endian) (field old : List ℕ) (x : ℕ) → n ≤ length field → number e n (field ++ drop (at + length field) old) ≡ x → at + length field ≤ length old → number_at e n (put_at at field old) at ≡ Some x
number_at-put_at at n e field old x len reads h =
    let count = (puts_outside at field old (put_at at field old) refl h).count in
    let front : length (take at old) ≡ at = length-take-le at old (omega arith) in
    let field_first : drop at (put_at at field old) ≡ field ++ drop (at + length field) old = drop_at (take at old) (field ++ drop (at + length field) old) at front in
    let test : leb (at + n) (length (put_at at field old)) ≡ true = le-leb _ _ (omega arith) in
    rw (test, field_first, reads) refl

-- a number that is put in is read again
pub put_number : (at n : ℕ) (e : Endian) (x : ℕ) (old : List ℕ) → x < 256 ^ n → at + n ≤ length old → number_at e n (put_at at (encoded e n x) old) at ≡ Some x
put_number at n e x old small h =
    let len = length-encoded e n x in
    number_at-put_at at n e (encoded e n x) old x (omega arith) (number-encoded e n x (drop (at + length (encoded e n x)) old) small) (omega arith)

-- two fields one after the other are one field
pub put_at-append : (at n : ℕ) (first second old : List ℕ) → length first ≡ n → at + length first + length second ≤ length old → put_at (at + n) second (put_at at first old) ≡ put_at at (first ++ second) old
put_at-append at n first second old len h =
    let is = put_at-mid at first old in
    let taken : take (at + n) (put_at at first old) ≡ take at old ++ first = rw is (take-put_mid at (length first) old first (at + n) (omega arith) (omega arith)) in
    let left : drop (at + n + length second) (put_at at first old) ≡ drop (at + n + length second) old = rw is (drop-put_mid at (length first) old first (at + n + length second) (omega arith) (omega arith) refl) in
    let both : length (first ++ second) ≡ n + length second = simp length-append (omega arith) in
    let ends : at + n + length second ≡ at + (n + length second) = omega arith in
    rw (taken, left, both, ends) (simp append_assoc)

-- a sequence number that is put in is read again
pub put_sn_reads : (at : ℕ) (e : Endian) (z : ℤ) (old : List ℕ) → FitsSigned w64 z → at + 8 ≤ length old → sequence_number_at e (put_at at (encoded_sn e z) old) at ≡ Some z
put_sn_reads at e z old fits h =
    let bits = cast_unsigned w64 z in
    let unsigned = Fits-of_z {w = w64} {z = z} fits in
    let small : bits < 2 ^ 64 = omega (arith, unsigned) in
    let high = encoded e 4 (bits / 2 ^ 32) in
    let low = encoded e 4 (bits % 2 ^ 32) in
    let high_len : length high ≡ 4 = length-encoded e 4 (bits / 2 ^ 32) in
    let low_len : length low ≡ 4 = length-encoded e 4 (bits % 2 ^ 32) in
    let len : length (high ++ low) ≡ 8 = simp length-append (omega arith) in
    let rest = low ++ drop (at + length (high ++ low)) old in
    let first : number_at e 4 (put_at at (high ++ low) old) at ≡ Some (bits / 2 ^ 32) =
    number_at-put_at at 4 e (high ++ low) old (bits / 2 ^ 32) (omega arith) (rw append_assoc (number-encoded e 4 (bits / 2 ^ 32) rest (omega arith))) (omega arith) in
    let count = (puts_outside at high old (put_at at high old) refl (omega arith)).count in
    let second : number_at e 4 (put_at at (high ++ low) old) (at + 4) ≡ Some (bits % 2 ^ 32) =
    rw (← put_at-append at 4 high low old high_len (omega arith)) (put_number (at + 4) 4 e (bits % 2 ^ 32) (put_at at high old) (omega arith) (omega arith)) in
    let whole : bits / 2 ^ 32 * 2 ^ 32 + bits % 2 ^ 32 ≡ bits = omega arith in
    let again : cast_signed w64 bits ≡ z = to_z-of_z w64 z fits in
    rw (first, second) (ap Some (ap (cast_signed w64) whole ∙ again))

-- a sequence number is put in by its halves
pub puts_halves : (at high low : ℕ) (e : Endian) (z : ℤ) (old middle new : List ℕ) → high ≡ cast_unsigned w64 z / 2 ^ 32 → low ≡ cast_unsigned w64 z % 2 ^ 32 → at + 8 ≤ length old → middle ≡ put_at at (encoded e 4 high) old → new ≡ put_at (at + 4) (encoded e 4 low) middle → new ≡ put_at at (encoded_sn e z) old
puts_halves at high low e z old middle new h l room first second =
    let high_len = length-encoded e 4 high in
    let low_len = length-encoded e 4 low in
    second ∙ ap (put_at (at + 4) (encoded e 4 low)) first ∙ put_at-append at 4 (encoded e 4 high) (encoded e 4 low) old high_len (omega arith) ∙ rw (h, l) refl

-- eight octets that are put in reach no others
pub puts_sn_outside : (at : ℕ) (e : Endian) (z : ℤ) (old new : List ℕ) → new ≡ put_at at (encoded_sn e z) old → at + 8 ≤ length old → StaysOutside at 8 old new
puts_sn_outside at e z old new is room =
    let high_len = length-encoded e 4 (cast_unsigned w64 z / 2 ^ 32) in
    let low_len = length-encoded e 4 (cast_unsigned w64 z % 2 ^ 32) in
    let len : length (encoded_sn e z) ≡ 8 = simp length-append (omega arith) in
    rw (← len) (puts_outside at (encoded_sn e z) old new is (omega arith))
