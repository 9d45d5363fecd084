-- What is written by its function, is what the relation has, with zeros in the gaps.
use Rattle.std.proofs.Common.{◌≡◌, ℕ, ℤ, suc, ◌+◌, ◌^◌, ◌≤◌, ◌<◌, List, [], ◌∷◌, ◌++◌, length, replicate, take, IsUtf8, refl, sym, ◌∙◌, ap, arith}
use Rattle.std.specs.List.{AllByRecursion}
use Rattle.std.proofs.Math.Facts.{Fits-of_z}
use Rattle.std.proofs.lemmas.List.{take-replicate}
use Rattle.std.proofs.lemmas.Int.{to_z-of_z}
use Rattle.std.specs.Int.{Width, w8, w16, w32, w64, w128, byte_len, cast_unsigned}
use Rattle.std.specs.Int.RustNames.{FitsSigned}
use Rattle.byteorder.specs.Numbers.{big_number-reads_back, little_number-reads_back, length-bytes_high_first, length-bytes_low_first, big_from-append, little_from-append}
use Rattle.rtps_types.specs.declared.field.Endian.{Endian}
use Rattle.rtps_types.specs.declared.field.Endian.TheVariants.{Big, Little}
use Rattle.rtps_types.specs.Field.{number, encoded}
use Rattle.rtps_cdr.specs.Cdr.{CdrType, Unsigned, Signed, Boolean, Text, Octets, Both, Sequence, ValueOf, Zeros, IsNumber, AreAll, IsCdr, padding}
use Rattle.rtps_cdr.specs.Writing.{Output, number_written, all_written, written, Fits, Writes, appended}

pub zeros : (n zero_octet : ℕ) → n ≤ 8 → take n (replicate 8 zero_octet) ≡ replicate n zero_octet
zeros n zero_octet h = take-replicate n 8 zero_octet h

length_of_encoded : (e : Endian) (size n : ℕ) → length (encoded e size n) ≡ size
length_of_encoded Big size n = length-bytes_high_first size n
length_of_encoded Little size n = length-bytes_low_first 0 size n

number_of_encoded : (e : Endian) (size n : ℕ) → n < 256 ^ size → number e size (encoded e size n) ≡ n
number_of_encoded Big size n h = sym (big_from-append size (encoded Big size n) [] (omega (arith, length-bytes_high_first size n))) ∙ big_number-reads_back size n [] h
number_of_encoded Little size n h = sym (little_from-append size (encoded Little size n) [] (omega (arith, length-bytes_low_first 0 size n))) ∙ little_number-reads_back size n [] h

number_is : (size at : ℕ) (e : Endian) (n : ℕ) → n < 256 ^ size → IsNumber Zeros size at e (number_written size at e n) n
number_is size at e n h = record {
  gap = replicate (padding size at) 0;
  field = encoded e size n;
  text = refl;
  aligns = refl;
  full = length_of_encoded e size n;
  encodes = number_of_encoded e size n h;
}

all_are : {A : Type 0} (is : ℕ → List ℕ → A → Type 0) (f : ℕ → A → List ℕ) (P : A → Type 0) → ((at : ℕ) (x : A) → P x → is at (f at x) x) → (at : ℕ) (xs : List A) → AllByRecursion P xs → AreAll is at (all_written f at xs) xs
all_are is f P each at [] h = refl
all_are is f P each at (x ∷ xs) h = (f at x, all_written f (at + length (f at x)) xs, refl, each at x (h.0), all_are is f P each (at + length (f at x)) xs (h.1))

signed_bound : (w : Width) (z : ℤ) → FitsSigned w z → cast_unsigned w z < 256 ^ byte_len w
signed_bound w8 z h = let f = Fits-of_z {w = w8} {z = z} h in omega (arith, f)
signed_bound w16 z h = let f = Fits-of_z {w = w16} {z = z} h in omega (arith, f)
signed_bound w32 z h = let f = Fits-of_z {w = w32} {z = z} h in omega (arith, f)
signed_bound w64 z h = let f = Fits-of_z {w = w64} {z = z} h in omega (arith, f)
signed_bound w128 z h = let f = Fits-of_z {w = w128} {z = z} h in omega (arith, f)

-- what is written is related
pub written_is : (t : CdrType) (at : ℕ) (e : Endian) (v : ValueOf t) → Fits t v → IsCdr Zeros t at e (written t at e v) v
written_is (Unsigned size) at e n h = number_is size at e n h
written_is (Signed w) at e z h = (cast_unsigned w z, number_is (byte_len w) at e (cast_unsigned w z) (signed_bound w z h), sym (to_z-of_z w z h))
written_is Boolean at e b h = refl
written_is Text at e text h = record {
  front = number_written 4 at e (length text + 1);
  back = text ++ 0 ∷ [];
  count = length text + 1;
  parts = refl;
  counts = number_is 4 at e (length text + 1) (omega (arith, h.0));
  body = let one : length text + 1 ≡ suc (length text) = omega arith in rw one (refl, refl, h.1);
}
written_is (Octets count) at e body h = (h, refl)
written_is (Both s t) at e v h = (written s at e v.0, written t (at + length (written s at e v.0)) e v.1, refl, written_is s at e v.0 (h.0), written_is t (at + length (written s at e v.0)) e v.1 (h.1))
written_is (Sequence t) at e vs h =
    let front : List ℕ = number_written 4 at e (length vs) in (
      front,
      all_written (λ p v. written t p e v) (at + length front) vs,
      refl,
      number_is 4 at e (length vs) (omega (arith, h.0)),
      all_are (λ p os v. IsCdr Zeros t p e os v) (λ p v. written t p e v) (Fits t) (λ p v f. written_is t p e v f) (at + length front) vs (h.1),
    )

pub writes_is : (t : CdrType) (old new : Output) (v : ValueOf t) → Fits t v → new ≡ appended t v old → Writes t old new v
writes_is t old new v h e = record {
  octets = written t (length old.octets) old.endian v;
  parts = ap (λ (o : Output). o.octets) e;
  stands = written_is t (length old.octets) old.endian v h;
  order = ap (λ (o : Output). o.endian) e;
}

pub text_writes : (old new : Output) (text : List ℕ) → IsUtf8 text → length text + 1 < 2 ^ 32 → new ≡ appended Text text old → Writes Text old new text
text_writes old new text good short e = writes_is Text old new text (short, good) e
