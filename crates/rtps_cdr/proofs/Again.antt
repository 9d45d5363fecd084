-- What was written is read again.
use Rattle.std.proofs.Common.{◌≤◌, ◌≡◌, ℕ, ◌+◌, List, [], ◌∷◌, ◌++◌, length, Result, Ok, Err, refl, ◌∙◌, ap, arith}
use Rattle.std.proofs.lemmas.List.{length-replicate, length-append, drop_at}
use Rattle.rtps_types.specs.declared.field.Endian.{Endian}
use Rattle.rtps_cdr.specs.declared.fault.CdrFault.{CdrFault}
use Rattle.rtps_cdr.specs.Cdr.{CdrType, Unsigned, Signed, Boolean, Text, Octets, Both, Sequence, ValueOf, Free, Zeros, IsNumber, AreAll, IsCdr, padding}
use Rattle.rtps_cdr.specs.Reading.{Cursor, placed, Read, Reads, Takes, value_of, moved, number_in, signed_in, bool_in, text_in, texts_in, octets_in}
use Rattle.rtps_cdr.specs.Statements.{before, behind, EachIsReadAgain}
use Rattle.rtps_cdr.specs.Writing.{written, Fits}
use Rattle.rtps_cdr.proofs.Related.{unsigned_law, signed_law, bool_law, octets_law}
use Rattle.rtps_cdr.proofs.Counted.{text_law, texts_reads}
use Rattle.rtps_cdr.proofs.Structs.{members_parted}
use Rattle.rtps_cdr.proofs.Written.{written_is}

number_free : (size at : ℕ) (e : Endian) (octets : List ℕ) (n : ℕ) → IsNumber Zeros size at e octets n → IsNumber Free size at e octets n
number_free size at e octets n h = record { gap = h.gap; field = h.field; text = h.text; aligns = ap length (h.aligns) ∙ length-replicate (padding size at) 0; full = h.full; encodes = h.encodes }

all_free : {A : Type 0} (is is_free : ℕ → List ℕ → A → Type 0) → ((at : ℕ) (os : List ℕ) (x : A) → is at os x → is_free at os x) → (at : ℕ) (os : List ℕ) (xs : List A) → AreAll is at os xs → AreAll is_free at os xs
all_free is is_free each at os [] h = h
all_free is is_free each at os (x ∷ xs) h = (h.0, h.1, h.2, each at (h.0) x (h.3), all_free is is_free each (at + length (h.0)) (h.1) xs (h.4))

-- zeros may be where anything may
pub zeros_free : (t : CdrType) (at : ℕ) (e : Endian) (octets : List ℕ) (v : ValueOf t) → IsCdr Zeros t at e octets v → IsCdr Free t at e octets v
zeros_free (Unsigned size) at e octets v h = number_free size at e octets v h
zeros_free (Signed w) at e octets v h = (h.0, number_free _ at e octets (h.0) (h.1), h.2)
zeros_free Boolean at e octets v h = h
zeros_free Text at e octets v h = record { front = h.front; back = h.back; count = h.count; parts = h.parts; counts = number_free 4 at e h.front h.count (h.counts); body = h.body }
zeros_free (Octets count) at e octets v h = h
zeros_free (Both s t) at e octets v h = (h.0, h.1, h.2, zeros_free s at e (h.0) v.0 (h.3), zeros_free t (at + length (h.0)) e (h.1) v.1 (h.4))
zeros_free (Sequence t) at e octets v h = (
  h.0,
  h.1,
  h.2,
  number_free 4 at e (h.0) (length v) (h.3),
  all_free (λ p os x. IsCdr Zeros t p e os x) (λ p os x. IsCdr Free t p e os x) (λ p os x k. zeros_free t p e os x k) (at + length (h.0)) (h.1) v (h.4),
)

-- what was written is where it was written
written_taken : (t : CdrType) (front rest : List ℕ) (e : Endian) (v : ValueOf t) → Fits t v → Takes t (before front e t v rest) (placed (before front e t v rest) (behind front e t v)) v
written_taken t front rest e v fits = record {
  front = written t (length front) e v;
  rest = rest;
  parts = drop_at front (written t (length front) e v ++ rest) (length front) refl;
  stands = zeros_free t (length front) e (written t (length front) e v) v (written_is t (length front) e v fits);
  behind = refl;
}

-- whatever reads the type, reads what was written, whatever is around it
pub reads_again : (t : CdrType) (front rest : List ℕ) (e : Endian) (v : ValueOf t) (after : Cursor) (answer : Result (ValueOf t) CdrFault) → Fits t v →
    Reads t (before front e t v rest) after answer → (answer ≡ Ok v) × (after ≡ placed (before front e t v rest) (behind front e t v))
reads_again t front rest e v after answer fits law = law.only v (placed (before front e t v rest) (behind front e t v)) (written_taken t front rest e v fits)

-- the same for a function that reads
function_again : (t : CdrType) (front rest : List ℕ) (e : Endian) (v : ValueOf t) (r : Read (ValueOf t)) → Fits t v →
    Reads t (before front e t v rest) (moved (before front e t v rest) r) (value_of r) → r ≡ Ok (v, behind front e t v)
function_again t front rest e v (Ok x) fits law =
    let again = reads_again t front rest e v (placed (before front e t v rest) x.1) (Ok x.0) fits law in
    let value : x.0 ≡ v = cc (again.0) in
    let place : x.1 ≡ behind front e t v = ap (λ (c : Cursor). c.position) (again.1) in
    rw (value, place) refl
function_again t front rest e v (Err f) fits law =
    let again = reads_again t front rest e v (before front e t v rest) (Err f) fits law in
    absurd (cc (again.0))

pub each_again : (front rest : List ℕ) (e : Endian) → EachIsReadAgain front rest e
each_again front rest e = record {
  unsigned = λ size n some fits. let c : Cursor = before front e (Unsigned size) n rest in function_again (Unsigned size) front rest e n (number_in size c) fits (unsigned_law size c some);
  signed = λ w z some fits. let c : Cursor = before front e (Signed w) z rest in function_again (Signed w) front rest e z (signed_in w c) fits (signed_law w c some);
  truth = λ b. let c : Cursor = before front e Boolean b rest in function_again Boolean front rest e b (bool_in c) tt (bool_law c);
  text = λ text fits. let c : Cursor = before front e Text text rest in function_again Text front rest e text (text_in c) fits (text_law c (within front (written Text (length front) e text ++ rest)));
  texts = λ texts fits. let c : Cursor = before front e (Sequence Text) texts rest in function_again (Sequence Text) front rest e texts (texts_in c) fits (texts_reads c (moved c (texts_in c)) (value_of (texts_in c)) (within front (written (Sequence Text) (length front) e texts ++ rest)) refl refl);
  octets = λ body. let c : Cursor = before front e (Octets (length body)) body rest in function_again (Octets (length body)) front rest e body (octets_in (length body) c) refl (octets_law (length body) c (within front (body ++ rest)));
} where
  within : (front others : List ℕ) → length front ≤ length (front ++ others)
  within front others = rw (length-append front others) (omega arith)

-- what was written as a struct is read again member by member
pub members_again : (s t : CdrType) (front rest : List ℕ) (e : Endian) (x : ValueOf s) (y : ValueOf t) (middle after : Cursor) (first : Result (ValueOf s) CdrFault) (second : Result (ValueOf t) CdrFault) → Fits s x → Fits t y →
    Reads s (before front e (Both s t) (x, y) rest) middle first → Reads t middle after second → (first ≡ Ok x) × (second ≡ Ok y) × (after ≡ placed (before front e (Both s t) (x, y) rest) (behind front e (Both s t) (x, y)))
members_again s t front rest e x y middle after first second fits more law others =
    let c : Cursor = before front e (Both s t) (x, y) rest in
    let ends : Cursor = placed c (behind front e (Both s t) (x, y)) in
    let parts = members_parted s t c ends (x, y) (written_taken (Both s t) front rest e (x, y) (fits, more)) in
    let one = law.only x (parts.0) (parts.1) in
    let left : Takes t middle ends y = rw (one.1) (parts.2) in
    let two = others.only y ends left in
    (one.0, two.0, two.1)
