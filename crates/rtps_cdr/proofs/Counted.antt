-- What comes after a count: the body of a text, and the items of a sequence.
use Rattle.std.proofs.Common.{append_assoc, ◌≡◌, ℕ, zero, suc, ◌+◌, ◌-◌, ◌≤◌, true, false, Bool, List, [], ◌∷◌, ◌++◌, length, take, drop, nat_le, if◌then◌else◌, Result, Ok, Err, refl, sym, ◌∙◌, ap, subst, arith, ◌==◌, slice_index}
use Rattle.std.proofs.lemmas.List.{length-drop, length-take-le, take-append-drop, drop-drop, take_at, drop_at, length-append, take_all, take_more, get_or-append_right}
use Rattle.std.proofs.lemmas.Grind.{common_steps}
use Rattle.std.proofs.lemmas.Str.{is_utf8-from_IsUtf8, IsUtf8-from_is_utf8}
use Rattle.std.specs.Str.{IsUtf8, is_utf8}
use Rattle.rtps_types.specs.declared.field.Endian.{Endian}
use Rattle.rtps_cdr.specs.declared.fault.CdrFault.{CdrFault}
use Rattle.rtps_cdr.specs.declared.fault.CdrFault.TheVariants.{Short, BadString, NotUtf8}
use Rattle.rtps_cdr.specs.Cdr.{CdrType, Unsigned, Text, Sequence, ValueOf, Free, IsNumber, IsCdr, IsTextBody, AreAll}
use Rattle.rtps_cdr.specs.Reading.{Cursor, placed, Read, Reads, Takes, value_of, moved, followed_by, number_in, text_in, text_from, text_of, text_body, items_in, sequence_in, texts_in}
use Rattle.rtps_cdr.proofs.Related.{is_true, unsigned_law}

-- octets that are a count and a body
record IsCounted {A : Type 0} (P : ℕ → ℕ → List ℕ → A → Type 0) (at : ℕ) (e : Endian) (octets : List ℕ) (v : A) : Type 0 where
  front : List ℕ
  back : List ℕ
  count : ℕ
  parts : octets ≡ front ++ back
  counts : IsNumber Free 4 at e front count
  body : P count (at + length front) back v

-- a body at a place, and where it ends
abbrev Stands : {A : Type 0} → (ℕ → ℕ → List ℕ → A → Type 0) → ℕ → List ℕ → ℕ → A × ℕ → Type 0
Stands P count octets at x = (back : List ℕ) × (rest : List ℕ) × (drop at octets ≡ back ++ rest) × P count at back x.0 × (x.1 ≡ at + length back)

-- what is after a count, by its function
record BodyReads {A : Type 0} (P : ℕ → ℕ → List ℕ → A → Type 0) (count : ℕ) (octets : List ℕ) (at : ℕ) (r : Read A) : Type 0 where
  found : (x : A × ℕ) → r ≡ Ok x → Stands P count octets at x
  only : (v : A) (back rest : List ℕ) → drop at octets ≡ back ++ rest → P count at back v → r ≡ Ok (v, at + length back)

-- where a value was taken: its place, and what is left
pub taken_place : (t : CdrType) (c after : Cursor) (v : ValueOf t) (h : Takes t c after v) → after.position ≡ c.position + length h.front
taken_place t c after v h = ap (λ (k : Cursor). k.position) (h.behind)

pub taken_rest : (t : CdrType) (c after : Cursor) (v : ValueOf t) (h : Takes t c after v) → drop after.position c.octets ≡ h.rest
taken_rest t c after v h =
    ap (λ (p : ℕ). drop p c.octets) (taken_place t c after v h) ∙ sym (drop-drop (length h.front) c.position c.octets) ∙ ap (drop (length h.front)) (h.parts) ∙ drop_at h.front h.rest (length h.front) refl

pub taken_within : (t : CdrType) (c after : Cursor) (v : ValueOf t) → Takes t c after v → c.position ≤ length c.octets → after.position ≤ length c.octets
taken_within t c after v h within =
    let place = taken_place t c after v h in
    let left : length c.octets - c.position ≡ length h.front + length h.rest = sym (length-drop c.position c.octets) ∙ ap length (h.parts) ∙ length-append h.front h.rest in
    omega arith

counted_only : (t : CdrType) (P : ℕ → ℕ → List ℕ → ValueOf t → Type 0) (c : Cursor) (x : ℕ × ℕ) → Reads (Unsigned 4) c (moved c (Ok x)) (Ok x.0) →
    (r : Read (ValueOf t)) → BodyReads P x.0 c.octets x.1 r → (v : ValueOf t) (behind : Cursor) (h : Takes t c behind v) →
    IsCounted P c.position c.endian h.front v → (value_of r ≡ Ok v) × (moved c r ≡ behind)
counted_only t P c x law r body v behind h s =
    let whole : drop c.position c.octets ≡ s.front ++ (s.back ++ h.rest) = h.parts ∙ rw (s.parts) (simp append_assoc) in
    let first : Takes (Unsigned 4) c (placed c (c.position + length s.front)) s.count = record { front = s.front; rest = s.back ++ h.rest; parts = whole; stands = s.counts; behind = refl } in
    let k = law.only s.count (placed c (c.position + length s.front)) first in
    let number : x.0 ≡ s.count = cc (k.0) in
    let place : x.1 ≡ c.position + length s.front = ap (λ (p : Cursor). p.position) (k.1) in
    let rest_is : drop x.1 c.octets ≡ s.back ++ h.rest = ap (λ (p : ℕ). drop p c.octets) place ∙ taken_rest (Unsigned 4) c (placed c (c.position + length s.front)) s.count first in
    let e : r ≡ Ok (v, x.1 + length s.back) = body.only v s.back h.rest rest_is (rw (number, place) (s.body)) in
    (rw e refl, rw e (rw place (sym (h.behind ∙ rw (s.parts, length-append s.front s.back) (ap (placed c) (omega arith))))))

counted_none : (t : CdrType) (P : ℕ → ℕ → List ℕ → ValueOf t → Type 0) (c : Cursor) (f : CdrFault) → Reads (Unsigned 4) c c (Err f) →
    (v : ValueOf t) (behind : Cursor) (h : Takes t c behind v) → IsCounted P c.position c.endian h.front v → ⊥
counted_none t P c f law v behind h s =
    let k = law.only s.count (placed c (c.position + length s.front)) (record { front = s.front; rest = s.back ++ h.rest; parts = h.parts ∙ rw (s.parts) (simp append_assoc); stands = s.counts; behind = refl }) in
    cc (k.0)

counted_found : (t : CdrType) (P : ℕ → ℕ → List ℕ → ValueOf t → Type 0) (c : Cursor) → ((octets : List ℕ) (v : ValueOf t) → IsCounted P c.position c.endian octets v → IsCdr Free t c.position c.endian octets v) →
    (x : ℕ × ℕ) → Takes (Unsigned 4) c (placed c x.1) x.0 → (y : ValueOf t × ℕ) → BodyReads P x.0 c.octets x.1 (Ok y) → Takes t c (placed c y.1) y.0
counted_found t P c out x h y body =
    let b = body.found y refl in
    let place : x.1 ≡ c.position + length h.front = taken_place (Unsigned 4) c (placed c x.1) x.0 h in
    let rest_is : drop x.1 c.octets ≡ h.rest = taken_rest (Unsigned 4) c (placed c x.1) x.0 h in
    record {
      front = h.front ++ b.0;
      rest = b.1;
      parts = h.parts ∙ ap (λ (xs : List ℕ). h.front ++ xs) (sym rest_is ∙ b.2) ∙ simp append_assoc;
      stands = out (h.front ++ b.0) y.0 (record { front = h.front; back = b.0; count = x.0; parts = refl; counts = h.stands; body = rw place at (b.3) });
      behind = ap (placed c) (b.4 ∙ rw (place, length-append h.front b.0) (omega arith));
    }

-- a count and a body by their functions are what the relation has
counted_law : (t : CdrType) (P : ℕ → ℕ → List ℕ → ValueOf t → Type 0) (c : Cursor) → c.position ≤ length c.octets →
    ((octets : List ℕ) (v : ValueOf t) → IsCdr Free t c.position c.endian octets v → IsCounted P c.position c.endian octets v) →
    ((octets : List ℕ) (v : ValueOf t) → IsCounted P c.position c.endian octets v → IsCdr Free t c.position c.endian octets v) →
    (body : ℕ → ℕ → Read (ValueOf t)) → ((count at : ℕ) → at ≤ length c.octets → BodyReads P count c.octets at (body count at)) →
    Reads t c (moved c (followed_by (number_in 4 c) body)) (value_of (followed_by (number_in 4 c) body))
counted_law t P c within into out body each = by_count t P c within into out body each (number_in 4 c) (unsigned_law 4 c (omega arith)) where
  by_body : (t : CdrType) (P : ℕ → ℕ → List ℕ → ValueOf t → Type 0) (c : Cursor) →
      ((octets : List ℕ) (v : ValueOf t) → IsCdr Free t c.position c.endian octets v → IsCounted P c.position c.endian octets v) →
      ((octets : List ℕ) (v : ValueOf t) → IsCounted P c.position c.endian octets v → IsCdr Free t c.position c.endian octets v) →
      (x : ℕ × ℕ) → Reads (Unsigned 4) c (moved c (Ok x)) (Ok x.0) → (r : Read (ValueOf t)) → BodyReads P x.0 c.octets x.1 r → Reads t c (moved c r) (value_of r)
  by_body t P c into out x law (Ok y) reads = record { found = counted_found t P c out x law.found y reads; only = λ v behind h. counted_only t P c x law (Ok y) reads v behind h (into h.front v h.stands) }
  by_body t P c into out x law (Err f) reads = record { found = refl; only = λ v behind h. counted_only t P c x law (Err f) reads v behind h (into h.front v h.stands) }

  by_count : (t : CdrType) (P : ℕ → ℕ → List ℕ → ValueOf t → Type 0) (c : Cursor) → c.position ≤ length c.octets →
      ((octets : List ℕ) (v : ValueOf t) → IsCdr Free t c.position c.endian octets v → IsCounted P c.position c.endian octets v) →
      ((octets : List ℕ) (v : ValueOf t) → IsCounted P c.position c.endian octets v → IsCdr Free t c.position c.endian octets v) →
      (body : ℕ → ℕ → Read (ValueOf t)) → ((count at : ℕ) → at ≤ length c.octets → BodyReads P count c.octets at (body count at)) →
      (r : Read ℕ) → Reads (Unsigned 4) c (moved c r) (value_of r) → Reads t c (moved c (followed_by r body)) (value_of (followed_by r body))
  by_count t P c within into out body each (Ok x) law = by_body t P c into out x law (body x.0 x.1) (each x.0 x.1 (taken_within (Unsigned 4) c (placed c x.1) x.0 law.found within))
  by_count t P c within into out body each (Err f) law = record { found = refl; only = λ v behind h. absurd (counted_none t P c f law v behind h (into h.front v h.stands)) }

-- ---- texts

text_of_good : (text : List ℕ) (after : ℕ) → IsUtf8 text → text_of (text ++ 0 ∷ []) after ≡ Ok (text, after)
text_of_good text after good =
    let l : length (text ++ 0 ∷ []) - 1 ≡ length text = rw (length-append text (0 ∷ [])) (omega arith) in
    let last : slice_index (text ++ 0 ∷ []) (length text) ≡ 0 = get_or-append_right text (0 ∷ []) (length text) (length text) 0 refl (omega arith) ∙ (let z : length text - length text ≡ 0 = omega arith in rw z refl) in
    rw (l, last, take_at text (0 ∷ []) (length text) refl, is_utf8-from_IsUtf8 text good) refl

text_of_found : (body : List ℕ) (after n : ℕ) (x : List ℕ × ℕ) → length body ≡ suc n → text_of body after ≡ Ok x → (x.1 ≡ after) × IsTextBody (suc n) body x.0
text_of_found body after n x l h = by_tests body after n x l (slice_index body (length body - 1) == 0) refl (is_utf8 (take (length body - 1) body)) refl h where
  by_tests : (body : List ℕ) (after n : ℕ) (x : List ℕ × ℕ) → length body ≡ suc n → (a : Bool) → (slice_index body (length body - 1) == 0) ≡ a → (b : Bool) → is_utf8 (take (length body - 1) body) ≡ b →
      (if a then (if b then Ok (take (length body - 1) body, after) else Err NotUtf8) else Err BadString) ≡ Ok x → (x.1 ≡ after) × IsTextBody (suc n) body x.0
  by_tests body after n x l true e true f h =
      let len : length body - 1 ≡ n = omega arith in
      let pair : (take (length body - 1) body, after) ≡ x = cc in
      let front : take n body ≡ x.0 = sym (ap (λ (k : ℕ). take k body) len) ∙ ap (λ (p : List ℕ × ℕ). p.0) pair in
      let zero_last : slice_index body (length body - 1) ≡ 0 = grind (arith, common_steps) in
      let last : slice_index body n ≡ 0 = ap (λ (k : ℕ). slice_index body k) (sym len) ∙ zero_last in
      let whole : body ≡ take n body ++ 0 ∷ [] = sym (take_all (n + 1) body (omega arith)) ∙ take_more body n 0 (omega arith) ∙ ap (λ (y : ℕ). take n body ++ y ∷ []) last in (
        sym (ap (λ (p : List ℕ × ℕ). p.1) pair),
        (
          whole ∙ ap (λ (xs : List ℕ). xs ++ 0 ∷ []) front,
          ap length (sym front) ∙ length-take-le n body (omega arith),
          IsUtf8-from_is_utf8 x.0 (ap is_utf8 (sym front ∙ ap (λ (k : ℕ). take k body) (sym len)) ∙ f),
        ),
      )
  by_tests body after n x l true e false f h = absurd (cc (h))
  by_tests body after n x l false e b f h = absurd (cc (h))

-- the body of a text, wherever it is
abbrev IsBody : ℕ → ℕ → List ℕ → List ℕ → Type 0
IsBody count at back text = IsTextBody count back text

body_law : (count : ℕ) (octets : List ℕ) (at : ℕ) → at ≤ length octets → BodyReads IsBody count octets at (text_body count octets at)
body_law zero octets at within = record {
  found = λ x h. let pair : ([], at) ≡ x = cc (h) in
      ([], drop at octets, refl, (refl, sym (ap (λ (p : List ℕ × ℕ). p.0) pair)), sym (ap (λ (p : List ℕ × ℕ). p.1) pair) ∙ omega arith);
  only = λ text back rest whole is. rw (is.0, is.1) (ap (λ (p : ℕ). Ok ([], p)) (omega arith));
}
body_law (suc n) octets at within =
    let some : (suc n == 0) ≡ false = grind (arith, common_steps) in
    rw some (by_test n octets at within (nat_le (at + suc n) (length octets)) refl) where
      by_test : (n : ℕ) (octets : List ℕ) (at : ℕ) → at ≤ length octets → (b : Bool) → nat_le (at + suc n) (length octets) ≡ b →
          BodyReads IsBody (suc n) octets at (followed_by (if b then Ok (take (suc n) (drop at octets), at + suc n) else Err Short) text_of)
      by_test n octets at within true h =
          let room : at + suc n ≤ length octets = grind (arith, common_steps) in
          let long : length (take (suc n) (drop at octets)) ≡ suc n = length-take-le (suc n) (drop at octets) (omega (arith, length-drop at octets)) in
          record {
            found = λ x e. let f = text_of_found (take (suc n) (drop at octets)) (at + suc n) n x long e in
                (take (suc n) (drop at octets), drop (suc n) (drop at octets), sym (take-append-drop (suc n) (drop at octets)), f.1, f.0 ∙ ap (λ (k : ℕ). at + k) (sym long));
            only = λ text back rest whole is.
                let l : length back ≡ suc n = ap length (is.0) ∙ length-append text (0 ∷ []) ∙ rw (is.1) (omega arith) in
                let field : take (suc n) (drop at octets) ≡ text ++ 0 ∷ [] = ap (take (suc n)) whole ∙ take_at back rest (suc n) l ∙ is.0 in
                rw (field, l) (text_of_good text (at + suc n) (is.2));
          }
      by_test n octets at within false h = record {
        found = λ x e. absurd (cc (e));
        only = λ text back rest whole is.
            let l : length back ≡ suc n = ap length (is.0) ∙ length-append text (0 ∷ []) ∙ rw (is.1) (omega arith) in
            let left : length octets - at ≡ suc n + length rest = sym (length-drop at octets) ∙ ap length whole ∙ length-append back rest ∙ rw l refl in
            let room : at + suc n ≤ length octets = omega arith in
            absurd (cc (h, is_true (at + suc n) (length octets) room));
      }

pub text_law : (c : Cursor) → c.position ≤ length c.octets → Reads Text c (moved c (text_in c)) (value_of (text_in c))
unfolding text_from
text_law c within =
    counted_law Text IsBody c within
    (λ octets v h. record { front = h.front; back = h.back; count = h.count; parts = h.parts; counts = h.counts; body = h.body })
    (λ octets v h. record { front = h.front; back = h.back; count = h.count; parts = h.parts; counts = h.counts; body = h.body })
    (λ count at. text_body count c.octets at)
    (λ count at inside. body_law count c.octets at inside)

pub text_reads : (c after : Cursor) (answer : Result (List ℕ) CdrFault) → c.position ≤ length c.octets → answer ≡ value_of (text_in c) → after ≡ moved c (text_in c) → Reads Text c after answer
text_reads c after answer within e f = rw (e, f) (text_law c within)

-- ---- sequences

-- as many items as the count says, one after the other
abbrev AreItems : (t : CdrType) → Endian → ℕ → ℕ → List ℕ → List (ValueOf t) → Type 0
AreItems t e count at back vs = (length vs ≡ count) × AreAll (λ p os v. IsCdr Free t p e os v) at back vs

no_items : (t : CdrType) (c : Cursor) (v : List (ValueOf t)) (back : List ℕ) → AreItems t c.endian 0 c.position back v →
    let none : Read (List (ValueOf t)) = Ok ([], c.position) in
    none ≡ Ok (v, c.position + length back)
no_items t c [] back is = rw (is.1) (ap (λ (p : ℕ). Ok ([], p)) (omega arith))
no_items t c (v ∷ vs) back is = absurd (omega (arith, is.0))

-- an item, and those after it
more_items : (t : CdrType) (c : Cursor) (n : ℕ) (x : ValueOf t) (at : ℕ) → Reads t c (placed c at) (Ok x) → (r : Read (List (ValueOf t))) → BodyReads (AreItems t c.endian) n c.octets at r →
    BodyReads (AreItems t c.endian) (suc n) c.octets c.position (followed_by r (λ xs after. Ok (x ∷ xs, after)))
more_items t c n x at law r reads = record { found = λ y h. found t c n x at law.found r reads y h; only = λ v back rest whole is. only t c n x at law r reads v back rest whole is } where
  found : (t : CdrType) (c : Cursor) (n : ℕ) (x : ValueOf t) (at : ℕ) → Takes t c (placed c at) x → (r : Read (List (ValueOf t))) → BodyReads (AreItems t c.endian) n c.octets at r →
      (y : List (ValueOf t) × ℕ) → followed_by r (λ xs after. Ok (x ∷ xs, after)) ≡ Ok y → Stands (AreItems t c.endian) (suc n) c.octets c.position y
  found t c n x at h (Err f) reads y e = absurd (cc (e))
  found t c n x at h (Ok xs) reads y e =
      let made : List (ValueOf t) × ℕ = (x ∷ xs.0, xs.1) in
      let pair : made ≡ y = cc (e) in
      let b = reads.found xs refl in
      let place : at ≡ c.position + length h.front = taken_place t c (placed c at) x h in
      let rest_is : drop at c.octets ≡ h.rest = taken_rest t c (placed c at) x h in
      let stands : Stands (AreItems t c.endian) (suc n) c.octets c.position made = (
        h.front ++ b.0,
        b.1,
        h.parts ∙ ap (λ (os : List ℕ). h.front ++ os) (sym rest_is ∙ b.2) ∙ simp append_assoc,
        (ap suc (b.3.0), (h.front, b.0, refl, h.stands, rw place at (b.3.1))),
        b.4 ∙ rw (place, length-append h.front b.0) (omega arith),
      ) in
      subst (Stands (AreItems t c.endian) (suc n) c.octets c.position) pair stands

  only : (t : CdrType) (c : Cursor) (n : ℕ) (x : ValueOf t) (at : ℕ) → Reads t c (placed c at) (Ok x) → (r : Read (List (ValueOf t))) → BodyReads (AreItems t c.endian) n c.octets at r →
      (v : List (ValueOf t)) (back rest : List ℕ) → drop c.position c.octets ≡ back ++ rest → AreItems t c.endian (suc n) c.position back v → followed_by r (λ xs after. Ok (x ∷ xs, after)) ≡ Ok (v, c.position + length back)
  only t c n x at law r reads [] back rest whole is = absurd (omega (arith, is.0))
  only t c n x at law r reads (v ∷ vs) back rest whole is =
      let front : List ℕ = is.1.0 in
      let behind : List ℕ = is.1.1 in
      let parts : back ≡ front ++ behind = is.1.2 in
      let first : Takes t c (placed c (c.position + length front)) v = record { front = front; rest = behind ++ rest; parts = whole ∙ rw parts (simp append_assoc); stands = is.1.3; behind = refl } in
      let k = law.only v (placed c (c.position + length front)) first in
      let value : x ≡ v = cc (k.0) in
      let place : at ≡ c.position + length front = ap (λ (p : Cursor). p.position) (k.1) in
      let rest_is : drop at c.octets ≡ behind ++ rest = ap (λ (p : ℕ). drop p c.octets) place ∙ taken_rest t c (placed c (c.position + length front)) v first in
      let e : r ≡ Ok (vs, at + length behind) = reads.only vs behind rest rest_is (omega (arith, is.0), rw place (is.1.4)) in
      let ends : at + length behind ≡ c.position + length back = rw (place, parts, length-append front behind) (omega arith) in
      rw (e, value, ends) refl

items_law : (t : CdrType) (read : Cursor → Read (ValueOf t)) → ((c : Cursor) → c.position ≤ length c.octets → Reads t c (moved c (read c)) (value_of (read c))) →
    (n : ℕ) (c : Cursor) → c.position ≤ length c.octets → BodyReads (AreItems t c.endian) n c.octets c.position (items_in read n c)
unfolding items_in
items_law t read each zero c within = record {
  found = λ x h. let made : List (ValueOf t) × ℕ = ([], c.position) in
      let pair : made ≡ x = cc (h) in
      let stands : Stands (AreItems t c.endian) 0 c.octets c.position made = ([], drop c.position c.octets, refl, (refl, refl), omega arith) in
      subst (Stands (AreItems t c.endian) 0 c.octets c.position) pair stands;
  only = λ v back rest whole is. no_items t c v back is;
}
items_law t read each (suc n) c within = by_first t c n (read c) (each c within) (λ p. items_in read n (placed c p)) (λ p inside. items_law t read each n (placed c p) inside) within where
  by_first : (t : CdrType) (c : Cursor) (n : ℕ) (r : Read (ValueOf t)) → Reads t c (moved c r) (value_of r) → (more : ℕ → Read (List (ValueOf t))) → ((p : ℕ) → p ≤ length c.octets → BodyReads (AreItems t c.endian) n c.octets p (more p)) → c.position ≤ length c.octets →
      BodyReads (AreItems t c.endian) (suc n) c.octets c.position (followed_by r (λ x behind. followed_by (more behind) (λ xs after. Ok (x ∷ xs, after))))
  by_first t c n (Ok x) law more each within = more_items t c n x.0 x.1 law (more x.1) (each x.1 (taken_within t c (placed c x.1) x.0 law.found within))
  by_first t c n (Err f) law more each within = record { found = λ y h. absurd (cc (h)); only = λ v back rest whole is. absurd (no_first t c n f law v back rest whole is) } where
    no_first : (t : CdrType) (c : Cursor) (n : ℕ) (f : CdrFault) → Reads t c c (Err f) → (v : List (ValueOf t)) (back rest : List ℕ) → drop c.position c.octets ≡ back ++ rest → AreItems t c.endian (suc n) c.position back v → ⊥
    no_first t c n f law [] back rest whole is = omega (arith, is.0)
    no_first t c n f law (v ∷ vs) back rest whole is =
        let k = law.only v (placed c (c.position + length (is.1.0))) (record { front = is.1.0; rest = is.1.1 ++ rest; parts = whole ∙ rw (is.1.2) (simp append_assoc); stands = is.1.3; behind = refl }) in
        cc (k.0)

-- a sequence by the function of its items
pub sequence_law : (t : CdrType) (read : Cursor → Read (ValueOf t)) → ((c : Cursor) → c.position ≤ length c.octets → Reads t c (moved c (read c)) (value_of (read c))) →
    (c : Cursor) → c.position ≤ length c.octets → Reads (Sequence t) c (moved c (sequence_in read c)) (value_of (sequence_in read c))
sequence_law t read each c within =
    counted_law (Sequence t) (AreItems t c.endian) c within
    (λ octets v h. record { front = h.0; back = h.1; count = length v; parts = h.2; counts = h.3; body = (refl, h.4) })
    (λ octets v h. (h.front, h.back, h.parts, rw (h.body.0) (h.counts), h.body.1))
    (λ count at. items_in read count (placed c at))
    (λ count at inside. items_law t read each count (placed c at) inside)

pub texts_reads : (c after : Cursor) (answer : Result (List (List ℕ)) CdrFault) → c.position ≤ length c.octets → answer ≡ value_of (texts_in c) → after ≡ moved c (texts_in c) → Reads (Sequence Text) c after answer
texts_reads c after answer within e f = rw (e, f) (sequence_law Text text_in text_law c within)
