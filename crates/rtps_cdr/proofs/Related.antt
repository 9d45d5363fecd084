-- What a read by its function gives, is what the relation has.
use Rattle.std.proofs.Common.{append_assoc, ◌≡◌, ℕ, zero, suc, ◌+◌, ◌-◌, ◌≤◌, ◌<◌, true, false, Bool, List, [], ◌∷◌, ◌++◌, length, take, drop, nat_le, if◌then◌else◌, Ok, Err, refl, sym, ◌∙◌, ap, arith, slice_index, add-zero, Result, ℤ}
use Rattle.std.proofs.lemmas.List.{length-drop, length-take-le, take-append-drop, drop-drop, take_at, drop_at, length-append, take-take, drop-take, get_or-drop}
use Rattle.std.proofs.lemmas.Grind.{common_steps}
use Rattle.byteorder.specs.Numbers.{big_from-take, little_from-take, big_from-append, little_from-append}
use Rattle.rtps_types.specs.declared.field.Endian.{Endian}
use Rattle.rtps_types.specs.declared.field.Endian.TheVariants.{Big, Little}
use Rattle.rtps_types.specs.Field.{number}
use Rattle.rtps_cdr.specs.declared.fault.CdrFault.TheVariants.{Short, BadBool}
use Rattle.rtps_cdr.specs.Cdr.{Unsigned, Signed, Boolean, Octets, Gaps, Free, Zeros, IsNumber, IsGap, padding}
use Rattle.std.specs.Int.{Width, byte_len, cast_signed}
use Rattle.std.specs.Str.{IsUtf8, is_utf8}
use Rattle.rtps_cdr.specs.declared.fault.CdrFault.{CdrFault}
use Rattle.std.proofs.lemmas.Str.{is_utf8-from_IsUtf8, IsUtf8-from_is_utf8}
use Rattle.rtps_cdr.specs.Reading.{Cursor, Read, Reads, Takes, value_of, moved, mapped, aligned, number_from, number_in, signed_in, bool_in, bool_of, octets_in, followed_by, seen, place_seen}
use Rattle.std.specs.Borrow.{Bor}

-- ---- numbers

-- a number reads its own octets alone
number-take : (e : Endian) (n : ℕ) (xs : List ℕ) → number e n (take n xs) ≡ number e n xs
number-take Big n xs = big_from-take 0 n n xs (omega arith)
number-take Little n xs = little_from-take 0 n n xs (omega arith)

number-append : (e : Endian) (n : ℕ) (xs ys : List ℕ) → n ≤ length xs → number e n (xs ++ ys) ≡ number e n xs
number-append Big n xs ys h = big_from-append n xs ys h
number-append Little n xs ys h = little_from-append n xs ys h

pub take-add : (i j : ℕ) (xs : List ℕ) → take (i + j) xs ≡ take i xs ++ take j (drop i xs)
take-add i j xs = sym (take-append-drop i (take (i + j) xs)) ∙ rw (take-take i (i + j) xs (omega arith), drop-take i j xs) refl

pub is_true : (m n : ℕ) → m ≤ n → nat_le m n ≡ true
is_true m n h = grind (arith, common_steps)

pub is_false : (m n : ℕ) → n < m → nat_le m n ≡ false
is_false m n h = grind (arith, common_steps)

-- where there is room
number_takes : (size : ℕ) (c : Cursor) → aligned size c.position + size ≤ length c.octets → Takes (Unsigned size) c (record { octets = c.octets; endian = c.endian; position = aligned size c.position + size }) (number c.endian size (drop (aligned size c.position) c.octets))
number_takes size c room =
    let pad : ℕ = padding size c.position in
    let left : List ℕ = drop c.position c.octets in
    let long : pad + size ≤ length left = omega (arith, length-drop c.position c.octets) in
    record {
      front = take (pad + size) left;
      rest = drop (pad + size) left;
      parts = sym (take-append-drop (pad + size) left);
      stands = record {
        gap = take pad left;
        field = take size (drop pad left);
        text = take-add pad size left;
        aligns = length-take-le pad left (omega arith);
        full = length-take-le size (drop pad left) (omega (arith, length-drop pad left));
        encodes = number-take c.endian size (drop pad left) ∙ ap (number c.endian size) (drop-drop pad c.position c.octets);
      };
      behind = let e : length (take (pad + size) left) ≡ pad + size = length-take-le (pad + size) left long in
          rw e (ap (λ (p : ℕ). record { octets = c.octets; endian = c.endian; position = p }) (omega arith));
    }

-- what is related has room, and is the number
number_taken : (size : ℕ) (c behind : Cursor) (n : ℕ) → 0 < size → Takes (Unsigned size) c behind n → (aligned size c.position + size ≤ length c.octets) × (number c.endian size (drop (aligned size c.position) c.octets) ≡ n) × (behind ≡ record { octets = c.octets; endian = c.endian; position = aligned size c.position + size })
number_taken size c behind n some t =
    let pad : ℕ = padding size c.position in
    let s = t.stands in
    let gap_len : length s.gap ≡ pad = s.aligns in
    let whole : drop c.position c.octets ≡ s.gap ++ (s.field ++ t.rest) = t.parts ∙ rw s.text (simp append_assoc) in
    let len : length c.octets - c.position ≡ pad + (size + length t.rest) =
    sym (length-drop c.position c.octets) ∙ ap length whole ∙ rw (length-append s.gap (s.field ++ t.rest), length-append s.field t.rest, gap_len, s.full) refl in
    let at_field : drop (aligned size c.position) c.octets ≡ s.field ++ t.rest =
    sym (drop-drop pad c.position c.octets) ∙ ap (drop pad) whole ∙ drop_at s.gap (s.field ++ t.rest) pad gap_len in
    let front_len : length t.front ≡ pad + size = ap length s.text ∙ length-append s.gap s.field ∙ rw (gap_len, s.full) refl in (
      omega arith,
      ap (number c.endian size) at_field ∙ number-append c.endian size s.field t.rest (omega (arith, s.full)) ∙ s.encodes,
      t.behind ∙ ap (λ (p : ℕ). record { octets = c.octets; endian = c.endian; position = p }) (omega arith),
    )

number_law_at : (size : ℕ) (c : Cursor) (b : Bool) → 0 < size → nat_le (aligned size c.position + size) (length c.octets) ≡ b →
    let r : Read ℕ = if b then Ok (number c.endian size (drop (aligned size c.position) c.octets), aligned size c.position + size) else Err Short in
    Reads (Unsigned size) c (moved c r) (value_of r)
number_law_at size c true some h = record {
  found = number_takes size c (grind (arith, common_steps));
  only = λ v behind t. let known = number_taken size c behind v some t in (ap Ok known.1, sym known.2);
}
number_law_at size c false some h = record {
  found = refl;
  only = λ v behind t. let known = number_taken size c behind v some t in absurd (grind (arith, common_steps, known.0));
}

pub unsigned_law : (size : ℕ) (c : Cursor) → 0 < size → Reads (Unsigned size) c (moved c (number_in size c)) (value_of (number_in size c))
unsigned_law size c some = number_law_at size c (nat_le (aligned size c.position + size) (length c.octets)) some refl

pub signed_law : (w : Width) (c : Cursor) → 0 < byte_len w → Reads (Signed w) c (moved c (signed_in w c)) (value_of (signed_in w c))
signed_law w c some = signed_law_by w c (number_in (byte_len w) c) (unsigned_law (byte_len w) c some) where
  signed_law_by : (w : Width) (c : Cursor) (r : Read ℕ) → Reads (Unsigned (byte_len w)) c (moved c r) (value_of r) → Reads (Signed w) c (moved c (mapped (cast_signed w) r)) (value_of (mapped (cast_signed w) r))
  signed_law_by w c (Ok x) law = record {
    found = let t : Takes (Unsigned (byte_len w)) c (moved c (Ok x)) x.0 = law.found in record { front = t.front; rest = t.rest; parts = t.parts; stands = (x.0, t.stands, refl); behind = t.behind };
    only = λ v behind t. let k = law.only t.stands.0 behind (record { front = t.front; rest = t.rest; parts = t.parts; stands = t.stands.1; behind = t.behind }) in
        let e : x.0 ≡ t.stands.0 = cc (k.0) in
        (ap (λ (n : ℕ). Ok (cast_signed w n)) e ∙ ap Ok (sym t.stands.2), k.1);
  }
  signed_law_by w c (Err f) law = record {
    found = refl;
    only = λ v behind t. let k = law.only t.stands.0 behind (record { front = t.front; rest = t.rest; parts = t.parts; stands = t.stands.1; behind = t.behind }) in absurd (cc (k.0));
  }

-- the test of UTF-8 and the fact
pub utf8_true : (bs : List ℕ) → IsUtf8 bs → is_utf8 bs ≡ true
utf8_true bs h = is_utf8-from_IsUtf8 bs h

pub utf8_false : (bs : List ℕ) → ¬ (IsUtf8 bs) → is_utf8 bs ≡ false
utf8_false bs h = by_test bs (is_utf8 bs) refl h where
  by_test : (bs : List ℕ) (b : Bool) → is_utf8 bs ≡ b → ¬ (IsUtf8 bs) → b ≡ false
  by_test bs true e deny = absurd (deny (IsUtf8-from_is_utf8 bs e))
  by_test bs false e deny = refl

-- ---- single octets

aligned_one : (at : ℕ) → aligned 1 at ≡ at
aligned_one at = omega arith

octet_number : (e : Endian) (xs : List ℕ) → number e 1 xs ≡ slice_index xs 0
octet_number Big xs = omega arith
octet_number Little xs = omega arith

pub octet_is : (e : Endian) (octets : List ℕ) (at : ℕ) → at < length octets → number_from 1 e octets at ≡ Ok (slice_index octets at, at + 1)
octet_is e octets at h =
    rw (aligned_one at, is_true (at + 1) (length octets) (omega arith), octet_number e (drop at octets), get_or-drop at octets 0 0) (rw add-zero refl)

pub octet_none : (e : Endian) (octets : List ℕ) (at : ℕ) → length octets ≤ at → number_from 1 e octets at ≡ Err Short
octet_none e octets at h = rw (aligned_one at, is_false (at + 1) (length octets) (omega arith)) refl

-- a number of one octet
one_octet : (g : Gaps) (at : ℕ) (e : Endian) (octets : List ℕ) (n : ℕ) → IsNumber g 1 at e octets n → octets ≡ n ∷ []
one_octet g at e octets n h = cells octets n (is_long g at e octets n h) (is_encoded g at e octets n h) where
  cells : (octets : List ℕ) (n : ℕ) → length octets ≡ 1 → slice_index octets 0 ≡ n → octets ≡ n ∷ []
  cells [] n l s = absurd (omega (arith, l))
  cells (x ∷ []) n l s = ap (λ (y : ℕ). y ∷ []) s
  cells (x ∷ y ∷ ys) n l s = absurd (omega (arith, l))

  no_gap : (g : Gaps) (gap : List ℕ) (k : ℕ) → k ≡ 0 → IsGap g k gap → gap ≡ []
  no_gap Free [] k z h = refl
  no_gap Free (x ∷ xs) k z h = absurd (omega (arith, h))
  no_gap Zeros gap k z h = h ∙ rw z refl

  is_field : (g : Gaps) (at : ℕ) (e : Endian) (octets : List ℕ) (n : ℕ) (h : IsNumber g 1 at e octets n) → octets ≡ h.field
  is_field g at e octets n h = h.text ∙ rw (no_gap g h.gap (padding 1 at) (omega arith) h.aligns) refl

  is_long : (g : Gaps) (at : ℕ) (e : Endian) (octets : List ℕ) (n : ℕ) → IsNumber g 1 at e octets n → length octets ≡ 1
  is_long g at e octets n h = ap length (is_field g at e octets n h) ∙ h.full

  is_encoded : (g : Gaps) (at : ℕ) (e : Endian) (octets : List ℕ) (n : ℕ) → IsNumber g 1 at e octets n → slice_index octets 0 ≡ n
  is_encoded g at e octets n h = ap (λ (xs : List ℕ). slice_index xs 0) (is_field g at e octets n h) ∙ sym (octet_number e h.field) ∙ h.encodes

an_octet : (at : ℕ) (e : Endian) (n : ℕ) → IsNumber Free 1 at e (n ∷ []) n
an_octet at e n = record { gap = []; field = n ∷ []; text = refl; aligns = omega arith; full = refl; encodes = octet_number e (n ∷ []) }

-- ---- truth values

bool_taken : (c : Cursor) (n after : ℕ) → Reads (Unsigned 1) c (moved c (Ok (n, after))) (Ok n) → (v : Bool) (behind : Cursor) → Takes Boolean c behind v → (n ≡ (if v then 1 else 0)) × (moved c (Ok (n, after)) ≡ behind)
bool_taken c n after law v behind t =
    let b : ℕ = if v then 1 else 0 in
    let k = law.only b behind (record { front = t.front; rest = t.rest; parts = t.parts; stands = rw t.stands (an_octet c.position c.endian b); behind = t.behind }) in
    (cc (k.0), k.1)

bool_only : (c : Cursor) (n after : ℕ) → Reads (Unsigned 1) c (moved c (Ok (n, after))) (Ok n) → (v : Bool) (behind : Cursor) → Takes Boolean c behind v → (value_of (bool_of n after) ≡ Ok v) × (moved c (bool_of n after) ≡ behind)
bool_only c n after law true behind t = let k = bool_taken c n after law true behind t in (rw (k.0) refl, rw (k.0) (k.1))
bool_only c n after law false behind t = let k = bool_taken c n after law false behind t in (rw (k.0) refl, rw (k.0) (k.1))

bool_law_by : (c : Cursor) (n after : ℕ) → Reads (Unsigned 1) c (moved c (Ok (n, after))) (Ok n) → Reads Boolean c (moved c (bool_of n after)) (value_of (bool_of n after))
bool_law_by c zero after law = record {
  found = let t : Takes (Unsigned 1) c (moved {A = ℕ} c (Ok (0, after))) 0 = law.found in
      record { front = t.front; rest = t.rest; parts = t.parts; stands = one_octet Free c.position c.endian t.front 0 t.stands; behind = t.behind };
  only = bool_only c 0 after law;
}
bool_law_by c (suc zero) after law = record {
  found = let t : Takes (Unsigned 1) c (moved {A = ℕ} c (Ok (1, after))) 1 = law.found in
      record { front = t.front; rest = t.rest; parts = t.parts; stands = one_octet Free c.position c.endian t.front 1 t.stands; behind = t.behind };
  only = bool_only c 1 after law;
}
bool_law_by c (suc (suc n)) after law =
    let bad : bool_of (suc (suc n)) after ≡ Err BadBool = grind (arith, common_steps) in
    rw bad (record { found = refl; only = λ v behind t. absurd (other n v ((bool_taken c (suc (suc n)) after law v behind t).0)) }) where
      other : (n : ℕ) (v : Bool) → (suc (suc n) ≡ (if v then 1 else 0)) → ⊥
      other n true h = omega (arith, h)
      other n false h = omega (arith, h)

pub bool_law : (c : Cursor) → Reads Boolean c (moved c (bool_in c)) (value_of (bool_in c))
bool_law c = by_read c (number_in 1 c) (unsigned_law 1 c (omega arith)) where
  by_read : (c : Cursor) (r : Read ℕ) → Reads (Unsigned 1) c (moved c r) (value_of r) → Reads Boolean c (moved c (followed_by r bool_of)) (value_of (followed_by r bool_of))
  by_read c (Ok x) law = bool_law_by c x.0 x.1 law
  by_read c (Err f) law = record {
    found = refl;
    only = λ v behind t. let b : ℕ = if v then 1 else 0 in
        let k = law.only b behind (record { front = t.front; rest = t.rest; parts = t.parts; stands = rw t.stands (an_octet c.position c.endian b); behind = t.behind }) in
        absurd (cc (k.0));
  }

-- ---- octets as they are

octets_law_at : (n : ℕ) (c : Cursor) (b : Bool) → c.position ≤ length c.octets → nat_le (c.position + n) (length c.octets) ≡ b →
    let r : Read (List ℕ) = if b then Ok (take n (drop c.position c.octets), c.position + n) else Err Short in
    Reads (Octets n) c (moved c r) (value_of r)
octets_law_at n c true within h = let room : c.position + n ≤ length c.octets = grind (arith, common_steps) in
    let long : length (take n (drop c.position c.octets)) ≡ n = length-take-le n (drop c.position c.octets) (omega (arith, length-drop c.position c.octets)) in
    record {
      found = record {
        front = take n (drop c.position c.octets);
        rest = drop n (drop c.position c.octets);
        parts = sym (take-append-drop n (drop c.position c.octets));
        stands = (long, refl);
        behind = rw long refl;
      };
      only = λ v behind t. let whole : drop c.position c.octets ≡ v ++ t.rest = t.parts ∙ rw (t.stands.1) refl in
          (ap Ok (rw whole (take_at v t.rest n (t.stands.0))), sym (t.behind ∙ rw (t.stands.1, t.stands.0) refl));
    }
octets_law_at n c false within h = record {
  found = refl;
  only = λ v behind t. let whole : drop c.position c.octets ≡ v ++ t.rest = t.parts ∙ rw (t.stands.1) refl in
      let l : length c.octets - c.position ≡ n + length t.rest = sym (length-drop c.position c.octets) ∙ ap length whole ∙ length-append v t.rest ∙ rw (t.stands.0) refl in
      let room : c.position + n ≤ length c.octets = omega arith in
      absurd (cc (h, is_true (c.position + n) (length c.octets) room));
}

pub octets_law : (n : ℕ) (c : Cursor) → c.position ≤ length c.octets → Reads (Octets n) c (moved c (octets_in n c)) (value_of (octets_in n c))
octets_law n c within = octets_law_at n c (nat_le (c.position + n) (length c.octets)) within refl

-- ---- for the functions of the code

pub unsigned_reads : (size : ℕ) (c after : Cursor) (answer : Result ℕ CdrFault) → 0 < size → answer ≡ value_of (number_in size c) → after ≡ moved c (number_in size c) → Reads (Unsigned size) c after answer
unsigned_reads size c after answer some e f = rw (e, f) (unsigned_law size c some)

pub signed_reads : (w : Width) (c after : Cursor) (answer : Result ℤ CdrFault) → 0 < byte_len w → answer ≡ value_of (signed_in w c) → after ≡ moved c (signed_in w c) → Reads (Signed w) c after answer
signed_reads w c after answer some e f = rw (e, f) (signed_law w c some)

pub bool_reads : (c after : Cursor) (answer : Result Bool CdrFault) → answer ≡ value_of (bool_in c) → after ≡ moved c (bool_in c) → Reads Boolean c after answer
bool_reads c after answer e f = rw (e, f) (bool_law c)

pub octets_reads : (n : ℕ) (c after : Cursor) (answer : Result (List ℕ) CdrFault) → c.position ≤ length c.octets → answer ≡ value_of (octets_in n c) → after ≡ moved c (octets_in n c) → Reads (Octets n) c after answer
octets_reads n c after answer within e f = rw (e, f) (octets_law n c within)

-- what is read of borrowed octets, without where they lie
pub seen_value : (r : Result (Bor (List ℕ) × ℕ) CdrFault) → seen (value_of r) ≡ value_of (place_seen r)
seen_value (Ok x) = refl
seen_value (Err f) = refl

pub seen_moved : (c : Cursor) (r : Result (Bor (List ℕ) × ℕ) CdrFault) → moved c r ≡ moved c (place_seen r)
seen_moved c (Ok x) = refl
seen_moved c (Err f) = refl
