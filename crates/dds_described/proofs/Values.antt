-- A value is found exactly if octets encode it.
use Rattle.std.proofs.Common.{◌≡◌, ℕ, zero, suc, ◌+◌, ◌-◌, ◌≤◌, ◌==◌, Bool, true, false, List, [], ◌++◌, length, take, drop, nat_le, if◌then◌else◌, Some, None, refl, sym, ◌∙◌, ap, subst, arith, append_assoc, length-append, length-drop, length-take-le, take-append-drop, drop-drop, drop_at}
use Rattle.std.specs.Int.{byte_len, cast_signed, w32}
use Rattle.std.proofs.lemmas.Option.{some_pair_parts}
use Rattle.byteorder.specs.Numbers.{big_from-take, little_from-take, big_from-append, little_from-append}
use Rattle.rtps_types.specs.declared.field.Endian.{Endian}
use Rattle.rtps_types.specs.declared.field.Endian.TheVariants.{Big, Little}
use Rattle.rtps_types.specs.Field.{number}
use Rattle.rtps_cdr.specs.Cdr.{AreAll, Unsigned, Boolean, Text as CdrText, Free, IsNumber as IsLength, IsText, padding}
use Rattle.rtps_cdr.specs.Reading.{Cursor, aligned, bool_in, number_in, placed, text_in}
use Rattle.rtps_cdr.proofs.Related.{bool_law, is_true, take-add, unsigned_law}
use Rattle.rtps_cdr.proofs.Counted.{text_law}
use Rattle.dds_xcdr.specs.declared.version.Version.{Version}
use Rattle.dds_xcdr.specs.Product.{product}
use Rattle.dds_xcdr.specs.Xtype.{Xtype, Fields, Tag, Number, Signed, Truth, Enum, Text, Sequence, Array, Struct, none, field, ValueOf, ValuesOf}
use Rattle.dds_xcdr.specs.Xcdr.{AreFields, IsCounted, IsHeaded, IsNumber, IsWithin, IsXcdr, alignment, has_header}
use Rattle.dds_described.specs.Reading.{Found, found, mapped, tested, number_found, is_within, items_found, counted_found, headed_found, value_found, values_found}
use Rattle.dds_described.specs.Laws.{Front, Finds, Encodes}
use Rattle.dds_described.proofs.Finds.{Within, Tested, Then, Items, still_within, finds_as, mapped_finds, tested_finds, followed_finds, items_finds, cdr_finds}

-- ---- numbers

number-take : (e : Endian) (n : ℕ) (xs : List ℕ) → number e n (take n xs) ≡ number e n xs
number-take Big n xs = big_from-take 0 n n xs (omega arith)
number-take Little n xs = little_from-take 0 n n xs (omega arith)

number-append : (e : Endian) (n : ℕ) (xs ys : List ℕ) → n ≤ length xs
    → number e n (xs ++ ys) ≡ number e n xs
number-append Big n xs ys h = big_from-append n xs ys h
number-append Little n xs ys h = little_from-append n xs ys h

number_there : (v : Version) (size : ℕ) (c : Cursor)
    → aligned (alignment v size) c.position + size ≤ length c.octets
    → Front ℕ (λ at os n. IsNumber v size at c.endian os n) c
    (number c.endian size (drop (aligned (alignment v size) c.position) c.octets))
    (aligned (alignment v size) c.position + size)
number_there v size c room =
    let pad : ℕ = padding (alignment v size) c.position in
    let left : List ℕ = drop c.position c.octets in
    let long : pad + size ≤ length left = omega (arith, length-drop c.position c.octets) in
    record {
      front = take (pad + size) left;
      rest = drop (pad + size) left;
      parts = sym (take-append-drop (pad + size) left);
      stands = record {
        gap = take pad left;
        digits = take size (drop pad left);
        text = take-add pad size left;
        aligns = length-take-le pad left (omega arith);
        full = length-take-le size (drop pad left) (omega (arith, length-drop pad left));
        encodes = number-take c.endian size (drop pad left)
            ∙ ap (number c.endian size) (drop-drop pad c.position c.octets);
      };
      ends = omega (arith, length-take-le (pad + size) left long);
    }

record Known (v : Version) (size : ℕ) (c : Cursor) (n end : ℕ) : Type 0 where
  room : aligned (alignment v size) c.position + size ≤ length c.octets
  is : number c.endian size (drop (aligned (alignment v size) c.position) c.octets) ≡ n
  place : aligned (alignment v size) c.position + size ≡ end

number_known : (v : Version) (size : ℕ) (c : Cursor) (n end : ℕ) → Within c
    → Front ℕ (λ at os n. IsNumber v size at c.endian os n) c n end → Known v size c n end
number_known v size c n end within f =
    let pad : ℕ = padding (alignment v size) c.position in
    let s = f.stands in
    let whole : drop c.position c.octets ≡ s.gap ++ (s.digits ++ f.rest) = f.parts
    ∙ rw s.text (simp append_assoc) in
    let len : length c.octets - c.position ≡ pad + (size + length f.rest) =
    sym (length-drop c.position c.octets) ∙ ap length whole
    ∙ rw (length-append s.gap (s.digits ++ f.rest), length-append s.digits f.rest, s.aligns, s.full)
    refl in
    let at_field : drop (aligned (alignment v size) c.position) c.octets ≡ s.digits ++ f.rest =
    sym (drop-drop pad c.position c.octets) ∙ ap (drop pad) whole
    ∙ drop_at s.gap (s.digits ++ f.rest) pad s.aligns in
    let front_len : length f.front ≡ pad + size = ap length s.text ∙ length-append s.gap s.digits
    ∙ rw (s.aligns, s.full) refl in
    record {
      room = omega (arith, len, within);
      is = ap (number c.endian size) at_field
          ∙ number-append c.endian size s.digits f.rest (omega (arith, s.full)) ∙ s.encodes;
      place = omega (arith, f.ends, front_len);
    }

number_finds : (v : Version) (size : ℕ) (c : Cursor) → Within c
    → Finds ℕ (λ at os n. IsNumber v size at c.endian os n) c
    (number_found (alignment v size) size c)
number_finds v size c within =
    by_room (nat_le (aligned (alignment v size) c.position + size) (length c.octets)) refl where
      value : ℕ
      value = number c.endian size (drop (aligned (alignment v size) c.position) c.octets)

      stop : ℕ
      stop = aligned (alignment v size) c.position + size

      by_room : (b : Bool) → nat_le stop (length c.octets) ≡ b
          → Finds ℕ (λ at os n. IsNumber v size at c.endian os n) c
          (if b then Some (value, stop) else None)
      by_room true fits = record {
        found = λ n end same.
            let parts = some_pair_parts value n stop end same in
            let one : value ≡ n = parts.0 in
            let place : stop ≡ end = parts.1 in
            subst (λ (k : ℕ). Front ℕ (λ at os m. IsNumber v size at c.endian os m) c k end) one
            (subst (λ (k : ℕ). Front ℕ (λ at os m. IsNumber v size at c.endian os m) c value k)
            place (number_there v size c (grind (arith, fits))));
        only = λ n end front.
            let k = number_known v size c n end within front in
            ap (λ (m : ℕ). Some (m, stop)) k.is ∙ ap (λ (m : ℕ). Some (n, m)) k.place;
      }
      by_room false full = record {
        found = λ n end same. absurd (cc same);
        only = λ n end front.
            let k = number_known v size c n end within front in
            absurd (cc (full, is_true stop (length c.octets) k.room));
      }

-- ---- bounds and headers

within_true : (bound n : ℕ) → IsWithin bound n → is_within bound n ≡ true
within_true zero n is = refl
within_true (suc bound) n is = is_true n (suc bound) is

true_within : (bound n : ℕ) → is_within bound n ≡ true → IsWithin bound n
true_within zero n is = tt
true_within (suc bound) n is = grind (arith, is)

count_finds : (c : Cursor) → Finds ℕ (λ at os n. IsLength Free 4 at c.endian os n) c
    (found (number_in 4 c))
count_finds c = cdr_finds (Unsigned 4) c (number_in 4 c) (unsigned_law 4 c (omega arith))

same_count : (start n size : ℕ) → (start + n == start + size) ≡ true → n ≡ size
same_count start n size same = grind (arith, same)

count_same : (start n size : ℕ) → n ≡ size → (start + n == start + size) ≡ true
count_same start n size same = grind (arith, same)

-- what a header counts
abbrev Counted : (A : Type 0) → (ℕ → List ℕ → A → Type 0) → ℕ → ℕ → List ℕ → A → Type 0
Counted A is n at octets x = (length octets ≡ n) × is at octets x

headed_finds : (A : Type 0) (is : Endian → ℕ → List ℕ → A → Type 0) (b : Bool)
    (read : Cursor → Found A) → ((c : Cursor) → Within c → Finds A (is c.endian) c (read c))
    → (c : Cursor) → Within c
    → Finds A (λ at os x. IsHeaded b at c.endian (λ p ps. is c.endian p ps x) os) c
    (headed_found b read c)
headed_finds A is false read law c within = law c within
headed_finds A is true read law c within =
    finds_as A (Then ℕ A (λ at os n. IsLength Free 4 at c.endian os n) (Counted A (is c.endian)))
    (λ at os x. IsHeaded true at c.endian (λ p ps. is c.endian p ps x) os) c _
    (λ os x t. (
      t.1,
      t.2,
      t.3,
      subst (λ (n : ℕ). IsLength Free 4 c.position c.endian t.1 n) (sym t.5.0) t.4,
      t.5.1,
    ))
    (λ os x h. (length h.1, h.0, h.1, h.2, h.3, (refl, h.4)))
    (followed_finds ℕ A (λ at os n. IsLength Free 4 at c.endian os n) (Counted A (is c.endian)) c
    (found (number_in 4 c))
    (λ n start. tested (λ x end. end == start + n) (read (placed c start))) (count_finds c)
    (λ n start same.
    finds_as A (Tested A (is c.endian) (λ x end. end == start + n)) (Counted A (is c.endian) n)
    (placed c start) _
    (λ os x t. (same_count start (length os) n t.1, t.0))
    (λ os x t. (t.1, count_same start (length os) n t.0))
    (tested_finds A (is c.endian) (placed c start) (λ x end. end == start + n)
    (read (placed c start))
    (law (placed c start)
    (still_within ℕ (λ at os n. IsLength Free 4 at c.endian os n) c n start
    ((count_finds c).found n start same) within)))))

all_finds : (A : Type 0) (is : Endian → ℕ → List ℕ → A → Type 0) (read : Cursor → Found A)
    → ((c : Cursor) → Within c → Finds A (is c.endian) c (read c)) → (n : ℕ) (c : Cursor) → Within c
    → Finds (List A) (Items A (is c.endian) n) c (items_found read n c)
all_finds A is read law n c within =
    items_finds A (is c.endian) read c.endian c.octets
    (λ d order same inside.
    subst (λ (e : Endian). Finds A (is e) d (read d)) order (law d inside)) n c refl refl within

counted_finds : (A : Type 0) (is : Endian → ℕ → List ℕ → A → Type 0) (read : Cursor → Found A)
    → ((c : Cursor) → Within c → Finds A (is c.endian) c (read c)) → (c : Cursor) → Within c
    → Finds (List A) (λ at os xs. IsCounted (is c.endian) at c.endian xs os) c
    (counted_found read c)
counted_finds A is read law c within =
    finds_as (List A)
    (Then ℕ (List A) (λ at os n. IsLength Free 4 at c.endian os n) (Items A (is c.endian)))
    (λ at os xs. IsCounted (is c.endian) at c.endian xs os) c _
    (λ os xs t. (
      t.1,
      t.2,
      t.3,
      subst (λ (n : ℕ). IsLength Free 4 c.position c.endian t.1 n) (sym t.5.0) t.4,
      t.5.1,
    ))
    (λ os xs h. (length xs, h.0, h.1, h.2, h.3, (refl, h.4)))
    (followed_finds ℕ (List A) (λ at os n. IsLength Free 4 at c.endian os n)
    (Items A (is c.endian)) c (found (number_in 4 c))
    (λ n end. items_found read n (placed c end)) (count_finds c)
    (λ n end same.
    all_finds A is read law n (placed c end)
    (still_within ℕ (λ at os n. IsLength Free 4 at c.endian os n) c n end
    ((count_finds c).found n end same) within)))

-- ---- values

bounded_finds : (A : Type 0) (is : ℕ → List ℕ → List A → Type 0) (bound : ℕ) (c : Cursor)
    (r : Found (List A)) → Finds (List A) is c r
    → Finds (List A) (λ at os xs. IsWithin bound (length xs) × is at os xs) c
    (tested (λ xs end. is_within bound (length xs)) r)
bounded_finds A is bound c r law =
    finds_as (List A) (Tested (List A) is (λ xs end. is_within bound (length xs)))
    (λ at os xs. IsWithin bound (length xs) × is at os xs) c _
    (λ os xs t. (true_within bound (length xs) t.1, t.0))
    (λ os xs t. (t.1, within_true bound (length xs) t.0))
    (tested_finds (List A) is c (λ xs end. is_within bound (length xs)) r law)

-- the members after the first
abbrev Rest : Version → (t : Xtype) → (fields : Fields) → Endian → ValueOf t → ℕ → List ℕ
    → ValueOf t × ValuesOf fields → Type 0
Rest v t fields e x at octets xs = (xs.0 ≡ x) × AreFields v fields at e octets xs.1

none_end : (c : Cursor) (xs : Unit {0}) (end : ℕ)
    → ◌≡◌ {A = Found (Unit {0})} (Some (tt, c.position)) (Some (xs, end)) → c.position ≡ end
none_end c xs end same = (some_pair_parts tt xs c.position end same).1

fields_there : (v : Version) (tag : Tag) (t : Xtype) (fields : Fields) (at : ℕ) (e : Endian)
    (os : List ℕ) (xs : ValueOf t × ValuesOf fields)
    → Then (ValueOf t) (ValueOf t × ValuesOf fields) (λ p ps x. IsXcdr v t p e ps x)
    (Rest v t fields e) at os xs → AreFields v (field tag t fields) at e os xs
fields_there v tag t fields at e os xs h = (
  h.1,
  h.2,
  h.3,
  subst (λ (x : ValueOf t). IsXcdr v t at e h.1 x) (sym h.5.0) h.4,
  h.5.1,
)

array_there : (v : Version) (t : Xtype) (count at : ℕ) (e : Endian) (b : Bool) (os : List ℕ)
    (xs : List (ValueOf t))
    → IsHeaded b at e
    (λ p ps. Items (ValueOf t) (λ q items x. IsXcdr v t q e items x) count p ps xs) os
    → (length xs ≡ count)
    × IsHeaded b at e (λ p ps. AreAll (λ q items x. IsXcdr v t q e items x) p ps xs) os
array_there v t count at e false os xs h = h
array_there v t count at e true os xs h = (h.4.0, (h.0, h.1, h.2, h.3, h.4.1))

array_back : (v : Version) (t : Xtype) (count at : ℕ) (e : Endian) (b : Bool) (os : List ℕ)
    (xs : List (ValueOf t))
    → (length xs ≡ count)
    × IsHeaded b at e (λ p ps. AreAll (λ q items x. IsXcdr v t q e items x) p ps xs) os
    → IsHeaded b at e
    (λ p ps. Items (ValueOf t) (λ q items x. IsXcdr v t q e items x) count p ps xs) os
array_back v t count at e false os xs h = h
array_back v t count at e true os xs h = (h.1.0, h.1.1, h.1.2, h.1.3, (h.0, h.1.4))

mutual
  pub lawful : (v : Version) (t : Xtype) (c : Cursor) → Within c
      → Finds (ValueOf t) (Encodes v t c) c (value_found v t c)
  lawful v (Number style size) c within = number_finds v size c within
  lawful v (Signed w) c within =
      mapped_finds ℕ (ValueOf (Signed w)) (λ at os n. IsNumber v (byte_len w) at c.endian os n)
      (Encodes v (Signed w) c) c (cast_signed w)
      (number_found (alignment v (byte_len w)) (byte_len w) c) (λ os n is. (n, is, refl))
      (λ os z is. (is.0, sym is.2, is.1)) (number_finds v (byte_len w) c within)
  lawful v Truth c within = cdr_finds Boolean c (bool_in c) (bool_law c)
  lawful v (Enum values) c within =
      mapped_finds ℕ (ValueOf (Enum values)) (λ at os n. IsNumber v 4 at c.endian os n) (Encodes v (Enum values) c) c
      (cast_signed w32) (number_found (alignment v 4) 4 c) (λ os n is. (n, is, refl))
      (λ os z is. (is.0, sym is.2, is.1)) (number_finds v 4 c within)
  lawful v (Text bound) c within =
      finds_as (List ℕ)
      (λ at os text. IsWithin bound (length text) × IsText Free at c.endian os text)
      (Encodes v (Text bound) c) c _ (λ os x t. (t.1, t.0)) (λ os x t. (t.1, t.0))
      (bounded_finds ℕ (λ at os text. IsText Free at c.endian os text) bound c (found (text_in c))
      (cdr_finds CdrText c (text_in c) (text_law c within)))
  lawful v (Sequence t bound) c within =
      bounded_finds (ValueOf t)
      (λ at os xs. IsHeaded (has_header v t) at c.endian
      (λ p ps. IsCounted (λ q items x. IsXcdr v t q c.endian items x) p c.endian xs ps) os) bound c
      _
      (headed_finds (List (ValueOf t))
      (λ e p ps xs. IsCounted (λ q items x. IsXcdr v t q e items x) p e xs ps) (has_header v t)
      (λ d. counted_found (λ e. value_found v t e) d)
      (λ d inside. counted_finds (ValueOf t) (λ e q items x. IsXcdr v t q e items x)
      (λ e. value_found v t e) (λ e inner. lawful v t e inner) d inside) c within)
  lawful v (Array t dimensions) c within =
      finds_as (List (ValueOf t))
      (λ at os xs. IsHeaded (has_header v t) at c.endian
      (λ p ps. Items (ValueOf t) (λ q items x. IsXcdr v t q c.endian items x) (product dimensions) p ps xs) os)
      (Encodes v (Array t dimensions) c) c _
      (λ os xs h. array_there v t (product dimensions) c.position c.endian (has_header v t) os xs h)
      (λ os xs h. array_back v t (product dimensions) c.position c.endian (has_header v t) os xs h)
      (headed_finds (List (ValueOf t))
      (λ e p ps xs. Items (ValueOf t) (λ q items x. IsXcdr v t q e items x) (product dimensions) p ps xs)
      (has_header v t) (λ d. items_found (λ e. value_found v t e) (product dimensions) d)
      (λ d inside. all_finds (ValueOf t) (λ e q items x. IsXcdr v t q e items x)
      (λ e. value_found v t e) (λ e inner. lawful v t e inner) (product dimensions) d inside) c within)
  lawful v (Struct fields) c within = lawful_fields v fields c within

  lawful_fields : (v : Version) (fields : Fields) (c : Cursor) → Within c
      → Finds (ValuesOf fields) (λ at os xs. AreFields v fields at c.endian os xs) c
      (values_found v fields c)
  lawful_fields v none c within = record {
    found = λ xs end same. record {
      front = [];
      rest = drop c.position c.octets;
      parts = refl;
      stands = refl;
      ends = omega (arith, none_end c xs end same);
    };
    only = λ xs end front.
        ap (λ (n : ℕ). Some (tt, n)) (omega (arith, front.ends, ap length front.stands));
  }
  lawful_fields v (field tag t fields) c within =
      finds_as (ValueOf t × ValuesOf fields)
      (Then (ValueOf t) (ValueOf t × ValuesOf fields) (Encodes v t c)
      (Rest v t fields c.endian))
      (λ at os xs. AreFields v (field tag t fields) at c.endian os xs) c _
      (λ os xs h. fields_there v tag t fields c.position c.endian os xs h)
      (λ os xs h. (xs.0, h.0, h.1, h.2, h.3, (refl, h.4)))
      (followed_finds (ValueOf t) (ValueOf t × ValuesOf fields) (Encodes v t c)
      (Rest v t fields c.endian) c (value_found v t c)
      (λ x end. mapped (λ xs. (x, xs)) (values_found v fields (placed c end)))
      (lawful v t c within)
      (λ x end same.
      mapped_finds (ValuesOf fields) (ValueOf t × ValuesOf fields)
      (λ at os xs. AreFields v fields at c.endian os xs) (Rest v t fields c.endian x)
      (placed c end) (λ xs. (x, xs)) (values_found v fields (placed c end))
      (λ os xs is. (refl, is)) (λ os xs is. (xs.1, ap (λ (z : ValueOf t). (z, xs.1)) (sym is.0), is.1))
      (lawful_fields v fields (placed c end)
      (still_within (ValueOf t) (Encodes v t c) c x end
      ((lawful v t c within).found x end same) within))))
