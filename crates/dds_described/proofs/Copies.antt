-- Copies of values, part by part.
use Rattle.std.proofs.Common.{◌≡◌, ◌≢◌, ℕ, zero, suc, ◌+◌, ◌-◌, ◌^◌, ◌≤◌, ◌<◌, ◌==◌, Bool, true, false, List, [], ◌∷◌, ◌++◌, length, drop, get_or, if◌then◌else◌, Some, None, Result, Ok, Err, refl, sym, ◌∙◌, ap, subst, arith, append_assoc, append-nil, length-append, drop-cons, add-one, drop_of_length-le}
use Rattle.std.proofs.lemmas.Int.{of_z-to_z}
use Rattle.std.proofs.lemmas.Option.{some_pair_parts}
use Rattle.std.specs.Int.{Width, w8, w16, w32, w64, w128, byte_len, cast_signed, cast_unsigned}
use Rattle.rtps_types.specs.declared.field.Endian.{Endian}
use Rattle.rtps_cdr.specs.Reading.{Cursor, number_in, placed}
use Rattle.rtps_cdr.specs.Writing.{Output, all_written, number_written}
use Rattle.dds_topic.specs.Answer.{Fails}
use Rattle.dds_topic.specs.declared.unread.CatalogError.{CatalogError}
use Rattle.dds_topic.specs.declared.unread.CatalogError.TheVariants as errors
use Rattle.dds_topic.specs.declared.unread.Unread.{Unread as UnreadCode}
use Rattle.dds_topic.specs.declared.unread.Unread.TheVariants as unread
use Rattle.dds_xcdr.specs.declared.member.Member.{Member}
use Rattle.dds_xcdr.specs.declared.version.Version.{Version}
use Rattle.dds_xcdr.specs.declared.primitive.Primitive.{Primitive}
use Rattle.dds_xcdr.specs.declared.primitive.Primitive.TheVariants as primitive
use Rattle.dds_xcdr.specs.Types.{fields_in, plain, type_in}
use Rattle.dds_xcdr.specs.Xcdr.{alignment, has_header}
use Rattle.dds_xcdr.specs.Xtype.{Xtype, Fields, Tag, Number, Signed, Truth, Enum, Text, Sequence, Array, Struct, none, field, ValueOf, ValuesOf, number_size}
use Rattle.dds_described.specs.Reading.{Found, counted_found, followed, found, headed_found, is_within, items_found, mapped, number_found, tested, value_found, values_found}
use Rattle.dds_described.specs.Writing.{all_fields, put, written}
use Rattle.dds_described.specs.Copying.{Copy, behind, copied, counted_copied, fields_copied, items_copied, moved, moves, passed, value_in}

-- ---- errors

pub fails_as : (A B : Type 0) (e : CatalogError) (r : Result A UnreadCode) (s : Result B UnreadCode)
    → ((u : UnreadCode) → r ≡ Err u → s ≡ Err u) → Fails e r → Fails e s
fails_as A B errors.NoMemory r s to fails = tt
fails_as A B (errors.Unread u) r s to fails = to u fails

-- what comes after a copy
abbrev pub next : Result Copy UnreadCode → (Copy → Result Copy UnreadCode) → Result Copy UnreadCode
next (Ok m) f = f m
next (Err u) f = Err u

-- ---- what was read and written

found_ok : (A : Type 0) (c after : Cursor) (r : Found A) (x : A) → value_in r ≡ Ok x
    → after ≡ behind c r → (end : ℕ) × (r ≡ Some (x, end)) × (after ≡ placed c end)
found_ok A c after None x is place = absurd (cc is)
found_ok A c after (Some (y, end)) x is place = let same : y ≡ x = ok_is y x is in
    (end, ap (λ (z : A). Some (z, end)) same, place) where
      ok_is : (y x : A) → ◌≡◌ {A = Result A UnreadCode} (Ok y) (Ok x) → y ≡ x
      ok_is y x same = cc same

found_err : (A : Type 0) (r : Found A) (u : UnreadCode) → value_in r ≡ Err u
    → (r ≡ None) × (u ≡ unread.Malformed)
found_err A None u is = (refl, cc is)
found_err A (Some x) u is = absurd (cc is)

-- ---- numbers

pub byte_bits : (w : Width) (n : ℕ) → n < 256 ^ byte_len w → cast_unsigned w (cast_signed w n) ≡ n
byte_bits w8 n h = of_z-to_z w8 n (omega (arith, h))
byte_bits w16 n h = of_z-to_z w16 n (omega (arith, h))
byte_bits w32 n h = of_z-to_z w32 n (omega (arith, h))
byte_bits w64 n h = of_z-to_z w64 n (omega (arith, h))
byte_bits w128 n h = of_z-to_z w128 n (omega (arith, h))

abbrev Numbers : Version → ℕ → ℕ → ℕ → Cursor → Output → Xtype → Type 0
Numbers v size n end r w t =
    copied v t (record { reader = r; writer = w })
    ≡ Ok (record { reader = placed r end; writer = put (λ at e. number_written size at e n) w })

number_moved : (v : Version) (t : Xtype) (size n end : ℕ) (r : Cursor) (w : Output)
    → number_size t ≡ Some size → n < 256 ^ size
    → number_found (alignment v size) size r ≡ Some (n, end) → Numbers v size n end r w t
number_moved v (Number style k) size n end r w same fits is =
    let one : k ≡ size = cc same in
    subst (λ (j : ℕ). Numbers v size n end r w (Number style j)) (sym one)
    (ap (moved (λ at e x. written (Number style size) at e x) (record { reader = r; writer = w })) is)
number_moved v (Signed width) size n end r w same fits is =
    let one : byte_len width ≡ size = cc same in
    let whole : n < 256 ^ byte_len width = subst (λ (k : ℕ). n < 256 ^ k) (sym one) fits in
    let found : number_found (alignment v (byte_len width)) (byte_len width) r ≡ Some (n, end) =
    subst (λ (k : ℕ). number_found (alignment v k) k r ≡ Some (n, end)) (sym one) is in
    subst (λ (k : ℕ). Numbers v k n end r w (Signed width)) one
    (ap (λ (f : Found ℕ).
    moved (λ at e x. written (Signed width) at e x) (record { reader = r; writer = w })
    (mapped (cast_signed width) f)) found
    ∙ ap (λ (m : ℕ). Ok (record {
      reader = placed r end;
      writer = put (λ at e. number_written (byte_len width) at e m) w;
    })) (byte_bits width n whole))
number_moved v (Enum values) size n end r w same fits is =
    let one : 4 ≡ size = cc same in
    let whole : n < 256 ^ byte_len w32 = subst (λ (k : ℕ). n < 256 ^ k) (sym one) fits in
    let found : number_found (alignment v 4) 4 r ≡ Some (n, end) =
    subst (λ (k : ℕ). number_found (alignment v k) k r ≡ Some (n, end)) (sym one) is in
    subst (λ (k : ℕ). Numbers v k n end r w (Enum values)) one
    (ap (λ (f : Found ℕ).
    moved (λ at e x. written (Enum values) at e x) (record { reader = r; writer = w })
    (mapped (cast_signed w32) f)) found
    ∙ ap (λ (m : ℕ). Ok (record {
      reader = placed r end;
      writer = put (λ at e. number_written 4 at e m) w;
    })) (byte_bits w32 n whole))
number_moved v Truth size n end r w same fits is = absurd (cc same)
number_moved v (Text bound) size n end r w same fits is = absurd (cc same)
number_moved v (Sequence t bound) size n end r w same fits is = absurd (cc same)
number_moved v (Array t dimensions) size n end r w same fits is = absurd (cc same)
number_moved v (Struct fields) size n end r w same fits is = absurd (cc same)

pub number_copied : (v : Version) (t : Xtype) (size n : ℕ) (r after : Cursor) (w wrote : Output)
    (s : Copy) → record { reader = r; writer = w } ≡ s → number_size t ≡ Some size
    → n < 256 ^ size → value_in (number_found (alignment v size) size r) ≡ Ok n
    → after ≡ behind r (number_found (alignment v size) size r)
    → wrote ≡ put (λ at e. number_written size at e n) w
    → copied v t s ≡ Ok (record { reader = after; writer = wrote })
number_copied v t size n r after w wrote s view same fits is place put_is =
    let f = found_ok ℕ r after (number_found (alignment v size) size r) n is place in
    ap (copied v t) (sym view) ∙ number_moved v t size n f.0 r w same fits f.1
    ∙ ap (λ (d : Cursor). Ok (record {
      reader = d;
      writer = put (λ at e. number_written size at e n) w;
    })) (sym f.2)
    ∙ ap (λ (o : Output). Ok (record { reader = after; writer = o })) (sym put_is)

number_not : (v : Version) (t : Xtype) (size : ℕ) (s : Copy) → number_size t ≡ Some size
    → number_found (alignment v size) size s.reader ≡ None
    → copied v t s ≡ Err unread.Malformed
number_not v (Number style k) size s same is =
    let one : k ≡ size = cc same in
    subst (λ (j : ℕ). copied v (Number style j) s ≡ Err unread.Malformed) (sym one)
    (ap (moved (λ at e x. written (Number style size) at e x) s) is)
number_not v (Signed width) size s same is =
    let one : byte_len width ≡ size = cc same in
    let found : number_found (alignment v (byte_len width)) (byte_len width) s.reader ≡ None =
    subst (λ (k : ℕ). number_found (alignment v k) k s.reader ≡ None) (sym one) is in
    ap (λ (f : Found ℕ). moved (λ at e x. written (Signed width) at e x) s
    (mapped (cast_signed width) f)) found
number_not v (Enum values) size s same is =
    let one : 4 ≡ size = cc same in
    let found : number_found (alignment v 4) 4 s.reader ≡ None =
    subst (λ (k : ℕ). number_found (alignment v k) k s.reader ≡ None) (sym one) is in
    ap (λ (f : Found ℕ). moved (λ at e x. written (Enum values) at e x) s (mapped (cast_signed w32) f)) found
number_not v Truth size s same is = absurd (cc same)
number_not v (Text bound) size s same is = absurd (cc same)
number_not v (Sequence t bound) size s same is = absurd (cc same)
number_not v (Array t dimensions) size s same is = absurd (cc same)
number_not v (Struct fields) size s same is = absurd (cc same)

pub number_fails : (v : Version) (t : Xtype) (size : ℕ) (e : CatalogError) (r : Cursor) (w : Output)
    (s : Copy) → record { reader = r; writer = w } ≡ s → number_size t ≡ Some size
    → Fails e (value_in (number_found (alignment v size) size r)) → Fails e (copied v t s)
number_fails v t size e r w s view same fails =
    fails_as ℕ Copy e (value_in (number_found (alignment v size) size r)) (copied v t s)
    (λ u is.
    let f = found_err ℕ (number_found (alignment v size) size r) u is in
    ap (copied v t) (sym view)
    ∙ number_not v t size (record { reader = r; writer = w }) same f.0 ∙ ap Err (sym f.1)) fails

-- ---- one after another

pub put_more : (f g : ℕ → Endian → List ℕ) (w : Output)
    → put (λ at e. f at e ++ g (at + length (f at e)) e) w ≡ put g (put f w)
put_more f g w =
    let o : List ℕ = w.octets in
    let first : List ℕ = f (length o) w.endian in
    let place : length o + length first ≡ length (o ++ first) = sym (length-append o first) in
    let whole : o ++ (first ++ g (length (o ++ first)) w.endian)
    ≡ (o ++ first) ++ g (length (o ++ first)) w.endian = simp append_assoc in
    ap (λ (n : ℕ). record { octets = o ++ (first ++ g n w.endian); endian = w.endian }) place
    ∙ ap (λ (os : List ℕ). record { octets = os; endian = w.endian }) whole

pub both_moved : (A B C : Type 0) (r : Cursor → Found A) (q : Cursor → Found B) (f : A → B → C)
    (write : ℕ → Endian → C → List ℕ) (one : ℕ → Endian → A → List ℕ)
    (more : ℕ → Endian → B → List ℕ)
    → ((x : A) (y : B) (at : ℕ) (e : Endian)
    → write at e (f x y) ≡ one at e x ++ more (at + length (one at e x)) e y) → (s : Copy)
    → moves (λ c. followed (r c) (λ x end. mapped (f x) (q (placed c end)))) write s
    ≡ next (moves r one s) (λ m. moves q more m)
both_moved A B C r q f write one more same s = by_first (r s.reader) where
  by_second : (x : A) (end : ℕ) (y : Found B)
      → moved write s (mapped (f x) y)
      ≡ moved more (record {
        reader = placed s.reader end;
        writer = put (λ at e. one at e x) s.writer;
      }) y
  by_second x end None = refl
  by_second x end (Some (y, stop)) =
      ap (λ (os : List ℕ). Ok (record {
        reader = placed s.reader stop;
        writer = record { octets = s.writer.octets ++ os; endian = s.writer.endian };
      })) (same x y (length s.writer.octets) s.writer.endian)
      ∙ ap (λ (o : Output). Ok (record { reader = placed s.reader stop; writer = o }))
      (put_more (λ at e. one at e x) (λ at e. more at e y) s.writer)

  by_first : (x : Found A)
      → moved write s (followed x (λ x end. mapped (f x) (q (placed s.reader end))))
      ≡ next (moved one s x) (λ m. moves q more m)
  by_first None = refl
  by_first (Some (x, end)) = by_second x end (q (placed s.reader end))

nothing_put : (w : Output) → put (λ at e. []) w ≡ w
nothing_put w = ap (λ (os : List ℕ). record { octets = os; endian = w.endian })
    (append-nil w.octets)

-- what writes nothing only moves the reader
pub only_passed : (A : Type 0) (r : Cursor → Found A) (c after : Cursor) (w : Output)
    → passed c (r c) ≡ Ok after
    → moves r (λ at e x. []) (record { reader = c; writer = w })
    ≡ Ok (record { reader = after; writer = w })
only_passed A r c after w is = by_found (r c) is where
  by_found : (x : Found A) → passed c x ≡ Ok after
      → moved (λ at e x. []) (record { reader = c; writer = w }) x
      ≡ Ok (record { reader = after; writer = w })
  by_found None is = absurd (cc is)
  by_found (Some x) is =
      let same : placed c x.1 ≡ after = cc is in
      ap (λ (d : Cursor). Ok (record { reader = d; writer = put (λ at e. []) w })) same
      ∙ ap (λ (o : Output). Ok (record { reader = after; writer = o })) (nothing_put w)

pub not_passed : (A : Type 0) (r : Cursor → Found A) (c : Cursor) (w : Output) (u : UnreadCode)
    → passed c (r c) ≡ Err u
    → moves r (λ at e x. []) (record { reader = c; writer = w }) ≡ Err u
not_passed A r c w u is = by_found (r c) is where
  by_found : (x : Found A) → passed c x ≡ Err u
      → moved (λ at e x. []) (record { reader = c; writer = w }) x ≡ Err u
  by_found None is = let same : unread.Malformed ≡ u = cc is in ap Err same
  by_found (Some x) is = absurd (cc is)

-- ---- truth values

pub plain_truth : (p : Primitive) → None ≡ number_size (plain p) → plain p ≡ Truth
plain_truth primitive.Boolean e = refl
plain_truth primitive.Octet e = absurd (cc e)
plain_truth primitive.Char e = absurd (cc e)
plain_truth primitive.Int8 e = absurd (cc e)
plain_truth primitive.Uint8 e = absurd (cc e)
plain_truth primitive.Int16 e = absurd (cc e)
plain_truth primitive.Uint16 e = absurd (cc e)
plain_truth primitive.Int32 e = absurd (cc e)
plain_truth primitive.Uint32 e = absurd (cc e)
plain_truth primitive.Int64 e = absurd (cc e)
plain_truth primitive.Uint64 e = absurd (cc e)
plain_truth primitive.Float e = absurd (cc e)
plain_truth primitive.Double e = absurd (cc e)

-- ---- items

pub items_length : (A : Type 0) (read : Cursor → Found A) (n : ℕ) (c : Cursor) (xs : List A)
    (end : ℕ) → items_found read n c ≡ Some (xs, end) → length xs ≡ n
unfolding items_found
items_length A read zero c xs end is =
    ap length (sym (some_pair_parts [] xs c.position end is).0)
items_length A read (suc n) c xs end is =
    by_first (λ d ys stop same. items_length A read n d ys stop same) (read c) is where
      by_rest : (x : A) (r : Found (List A))
          → ((ys : List A) (stop : ℕ) → r ≡ Some (ys, stop) → length ys ≡ n)
          → mapped (λ ys. x ∷ ys) r ≡ Some (xs, end) → length xs ≡ suc n
      by_rest x None long is = absurd (cc is)
      by_rest x (Some (ys, stop)) long is =
          ap length (sym (some_pair_parts (x ∷ ys) xs stop end is).0) ∙ ap suc (long ys stop refl)

      by_first : ((d : Cursor) (ys : List A) (stop : ℕ) → items_found read n d ≡ Some (ys, stop)
          → length ys ≡ n) → (r : Found A)
          → followed r (λ x stop. mapped (λ ys. x ∷ ys) (items_found read n (placed c stop)))
          ≡ Some (xs, end) → length xs ≡ suc n
      by_first all None is = absurd (cc is)
      by_first all (Some (x, stop)) is =
          by_rest x (items_found read n (placed c stop)) (all (placed c stop)) is

items_next : (v : Version) (t : Xtype) (n : ℕ) (s : Copy)
    → items_copied v t (suc n) s ≡ next (copied v t s) (λ m. items_copied v t n m)
unfolding items_found
items_next v t n s =
    both_moved (ValueOf t) (List (ValueOf t)) (List (ValueOf t)) (λ c. value_found v t c)
    (λ c. items_found (λ d. value_found v t d) n c) (λ x xs. x ∷ xs)
    (λ at e xs. all_written (λ p x. written t p e x) at xs) (λ at e x. written t at e x)
    (λ at e xs. all_written (λ p x. written t p e x) at xs) (λ x xs at e. refl) s

no_items : (v : Version) (t : Xtype) (s : Copy) → items_copied v t 0 s ≡ Ok s
unfolding items_found
no_items v t s =
    ap (λ (o : Output). Ok (record { reader = s.reader; writer = o })) (nothing_put s.writer)

pub left_over : (n i : ℕ) → i < n → n - i ≡ suc (n - (i + 1))
left_over n i more = omega (arith, more)

-- one item more was copied
pub item_copied : (v : Version) (t : Xtype) (n i : ℕ) (m k s : Copy) → i < n
    → copied v t m ≡ Ok k → items_copied v t (n - i) m ≡ items_copied v t n s
    → items_copied v t (n - (i + 1)) k ≡ items_copied v t n s
item_copied v t n i m k s more is left =
    sym (ap (λ (r : Result Copy UnreadCode). next r (λ x. items_copied v t (n - (i + 1)) x)) is)
    ∙ sym (items_next v t (n - (i + 1)) m)
    ∙ ap (λ (j : ℕ). items_copied v t j m) (sym (left_over n i more)) ∙ left

pub item_fails : (v : Version) (t : Xtype) (n i : ℕ) (m s : Copy) (e : CatalogError) → i < n
    → Fails e (copied v t m) → items_copied v t (n - i) m ≡ items_copied v t n s
    → Fails e (items_copied v t n s)
item_fails v t n i m s e more fails left =
    fails_as Copy Copy e (copied v t m) (items_copied v t n s)
    (λ u is. sym left ∙ ap (λ (j : ℕ). items_copied v t j m) (left_over n i more)
    ∙ items_next v t (n - (i + 1)) m
    ∙ ap (λ (r : Result Copy UnreadCode). next r (λ x. items_copied v t (n - (i + 1)) x)) is) fails

pub items_done : (v : Version) (t : Xtype) (n i : ℕ) (m s : Copy) → n ≤ i
    → items_copied v t (n - i) m ≡ items_copied v t n s → items_copied v t n s ≡ Ok m
items_done v t n i m s all left =
    let over : n - i ≡ 0 = omega (arith, all) in
    sym left ∙ ap (λ (j : ℕ). items_copied v t j m) over ∙ no_items v t m

-- ---- counts

counted_by : (v : Version) (t : Xtype) (bound n end : ℕ) (c : Cursor) (w : Output)
    (r : Found (List (ValueOf t)))
    → ((xs : List (ValueOf t)) (stop : ℕ) → r ≡ Some (xs, stop) → length xs ≡ n)
    → is_within bound n ≡ true
    → moved (λ at e xs. written (Sequence t bound) at e xs) (record { reader = c; writer = w })
    (tested (λ xs stop. is_within bound (length xs)) r)
    ≡ moved (λ at e xs. all_written (λ p x. written t p e x) at xs) (record {
      reader = placed c end;
      writer = put (λ at e. number_written 4 at e n) w;
    }) r
counted_by v t bound n end c w None long inside = refl
counted_by v t bound n end c w (Some (xs, stop)) long inside =
    let count : length xs ≡ n = long xs stop refl in
    let yes : is_within bound (length xs) ≡ true = ap (is_within bound) count ∙ inside in
    let Rest : ℕ → Endian → List ℕ = λ at e. all_written (λ p x. written t p e x) at xs in
    ap (λ (b : Bool). moved (λ at e xs. written (Sequence t bound) at e xs)
    (record { reader = c; writer = w }) (if b then Some (xs, stop) else None)) yes
    ∙ ap (λ (o : Output). Ok (record { reader = placed c stop; writer = o }))
    (put_more (λ at e. number_written 4 at e (length xs)) Rest w)
    ∙ ap (λ (k : ℕ). Ok (record {
      reader = placed c stop;
      writer = put Rest (put (λ at e. number_written 4 at e k) w);
    })) count

-- a count was copied, and what it counts is left
pub count_copied : (v : Version) (t : Xtype) (bound n : ℕ) (c after : Cursor) (w wrote : Output)
    → value_in (found (number_in 4 c)) ≡ Ok n → after ≡ behind c (found (number_in 4 c))
    → is_within bound n ≡ true → wrote ≡ put (λ at e. number_written 4 at e n) w
    → counted_copied v t bound (record { reader = c; writer = w })
    ≡ items_copied v t n (record { reader = after; writer = wrote })
count_copied v t bound n c after w wrote is place inside put_is =
    let f = found_ok ℕ c after (found (number_in 4 c)) n is place in
    let read : Cursor → Found (ValueOf t) = λ d. value_found v t d in
    ap (λ (r : Found ℕ). moved (λ at e xs. written (Sequence t bound) at e xs)
    (record { reader = c; writer = w })
    (tested (λ xs stop. is_within bound (length xs))
    (followed r (λ k end. items_found read k (placed c end))))) f.1
    ∙ counted_by v t bound n f.0 c w (items_found read n (placed c f.0))
    (λ xs stop same. items_length (ValueOf t) read n (placed c f.0) xs stop same) inside
    ∙ ap (λ (d : Cursor). items_copied v t n (record {
      reader = d;
      writer = put (λ at e. number_written 4 at e n) w;
    })) (sym f.2)
    ∙ ap (λ (o : Output). items_copied v t n (record { reader = after; writer = o })) (sym put_is)

too_long : (v : Version) (t : Xtype) (bound n : ℕ) (s : Copy) (r : Found (List (ValueOf t)))
    → ((xs : List (ValueOf t)) (stop : ℕ) → r ≡ Some (xs, stop) → length xs ≡ n)
    → is_within bound n ≡ false
    → moved (λ at e xs. written (Sequence t bound) at e xs) s
    (tested (λ xs stop. is_within bound (length xs)) r) ≡ Err unread.Malformed
too_long v t bound n s None long outside = refl
too_long v t bound n s (Some (xs, stop)) long outside =
    ap (λ (b : Bool). moved (λ at e xs. written (Sequence t bound) at e xs) s
    (if b then Some (xs, stop) else None)) (ap (is_within bound) (long xs stop refl) ∙ outside)

pub count_too_long : (v : Version) (t : Xtype) (bound n : ℕ) (c after : Cursor) (w : Output)
    → value_in (found (number_in 4 c)) ≡ Ok n → after ≡ behind c (found (number_in 4 c))
    → is_within bound n ≡ false
    → counted_copied v t bound (record { reader = c; writer = w }) ≡ Err unread.Malformed
count_too_long v t bound n c after w is place outside =
    let f = found_ok ℕ c after (found (number_in 4 c)) n is place in
    let read : Cursor → Found (ValueOf t) = λ d. value_found v t d in
    ap (λ (r : Found ℕ). moved (λ at e xs. written (Sequence t bound) at e xs)
    (record { reader = c; writer = w })
    (tested (λ xs stop. is_within bound (length xs))
    (followed r (λ k end. items_found read k (placed c end))))) f.1
    ∙ too_long v t bound n (record { reader = c; writer = w })
    (items_found read n (placed c f.0))
    (λ xs stop same. items_length (ValueOf t) read n (placed c f.0) xs stop same) outside

pub count_fails : (v : Version) (t : Xtype) (bound : ℕ) (c : Cursor) (w : Output) (e : CatalogError)
    → Fails e (value_in (found (number_in 4 c)))
    → Fails e (counted_copied v t bound (record { reader = c; writer = w }))
count_fails v t bound c w e fails =
    let read : Cursor → Found (ValueOf t) = λ d. value_found v t d in
    fails_as ℕ Copy e (value_in (found (number_in 4 c)))
    (counted_copied v t bound (record { reader = c; writer = w }))
    (λ u is.
    let f = found_err ℕ (found (number_in 4 c)) u is in
    ap (λ (r : Found ℕ). moved (λ at e xs. written (Sequence t bound) at e xs)
    (record { reader = c; writer = w })
    (tested (λ xs stop. is_within bound (length xs))
    (followed r (λ k end. items_found read k (placed c end))))) f.0 ∙ ap Err (sym f.1)) fails

-- ---- headers

-- what is copied after a header, if there is one
abbrev pub headed_copied : (A : Type 0) → Bool → (Cursor → Found A) → (ℕ → Endian → A → List ℕ)
    → Copy → Result Copy UnreadCode
headed_copied A b read write s = moves (λ c. headed_found b read c) write s

end_ok : (A : Type 0) (write : ℕ → Endian → A → List ℕ) (c start : Cursor) (w : Output) (k : ℕ)
    (r : Found A) (m : Copy)
    → moved write (record { reader = start; writer = w }) r ≡ Ok m
    → m.reader.position ≡ start.position + k → start.octets ≡ c.octets → start.endian ≡ c.endian
    → moved write (record { reader = c; writer = w })
    (tested (λ x end. end == start.position + k) r) ≡ Ok m
end_ok A write c start w k None m is ends octets order = absurd (cc is)
end_ok A write c start w k (Some (x, end)) m is ends octets order =
    let whole : m ≡ record {
      reader = placed start end;
      writer = put (λ at e. write at e x) w;
    } = ok_is (record {
      reader = placed start end;
      writer = put (λ at e. write at e x) w;
    }) m is in
    let place : end ≡ start.position + k =
    ap (λ (n : Copy). n.reader.position) (sym whole) ∙ ends in
    let here : (end == start.position + k) ≡ true = grind (arith, place) in
    ap (λ (b : Bool). moved write (record { reader = c; writer = w })
    (if b then Some (x, end) else None)) here
    ∙ ap (λ (d : Cursor). Ok (record { reader = d; writer = put (λ at e. write at e x) w }))
    (ap (λ (os : List ℕ). record { octets = os; endian = c.endian; position = end }) (sym octets)
    ∙ ap (λ (e : Endian). record { octets = start.octets; endian = e; position = end }) (sym order))
    ∙ ap Ok (sym whole) where
      ok_is : (y x : Copy) → ◌≡◌ {A = Result Copy UnreadCode} (Ok y) (Ok x) → x ≡ y
      ok_is y x same = let e : y ≡ x = cc same in sym e

end_bad : (A : Type 0) (write : ℕ → Endian → A → List ℕ) (c start : Cursor) (w : Output) (k : ℕ)
    (r : Found A) (m : Copy)
    → moved write (record { reader = start; writer = w }) r ≡ Ok m
    → m.reader.position ≢ start.position + k
    → moved write (record { reader = c; writer = w })
    (tested (λ x end. end == start.position + k) r) ≡ Err unread.Malformed
end_bad A write c start w k None m is ends = absurd (cc is)
end_bad A write c start w k (Some (x, end)) m is ends =
    let first : Copy = record {
      reader = placed start end;
      writer = put (λ at e. write at e x) w;
    } in
    let whole : first ≡ m = ok_is first m is in
    let place : end ≢ start.position + k = λ same. ends
    (sym (ap (λ (n : Copy). n.reader.position) whole) ∙ same) in
    let other : (end == start.position + k) ≡ false = grind (arith, place) in
    ap (λ (b : Bool). moved write (record { reader = c; writer = w })
    (if b then Some (x, end) else None)) other where
      ok_is : (y x : Copy) → ◌≡◌ {A = Result Copy UnreadCode} (Ok y) (Ok x) → y ≡ x
      ok_is y x same = cc same

end_err : (A : Type 0) (write : ℕ → Endian → A → List ℕ) (c start : Cursor) (w : Output) (k : ℕ)
    (r : Found A) (u : UnreadCode)
    → moved write (record { reader = start; writer = w }) r ≡ Err u
    → moved write (record { reader = c; writer = w })
    (tested (λ x end. end == start.position + k) r) ≡ Err u
end_err A write c start w k None u is = let same : unread.Malformed ≡ u = cc is in ap Err same
end_err A write c start w k (Some x) u is = absurd (cc is)

headed_by : (A : Type 0) (read : Cursor → Found A) (write : ℕ → Endian → A → List ℕ) (c : Cursor)
    (w : Output) (k end : ℕ) → found (number_in 4 c) ≡ Some (k, end)
    → headed_copied A true read write (record { reader = c; writer = w })
    ≡ moved write (record { reader = c; writer = w })
    (tested (λ x stop. stop == end + k) (read (placed c end)))
headed_by A read write c w k end is =
    ap (λ (r : Found ℕ). moved write (record { reader = c; writer = w })
    (followed r (λ n start. tested (λ x stop. stop == start + n) (read (placed c start))))) is

-- what the header counts was copied, and is as long
pub headed_ok : (A : Type 0) (read : Cursor → Found A) (write : ℕ → Endian → A → List ℕ)
    (b : Bool) (c start : Cursor) (w : Output) (k : ℕ) (m : Copy) → b ≡ true
    → value_in (found (number_in 4 c)) ≡ Ok k → start ≡ behind c (found (number_in 4 c))
    → moves read write (record { reader = start; writer = w }) ≡ Ok m
    → m.reader.position ≡ start.position + k
    → headed_copied A b read write (record { reader = c; writer = w }) ≡ Ok m
headed_ok A read write false c start w k m has is place went ends = absurd (cc has)
headed_ok A read write true c start w k m has is place went ends =
    let f = found_ok ℕ c start (found (number_in 4 c)) k is place in
    let P : Cursor → Type 0 = λ d. moves read write (record { reader = d; writer = w }) ≡ Ok m in
    let at : m.reader.position ≡ f.0 + k = ends ∙ ap (λ (d : Cursor). d.position + k) f.2 in
    headed_by A read write c w k f.0 f.1
    ∙ end_ok A write c (placed c f.0) w k (read (placed c f.0)) m (subst P f.2 went) at refl refl

pub headed_bad : (A : Type 0) (read : Cursor → Found A) (write : ℕ → Endian → A → List ℕ)
    (b : Bool) (c start : Cursor) (w : Output) (k : ℕ) (m : Copy) → b ≡ true
    → value_in (found (number_in 4 c)) ≡ Ok k → start ≡ behind c (found (number_in 4 c))
    → moves read write (record { reader = start; writer = w }) ≡ Ok m
    → m.reader.position ≢ start.position + k
    → headed_copied A b read write (record { reader = c; writer = w }) ≡ Err unread.Malformed
headed_bad A read write false c start w k m has is place went ends = absurd (cc has)
headed_bad A read write true c start w k m has is place went ends =
    let f = found_ok ℕ c start (found (number_in 4 c)) k is place in
    let P : Cursor → Type 0 = λ d. moves read write (record { reader = d; writer = w }) ≡ Ok m in
    let at : m.reader.position ≢ f.0 + k = λ same. ends
    (same ∙ sym (ap (λ (d : Cursor). d.position + k) f.2)) in
    headed_by A read write c w k f.0 f.1
    ∙ end_bad A write c (placed c f.0) w k (read (placed c f.0)) m (subst P f.2 went) at

pub headed_fails : (A : Type 0) (read : Cursor → Found A) (write : ℕ → Endian → A → List ℕ)
    (b : Bool) (c start : Cursor) (w : Output) (k : ℕ) (e : CatalogError) → b ≡ true
    → value_in (found (number_in 4 c)) ≡ Ok k → start ≡ behind c (found (number_in 4 c))
    → Fails e (moves read write (record { reader = start; writer = w }))
    → Fails e (headed_copied A b read write (record { reader = c; writer = w }))
headed_fails A read write false c start w k e has is place fails = absurd (cc has)
headed_fails A read write true c start w k e has is place fails =
    let f = found_ok ℕ c start (found (number_in 4 c)) k is place in
    fails_as Copy Copy e (moves read write (record { reader = start; writer = w }))
    (headed_copied A true read write (record { reader = c; writer = w }))
    (λ u same.
    let P : Cursor → Type 0 = λ d. moves read write (record { reader = d; writer = w }) ≡ Err u in
    headed_by A read write c w k f.0 f.1
    ∙ end_err A write c (placed c f.0) w k (read (placed c f.0)) u (subst P f.2 same)) fails

pub headed_short : (A : Type 0) (read : Cursor → Found A) (write : ℕ → Endian → A → List ℕ)
    (b : Bool) (c : Cursor) (w : Output) (e : CatalogError) → b ≡ true
    → Fails e (value_in (found (number_in 4 c)))
    → Fails e (headed_copied A b read write (record { reader = c; writer = w }))
headed_short A read write false c w e has fails = absurd (cc has)
headed_short A read write true c w e has fails =
    fails_as ℕ Copy e (value_in (found (number_in 4 c)))
    (headed_copied A true read write (record { reader = c; writer = w }))
    (λ u is.
    let f = found_err ℕ (found (number_in 4 c)) u is in
    ap (λ (r : Found ℕ). moved write (record { reader = c; writer = w })
    (followed r (λ n start. tested (λ x stop. stop == start + n) (read (placed c start))))) f.0
    ∙ ap Err (sym f.1)) fails

-- a sequence is a bound on what is counted after a header
tested_in : (A : Type 0) (p : A → Bool) (q : A → ℕ → Bool) (r : Found A)
    → tested (λ x end. p x) (tested q r) ≡ tested q (tested (λ x end. p x) r)
tested_in A p q None = refl
tested_in A p q (Some (x, end)) = by_tests (p x) (q x end) refl refl where
  by_tests : (a b : Bool) → p x ≡ a → q x end ≡ b
      → tested (λ x end. p x) (if q x end then Some (x, end) else None)
      ≡ tested q (if p x then Some (x, end) else None)
  by_tests true true first second = simp (first, second)
  by_tests true false first second = simp (first, second)
  by_tests false true first second = simp (first, second)
  by_tests false false first second = simp (first, second)

tested_headed : (A : Type 0) (p : A → Bool) (b : Bool) (read : Cursor → Found A) (c : Cursor)
    → tested (λ x end. p x) (headed_found b read c)
    ≡ headed_found b (λ d. tested (λ x end. p x) (read d)) c
tested_headed A p false read c = refl
tested_headed A p true read c = by_count (found (number_in 4 c)) where
  by_count : (r : Found ℕ)
      → tested (λ x end. p x)
      (followed r (λ n start. tested (λ x end. end == start + n) (read (placed c start))))
      ≡ followed r (λ n start. tested (λ x end. end == start + n)
      (tested (λ x end. p x) (read (placed c start))))
  by_count None = refl
  by_count (Some (n, start)) =
      tested_in A p (λ x end. end == start + n) (read (placed c start))

pub sequence_is : (v : Version) (t : Xtype) (bound : ℕ) (s : Copy)
    → copied v (Sequence t bound) s
    ≡ headed_copied (List (ValueOf t)) (has_header v t)
    (λ c. tested (λ xs end. is_within bound (length xs))
    (counted_found (λ d. value_found v t d) c))
    (λ at e xs. written (Sequence t bound) at e xs) s
sequence_is v t bound s =
    ap (moved (λ at e xs. written (Sequence t bound) at e xs) s)
    (tested_headed (List (ValueOf t)) (λ xs. is_within bound (length xs)) (has_header v t)
    (λ d. counted_found (λ e. value_found v t e) d) s.reader)

-- without a header what is read is what is there
pub not_headed : (A : Type 0) (read : Cursor → Found A) (write : ℕ → Endian → A → List ℕ)
    (b : Bool) (s : Copy) → b ≡ false → headed_copied A b read write s ≡ moves read write s
not_headed A read write b s plain =
    ap (λ (x : Bool). headed_copied A x read write s) plain

-- ---- members

pub fields_next : (v : Version) (tag : Tag) (t : Xtype) (fields : Fields) (s : Copy)
    → fields_copied v (field tag t fields) s
    ≡ next (copied v t s) (λ m. fields_copied v fields m)
fields_next v tag t fields s =
    both_moved (ValueOf t) (ValuesOf fields) (ValueOf t × ValuesOf fields)
    (λ c. value_found v t c) (λ c. values_found v fields c) (λ x xs. (x, xs))
    (λ at e xs. all_fields (field tag t fields) at e xs) (λ at e x. written t at e x)
    (λ at e xs. all_fields fields at e xs) (λ x xs at e. refl) s

pub no_fields : (v : Version) (s : Copy) → fields_copied v none s ≡ Ok s
no_fields v s =
    ap (λ (o : Output). Ok (record { reader = s.reader; writer = o })) (nothing_put s.writer)

pub parts_at : (ms : List Member) (i : ℕ) (x : Member) → i < length ms → x ≡ get_or ms i x
    → drop i ms ≡ x ∷ drop (i + 1) ms
parts_at ms i x more is =
    let split : drop i ms ≡ get_or ms i x ∷ drop (i + 1) ms = drop-cons ms i x more
    ∙ rw add-one refl in
    split ∙ ap (λ (y : Member). y ∷ drop (i + 1) ms) (sym is)

fields_part : (v : Version) (types : List Xtype) (ms : List Member) (i : ℕ) (x : Member) (m : Copy)
    → i < length ms → x ≡ get_or ms i x
    → fields_copied v (fields_in types (drop i ms)) m
    ≡ next (copied v (type_in types x.of) m)
    (λ k. fields_copied v (fields_in types (drop (i + 1) ms)) k)
fields_part v types ms i x m more is =
    ap (λ (xs : List Member). fields_copied v (fields_in types xs) m) (parts_at ms i x more is)
    ∙ fields_next v (record { name = x.name.bytes.items; is_key = x.is_key }) (type_in types x.of)
    (fields_in types (drop (i + 1) ms)) m

-- one member more was copied
pub member_copied : (v : Version) (types : List Xtype) (ms : List Member) (i : ℕ) (x : Member)
    (m k s : Copy) → i < length ms → x ≡ get_or ms i x → copied v (type_in types x.of) m ≡ Ok k
    → fields_copied v (fields_in types (drop i ms)) m ≡ fields_copied v (fields_in types ms) s
    → fields_copied v (fields_in types (drop (i + 1) ms)) k
    ≡ fields_copied v (fields_in types ms) s
member_copied v types ms i x m k s more is went left =
    sym (ap (λ (r : Result Copy UnreadCode).
    next r (λ y. fields_copied v (fields_in types (drop (i + 1) ms)) y)) went)
    ∙ sym (fields_part v types ms i x m more is) ∙ left

pub member_fails : (v : Version) (types : List Xtype) (ms : List Member) (i : ℕ) (x : Member)
    (m s : Copy) (e : CatalogError) → i < length ms → x ≡ get_or ms i x
    → Fails e (copied v (type_in types x.of) m)
    → fields_copied v (fields_in types (drop i ms)) m ≡ fields_copied v (fields_in types ms) s
    → Fails e (fields_copied v (fields_in types ms) s)
member_fails v types ms i x m s e more is fails left =
    fails_as Copy Copy e (copied v (type_in types x.of) m) (fields_copied v (fields_in types ms) s)
    (λ u went. sym left ∙ fields_part v types ms i x m more is
    ∙ ap (λ (r : Result Copy UnreadCode).
    next r (λ y. fields_copied v (fields_in types (drop (i + 1) ms)) y)) went) fails

pub members_done : (v : Version) (types : List Xtype) (ms : List Member) (i : ℕ) (m s : Copy)
    → length ms ≤ i
    → fields_copied v (fields_in types (drop i ms)) m ≡ fields_copied v (fields_in types ms) s
    → fields_copied v (fields_in types ms) s ≡ Ok m
members_done v types ms i m s all left =
    sym left
    ∙ ap (λ (xs : List Member). fields_copied v (fields_in types xs) m) (drop_of_length-le ms all)
    ∙ no_fields v m

-- what was copied after a header is as long as it counts
pub header_kept : (A : Type 0) (read : Cursor → Found A) (write : ℕ → Endian → A → List ℕ)
    (b : Bool) (s mid m : Copy) (k start : ℕ) → b ≡ true
    → value_in (found (number_in 4 s.reader)) ≡ Ok k
    → mid ≡ record { reader = behind s.reader (found (number_in 4 s.reader)); writer = s.writer }
    → moves read write mid ≡ Ok m → start ≡ mid.reader.position → m.reader.position ≡ start + k
    → headed_copied A b read write s ≡ Ok m
header_kept A read write b s mid m k start has is place went at ends =
    headed_ok A read write b s.reader mid.reader s.writer k m has is
    (ap (λ (x : Copy). x.reader) place)
    (ap (λ (o : Output). moves read write (record { reader = mid.reader; writer = o }))
    (sym (ap (λ (x : Copy). x.writer) place)) ∙ went)
    (ends ∙ ap (λ (n : ℕ). n + k) at)
