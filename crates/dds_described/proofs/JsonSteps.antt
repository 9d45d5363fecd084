-- Texts of values, part by part.
use Rattle.std.proofs.Common.{◌≡◌, ℕ, ℤ, zero, suc, ◌+◌, ◌-◌, ◌*◌, ◌≤◌, ◌<◌, ◌==◌, Bool, true, false, List, [], ◌∷◌, ◌++◌, length, take, drop, get_or, if◌then◌else◌, Some, None, Result, Ok, Err, refl, sym, ◌∙◌, ap, subst, arith, append_assoc, append-nil, drop_of_length-le, zero-mul, suc-mul, codes}
use Rattle.std.proofs.lemmas.Option.{some_pair_parts}
use Rattle.std.proofs.lemmas.Grind.{common_steps}
use Rattle.std.specs.declared.alloc.AllocError.{AllocError}
use Rattle.std.specs.Io.{StartsWith}
use Rattle.std.specs.Result.{OnOk}
use Rattle.std.specs.Fmt.{signed_decimal}
use Rattle.std.specs.Int.{w32, byte_len, cast_signed}
use Rattle.rtps_cdr.specs.Reading.{Cursor, number_in, placed}
use Rattle.dds_topic.specs.declared.unread.Unread.{Unread as UnreadCode}
use Rattle.dds_xcdr.specs.declared.member.Member.{Member}
use Rattle.dds_xcdr.specs.declared.version.Version.{Version}
use Rattle.dds_xcdr.specs.Product.{product}
use Rattle.dds_xcdr.specs.Types.{fields_in, type_in}
use Rattle.dds_xcdr.specs.Xcdr.{alignment, has_header}
use Rattle.dds_xcdr.specs.Xtype.{Xtype, Fields, Tag, Number, Signed, Truth, Enum, Text, Sequence, Array, Struct, field, ValueOf, ValuesOf, number_size}
use Rattle.dds_described.specs.Copying.{behind, passed, value_in}
use Rattle.dds_described.specs.Json.{array_text, bits_text, comma_before, found_text, items_text, json_of, members_text, number_text, parts}
use Rattle.dds_described.specs.JsonText.{enum_text, string_text}
use Rattle.dds_described.specs.Printing.{Prints, after_header}
use Rattle.dds_described.specs.Reading.{Found, counted_found, followed, found, headed_found, is_within, items_found, mapped, number_found, tested, value_found, values_found}
use Rattle.dds_described.proofs.Copies.{items_length, parts_at}

-- what follows of what holds where memory is not refused
pub on_ok : {P Q : Type 0} (r : Result (Unit {0}) AllocError) → (P → Q) → OnOk r P → OnOk r Q
on_ok (Ok x) f p = f p
on_ok (Err e) f p = tt

pub same_starts : (xs : List ℕ) → StartsWith xs xs
same_starts xs = grind (arith, common_steps)

-- ---- one value

ok_is : (A : Type 0) (y x : A) → ◌≡◌ {A = Result A UnreadCode} (Ok y) (Ok x) → y ≡ x
ok_is A y x same = cc same

pub one_prints : (A : Type 0) (r : Found A) (text : A → List ℕ) (n : A) (old new : List ℕ)
    (c d : Cursor) → value_in r ≡ Ok n → d ≡ behind c r → new ≡ old ++ text n
    → Prints r text old new c d
one_prints A None text n old new c d is place put x end same = absurd (cc same)
one_prints A (Some (y, stop)) text n old new c d is place put x end same =
    let first : y ≡ n = ok_is A y n is in
    let both = some_pair_parts y x stop end same in (
      put ∙ ap (λ (z : A). old ++ text z) (sym first ∙ both.0),
      place ∙ ap (λ (k : ℕ). placed c k) both.1,
    )

mapped_prints : (A B : Type 0) (f : A → B) (r : Found A) (text : B → List ℕ) (old new : List ℕ)
    (c d : Cursor) → Prints r (λ x. text (f x)) old new c d → Prints (mapped f r) text old new c d
mapped_prints A B f None text old new c d p x end same = absurd (cc same)
mapped_prints A B f (Some (y, stop)) text old new c d p x end same =
    let q = p y stop refl in
    let both = some_pair_parts (f y) x stop end same in (
      q.0 ∙ ap (λ (z : B). old ++ text z) both.0,
      q.1 ∙ ap (λ (k : ℕ). placed c k) both.1,
    )

tested_prints : (A : Type 0) (test : A → ℕ → Bool) (r : Found A) (text : A → List ℕ)
    (old new : List ℕ) (c d : Cursor) → Prints r text old new c d
    → Prints (tested test r) text old new c d
tested_prints A test None text old new c d p x end same = absurd (cc same)
tested_prints A test (Some (y, stop)) text old new c d p x end same =
    by_test (test y stop) same where
      by_test : (b : Bool) → ◌≡◌ {A = Found A} (if b then Some (y, stop) else None) (Some (x, end))
          → (new ≡ old ++ text x) × (d ≡ placed c end)
      by_test true e = p x end e
      by_test false e = absurd (cc e)

pub number_prints : (v : Version) (t : Xtype) (size n : ℕ) (old new : List ℕ) (c d : Cursor)
    → number_size t ≡ Some size → value_in (number_found (alignment v size) size c) ≡ Ok n
    → d ≡ behind c (number_found (alignment v size) size c) → new ≡ old ++ bits_text t n
    → Prints (value_found v t c) (λ x. json_of t x) old new c d
number_prints v (Number style k) size n old new c d same is place put =
    let one : size ≡ k = sym (cc same) in
    one_prints ℕ (number_found (alignment v k) k c) (λ x. number_text style k x) n old new c d
    (subst (λ (j : ℕ). value_in (number_found (alignment v j) j c) ≡ Ok n) one is)
    (subst (λ (j : ℕ). d ≡ behind c (number_found (alignment v j) j c)) one place) put
number_prints v (Signed w) size n old new c d same is place put =
    let one : size ≡ byte_len w = sym (cc same) in
    let r : Found ℕ = number_found (alignment v (byte_len w)) (byte_len w) c in
    mapped_prints ℕ ℤ (cast_signed w) r (λ z. signed_decimal z) old new c d
    (one_prints ℕ r (λ x. signed_decimal (cast_signed w x)) n old new c d
    (subst (λ (j : ℕ). value_in (number_found (alignment v j) j c) ≡ Ok n) one is)
    (subst (λ (j : ℕ). d ≡ behind c (number_found (alignment v j) j c)) one place) put)
number_prints v (Enum values) size n old new c d same is place put =
    let one : size ≡ 4 = sym (cc same) in
    let r : Found ℕ = number_found (alignment v 4) 4 c in
    mapped_prints ℕ ℤ (cast_signed w32) r (λ z. enum_text values z) old new c d
    (one_prints ℕ r (λ x. enum_text values (cast_signed w32 x)) n old new c d
    (subst (λ (j : ℕ). value_in (number_found (alignment v j) j c) ≡ Ok n) one is)
    (subst (λ (j : ℕ). d ≡ behind c (number_found (alignment v j) j c)) one place) put)
number_prints v Truth size n old new c d same is place put = absurd (cc same)
number_prints v (Text bound) size n old new c d same is place put = absurd (cc same)
number_prints v (Sequence t bound) size n old new c d same is place put = absurd (cc same)
number_prints v (Array t dimensions) size n old new c d same is place put = absurd (cc same)
number_prints v (Struct fields) size n old new c d same is place put = absurd (cc same)

pub text_prints : (bound : ℕ) (r : Found (List ℕ)) (n old new : List ℕ) (c d : Cursor)
    → value_in r ≡ Ok n → d ≡ behind c r → new ≡ old ++ string_text n
    → Prints (tested (λ text end. is_within bound (length text)) r) (λ x. string_text x) old new c d
text_prints bound r n old new c d is place put =
    tested_prints (List ℕ) (λ text end. is_within bound (length text)) r (λ x. string_text x) old new
    c d (one_prints (List ℕ) r (λ x. string_text x) n old new c d is place put)

-- ---- what is before the items, and after them

headed_prints : (A : Type 0) (b : Bool) (read : Cursor → Found A) (text : A → List ℕ)
    (old new : List ℕ) (c m d : Cursor) → m ≡ after_header b c → Prints (read m) text old new m d
    → Prints (headed_found b read c) text old new c d
headed_prints A false read text old new c m d at p =
    subst (λ (k : Cursor). Prints (read k) text old new k d) at p
headed_prints A true read text old new c m d at p = by_count (found (number_in 4 c)) at where
  by_count : (r : Found ℕ) → m ≡ behind c r
      → Prints (followed r (λ n start. tested (λ x end. end == start + n) (read (placed c start))))
      text old new c d
  by_count None at x end same = absurd (cc same)
  by_count (Some (n, start)) at x end same =
      tested_prints A (λ y stop. stop == start + n) (read (placed c start)) text old new c d
      (subst (λ (k : Cursor). Prints (read k) text old new k d) at p) x end same

counted_prints : (A : Type 0) (read : Cursor → Found A) (text : List A → List ℕ) (n : ℕ)
    (old new : List ℕ) (c m d : Cursor) → value_in (found (number_in 4 c)) ≡ Ok n
    → m ≡ behind c (found (number_in 4 c)) → Prints (items_found read n m) text old new m d
    → Prints (counted_found read c) text old new c d
counted_prints A read text n old new c m d is at p = by_count (found (number_in 4 c)) is at where
  by_count : (r : Found ℕ) → value_in r ≡ Ok n → m ≡ behind c r
      → Prints (followed r (λ k end. items_found read k (placed c end))) text old new c d
  by_count None is at x end same = absurd (cc same)
  by_count (Some (k, start)) is at x end same =
      let one : k ≡ n = ok_is ℕ k n is in
      subst (λ (j : ℕ). Prints (items_found read j (placed c start)) text old new c d) (sym one)
      (subst (λ (e : Cursor). Prints (items_found read n e) text old new e d) at p) x end same

pub surrounded : (A : Type 0) (r : Found A) (text : A → List ℕ) (first last : ℕ)
    (old opened closed new : List ℕ) (c d : Cursor) → opened ≡ old ++ first ∷ []
    → new ≡ closed ++ last ∷ [] → Prints r text opened closed c d
    → Prints r (λ x. first ∷ text x ++ last ∷ []) old new c d
surrounded A r text first last old opened closed new c d opens closes p x end same =
    let q = p x end same in (
      closes
          ∙ ap (λ (ys : List ℕ). ys ++ last ∷ []) (q.0 ∙ ap (λ (ys : List ℕ). ys ++ text x) opens)
          ∙ simp append_assoc,
      q.1,
    )

pub sequence_prints : (v : Version) (t : Xtype) (bound n : ℕ) (old opened closed new : List ℕ)
    (c m k d : Cursor) → m ≡ after_header (has_header v t) c
    → value_in (found (number_in 4 m)) ≡ Ok n → k ≡ behind m (found (number_in 4 m))
    → opened ≡ old ++ 91 ∷ [] → new ≡ closed ++ 93 ∷ []
    → Prints (items_found (λ e. value_found v t e) n k) (λ xs. items_text (λ x. json_of t x) 0 xs)
    opened closed k d
    → Prints (value_found v (Sequence t bound) c) (λ x. json_of (Sequence t bound) x) old new c d
sequence_prints v t bound n old opened closed new c m k d at is place opens closes p =
    let text : List (ValueOf t) → List ℕ = λ xs. json_of (Sequence t bound) xs in
    tested_prints (List (ValueOf t)) (λ xs end. is_within bound (length xs))
    (headed_found (has_header v t) (λ e. counted_found (λ f. value_found v t f) e) c) text old new c d
    (headed_prints (List (ValueOf t)) (has_header v t)
    (λ e. counted_found (λ f. value_found v t f) e) text old new c m d at
    (counted_prints (ValueOf t) (λ e. value_found v t e) text n old new m k d is place
    (surrounded (List (ValueOf t)) (items_found (λ e. value_found v t e) n k)
    (λ xs. items_text (λ x. json_of t x) 0 xs) 91 93 old opened closed new k d opens closes p)))

pub array_prints : (v : Version) (t : Xtype) (sizes : List ℕ) (old new : List ℕ) (c m d : Cursor)
    → m ≡ after_header (has_header v t) c
    → Prints (items_found (λ e. value_found v t e) (product sizes) m)
    (λ xs. array_text (λ x. json_of t x) sizes xs) old new m d
    → Prints (value_found v (Array t sizes) c) (λ x. json_of (Array t sizes) x) old new c d
array_prints v t sizes old new c m d at p =
    headed_prints (List (ValueOf t)) (has_header v t)
    (λ e. items_found (λ f. value_found v t f) (product sizes) e)
    (λ xs. array_text (λ x. json_of t x) sizes xs) old new c m d at p

-- ---- items

pub record Split (A : Type 0) (read : Cursor → Found A) (n : ℕ) (c : Cursor) (xs : List A) (end : ℕ)
    : Type 0 where
  pub first : A
  pub stop : ℕ
  pub rest : List A
  pub there : read c ≡ Some (first, stop)
  pub more : items_found read n (placed c stop) ≡ Some (rest, end)
  pub whole : xs ≡ first ∷ rest

items_split : (A : Type 0) (read : Cursor → Found A) (n : ℕ) (c : Cursor) (xs : List A) (end : ℕ)
    → items_found read (suc n) c ≡ Some (xs, end) → Split A read n c xs end
unfolding items_found
items_split A read n c xs end same = by_first (read c) refl same where
  by_rest : (x : A) (stop : ℕ) → read c ≡ Some (x, stop) → (r : Found (List A))
      → items_found read n (placed c stop) ≡ r → mapped (λ ys. x ∷ ys) r ≡ Some (xs, end)
      → Split A read n c xs end
  by_rest x stop there None is same = absurd (cc same)
  by_rest x stop there (Some (ys, behind)) is same =
      let both = some_pair_parts (x ∷ ys) xs behind end same in record {
        first = x;
        stop = stop;
        rest = ys;
        there = there;
        more = is ∙ ap (λ (k : ℕ). Some (ys, k)) both.1;
        whole = sym both.0;
      }

  by_first : (r : Found A) → read c ≡ r
      → followed r (λ x stop. mapped (λ ys. x ∷ ys) (items_found read n (placed c stop)))
      ≡ Some (xs, end) → Split A read n c xs end
  by_first None is same = absurd (cc same)
  by_first (Some (x, stop)) is same =
      by_rest x stop is (items_found read n (placed c stop)) refl same

no_items : (A : Type 0) (read : Cursor → Found A) (c : Cursor) (xs : List A) (end : ℕ)
    → items_found read 0 c ≡ Some (xs, end) → ([] ≡ xs) × (c.position ≡ end)
unfolding items_found
no_items A read c xs end same = some_pair_parts [] xs c.position end same

-- what of n items is left after i of them
abbrev pub ItemsLeft : {A : Type 0} → (Cursor → Found A) → (A → List ℕ) → (n i : ℕ)
    → (c0 c : Cursor) → (old put : List ℕ) → Type 0
ItemsLeft {A} read text n i c0 c old put =
    (xs : List A) (end : ℕ) → items_found read n c0 ≡ Some (xs, end)
    → (ys : List A) × (items_found read (n - i) c ≡ Some (ys, end))
    × (put ++ items_text text i ys ≡ old ++ items_text text 0 xs) × (placed c end ≡ placed c0 end)

pub items_begin : (A : Type 0) (read : Cursor → Found A) (text : A → List ℕ) (n : ℕ) (c : Cursor)
    (old : List ℕ) → ItemsLeft read text n 0 c c old old
items_begin A read text n c old xs end same =
    (xs, subst (λ (k : ℕ). items_found read k c ≡ Some (xs, end)) (omega arith) same, refl, refl)

pub items_more : (A : Type 0) (read : Cursor → Found A) (text : A → List ℕ) (n i : ℕ)
    (c0 c d : Cursor) (old put mid new : List ℕ) → i < n → mid ≡ put ++ comma_before i
    → Prints (read c) text mid new c d → ItemsLeft read text n i c0 c old put
    → ItemsLeft read text n (i + 1) c0 d old new
items_more A read text n i c0 c d old put mid new more comma p left xs end same =
    let l = left xs end same in
    let fewer : n - i ≡ suc (n - (i + 1)) = omega (arith, more) in
    let s : Split A read (n - (i + 1)) c l.0 end =
    items_split A read (n - (i + 1)) c l.0 end
    (subst (λ (k : ℕ). items_found read k c ≡ Some (l.0, end)) fewer l.1) in
    let q = p s.first s.stop s.there in
    let next : i + 1 ≡ suc i = omega arith in (
      s.rest,
      ap (λ (e : Cursor). items_found read (n - (i + 1)) e) q.1 ∙ s.more,
      ap (λ (k : ℕ). new ++ items_text text k s.rest) next
          ∙ ap (λ (ys : List ℕ). ys ++ items_text text (suc i) s.rest)
          (q.0 ∙ ap (λ (ys : List ℕ). ys ++ text s.first) comma)
          ∙ append_four put (comma_before i) (text s.first) (items_text text (suc i) s.rest)
          ∙ ap (λ (ys : List A). put ++ items_text text i ys) (sym s.whole) ∙ l.2,
      ap (λ (e : Cursor). placed e end) q.1 ∙ l.3,
    ) where
      append_four : (a b e f : List ℕ) → ((a ++ b) ++ e) ++ f ≡ a ++ (b ++ (e ++ f))
      append_four a b e f = simp append_assoc

pub items_end : (A : Type 0) (read : Cursor → Found A) (text : A → List ℕ) (n i : ℕ)
    (c0 c : Cursor) (old put : List ℕ) → n ≤ i → ItemsLeft read text n i c0 c old put
    → Prints (items_found read n c0) (λ xs. items_text text 0 xs) old put c0 c
items_end A read text n i c0 c old put all left xs end same =
    let l = left xs end same in
    let none : n - i ≡ 0 = omega (arith, all) in
    let e = no_items A read c l.0 end
    (subst (λ (k : ℕ). items_found read k c ≡ Some (l.0, end)) none l.1) in (
      sym (append-nil put) ∙ ap (λ (ys : List A). put ++ items_text text i ys) e.0 ∙ l.2,
      ap (λ (k : ℕ). placed c k) e.1 ∙ l.3,
    )

pub single_prints : (A : Type 0) (read : Cursor → Found A) (text : A → List ℕ) (old new : List ℕ)
    (c d : Cursor) → Prints (read c) text old new c d
    → Prints (items_found read 1 c) (λ xs. items_text text 0 xs) old new c d
single_prints A read text old new c d p =
    items_end A read text 1 1 c d old new (omega arith)
    (items_more A read text 1 0 c c d old old old new (omega arith) (sym (append-nil old)) p
    (items_begin A read text 1 c old))

-- ---- rows

pub record Cut (A : Type 0) (read : Cursor → Found A) (k m : ℕ) (c : Cursor) (xs : List A) (end : ℕ)
    : Type 0 where
  pub front : List A
  pub stop : ℕ
  pub back : List A
  pub there : items_found read k c ≡ Some (front, stop)
  pub more : items_found read m (placed c stop) ≡ Some (back, end)
  pub whole : xs ≡ front ++ back

items_cut : (A : Type 0) (read : Cursor → Found A) (k m : ℕ) (c : Cursor) (xs : List A) (end : ℕ)
    → items_found read (k + m) c ≡ Some (xs, end) → Cut A read k m c xs end
unfolding items_found
items_cut A read zero m c xs end same = let none : zero + m ≡ m = omega arith in record {
  front = [];
  stop = c.position;
  back = xs;
  there = refl;
  more = subst (λ (j : ℕ). items_found read j c ≡ Some (xs, end)) none same;
  whole = refl;
}
items_cut A read (suc k) m c xs end same =
    let next : suc k + m ≡ suc (k + m) = omega arith in
    let s : Split A read (k + m) c xs end = items_split A read (k + m) c xs end
    (subst (λ (j : ℕ). items_found read j c ≡ Some (xs, end)) next same) in
    let r : Cut A read k m (placed c s.stop) s.rest end =
    items_cut A read k m (placed c s.stop) s.rest end s.more in record {
      front = s.first ∷ r.front;
      stop = r.stop;
      back = r.back;
      there = ap (λ (f : Found A).
          followed f (λ x stop. mapped (λ ys. x ∷ ys) (items_found read k (placed c stop)))) s.there
          ∙ ap (λ (f : Found (List A)). mapped (λ ys. s.first ∷ ys) f) r.there;
      more = r.more;
      whole = s.whole ∙ ap (λ (ys : List A). s.first ∷ ys) r.whole;
    }

take_front : (A : Type 0) (xs ys : List A) → take (length xs) (xs ++ ys) ≡ xs
take_front A [] ys = refl
take_front A (x ∷ xs) ys = ap (λ (zs : List A). x ∷ zs) (take_front A xs ys)

drop_front : (A : Type 0) (xs ys : List A) → drop (length xs) (xs ++ ys) ≡ ys
drop_front A [] ys = refl
drop_front A (x ∷ xs) ys = drop_front A xs ys

rows_found : (A : Type 0) (read : Cursor → Found A) (n k : ℕ) (c : Cursor) (xs : List A) (end : ℕ)
    → items_found read (n * k) c ≡ Some (xs, end)
    → items_found (λ d. items_found read k d) n c ≡ Some (parts n k xs, end)
unfolding items_found
rows_found A read zero k c xs end same =
    let none : 0 * k ≡ 0 = zero-mul k in
    ap (λ (j : ℕ). Some ([], j)) (no_items A read c xs end
    (subst (λ (j : ℕ). items_found read j c ≡ Some (xs, end)) none same)).1
rows_found A read (suc n) k c xs end same =
    let next : suc n * k ≡ k + n * k = omega (arith, suc-mul n k) in
    let s : Cut A read k (n * k) c xs end = items_cut A read k (n * k) c xs end
    (subst (λ (j : ℕ). items_found read j c ≡ Some (xs, end)) next same) in
    let long : length s.front ≡ k = items_length A read k c s.front s.stop s.there in
    let first : take k xs ≡ s.front =
    ap (λ (j : ℕ). take j xs) (sym long)
    ∙ ap (λ (ys : List A). take (length s.front) ys) s.whole ∙ take_front A s.front s.back in
    let rest : drop k xs ≡ s.back =
    ap (λ (j : ℕ). drop j xs) (sym long)
    ∙ ap (λ (ys : List A). drop (length s.front) ys) s.whole ∙ drop_front A s.front s.back in
    ap (λ (f : Found (List A)).
    followed f (λ x stop.
    mapped (λ ys. x ∷ ys) (items_found (λ d. items_found read k d) n (placed c stop)))) s.there
    ∙ ap (λ (f : Found (List (List A))). mapped (λ ys. s.front ∷ ys) f)
    (rows_found A read n k (placed c s.stop) s.back end s.more)
    ∙ ap (λ (ys : List A). Some (ys ∷ parts n k s.back, end)) (sym first)
    ∙ ap (λ (ys : List A). Some (take k xs ∷ parts n k ys, end)) (sym rest)

pub rows_print : (A : Type 0) (read : Cursor → Found A) (text : A → List ℕ) (n i : ℕ)
    (ns : List ℕ) (c d : Cursor) (old opened closed new : List ℕ) → n ≤ i
    → opened ≡ old ++ 91 ∷ [] → new ≡ closed ++ 93 ∷ []
    → ItemsLeft (λ e. items_found read (product ns) e) (λ row. array_text text ns row) n i c d opened
    closed
    → Prints (items_found read (product (n ∷ ns)) c) (λ xs. array_text text (n ∷ ns) xs) old new c d
rows_print A read text n i ns c d old opened closed new all opens closes left xs end same =
    surrounded (List (List A)) (items_found (λ e. items_found read (product ns) e) n c)
    (λ rows. items_text (λ row. array_text text ns row) 0 rows) 91 93 old opened closed new c d opens
    closes
    (items_end (List A) (λ e. items_found read (product ns) e) (λ row. array_text text ns row) n i c d
    opened closed all left) (parts n (product ns) xs) end
    (rows_found A read n (product ns) c xs end same)

-- ---- members

pub record FieldsSplit (v : Version) (t : Xtype) (fields : Fields) (c : Cursor) (x : ValueOf t)
    (xs : ValuesOf fields) (end : ℕ) : Type 0 where
  pub stop : ℕ
  pub there : value_found v t c ≡ Some (x, stop)
  pub more : values_found v fields (placed c stop) ≡ Some (xs, end)

fields_split : (v : Version) (tag : Tag) (t : Xtype) (fields : Fields) (c : Cursor) (x : ValueOf t)
    (xs : ValuesOf fields) (end : ℕ) → values_found v (field tag t fields) c ≡ Some ((x, xs), end)
    → FieldsSplit v t fields c x xs end
fields_split v tag t fields c x xs end same = by_first (value_found v t c) refl same where
  by_rest : (y : ValueOf t) (stop : ℕ) → value_found v t c ≡ Some (y, stop)
      → (r : Found (ValuesOf fields)) → values_found v fields (placed c stop) ≡ r
      → mapped {B = ValueOf t × ValuesOf fields} (λ ys. (y, ys)) r ≡ Some ((x, xs), end)
      → FieldsSplit v t fields c x xs end
  by_rest y stop there None is same = absurd (cc same)
  by_rest y stop there (Some (ys, behind)) is same =
      let both = some_pair_parts (y, ys) (x, xs) behind end same in record {
        stop = stop;
        there = there ∙ ap (λ (z : ValueOf t × ValuesOf fields). Some (z.0, stop)) both.0;
        more = is ∙ ap (λ (z : ValueOf t × ValuesOf fields). Some (z.1, behind)) both.0
            ∙ ap (λ (k : ℕ). Some (xs, k)) both.1;
      }

  by_first : (r : Found (ValueOf t)) → value_found v t c ≡ r
      → followed r (λ y stop.
      mapped {B = ValueOf t × ValuesOf fields} (λ ys. (y, ys)) (values_found v fields (placed c stop)))
      ≡ Some ((x, xs), end) → FieldsSplit v t fields c x xs end
  by_first None is same = absurd (cc same)
  by_first (Some (y, stop)) is same = by_rest y stop is (values_found v fields (placed c stop)) refl same

-- members that are left, of which the first is the i-th, give this text up to this end
abbrev pub Ending : Version → List Xtype → (i : ℕ) → (c0 c : Cursor) → (put whole : List ℕ) → ℕ
    → List Member → Type 0
Ending v types i c0 c put whole end ms =
    (ys : ValuesOf (fields_in types ms)) × (values_found v (fields_in types ms) c ≡ Some (ys, end))
    × (put ++ members_text i (fields_in types ms) ys ≡ whole) × (placed c end ≡ placed c0 end)

-- what of the members is left after i of them
abbrev pub MembersLeft : Version → List Xtype → List Member → ℕ → (c0 c : Cursor)
    → (old put : List ℕ) → Type 0
MembersLeft v types ms i c0 c old put =
    (xs : ValuesOf (fields_in types ms)) (end : ℕ)
    → values_found v (fields_in types ms) c0 ≡ Some (xs, end)
    → Ending v types i c0 c put (old ++ members_text 0 (fields_in types ms) xs) end (drop i ms)

pub members_begin : (v : Version) (types : List Xtype) (ms : List Member) (c : Cursor)
    (old : List ℕ) → MembersLeft v types ms 0 c c old old
members_begin v types ms c old xs end same = (xs, same, refl, refl)

pub members_more : (v : Version) (types : List Xtype) (ms : List Member) (i : ℕ) (x : Member)
    (c0 c d : Cursor) (old put a b e new : List ℕ) → i < length ms → x ≡ get_or ms i x
    → a ≡ put ++ comma_before i → b ≡ a ++ string_text x.name.bytes.items → e ≡ b ++ 58 ∷ []
    → Prints (value_found v (type_in types x.of) c) (λ y. json_of (type_in types x.of) y) e new c d
    → MembersLeft v types ms i c0 c old put → MembersLeft v types ms (i + 1) c0 d old new
members_more v types ms i x c0 c d old put a b e new more is comma name colon p left xs end same =
    let whole : List ℕ = old ++ members_text 0 (fields_in types ms) xs in
    let l : Ending v types i c0 c put whole end (x ∷ drop (i + 1) ms) =
    subst (λ (ns : List Member). Ending v types i c0 c put whole end ns) (parts_at ms i x more is)
    (left xs end same) in
    let t : Xtype = type_in types x.of in
    let rest : Fields = fields_in types (drop (i + 1) ms) in
    let s : FieldsSplit v t rest c l.0.0 l.0.1 end =
    fields_split v (record { name = x.name.bytes.items; is_key = x.is_key }) t rest c l.0.0 l.0.1 end
    l.1 in
    let q = p l.0.0 s.stop s.there in
    let next : i + 1 ≡ suc i = omega arith in (
      l.0.1,
      ap (λ (k : Cursor). values_found v rest k) q.1 ∙ s.more,
      ap (λ (k : ℕ). new ++ members_text k rest l.0.1) next
          ∙ ap (λ (ys : List ℕ). ys ++ members_text (suc i) rest l.0.1)
          (q.0 ∙ ap (λ (ys : List ℕ). ys ++ json_of t l.0.0)
          (colon ∙ ap (λ (ys : List ℕ). ys ++ 58 ∷ [])
          (name ∙ ap (λ (ys : List ℕ). ys ++ string_text x.name.bytes.items) comma)))
          ∙ append_five put (comma_before i) (string_text x.name.bytes.items) (json_of t l.0.0)
          (members_text (suc i) rest l.0.1) ∙ l.2,
      ap (λ (k : Cursor). placed k end) q.1 ∙ l.3,
    ) where
      append_five : (f g h j k : List ℕ)
          → ((((f ++ g) ++ h) ++ 58 ∷ []) ++ j) ++ k ≡ f ++ (g ++ (h ++ (58 ∷ j ++ k)))
      append_five f g h j k = simp append_assoc

pub members_end : (v : Version) (types : List Xtype) (ms : List Member) (i : ℕ) (c0 c : Cursor)
    (old put : List ℕ) → length ms ≤ i → MembersLeft v types ms i c0 c old put
    → Prints (values_found v (fields_in types ms) c0)
    (λ xs. members_text 0 (fields_in types ms) xs) old put c0 c
members_end v types ms i c0 c old put all left xs end same =
    let whole : List ℕ = old ++ members_text 0 (fields_in types ms) xs in
    let l : Ending v types i c0 c put whole end [] =
    subst (λ (ns : List Member). Ending v types i c0 c put whole end ns) (drop_of_length-le ms all)
    (left xs end same) in
    let e = some_pair_parts tt l.0 c.position end l.1 in
    (sym (append-nil put) ∙ l.2, ap (λ (k : ℕ). placed c k) e.1 ∙ l.3)

-- ---- the whole

-- a value that was passed first is printed
pub passed_prints : (A : Type 0) (r : Found A) (text : A → List ℕ) (old new : List ℕ)
    (c after d : Cursor) → passed c r ≡ Ok after → Prints r text old new c d
    → new ≡ old ++ found_text text r
passed_prints A None text old new c after d is p = absurd (cc is)
passed_prints A (Some (x, end)) text old new c after d is p = (p x end refl).0

-- and where none is there, `null`
pub null_prints : (A : Type 0) (r : Found A) (text : A → List ℕ) (old new : List ℕ) (c : Cursor)
    (u : UnreadCode) → passed c r ≡ Err u → new ≡ old ++ codes "null"
    → new ≡ old ++ found_text text r
null_prints A None text old new c u is put = put
null_prints A (Some x) text old new c u is put = absurd (cc is)

-- the same of a type and a reader that are known
pub body_prints : (v : Version) (s t u : Xtype) (a b c after d : Cursor) (old new : List ℕ) → s ≡ u
    → t ≡ u → a ≡ c → b ≡ c → passed a (value_found v s a) ≡ Ok after
    → Prints (value_found v t b) (λ x. json_of t x) old new b d
    → new ≡ old ++ found_text (λ x. json_of u x) (value_found v u c)
body_prints v s t u a b c after d old new first second here there is p =
    passed_prints (ValueOf u) (value_found v u c) (λ x. json_of u x) old new c after d
    (subst (λ (y : Xtype). passed c (value_found v y c) ≡ Ok after) first
    (subst (λ (k : Cursor). passed k (value_found v s k) ≡ Ok after) here is))
    (subst (λ (y : Xtype). Prints (value_found v y c) (λ x. json_of y x) old new c d) second
    (subst (λ (k : Cursor). Prints (value_found v t k) (λ x. json_of t x) old new k d) there p))

pub body_null : (v : Version) (s u : Xtype) (a c : Cursor) (old new : List ℕ) (code : UnreadCode)
    → s ≡ u → a ≡ c → passed a (value_found v s a) ≡ Err code → new ≡ old ++ codes "null"
    → new ≡ old ++ found_text (λ x. json_of u x) (value_found v u c)
body_null v s u a c old new code first here is put =
    null_prints (ValueOf u) (value_found v u c) (λ x. json_of u x) old new c code
    (subst (λ (y : Xtype). passed c (value_found v y c) ≡ Err code) first
    (subst (λ (k : Cursor). passed k (value_found v s k) ≡ Err code) here is)) put
