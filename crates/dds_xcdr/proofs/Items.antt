-- What is left to be passed of items and of members, one after another.
use Rattle.std.proofs.Common.{◌≡◌, ℕ, suc, ◌+◌, ◌-◌, ◌≤◌, ◌<◌, List, [], ◌∷◌, length, get_or, drop, refl, sym, ◌∙◌, ap, subst, arith, Ok, Err, drop-cons, add-one, drop_of_length-le}
use Rattle.rtps_types.specs.declared.field.Endian.{Endian}
use Rattle.rtps_cdr.specs.Cdr.{AreAll}
use Rattle.rtps_cdr.specs.Reading.{Cursor}
use Rattle.dds_xcdr.specs.declared.version.Version.{Version}
use Rattle.dds_xcdr.specs.declared.fault.XcdrFault.{XcdrFault}
use Rattle.dds_xcdr.specs.declared.member.Member.{Member}
use Rattle.dds_xcdr.specs.Xtype.{Xtype, ValueOf}
use Rattle.dds_xcdr.specs.Xcdr.{IsXcdr}
use Rattle.dds_xcdr.specs.Types.{fields_in, type_in}
use Rattle.dds_xcdr.specs.Spans.{AreItems, AreMembers, IsValue, Passes, Spans}
use Rattle.dds_xcdr.proofs.Spans.{Both, ends_here, joined, nothing, parted, spans_as}

-- what is left from a place on is what is wanted from the start on
pub record IsLeft (rest all : ℕ → List ℕ → Type 0) (m c : Cursor) : Type 0 where
  pub order : m.endian ≡ c.endian
  pub found : (after : Cursor) → Spans rest m after → Spans all c after
  pub only : (after : Cursor) → Spans all c after → Spans rest m after

-- one thing has been passed
one_passed : (is rest more all : ℕ → List ℕ → Type 0) (m n c : Cursor) (u : Unit {0})
    → ((at : ℕ) (octets : List ℕ) → Both is more at octets → rest at octets)
    → ((at : ℕ) (octets : List ℕ) → rest at octets → Both is more at octets) → Passes is m n (Ok u)
    → IsLeft rest all m c → IsLeft more all n c
one_passed is rest more all m n c u join part passes left = record {
  order = ap (λ (x : Cursor). x.endian) (passes.found).behind ∙ left.order;
  found = λ after s. left.found after
      (spans_as (Both is more) rest m after join (joined is more m n after passes.found s));
  only = λ after s.
      let p = parted is more m after (spans_as rest (Both is more) m after part
      (left.only after s)) in
      let same : n ≡ p.middle = (passes.only p.middle p.first).1 in
      let P : Cursor → Type 0 = λ x. Spans more x after in
      subst P (sym same) p.next;
}

-- one thing isn't there
one_fails : (is rest more all : ℕ → List ℕ → Type 0) (m n c : Cursor) (f : XcdrFault)
    → ((at : ℕ) (octets : List ℕ) → rest at octets → Both is more at octets) → Passes is m n (Err f)
    → IsLeft rest all m c → Passes all c n (Err f)
one_fails is rest more all m n c f part passes left = record {
  found = tt;
  only = λ after s.
      let p = parted is more m after (spans_as rest (Both is more) m after part
      (left.only after s)) in
      absurd (cc ((passes.only p.middle p.first).0));
  known = passes.known;
}

-- nothing is left
none_left : (rest all : ℕ → List ℕ → Type 0) (m c : Cursor) → rest m.position []
    → ((octets : List ℕ) → rest m.position octets → octets ≡ []) → IsLeft rest all m c
    → Passes all c m (Ok tt)
none_left rest all m c here empty left = record {
  found = left.found m (nothing rest m here);
  only = λ end s. (refl, ends_here rest m end empty (left.only end s));
  known = λ e. cc e;
}

-- ---- items

item_joined : (v : Version) (t : Xtype) (n : ℕ) (e : Endian) (at : ℕ) (octets : List ℕ)
    → Both (IsValue v t e) (AreItems v t n e) at octets → AreItems v t (suc n) e at octets
item_joined v t n e at octets b = (b.3.0 ∷ b.4.0, ap suc b.4.1, (b.0, b.1, b.2, b.3.1, b.4.2))

item_parted : (v : Version) (t : Xtype) (n : ℕ) (e : Endian) (at : ℕ) (octets : List ℕ)
    → AreItems v t (suc n) e at octets → Both (IsValue v t e) (AreItems v t n e) at octets
item_parted v t n e at octets items = by_list items.0 items.1 items.2 where
  by_list : (xs : List (ValueOf t)) → length xs ≡ suc n
      → AreAll (λ q os x. IsXcdr v t q e os x) at octets xs
      → Both (IsValue v t e) (AreItems v t n e) at octets
  by_list [] long all = absurd (cc long)
  by_list (x ∷ xs) long all = (all.0, all.1, all.2, (x, all.3), (xs, cc (long), all.4))

left_over : (n i : ℕ) → i < n → n - i ≡ suc (n - (i + 1))
left_over n i more = omega (arith, more)

pub item_passed : (v : Version) (t : Xtype) (n i : ℕ) (m k c : Cursor) (u : Unit {0}) → i < n
    → Passes (IsValue v t m.endian) m k (Ok u)
    → IsLeft (AreItems v t (n - i) c.endian) (AreItems v t n c.endian) m c
    → IsLeft (AreItems v t (n - (i + 1)) c.endian) (AreItems v t n c.endian) k c
item_passed v t n i m k c u more passes left =
    let E : Endian → Type 0 = λ e. Passes (IsValue v t e) m k (Ok u) in
    let L : ℕ → Type 0 = λ j. IsLeft (AreItems v t j c.endian) (AreItems v t n c.endian) m c in
    one_passed (IsValue v t c.endian) (AreItems v t (suc (n - (i + 1))) c.endian)
    (AreItems v t (n - (i + 1)) c.endian) (AreItems v t n c.endian) m k c u
    (λ at octets b. item_joined v t (n - (i + 1)) c.endian at octets b)
    (λ at octets b. item_parted v t (n - (i + 1)) c.endian at octets b)
    (subst E left.order passes) (subst L (left_over n i more) left)

pub item_fails : (v : Version) (t : Xtype) (n i : ℕ) (m k c : Cursor) (f : XcdrFault) → i < n
    → Passes (IsValue v t m.endian) m k (Err f)
    → IsLeft (AreItems v t (n - i) c.endian) (AreItems v t n c.endian) m c
    → Passes (AreItems v t n c.endian) c k (Err f)
item_fails v t n i m k c f more passes left =
    let E : Endian → Type 0 = λ e. Passes (IsValue v t e) m k (Err f) in
    let L : ℕ → Type 0 = λ j. IsLeft (AreItems v t j c.endian) (AreItems v t n c.endian) m c in
    one_fails (IsValue v t c.endian) (AreItems v t (suc (n - (i + 1))) c.endian)
    (AreItems v t (n - (i + 1)) c.endian) (AreItems v t n c.endian) m k c f
    (λ at octets b. item_parted v t (n - (i + 1)) c.endian at octets b)
    (subst E left.order passes) (subst L (left_over n i more) left)

no_items : (v : Version) (t : Xtype) (e : Endian) (at : ℕ) (octets : List ℕ)
    → AreItems v t 0 e at octets → octets ≡ []
no_items v t e at octets items = by_list items.0 items.1 items.2 where
  by_list : (xs : List (ValueOf t)) → length xs ≡ 0
      → AreAll (λ q os x. IsXcdr v t q e os x) at octets xs → octets ≡ []
  by_list [] long all = all
  by_list (x ∷ xs) long all = absurd (cc long)

pub items_done : (v : Version) (t : Xtype) (n i : ℕ) (m c : Cursor) → n ≤ i
    → IsLeft (AreItems v t (n - i) c.endian) (AreItems v t n c.endian) m c
    → Passes (AreItems v t n c.endian) c m (Ok tt)
items_done v t n i m c all left =
    let over : n - i ≡ 0 = omega (arith, all) in
    let L : ℕ → Type 0 = λ j. IsLeft (AreItems v t j c.endian) (AreItems v t n c.endian) m c in
    none_left (AreItems v t 0 c.endian) (AreItems v t n c.endian) m c ([], refl, refl)
    (λ octets items. no_items v t c.endian m.position octets items) (subst L over left)

-- ---- members

abbrev pub Members : Version → List Xtype → List Member → Endian → ℕ → List ℕ → Type 0
Members v types ms e at octets = AreMembers v (fields_in types ms) e at octets

member_joined : (v : Version) (types : List Xtype) (m : Member) (ms : List Member) (e : Endian)
    (at : ℕ) (octets : List ℕ) → Both (IsValue v (type_in types m.of) e) (Members v types ms e) at
    octets → Members v types (m ∷ ms) e at octets
member_joined v types m ms e at octets b = ((b.3.0, b.4.0), (b.0, b.1, b.2, b.3.1, b.4.1))

member_parted : (v : Version) (types : List Xtype) (m : Member) (ms : List Member) (e : Endian)
    (at : ℕ) (octets : List ℕ) → Members v types (m ∷ ms) e at octets
    → Both (IsValue v (type_in types m.of) e) (Members v types ms e) at octets
member_parted v types m ms e at octets s = (s.1.0, s.1.1, s.1.2, (s.0.0, s.1.3), (s.0.1, s.1.4))

parts_at : (ms : List Member) (i : ℕ) (d : Member) → i < length ms
    → drop i ms ≡ get_or ms i d ∷ drop (i + 1) ms
parts_at ms i d more = drop-cons ms i d more ∙ rw add-one refl

pub member_passed : (v : Version) (types : List Xtype) (ms : List Member) (i : ℕ) (x : Member)
    (m k c : Cursor) (u : Unit {0}) → i < length ms → x ≡ get_or ms i x
    → Passes (IsValue v (type_in types x.of) m.endian) m k (Ok u)
    → IsLeft (Members v types (drop i ms) c.endian) (Members v types ms c.endian) m c
    → IsLeft (Members v types (drop (i + 1) ms) c.endian) (Members v types ms c.endian) k c
member_passed v types ms i x m k c u more is passes left =
    let one : Member = get_or ms i x in
    let E : Endian → Type 0 = λ e. Passes (IsValue v (type_in types one.of) e) m k (Ok u) in
    let M : Member → Type 0 = λ y. Passes (IsValue v (type_in types y.of) m.endian) m k (Ok u) in
    let L : List Member → Type 0 = λ xs. IsLeft (Members v types xs c.endian)
    (Members v types ms c.endian) m c in
    one_passed (IsValue v (type_in types one.of) c.endian)
    (Members v types (one ∷ drop (i + 1) ms) c.endian)
    (Members v types (drop (i + 1) ms) c.endian) (Members v types ms c.endian) m k c u
    (λ at octets b. member_joined v types one (drop (i + 1) ms) c.endian at octets b)
    (λ at octets b. member_parted v types one (drop (i + 1) ms) c.endian at octets b)
    (subst E left.order (subst M is passes)) (subst L (parts_at ms i x more) left)

pub member_fails : (v : Version) (types : List Xtype) (ms : List Member) (i : ℕ) (x : Member)
    (m k c : Cursor) (f : XcdrFault) → i < length ms → x ≡ get_or ms i x
    → Passes (IsValue v (type_in types x.of) m.endian) m k (Err f)
    → IsLeft (Members v types (drop i ms) c.endian) (Members v types ms c.endian) m c
    → Passes (Members v types ms c.endian) c k (Err f)
member_fails v types ms i x m k c f more is passes left =
    let one : Member = get_or ms i x in
    let E : Endian → Type 0 = λ e. Passes (IsValue v (type_in types one.of) e) m k (Err f) in
    let M : Member → Type 0 = λ y. Passes (IsValue v (type_in types y.of) m.endian) m k (Err f) in
    let L : List Member → Type 0 = λ xs. IsLeft (Members v types xs c.endian)
    (Members v types ms c.endian) m c in
    one_fails (IsValue v (type_in types one.of) c.endian)
    (Members v types (one ∷ drop (i + 1) ms) c.endian)
    (Members v types (drop (i + 1) ms) c.endian) (Members v types ms c.endian) m k c f
    (λ at octets b. member_parted v types one (drop (i + 1) ms) c.endian at octets b)
    (subst E left.order (subst M is passes)) (subst L (parts_at ms i x more) left)

pub members_done : (v : Version) (types : List Xtype) (ms : List Member) (i : ℕ) (m c : Cursor)
    → length ms ≤ i → IsLeft (Members v types (drop i ms) c.endian) (Members v types ms c.endian) m
    c → Passes (Members v types ms c.endian) c m (Ok tt)
members_done v types ms i m c all left =
    let over : drop i ms ≡ [] = drop_of_length-le ms all in
    let L : List Member → Type 0 = λ xs. IsLeft (Members v types xs c.endian)
    (Members v types ms c.endian) m c in
    none_left (Members v types [] c.endian) (Members v types ms c.endian) m c (tt, refl)
    (λ octets s. s.1) (subst L over left)
