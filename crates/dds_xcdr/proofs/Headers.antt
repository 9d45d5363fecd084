-- What comes after a number of 32 bits that counts it: octets after a header, and items after
-- their count.
use Rattle.std.proofs.Common.{◌≡◌, ◌≢◌, ℕ, ◌+◌, Bool, true, false, List, length, refl, sym, ◌∙◌, ap, subst, arith, Result, Ok, Err, OnOk, OnErr}
use Rattle.rtps_types.specs.declared.field.Endian.{Endian}
use Rattle.rtps_cdr.specs.declared.fault.CdrFault.{CdrFault}
use Rattle.rtps_cdr.specs.Cdr.{Unsigned, Free, IsNumber as IsLength, AreAll}
use Rattle.rtps_cdr.specs.Reading.{Cursor, Reads, Takes}
use Rattle.dds_xcdr.specs.declared.version.Version.{Version}
use Rattle.dds_xcdr.specs.declared.fault.XcdrFault.{XcdrFault}
use Rattle.dds_xcdr.specs.declared.fault.XcdrFault.TheVariants.{Cdr, Encapsulation, TooLong}
use Rattle.dds_xcdr.specs.Product.{product}
use Rattle.dds_xcdr.specs.Xtype.{Xtype, Array, Sequence, ValueOf}
use Rattle.dds_xcdr.specs.Xcdr.{IsCounted, IsHeaded, IsWithin, IsXcdr, has_header}
use Rattle.dds_xcdr.specs.Spans.{AreCountedItems, AreItems, IsValue, Passes, Spans}
use Rattle.dds_xcdr.proofs.Spans.{Both, joined, parted, passes_as, spans_as}

-- a number of 32 bits, as it is read
abbrev Counts : Endian → ℕ → ℕ → List ℕ → Type 0
Counts e n at octets = IsLength Free 4 at e octets n

counted_span : (c m : Cursor) (n : ℕ) → Takes (Unsigned 4) c m n → Spans (Counts c.endian n) c m
counted_span c m n t = record {
  front = t.front;
  rest = t.rest;
  parts = t.parts;
  stands =
      t.stands;
  behind = t.behind;
}

span_counted : (c m : Cursor) (n : ℕ) → Spans (Counts c.endian n) c m → Takes (Unsigned 4) c m n
span_counted c m n s = record {
  front = s.front;
  rest = s.rest;
  parts = s.parts;
  stands =
      s.stands;
  behind = s.behind;
}

-- what was read is what a span begins with
same_count : (c m : Cursor) (n : ℕ) → Reads (Unsigned 4) c m (Ok n) → (k : ℕ) (middle : Cursor)
    → Spans (Counts c.endian k) c middle → (n ≡ k) × (m ≡ middle)
same_count c m n reads k middle s = let h =
    reads.only k middle (span_counted c middle k s) in (cc (h.0), h.1)

no_count : (c m : Cursor) (e : CdrFault) → Reads (Unsigned 4) c m (Err e)
    → (k : ℕ) (middle : Cursor) → Spans (Counts c.endian k) c middle → ⊥
no_count c m e reads k middle s = let h =
    reads.only k middle (span_counted c middle k s) in cc (h.0)

-- ---- octets after a header

-- such octets, of that number
abbrev OfLength : (ℕ → List ℕ → Type 0) → ℕ → ℕ → List ℕ → Type 0
OfLength is n at octets = (length octets ≡ n) × is at octets

closes : (is : ℕ → List ℕ → Type 0) (e : Endian) (n at : ℕ) (octets : List ℕ)
    → Both (Counts e n) (OfLength is n) at octets → IsHeaded true at e is octets
closes is e n at octets b =
    let long : n ≡ length b.1 = sym (b.4.0) in
    (b.0, b.1, b.2, rw long at (b.3), b.4.1)

-- the number that the header has, and what it counts
record Opens (is : ℕ → List ℕ → Type 0) (c end : Cursor) : Type 0 where
  count : ℕ
  middle : Cursor
  header : Spans (Counts c.endian count) c middle
  inside : Spans (OfLength is count) middle end

-- octets after a header, as they are passed
abbrev pub Headed : Endian → (ℕ → List ℕ → Type 0) → ℕ → List ℕ → Type 0
Headed e is at octets = IsHeaded true at e is octets

opens : (is : ℕ → List ℕ → Type 0) (c end : Cursor) → Spans (Headed c.endian is) c end
    → Opens is c end
opens is c end s =
    let k : ℕ = length s.stands.1 in
    let both : Spans (Both (Counts c.endian k) (OfLength is k)) c end = record {
      front = s.front;
      rest = s.rest;
      parts = s.parts;
      stands = (s.stands.0, s.stands.1, s.stands.2, s.stands.3, (refl, s.stands.4));
      behind = s.behind;
    } in
    let p = parted (Counts c.endian k) (OfLength is k) c end both in
    record { count = k; middle = p.middle; header = p.first; inside = p.next }

-- what the header that was read counts
opened : (is : ℕ → List ℕ → Type 0) (c m end : Cursor) (n : ℕ) → Reads (Unsigned 4) c m (Ok n)
    → Spans (Headed c.endian is) c end → Spans (OfLength is n) m end
opened is c m end n reads s =
    let o = opens is c end s in
    let same = same_count c m n reads o.count o.middle o.header in
    let P : ℕ → Type 0 = λ k. Spans (OfLength is k) m end in
    let Q : Cursor → Type 0 = λ x. Spans (OfLength is o.count) x end in
    subst P (sym same.0) (subst Q (sym same.1) o.inside)

without_length : (is : ℕ → List ℕ → Type 0) (c after : Cursor) (n : ℕ)
    → Spans (OfLength is n) c after → Spans is c after
without_length is c after n s = spans_as (OfLength is n) is c after (λ at octets x. x.1) s

headed_passes : (is : ℕ → List ℕ → Type 0) (c m after : Cursor) (n : ℕ) (u : Unit {0})
    → Reads (Unsigned 4) c m (Ok n) → Passes is m after (Ok u) → after.position ≡ m.position + n
    → Passes (Headed c.endian is) c after (Ok tt)
headed_passes is c m after n u reads passes ends =
    let s : Spans is m after = passes.found in
    let long : length s.front ≡ n = omega (arith, ends, ap (λ (x : Cursor). x.position) s.behind) in
    let inside : Spans (OfLength is n) m after =
    record {
      front = s.front;
      rest = s.rest;
      parts = s.parts;
      stands =
          (long, s.stands);
      behind = s.behind;
    } in
    let both : Spans (Both (Counts c.endian n) (OfLength is n)) c after =
    joined (Counts c.endian n) (OfLength is n) c m after (counted_span c m n reads.found)
    inside in
    record {
      found = spans_as (Both (Counts c.endian n) (OfLength is n)) (Headed c.endian is) c after
          (λ at octets b. closes is c.endian n at octets b) both;
      only = λ end t. (
        refl,
        (passes.only end
            (without_length is m end n (opened is c m end n reads t))).1,
      );
      known = λ e. cc e;
    }

-- what isn't there after the header
headed_fails : (is : ℕ → List ℕ → Type 0) (c m after : Cursor) (n : ℕ) (f : XcdrFault)
    → Reads (Unsigned 4) c m (Ok n) → Passes is m after (Err f)
    → Passes (Headed c.endian is) c after (Err f)
headed_fails is c m after n f reads passes = record {
  found = tt;
  only = λ end t. absurd (cc ((passes.only end
      (without_length is m end n (opened is c m end n reads t))).0));
  known = passes.known;
}

-- the encapsulation is no fault of it
abbrev IsKnown : Result (Unit {0}) XcdrFault → Type 0
IsKnown r = r ≢ Err Encapsulation

-- a header that counts other octets
headed_other : (is : ℕ → List ℕ → Type 0) (c m after : Cursor) (n : ℕ) (u : Unit {0})
    (f : XcdrFault) → Reads (Unsigned 4) c m (Ok n) → Passes is m after (Ok u)
    → after.position ≢ m.position + n → IsKnown (Err f)
    → Passes (Headed c.endian is) c after (Err f)
headed_other is c m after n u f reads passes other known = record {
  found = tt;
  only = λ end t.
      let s : Spans (OfLength is n) m end = opened is c m end n reads t in
      let same : after ≡ end = (passes.only end (without_length is m end n s)).1 in
      let place : end.position ≡ m.position + length s.front =
      ap (λ (x : Cursor). x.position) s.behind in
      let whole : m.position + length s.front ≡ m.position + n =
      ap (λ (k : ℕ). m.position + k) s.stands.0 in
      absurd (other (ap (λ (x : Cursor). x.position) same ∙ place ∙ whole));
  known = known;
}

-- no header
pub headed_short : (is : ℕ → List ℕ → Type 0) (c m : Cursor) (e : CdrFault)
    → Reads (Unsigned 4) c m (Err e) → Passes (Headed c.endian is) c m (Err (Cdr e))
headed_short is c m e reads = record {
  found = tt;
  only = λ end t. let o = opens is c end t in absurd
      (no_count c m e reads o.count o.middle o.header);
  known = λ q. cc q;
}

-- the byte order stays
same_order : (c m : Cursor) (n : ℕ) → Reads (Unsigned 4) c m (Ok n) → m.endian ≡ c.endian
same_order c m n reads = ap (λ (x : Cursor). x.endian) (reads.found).behind

-- ---- such octets of the reader's byte order after a header

-- where they end is where the header says or not
pub headed_ends : (is : Endian → ℕ → List ℕ → Type 0) (c m after : Cursor) (n from : ℕ)
    (u : Unit {0}) (r : Result (Unit {0}) XcdrFault) → Reads (Unsigned 4) c m (Ok n)
    → Passes (is m.endian) m after (Ok u) → from ≡ m.position → OnOk r (after.position ≡ from + n)
    → OnErr r (after.position ≢ from + n) → IsKnown r
    → Passes (Headed c.endian (is c.endian)) c after r
headed_ends is c m after n from u r reads passes start ends other known =
    let E : Endian → Type 0 = λ e. Passes (is e) m after (Ok u) in
    by_result r (subst E (same_order c m n reads) passes) ends other known where
      by_result : (r : Result (Unit {0}) XcdrFault) → Passes (is c.endian) m after (Ok u)
          → OnOk r (after.position ≡ from + n) → OnErr r (after.position ≢ from + n) → IsKnown r
          → Passes (Headed c.endian (is c.endian)) c after r
      by_result (Ok tt) p ends other known =
          headed_passes (is c.endian) c m after n u reads p (ends ∙ ap (λ (k : ℕ). k + n) start)
      by_result (Err f) p ends other known =
          headed_other (is c.endian) c m after n u f reads p
          (λ e. other (e ∙ ap (λ (k : ℕ). k + n) (sym start))) known

pub headed_faulty : (is : Endian → ℕ → List ℕ → Type 0) (c m after : Cursor) (n : ℕ) (f : XcdrFault)
    → Reads (Unsigned 4) c m (Ok n) → Passes (is m.endian) m after (Err f)
    → Passes (Headed c.endian (is c.endian)) c after (Err f)
headed_faulty is c m after n f reads passes =
    let E : Endian → Type 0 = λ e. Passes (is e) m after (Err f) in
    headed_fails (is c.endian) c m after n f reads (subst E (same_order c m n reads) passes)

-- ---- items after their count

-- the number that they are counted as
record Holds (v : Version) (t : Xtype) (bound : ℕ) (c end : Cursor) : Type 0 where
  count : ℕ
  middle : Cursor
  within : IsWithin bound count
  header : Spans (Counts c.endian count) c middle
  inside : Spans (AreItems v t count c.endian) middle end

holds : (v : Version) (t : Xtype) (bound : ℕ) (c end : Cursor)
    → Spans (AreCountedItems v t bound c.endian) c end → Holds v t bound c end
holds v t bound c end s =
    let xs : List (ValueOf t) = s.stands.0 in
    let k : ℕ = length xs in
    let counted = s.stands.2 in
    let both : Spans (Both (Counts c.endian k) (AreItems v t k c.endian)) c end = record {
      front = s.front;
      rest = s.rest;
      parts = s.parts;
      stands = (counted.0, counted.1, counted.2, counted.3, (xs, refl, counted.4));
      behind = s.behind;
    } in
    let p = parted (Counts c.endian k) (AreItems v t k c.endian) c end both in
    record { count = k; middle = p.middle; within = s.stands.1; header = p.first; inside = p.next }

counts : (v : Version) (t : Xtype) (bound n : ℕ) (e : Endian) → IsWithin bound n
    → (at : ℕ) (octets : List ℕ) → Both (Counts e n) (AreItems v t n e) at octets
    → AreCountedItems v t bound e at octets
counts v t bound n e within at octets b =
    let long : n ≡ length b.4.0 = sym (b.4.1) in
    (b.4.0, rw long at (within), (b.0, b.1, b.2, rw long at (b.3), b.4.2))

pub counted_passes : (v : Version) (t : Xtype) (bound n : ℕ) (c m after : Cursor)
    (r : Result (Unit {0}) XcdrFault) → Reads (Unsigned 4) c m (Ok n) → IsWithin bound n
    → Passes (AreItems v t n m.endian) m after r
    → Passes (AreCountedItems v t bound c.endian) c after r
counted_passes v t bound n c m after r reads within passes =
    let E : Endian → Type 0 = λ e. Passes (AreItems v t n e) m after r in
    let items : Passes (AreItems v t n c.endian) m after r =
    subst E (same_order c m n reads) passes in
    record {
      found = found_by r items.found;
      only = λ end s.
          let h = holds v t bound c end s in
          let same = same_count c m n reads h.count h.middle h.header in
          let P : ℕ → Type 0 = λ k. Spans (AreItems v t k c.endian) m end in
          let Q : Cursor → Type 0 = λ x. Spans (AreItems v t h.count c.endian) x end in
          items.only end (subst P (sym same.0) (subst Q (sym same.1) h.inside));
      known = items.known;
    } where
      found_by : (r : Result (Unit {0}) XcdrFault)
          → OnOk r (Spans (AreItems v t n c.endian) m after)
          → OnOk r (Spans (AreCountedItems v t bound c.endian) c after)
      found_by (Err f) s = tt
      found_by (Ok u) s =
          spans_as (Both (Counts c.endian n) (AreItems v t n c.endian))
          (AreCountedItems v t bound c.endian) c after
          (λ at octets b. counts v t bound n c.endian within at octets b)
          (joined (Counts c.endian n) (AreItems v t n c.endian) c m after
          (counted_span c m n reads.found) s)

pub counted_too_long : (v : Version) (t : Xtype) (bound n : ℕ) (c m : Cursor)
    → Reads (Unsigned 4) c m (Ok n) → (IsWithin bound n → ⊥)
    → Passes (AreCountedItems v t bound c.endian) c m (Err TooLong)
counted_too_long v t bound n c m reads long = record {
  found = tt;
  only = λ end s.
      let h = holds v t bound c end s in
      let same = same_count c m n reads h.count h.middle h.header in
      let W : ℕ → Type 0 = λ k. IsWithin bound k in
      absurd (long (subst W (sym same.0) h.within));
  known = λ e. cc e;
}

pub counted_short : (v : Version) (t : Xtype) (bound : ℕ) (c m : Cursor) (e : CdrFault)
    → Reads (Unsigned 4) c m (Err e) → Passes (AreCountedItems v t bound c.endian) c m (Err (Cdr e))
counted_short v t bound c m e reads = record {
  found = tt;
  only = λ end s. let h = holds v t bound c end s in absurd
      (no_count c m e reads h.count h.middle h.header);
  known = λ q. cc q;
}

-- ---- with a header or without

-- a sequence is its counted items, after a header if there is one
sequence_at : (v : Version) (t : Xtype) (bound : ℕ) (e : Endian) (h : Bool) (at : ℕ)
    (octets : List ℕ) → IsHeaded h at e (AreCountedItems v t bound e) octets
    → (xs : List (ValueOf t)) × (IsWithin bound (length xs)
    × IsHeaded h at e (λ p os. IsCounted (λ q items x. IsXcdr v t q e items x) p e xs os)
    octets)
sequence_at v t bound e false at octets s = (s.0, (s.1, s.2))
sequence_at v t bound e true at octets s = (s.4.0, (s.4.1, (s.0, s.1, s.2, s.3, s.4.2)))

sequence_of : (v : Version) (t : Xtype) (bound : ℕ) (e : Endian) (h : Bool) (at : ℕ)
    (octets : List ℕ)
    → (xs : List (ValueOf t)) × (IsWithin bound (length xs)
    × IsHeaded h at e (λ p os. IsCounted (λ q items x. IsXcdr v t q e items x) p e xs os)
    octets)
    → IsHeaded h at e (AreCountedItems v t bound e) octets
sequence_of v t bound e false at octets s = (s.0, s.1.0, s.1.1)
sequence_of v t bound e true at octets s =
    (s.1.1.0, s.1.1.1, s.1.1.2, s.1.1.3, (s.0, s.1.0, s.1.1.4))

pub sequence_passes : (v : Version) (t : Xtype) (bound : ℕ) (h : Bool) (c after : Cursor)
    (r : Result (Unit {0}) XcdrFault) → h ≡ has_header v t
    → Passes (λ at octets. IsHeaded h at c.endian (AreCountedItems v t bound c.endian) octets) c
    after r → Passes (IsValue v (Sequence t bound) c.endian) c after r
sequence_passes v t bound h c after r same p =
    let H : Bool → Type 0 = λ b. Passes
    (λ at octets. IsHeaded b at c.endian (AreCountedItems v t bound c.endian) octets) c after
    r in
    passes_as (λ at octets. IsHeaded (has_header v t) at c.endian
    (AreCountedItems v t bound c.endian) octets) (IsValue v (Sequence t bound) c.endian) c after
    r
    (λ at octets s. sequence_at v t bound c.endian (has_header v t) at octets s)
    (λ at octets s. sequence_of v t bound c.endian (has_header v t) at octets s)
    (subst H same p)

-- an array is its items, after a header if there is one
array_at : (v : Version) (t : Xtype) (n : ℕ) (e : Endian) (h : Bool) (at : ℕ) (octets : List ℕ)
    → IsHeaded h at e (AreItems v t n e) octets
    → (xs : List (ValueOf t)) × ((length xs ≡ n)
    × IsHeaded h at e (λ p os. AreAll (λ q items x. IsXcdr v t q e items x) p os xs) octets)
array_at v t n e false at octets s = (s.0, (s.1, s.2))
array_at v t n e true at octets s = (s.4.0, (s.4.1, (s.0, s.1, s.2, s.3, s.4.2)))

array_of : (v : Version) (t : Xtype) (n : ℕ) (e : Endian) (h : Bool) (at : ℕ) (octets : List ℕ)
    → (xs : List (ValueOf t)) × ((length xs ≡ n)
    × IsHeaded h at e (λ p os. AreAll (λ q items x. IsXcdr v t q e items x) p os xs) octets)
    → IsHeaded h at e (AreItems v t n e) octets
array_of v t n e false at octets s = (s.0, s.1.0, s.1.1)
array_of v t n e true at octets s = (s.1.1.0, s.1.1.1, s.1.1.2, s.1.1.3, (s.0, s.1.0, s.1.1.4))

pub array_passes : (v : Version) (t : Xtype) (sizes : List ℕ) (n : ℕ) (h : Bool)
    (c after : Cursor) (r : Result (Unit {0}) XcdrFault) → n ≡ product sizes
    → h ≡ has_header v t → Passes (λ at octets. IsHeaded h at c.endian (AreItems v t n c.endian) octets) c after r
    → Passes (IsValue v (Array t sizes) c.endian) c after r
array_passes v t sizes n h c after r all same p =
    let Q : ℕ → Type 0 = λ k. Passes
    (λ at octets. IsHeaded h at c.endian (AreItems v t k c.endian) octets) c after r in
    let n : ℕ = product sizes in
    let H : Bool → Type 0 = λ b. Passes
    (λ at octets. IsHeaded b at c.endian (AreItems v t n c.endian) octets) c after r in
    passes_as (λ at octets. IsHeaded (has_header v t) at c.endian (AreItems v t n c.endian) octets)
    (IsValue v (Array t sizes) c.endian) c after r
    (λ at octets s. array_at v t n c.endian (has_header v t) at octets s)
    (λ at octets s. array_of v t n c.endian (has_header v t) at octets s)
    (subst H same (subst Q all p))
