-- What is passed one after another.
use Rattle.std.proofs.Common.{append_assoc, ◌≡◌, ℕ, ◌+◌, ◌-◌, ◌≤◌, ◌<◌, List, [], ◌++◌, length, take, drop, refl, sym, ◌∙◌, ap, subst, arith, Result, Ok, Err, OnOk, length-append, length-drop, length-take-le, take-append-drop, drop-drop, drop_at, add-zero}
use Rattle.rtps_cdr.specs.Reading.{Cursor, placed}
use Rattle.dds_xcdr.specs.declared.fault.XcdrFault.{XcdrFault}
use Rattle.dds_xcdr.specs.Spans.{Passes, Skips, Spans}

-- two things, one after another
abbrev pub Both : (ℕ → List ℕ → Type 0) → (ℕ → List ℕ → Type 0) → ℕ → List ℕ → Type 0
Both is js at octets = (front : List ℕ) × (back : List ℕ) × (octets ≡ front ++ back) × is at front
    × js (at + length front) back

-- what comes after a span
rest_is : (is : ℕ → List ℕ → Type 0) (c : Cursor) (front rest : List ℕ)
    → drop c.position c.octets ≡ front ++ rest → drop (c.position + length front) c.octets ≡ rest
rest_is is c front rest parts =
    sym (drop-drop (length front) c.position c.octets)
    ∙ ap (drop (length front)) parts ∙ drop_at front rest (length front) refl

joined_at : (is js : ℕ → List ℕ → Type 0) (c after : Cursor) (front rest : List ℕ)
    → drop c.position c.octets ≡ front ++ rest → is c.position front
    → Spans js (placed c (c.position + length front)) after → Spans (Both is js) c after
joined_at is js c after front rest parts stands next =
    record {
      front = front ++ next.front;
      rest = next.rest;
      parts = parts ∙ ap (λ (os : List ℕ). front ++ os)
          (sym (rest_is is c front rest parts) ∙ next.parts) ∙ simp append_assoc;
      stands = (front, next.front, refl, stands, next.stands);
      behind = next.behind ∙ ap (placed c) (omega (arith, length-append front next.front));
    }

pub joined : (is js : ℕ → List ℕ → Type 0) (c m after : Cursor) → Spans is c m → Spans js m after
    → Spans (Both is js) c after
joined is js c m after first next =
    let P : Cursor → Type 0 = λ x. Spans js x after in
    joined_at is js c after first.front first.rest first.parts first.stands
    (subst P first.behind next)

-- where the first ends
pub record Parts (is js : ℕ → List ℕ → Type 0) (c after : Cursor) : Type 0 where
  pub middle : Cursor
  pub first : Spans is c middle
  pub next : Spans js middle after

pub parted : (is js : ℕ → List ℕ → Type 0) (c after : Cursor) → Spans (Both is js) c after
    → Parts is js c after
parted is js c after both =
    let front : List ℕ = both.stands.0 in
    let back : List ℕ = both.stands.1 in
    let split : both.front ≡ front ++ back = both.stands.2 in
    let parts : drop c.position c.octets ≡ front ++ (back ++ both.rest) = both.parts
    ∙ ap (λ (os : List ℕ). os ++ both.rest) split ∙ simp append_assoc in
    record {
      middle = placed c (c.position + length front);
      first = record {
        front = front;
        rest = back
            ++ both.rest;
        parts = parts;
        stands = both.stands.3;
        behind = refl;
      };
      next = record {
        front = back;
        rest = both.rest;
        parts = rest_is is c front (back ++ both.rest) parts;
        stands = both.stands.4;
        behind = both.behind ∙ ap (placed c)
            (omega (arith, ap length split, length-append front back));
      };
    }

-- what a span is of
pub spans_as : (is js : ℕ → List ℕ → Type 0) (c after : Cursor)
    → ((at : ℕ) (octets : List ℕ) → is at octets → js at octets) → Spans is c after
    → Spans js c after
spans_as is js c after same s = record {
  front = s.front;
  rest = s.rest;
  parts = s.parts;
  stands =
      same c.position s.front s.stands;
  behind = s.behind;
}

pub passes_as : (is js : ℕ → List ℕ → Type 0) (c after : Cursor) (r : Result (Unit {0}) XcdrFault)
    → ((at : ℕ) (octets : List ℕ) → is at octets → js at octets)
    → ((at : ℕ) (octets : List ℕ) → js at octets → is at octets) → Passes is c after r
    → Passes js c after r
passes_as is js c after r there back p = record {
  found = found_as r p.found;
  only = λ end s. p.only end (spans_as js is c end back s);
  known = p.known;
} where
  found_as : (r : Result (Unit {0}) XcdrFault) → OnOk r (Spans is c after)
      → OnOk r (Spans js c after)
  found_as (Ok u) s = spans_as is js c after there s
  found_as (Err f) s = tt

-- nothing is passed
pub nothing : (is : ℕ → List ℕ → Type 0) (c : Cursor) → is c.position [] → Spans is c c
nothing is c here = record {
  front = [];
  rest = drop c.position c.octets;
  parts = refl;
  stands = here;
  behind = ap (placed c) (sym (add-zero c.position));
}

pub ends_here : (is : ℕ → List ℕ → Type 0) (c end : Cursor)
    → ((octets : List ℕ) → is c.position octets → octets ≡ []) → Spans is c end → c ≡ end
ends_here is c end none s =
    let empty : length s.front ≡ 0 = ap length (none s.front s.stands) in
    let place : c.position ≡ c.position + length s.front = omega arith in
    ap (placed c) place ∙ sym s.behind

-- what is known by the number of its octets
pub by_length : (is : ℕ → List ℕ → Type 0) (n : ℕ) (c after : Cursor)
    (r : Result (Unit {0}) XcdrFault) → 0 < n
    → ((octets : List ℕ) → length octets ≡ n → is c.position octets)
    → ((octets : List ℕ) → is c.position octets → length octets ≡ n) → Skips n c after r
    → Passes is c after r
by_length is n c after r some there long skips = record {
  found = found_by r skips.found;
  only = only_by r skips.only;
  known = skips.known;
} where
  found_by : (r : Result (Unit {0}) XcdrFault)
      → OnOk r ((c.position + n ≤ length c.octets) × (after ≡ placed c (c.position + n)))
      → OnOk r (Spans is c after)
  found_by (Err f) h = tt
  found_by (Ok u) h =
      let left : List ℕ = drop c.position c.octets in
      let room : n ≤ length left = omega (arith, length-drop c.position c.octets, h.0) in
      let count : length (take n left) ≡ n = length-take-le n left room in
      record {
        front = take n left;
        rest = drop n left;
        parts = sym (take-append-drop n left);
        stands = there (take n left) count;
        behind = h.1 ∙ ap (λ (k : ℕ). placed c (c.position + k)) (sym count);
      }

  only_by : (r : Result (Unit {0}) XcdrFault)
      → (c.position + n ≤ length c.octets → (r ≡ Ok tt) × (after ≡ placed c (c.position + n)))
      → (end : Cursor) → Spans is c end → (r ≡ Ok tt) × (after ≡ end)
  only_by r skipped end s =
      let count : length s.front ≡ n = long s.front s.stands in
      let left : length c.octets - c.position ≡ length s.front + length s.rest =
      sym (length-drop c.position c.octets) ∙ ap length s.parts
      ∙ length-append s.front s.rest in
      let h = skipped (omega arith) in
      (h.0, h.1 ∙ ap (λ (k : ℕ). placed c (c.position + k)) (sym count) ∙ sym s.behind)
