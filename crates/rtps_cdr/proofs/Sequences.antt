-- Items of a sequence, one after another.
use Rattle.std.proofs.Common.{append_assoc, append-nil, ◌≡◌, ℕ, ◌+◌, List, [], ◌∷◌, ◌++◌, length, drop, refl, sym, ◌∙◌, ap, subst, arith}
use Rattle.std.proofs.lemmas.List.{length-append}
use Rattle.rtps_types.specs.declared.field.Endian.{Endian}
use Rattle.rtps_cdr.specs.Cdr.{CdrType, Unsigned, Sequence, ValueOf, AreAll, Free, IsCdr}
use Rattle.rtps_cdr.specs.Reading.{Cursor, placed, Takes}
use Rattle.rtps_cdr.specs.Statements.{TakesAll, all_appended}
use Rattle.rtps_cdr.specs.Writing.{Output, all_written, appended, number_written, written}
use Rattle.rtps_cdr.proofs.Counted.{taken_place, taken_rest}

-- items at a place
record AllTaken (t : CdrType) (c after : Cursor) (vs : List (ValueOf t)) : Type 0 where
  front : List ℕ
  rest : List ℕ
  parts : drop c.position c.octets ≡ front ++ rest
  stands : AreAll (λ p os v. IsCdr Free t p c.endian os v) c.position front vs
  behind : after ≡ placed c (c.position + length front)

none_taken : (t : CdrType) (c : Cursor) → AllTaken t c c []
none_taken t c = record { front = []; rest = drop c.position c.octets; parts = refl; stands = refl; behind = let here : c.position ≡ c.position + 0 = omega arith in ap (placed c) here }

one_more : (t : CdrType) (c : Cursor) (at : ℕ) (after : Cursor) (v : ValueOf t) (vs : List (ValueOf t)) → Takes t c (placed c at) v → AllTaken t (placed c at) after vs → AllTaken t c after (v ∷ vs)
one_more t c at after v vs first rest =
    let place : at ≡ c.position + length first.front = taken_place t c (placed c at) v first in
    let left : drop at c.octets ≡ first.rest = taken_rest t c (placed c at) v first in
    record {
      front = first.front ++ rest.front;
      rest = rest.rest;
      parts = first.parts ∙ ap (λ (os : List ℕ). first.front ++ os) (sym left ∙ rest.parts) ∙ simp append_assoc;
      stands = (first.front, rest.front, refl, first.stands, rw place at (rest.stands));
      behind = rest.behind ∙ ap (placed c) (rw (place, length-append first.front rest.front) (omega arith));
    }

all_taken : (t : CdrType) (c after : Cursor) (vs : List (ValueOf t)) → TakesAll t c after vs → AllTaken t c after vs
all_taken t c after [] h = subst (λ k. AllTaken t c k []) (sym h) (none_taken t c)
all_taken t c after (v ∷ vs) h =
    let middle : Cursor = h.0 in
    let rest = all_taken t middle after vs h.2 in
    let P : Cursor → Type 0 = λ m. Takes t c m v → AllTaken t m after vs → AllTaken t c after (v ∷ vs) in
    subst P (sym (h.1).behind) (one_more t c (c.position + length (h.1).front) after v vs) h.1 rest

joined_at : (t : CdrType) (c : Cursor) (at : ℕ) (after : Cursor) (vs : List (ValueOf t)) → Takes (Unsigned 4) c (placed c at) (length vs) → AllTaken t (placed c at) after vs → Takes (Sequence t) c after vs
joined_at t c at after vs first items =
    let place : at ≡ c.position + length first.front = taken_place (Unsigned 4) c (placed c at) (length vs) first in
    let left : drop at c.octets ≡ first.rest = taken_rest (Unsigned 4) c (placed c at) (length vs) first in
    record {
      front = first.front ++ items.front;
      rest = items.rest;
      parts = first.parts ∙ ap (λ (os : List ℕ). first.front ++ os) (sym left ∙ items.parts) ∙ simp append_assoc;
      stands = (first.front, items.front, refl, first.stands, rw place at (items.stands));
      behind = items.behind ∙ ap (placed c) (rw (place, length-append first.front items.front) (omega arith));
    }

-- a count, and as many items after it, are a sequence
pub items_joined : (t : CdrType) (c middle after : Cursor) (vs : List (ValueOf t)) → Takes (Unsigned 4) c middle (length vs) → TakesAll t middle after vs → Takes (Sequence t) c after vs
items_joined t c middle after vs first items =
    let P : Cursor → Type 0 = λ m. Takes (Unsigned 4) c m (length vs) → AllTaken t m after vs → Takes (Sequence t) c after vs in
    subst P (sym first.behind) (joined_at t c (c.position + length first.front) after vs) first (all_taken t middle after vs items)

-- items at a place are taken one by one
all_parted : (t : CdrType) (c after : Cursor) (vs : List (ValueOf t)) → AllTaken t c after vs → TakesAll t c after vs
all_parted t c after [] h =
    let here : c.position + 0 ≡ c.position = omega arith in
    h.behind ∙ ap (λ (os : List ℕ). placed c (c.position + length os)) h.stands ∙ ap (placed c) here
all_parted t c after (v ∷ vs) h =
    let front : List ℕ = h.stands.0 in
    let back : List ℕ = h.stands.1 in
    let parts : h.front ≡ front ++ back = h.stands.2 in
    let middle : Cursor = placed c (c.position + length front) in
    let first : Takes t c middle v = record { front = front; rest = back ++ h.rest; parts = h.parts ∙ ap (λ (os : List ℕ). os ++ h.rest) parts ∙ simp append_assoc; stands = h.stands.3; behind = refl } in (
      middle,
      first,
      all_parted t middle after vs (record {
        front = back;
        rest = h.rest;
        parts = taken_rest t c middle v first;
        stands = h.stands.4;
        behind = h.behind ∙ ap (placed c) (ap (λ (os : List ℕ). c.position + length os) parts ∙ rw (length-append front back) (omega arith));
      }),
    )

-- a sequence is nothing else
pub items_parted : (t : CdrType) (c after : Cursor) (vs : List (ValueOf t)) → Takes (Sequence t) c after vs → (middle : Cursor) × Takes (Unsigned 4) c middle (length vs) × TakesAll t middle after vs
items_parted t c after vs h =
    let front : List ℕ = h.stands.0 in
    let back : List ℕ = h.stands.1 in
    let parts : h.front ≡ front ++ back = h.stands.2 in
    let middle : Cursor = placed c (c.position + length front) in
    let first : Takes (Unsigned 4) c middle (length vs) = record { front = front; rest = back ++ h.rest; parts = h.parts ∙ ap (λ (os : List ℕ). os ++ h.rest) parts ∙ simp append_assoc; stands = h.stands.3; behind = refl } in (
      middle,
      first,
      all_parted t middle after vs (record {
        front = back;
        rest = h.rest;
        parts = taken_rest (Unsigned 4) c middle (length vs) first;
        stands = h.stands.4;
        behind = h.behind ∙ ap (placed c) (ap (λ (os : List ℕ). c.position + length os) parts ∙ rw (length-append front back) (omega arith));
      }),
    )

abbrev output : List ℕ → Endian → Output
output os e = record { octets = os; endian = e }

-- items that are written one by one
all_at : (t : CdrType) (vs : List (ValueOf t)) (o : Output) → all_appended t vs o ≡ record { octets = o.octets ++ all_written (λ p v. written t p o.endian v) (length o.octets) vs; endian = o.endian }
all_at t [] o = ap (λ (os : List ℕ). output os o.endian) (sym (append-nil o.octets))
all_at t (v ∷ vs) o =
    all_at t vs (appended t v o)
    ∙ ap (λ (os : List ℕ). output os o.endian)
    (ap (λ (n : ℕ). (o.octets ++ written t (length o.octets) o.endian v) ++ all_written (λ p v. written t p o.endian v) n vs) (length-append o.octets (written t (length o.octets) o.endian v))
    ∙ append_assoc o.octets (written t (length o.octets) o.endian v) (all_written (λ p v. written t p o.endian v) (length o.octets + length (written t (length o.octets) o.endian v)) vs))

-- a count that is written, and then the items, are a sequence that is written
pub items_written : (t : CdrType) (vs : List (ValueOf t)) (o : Output) → all_appended t vs (appended (Unsigned 4) (length vs) o) ≡ appended (Sequence t) vs o
items_written t vs o =
    let count : List ℕ = number_written 4 (length o.octets) o.endian (length vs) in
    all_at t vs (appended (Unsigned 4) (length vs) o)
    ∙ ap (λ (os : List ℕ). output os o.endian)
    (ap (λ (n : ℕ). (o.octets ++ count) ++ all_written (λ p v. written t p o.endian v) n vs) (length-append o.octets count)
    ∙ append_assoc o.octets count (all_written (λ p v. written t p o.endian v) (length o.octets + length count) vs))
