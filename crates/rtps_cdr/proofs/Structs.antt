-- Members of a struct, one after the other.
use Rattle.std.proofs.Common.{append_assoc, ◌≡◌, ℕ, ◌+◌, List, ◌++◌, length, drop, refl, sym, ◌∙◌, ap, subst, arith}
use Rattle.std.proofs.lemmas.List.{length-append}
use Rattle.rtps_cdr.specs.Cdr.{CdrType, Both, ValueOf}
use Rattle.rtps_cdr.specs.Reading.{Cursor, placed, Takes}
use Rattle.rtps_cdr.proofs.Counted.{taken_place, taken_rest}

joined_at : (s t : CdrType) (c : Cursor) (at : ℕ) (after : Cursor) (x : ValueOf s) (y : ValueOf t) → Takes s c (placed c at) x → Takes t (placed c at) after y → Takes (Both s t) c after (x, y)
joined_at s t c at after x y first second =
    let place : at ≡ c.position + length first.front = taken_place s c (placed c at) x first in
    let left : drop at c.octets ≡ first.rest = taken_rest s c (placed c at) x first in
    record {
      front = first.front ++ second.front;
      rest = second.rest;
      parts = first.parts ∙ ap (λ (os : List ℕ). first.front ++ os) (sym left ∙ second.parts) ∙ simp append_assoc;
      stands = (first.front, second.front, refl, first.stands, rw place at (second.stands));
      behind = second.behind ∙ ap (placed c) (rw (place, length-append first.front second.front) (omega arith));
    }

-- values of which the second comes after the first are those of a struct
pub members_joined : (s t : CdrType) (c middle after : Cursor) (x : ValueOf s) (y : ValueOf t) → Takes s c middle x → Takes t middle after y → Takes (Both s t) c after (x, y)
members_joined s t c middle after x y first second =
    let P : Cursor → Type 0 = λ m. Takes s c m x → Takes t m after y → Takes (Both s t) c after (x, y) in
    subst P (sym first.behind) (joined_at s t c (c.position + length first.front) after x y) first second

-- a struct is nothing else
pub members_parted : (s t : CdrType) (c after : Cursor) (v : ValueOf s × ValueOf t) → Takes (Both s t) c after v → (middle : Cursor) × Takes s c middle v.0 × Takes t middle after v.1
members_parted s t c after v h =
    let front : List ℕ = h.stands.0 in
    let back : List ℕ = h.stands.1 in
    let parts : h.front ≡ front ++ back = h.stands.2 in
    let middle : Cursor = placed c (c.position + length front) in
    let first : Takes s c middle v.0 = record { front = front; rest = back ++ h.rest; parts = h.parts ∙ ap (λ (os : List ℕ). os ++ h.rest) parts ∙ simp append_assoc; stands = h.stands.3; behind = refl } in (
      middle,
      first,
      record {
        front = back;
        rest = h.rest;
        parts = taken_rest s c middle v.0 first;
        stands = h.stands.4;
        behind = h.behind ∙ ap (placed c) (ap (λ (os : List ℕ). c.position + length os) parts ∙ rw (length-append front back) (omega arith));
      },
    )
