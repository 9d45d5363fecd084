-- The shortest decimal that reads as a float: the most digits that can be are rounded away.
use Rattle.std.specs.Prelude.{ℕ, zero, suc, ◌+◌, ◌-◌, ◌*◌, ◌/◌, ◌%◌, ◌^◌, Bool, ◌&&◌, ◌==◌, nat_lt, nat_le, if◌then◌else◌}

-- the whole number that is nearest to below + rest / step; of two that are as near, the even one
abbrev pub nearest : ℕ → ℕ → ℕ → ℕ
nearest below rest step =
    if nat_lt (2 * rest) step then below
    else if nat_lt step (2 * rest) then below + 1
    else below + below % 2

-- the number without its last `places` digits, rounded
abbrev pub rounded : ℕ → ℕ → ℕ
rounded number places = nearest (number / 10 ^ places) (number % 10 ^ places) (10 ^ places)

-- A float, and the points halfway to the floats beside it, all times the same power of ten, with
-- which they are whole numbers.
pub record Span : Type 0 where
  pub number : ℕ
  pub low : ℕ
  pub high : ℕ
  -- the significand is even
  pub even : Bool

-- whether one number is below the other, or equal where it may be
abbrev pub is_from : Bool → ℕ → ℕ → Bool
is_from equal low high = if equal then nat_le low high else nat_lt low high

-- whether a number reads as that float (IEEE 754-2019, 4.3.1): no float is nearer, and if another
-- one is as near, this one is even
abbrev pub is_read : Span → ℕ → Bool
is_read span number = is_from span.even span.low number && is_from span.even number span.high

-- whether the float, without its last `places` digits, still reads as that float
unfoldable pub reads_back : Span → ℕ → Bool
reads_back span places = is_read span (rounded span.number places * 10 ^ places)

-- how many digits can be left away, if that is `most` at most
abbrev pub places_up_to : Span → ℕ → ℕ
places_up_to span zero = 0
places_up_to span (suc most) = if reads_back span (suc most) then suc most else places_up_to span most

-- How many digits can be left away: at most `high` of them, since 10 ^ high is above all numbers
-- that read as the float.
abbrev pub places_of : Span → ℕ
places_of span = places_up_to span span.high

-- the digits that are left, rounded
abbrev pub digits_of : Span → ℕ
digits_of span = rounded span.number (places_of span)

-- The float 4 * significand * unit: the points halfway are 2 units away. Below the least float of
-- an exponent the floats are twice as close (`narrow`), and the point halfway is 1 unit away.
abbrev pub span_of : ℕ → Bool → ℕ → Span
span_of significand narrow unit = record {
  number = 4 * significand * unit;
  low = (4 * significand - (if narrow then 1 else 2)) * unit;
  high = (4 * significand + 2) * unit;
  even = significand % 2 == 0;
}
