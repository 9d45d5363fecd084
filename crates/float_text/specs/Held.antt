-- A span whose numbers are held as digits.
use Rattle.std.specs.Prelude.{ℕ, ◌+◌, ◌*◌, ◌/◌, ◌^◌, ◌<◌, ◌≤◌, Bool, List}
use Rattle.float_text.specs.Digits.{number_of}
use Rattle.float_text.specs.Shortest.{Span}

-- by the digits of twice the float, and of the two halfway points
abbrev pub held : List ℕ → List ℕ → List ℕ → Bool → Span
held twice low high even = record { number = number_of twice / 2; low = number_of low; high = number_of high; even = even }

-- the halfway points are a unit away at least, and the number has at most 54 bits
pub record IsWide (span : Span) : Type 0 where
  pub unit : ℕ
  pub some : 0 < unit
  pub positive : 0 < span.low
  pub below : span.low + unit ≤ span.number
  pub above : span.number + unit ≤ span.high
  pub few : span.high ≤ 2 ^ 56 * unit
