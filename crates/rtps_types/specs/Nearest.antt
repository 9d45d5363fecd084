-- The number that is nearest to a value: the value itself, if a change may have it.
use Rattle.std.specs.Prelude.{ℕ, max, min, ◌-◌, ◌^◌}
use Rattle.std.proofs.Math.Nat.{le-add_right, le-max_left, max-le, min-le_right}
use Rattle.rtps_types.specs.declared.number.Number.{Number}

-- the value itself if a change may have that number, else the nearest number that it may have
abbrev pub nearest : ℕ → Number
nearest n = record {
  value = max 1 (min n (2 ^ 62));
  bounds = (
    le-max_left 1 (min n (2 ^ 62)),
    max-le (le-add_right 1 (2 ^ 62 - 1))
        (min-le_right n (2 ^ 62)),
  );
}
