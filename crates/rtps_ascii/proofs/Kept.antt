-- What a text holds, after more is added to it.
use Rattle.std.proofs.Common.{ℕ, List, arith}
use Rattle.std.proofs.lemmas.Grind.{common_steps}
use Rattle.std.specs.Io.{StartsWith}

-- what a text begins with also begins one that begins with that text
pub still_starts : (whole middle front : List ℕ) → StartsWith whole middle → StartsWith middle front → StartsWith whole front
still_starts whole middle front one two = grind (arith, common_steps)
