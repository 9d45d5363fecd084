-- One pass over runs, from a fragment on.
use Rattle.std.specs.Prelude.{◌≡◌, ℕ, ◌≤◌, ◌&&◌, ◌||◌, nat_le, nat_lt}
use Rattle.rtps_frags.specs.declared.chunks.Span.{Span}
use Rattle.rtps_frags.specs.Runs.{AreApart, Runs, covers}

-- from fragment `at` on, the fragments in the runs are those of the span and of the remaining runs,
-- which are after it
pub record IsAhead (runs : Runs) (at : ℕ) (span : Span) (left : Runs) : Type 0 where
  pub reached : at ≤ span.end
  pub same : (k : ℕ) → at ≤ k
      → covers runs k ≡ ((nat_le span.start k && nat_lt k span.end) || covers left k)
  pub apart : AreApart span.end left
