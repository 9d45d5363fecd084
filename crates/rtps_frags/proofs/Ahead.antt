-- A walk through runs, from a fragment on.
use Rattle.std.proofs.Common.{◌≡◌, ℕ, ◌+◌, ◌<◌, Bool, true, false, ◌&&◌, ◌||◌, refl, ◌∙◌, arith, ltb, leb}
use Rattle.std.proofs.lemmas.Bool.Decides.{nat_tests}
use Rattle.rtps_frags.specs.declared.chunks.Span.{Span}
use Rattle.rtps_frags.specs.Runs.{AreApart, Runs, covers}
use Rattle.rtps_frags.specs.Spans.{IsAhead}
use Rattle.rtps_frags.proofs.Runs.{none_below, weaken}

pub ahead_from : (base : ℕ) (runs : Runs) → AreApart (base + 1) runs → IsAhead runs base (record { start = base; end = base }) runs
ahead_from base runs apart = record {
  reached = omega arith;
  same = λ k le. let none : (leb base k && ltb k base) ≡ false = grind (arith, nat_tests) in rw none refl;
  apart = weaken runs (base + 1) base apart (omega arith);
}

-- a fragment before the end of the span is there where it isn't before the start
pub here : (runs : Runs) (at : ℕ) (span : Span) (left : Runs) → at < span.end → IsAhead runs at span left → covers runs at ≡ leb span.start at
here runs at span left l h =
    let none : covers left at ≡ false = none_below left span.end at h.apart l in
    let inside : (leb span.start at && ltb at span.end) ≡ leb span.start at = grind (arith, nat_tests) in
    h.same at (omega arith) ∙ rw (none, inside) (or_false (leb span.start at))
  where
    or_false : (b : Bool) → (b || false) ≡ b
    or_false true = refl
    or_false false = refl

pub ahead_on : (runs : Runs) (at : ℕ) (span : Span) (left : Runs) → at < span.end → IsAhead runs at span left → IsAhead runs (at + 1) span left
ahead_on runs at span left l h = record {
  reached = omega arith;
  same = λ k le. h.same k (omega (arith, le));
  apart = h.apart;
}
