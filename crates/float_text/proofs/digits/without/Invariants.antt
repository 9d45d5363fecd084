use Rattle.float_text.proofs.Numbers.{Above}
use Rattle.float_text.proofs.digits.without.Given as goal

abbrev pub invariant-loop-place : goal.invariant-loop-place
invariant-loop-place l = Above l.digits l.places l.place l.number

abbrev pub decreases-loop-place : goal.decreases-loop-place
decreases-loop-place l = l.place
