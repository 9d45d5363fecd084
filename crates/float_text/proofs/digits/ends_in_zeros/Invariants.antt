use Rattle.std.proofs.Common.{◌≡◌, take}
use Rattle.float_text.specs.Digits.{number_of}
use Rattle.float_text.proofs.digits.ends_in_zeros.Given as goal

abbrev pub invariant-loop-place : goal.invariant-loop-place
invariant-loop-place l = number_of (take l.place l.digits) ≡ 0
