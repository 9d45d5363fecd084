use Rattle.std.proofs.Common.{◌≡◌, length}
use Rattle.rtps_params.specs.Reading.{shown}
use Rattle.rtps_params.proofs.list.ParamsIterator.next.Given as goal

abbrev pub invariant-loop-param : goal.invariant-loop-param
invariant-loop-param l = shown l.self-inside.endian l.self-inside.rest.now ≡ shown l.initial.self-inside.endian l.initial.self-inside.rest.now

abbrev pub decreases-loop-param : goal.decreases-loop-param
decreases-loop-param l = length l.self-inside.rest.now
