use Rattle.std.proofs.Common.{◌≡◌, ◌++◌}
use Rattle.rtps_shards.specs.Apart.{somes}
use Rattle.rtps_shards.proofs.apart.made.Given as goal

-- what was taken over and what is left are all
abbrev pub invariant-loop-place : goal.invariant-loop-place
invariant-loop-place g l = l.all.items ++ somes l.place-iterator.rest.items ≡ somes l.fn.places.items
