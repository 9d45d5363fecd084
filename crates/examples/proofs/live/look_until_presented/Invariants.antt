use Rattle.std.proofs.Common.{◌≡◌}
use Rattle.examples.proofs.live.look_until_presented.Given as goal

abbrev pub invariant-loop : goal.invariant-loop
invariant-loop g l = l.watch.board ≡ l.fn.watch.board
