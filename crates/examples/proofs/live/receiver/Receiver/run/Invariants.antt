use Rattle.std.proofs.Common.{◌≡◌}
use Rattle.examples.proofs.live.receiver.Receiver.run.Given as goal

abbrev pub invariant-loop : goal.invariant-loop
invariant-loop g l = l.board.board ≡ l.fn.board.board
