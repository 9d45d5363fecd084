use Rattle.std.specs.Io.KnownBytes.{Keeps}
use Rattle.rtps_records.proofs.transfer.flush_all.Given as goal

abbrev pub invariant-loop-turn : goal.invariant-loop-turn
invariant-loop-turn g l = Keeps (g.W.Write.contents l.initial.writer) (g.W.Write.contents l.writer)
