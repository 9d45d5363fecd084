use Rattle.std.proofs.Common.{take, IsUtf8}
use Rattle.std.specs.Prelude.{All}
use Rattle.dds_idl.proofs.read.parse.Given as goal

abbrev pub invariant-loop-index : goal.invariant-loop-index
invariant-loop-index l = All (λ source. IsUtf8 source.text.now) (take l.index l.sources)
