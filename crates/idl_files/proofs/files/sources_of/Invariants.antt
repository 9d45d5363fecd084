use Rattle.std.specs.Prelude.{take}
use Rattle.idl_files.specs.Types.{AreSources}
use Rattle.idl_files.proofs.files.sources_of.Given as goal

abbrev pub invariant-loop-text : goal.invariant-loop-text
invariant-loop-text l = AreSources (take l.text-index l.texts) l.sources.items
