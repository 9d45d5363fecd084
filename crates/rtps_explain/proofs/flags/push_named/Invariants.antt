use Rattle.std.proofs.Common.{◌≡◌, ◌++◌, drop}
use Rattle.std.specs.Io.{StartsWith}
use Rattle.rtps_explain.specs.Kinds.{named_text}
use Rattle.rtps_explain.proofs.flags.push_named.Given as goal

abbrev pub invariant-loop-letter : goal.invariant-loop-letter
invariant-loop-letter g l = record {
  text : l.out.items ++ named_text l.left (drop l.letter-index l.letters) ≡ l.fn.out.items ++ named_text l.flags l.letters;
  keeps : StartsWith l.out.items l.fn.out.items;
}
