use Rattle.std.proofs.Common.{◌≡◌, ◌+◌, length, drop}
use Rattle.std.specs.Prelude.{false}
use Rattle.dds_idl.specs.Words.{literal_end}
use Rattle.dds_idl.proofs.words.literal_len.Given as goal

abbrev pub invariant-loop-octet : goal.invariant-loop-octet
invariant-loop-octet l = record {
  so_far : literal_end l.quote l.is_escaped l.at l.left
      ≡ literal_end l.quote false 1 (drop 1 l.text);
  in_range : l.at + length l.left ≡ length l.text;
}

abbrev pub decreases-loop-octet : goal.decreases-loop-octet
decreases-loop-octet l = length l.left
