use Rattle.std.proofs.Common.{◌≡◌, ◌+◌, length}
use Rattle.dds_idl.specs.Gap.{gap}
use Rattle.dds_idl.specs.declared.gap.Within.TheVariants.{Code}
use Rattle.dds_idl.proofs.gap.gap_of.Given as goal

abbrev pub invariant-loop-octet : goal.invariant-loop-octet
invariant-loop-octet l = record {
  so_far : l.len + gap l.within l.left ≡ gap Code l.text;
  in_range : l.len + length l.left ≡ length l.text;
}

abbrev pub decreases-loop-octet : goal.decreases-loop-octet
decreases-loop-octet l = length l.left
