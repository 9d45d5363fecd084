use Rattle.std.proofs.Common.{◌≡◌, ◌+◌, length, IsUtf8}
use Rattle.dds_idl.proofs.Fronts.{WordsBefore}
use Rattle.dds_idl.proofs.words.words.Given as goal

abbrev pub invariant-words : goal.invariant-words
invariant-words l = record {
  so_far : WordsBefore l.text l.words.items l.at l.rest;
  in_range : l.at + length l.rest ≡ length l.text;
  utf8 : IsUtf8 l.rest;
}

abbrev pub decreases-words : goal.decreases-words
decreases-words l = length l.rest
