use Rattle.std.proofs.Common.{◌≡◌, ◌++◌}
use Rattle.std.specs.Io.{StartsWith}
use Rattle.rtps_text.specs.Replayed.{match_lines}
use Rattle.rtps_text.proofs.closing.push_all_matches.Given as goal

-- the text so far, followed by the lines of the matches that are left, is the text with the lines
-- of all matches
abbrev pub invariant-loop-pair : goal.invariant-loop-pair
invariant-loop-pair g l = record {
  lines : l.out.items ++ match_lines l.pair-iterator ≡ l.fn.out.items ++ match_lines l.matches.keys;
  keeps : StartsWith l.out.items l.fn.out.items;
}
