use Rattle.std.proofs.Common.{◌≡◌, ◌++◌}
use Rattle.std.specs.Io.{StartsWith}
use Rattle.rtps_events.specs.Line.{more_text}
use Rattle.rtps_events.proofs.numbers.push_members.Given as goal

abbrev pub invariant-loop-member : goal.invariant-loop-member
invariant-loop-member g l = record {
  text : l.out.items ≡ l.initial.out.items ++ more_text l.yielded;
  members : l.initial.member-iterator ≡ l.yielded ++ l.member-iterator;
  keeps : StartsWith l.out.items l.fn.out.items;
}
