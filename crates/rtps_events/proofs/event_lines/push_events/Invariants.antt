use Rattle.std.proofs.Common.{◌≡◌, ◌++◌}
use Rattle.std.specs.Io.{StartsWith}
use Rattle.std.specs.List.{flat_map}
use Rattle.rtps_events.specs.EventLines.{lines_of}
use Rattle.rtps_events.specs.Line.{line_of}
use Rattle.rtps_events.proofs.event_lines.push_events.Given as goal

abbrev pub invariant-loop-event : goal.invariant-loop-event
invariant-loop-event g l = record {
  lines : l.out.items ++ flat_map line_of l.event-iterator ≡ l.fn.out.items ++ lines_of l.fn.own l.fn.index l.fn.datagram;
  keeps : StartsWith l.out.items l.fn.out.items;
}
