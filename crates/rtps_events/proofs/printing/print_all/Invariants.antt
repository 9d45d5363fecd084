use Rattle.std.proofs.Common.{◌≡◌}
use Rattle.rtps_events.proofs.Batches.{left_of}
use Rattle.rtps_events.proofs.Run.{IsPrinting}
use Rattle.rtps_events.proofs.printing.print_all.Given as goal

abbrev pub invariant-loop-end : goal.invariant-loop-end
invariant-loop-end g l = record {
  same_reader : l.records.reader.ghost_name ≡ l.fn.records.reader.ghost_name;
  same_writer : l.lines.writer.ghost_name ≡ l.fn.lines.writer.ghost_name;
  same : g.D.DatagramText.lines l.text ≡ g.D.DatagramText.lines l.fn.text;
  so_far : IsPrinting l.records.format (g.D.DatagramText.lines l.fn.text) (g.D.DatagramText.ending l.fn.text) (g.D.DatagramText.ending l.text) (g.R.Read.remaining l.fn.records.reader.now) (g.R.Read.remaining l.records.reader.now)
      (g.W.Write.contents l.fn.lines.writer.now) (g.W.Write.contents l.lines.writer.now) l.end l.records.count l.next l.lines.text.items;
}

abbrev pub decreases-loop-end : goal.decreases-loop-end
decreases-loop-end g l = left_of l.end l.records.count
