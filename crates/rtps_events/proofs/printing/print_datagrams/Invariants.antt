use Rattle.std.proofs.Common.{◌≡◌, ℕ, List, ◌+◌, ◌++◌, drop, map}
use Rattle.rtps_records.specs.Batches.{record_of}
use Rattle.rtps_records.specs.Text.{datagrams_of, text_from}
use Rattle.rtps_events.proofs.Printed.{Printed}
use Rattle.rtps_events.proofs.printing.print_datagrams.Given as goal

abbrev pub invariant-loop-datagram : goal.invariant-loop-datagram
invariant-loop-datagram g l = record {
  same_writer : l.lines.writer.ghost_name ≡ l.fn.lines.writer.ghost_name;
  numbered : l.number ≡ l.fn.first + l.datagram-index;
  same : g.D.DatagramText.lines l.text ≡ g.D.DatagramText.lines l.fn.text;
  ending : (rest : List (List ℕ)) → g.D.DatagramText.ending l.text (datagrams_of (map record_of (drop l.datagram-index l.datagrams)) ++ rest)
      ≡ g.D.DatagramText.ending l.fn.text (datagrams_of (map record_of l.datagrams) ++ rest);
  so_far : Printed (g.W.Write.contents l.fn.lines.writer.now) (g.W.Write.contents l.lines.writer.now)
      (l.fn.lines.text.items ++ text_from (g.D.DatagramText.lines l.fn.text) l.fn.first (map record_of l.datagrams))
      l.lines.text.items
      (text_from (g.D.DatagramText.lines l.fn.text) l.number (map record_of (drop l.datagram-index l.datagrams)));
}
