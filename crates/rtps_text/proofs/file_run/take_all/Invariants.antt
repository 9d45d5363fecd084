use Rattle.std.proofs.Common.{◌≡◌, List}
use Rattle.rtps_records.specs.Batches.{records_in}
use Rattle.rtps_text.specs.Sink.{IsTaken, is_late, sink_text}
use Rattle.rtps_text.proofs.Batches.{left_of}
use Rattle.rtps_text.proofs.FileRun.{IsTaking}
use Rattle.rtps_text.proofs.file_run.take_all.Given as goal
use Rattle.rtps_records.specs.RecordFile.{Record}

abbrev pub invariant-loop-sink : goal.invariant-loop-sink
invariant-loop-sink g l = record {
  same_reader : l.records.reader.ghost_name ≡ l.fn.records.reader.ghost_name;
  same_writer : l.lines.writer.ghost_name ≡ l.fn.lines.writer.ghost_name;
  text : (those : List Record) → sink_text g.C.Catalog.text_of g.C.Catalog.decoding l.sink those ≡ sink_text g.C.Catalog.text_of g.C.Catalog.decoding l.fn.sink those;
  late : is_late l.sink ≡ is_late l.fn.sink;
  taking : IsTaking l.records.format (IsTaken g.C.Catalog.text_of g.C.Catalog.view g.C.Catalog.decoding l.sink l.pipeline.ahead.text.items) (g.R.Read.remaining l.fn.records.reader.now) (g.W.Write.contents l.fn.lines.writer.now)
      (records_in l.pipeline.ahead.next) l.pipeline.ahead.end (g.R.Read.remaining l.records.reader.now) l.records.count (g.W.Write.contents l.lines.writer.now) l.lines.text.items;
}

abbrev pub decreases-loop-sink : goal.decreases-loop-sink
decreases-loop-sink g l = left_of l.pipeline.ahead.end l.records.count
