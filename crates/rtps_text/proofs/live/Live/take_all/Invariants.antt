use Rattle.std.proofs.Common.{◌≡◌, []}
use Rattle.rtps_records.specs.declared.receive_end.ReceiveEnd.TheVariants.{More}
use Rattle.rtps_text.specs.Batched.{IsSameRun}
use Rattle.rtps_text.specs.Live.{GoesOn, IsLive}
use Rattle.rtps_text.proofs.live.Live.take_all.Given as goal

abbrev pub invariant-loop-self : goal.invariant-loop-self
invariant-loop-self g l = record {
  live : IsLive l.self;
  empty : l.lines.text.items ≡ [];
  same_writer : l.lines.writer.ghost_name ≡ l.fn.lines.writer.ghost_name;
  speech : g.N.Receive.speech l.network ≡ g.N.Receive.speech l.fn.network;
  same : IsSameRun l.fn.self.run l.self.run;
  goes_on : GoesOn g.C.Catalog.text_of g.C.Catalog.decoding l.fn.self l.self
      (g.N.Receive.traffic l.fn.network) (g.N.Receive.traffic l.network)
      (g.W.Write.contents l.fn.lines.writer.now) (g.W.Write.contents l.lines.writer.now) More;
}

abbrev pub decreases-loop-self : goal.decreases-loop-self
decreases-loop-self g l = l.self.left
