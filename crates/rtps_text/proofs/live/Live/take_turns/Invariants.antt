use Rattle.std.proofs.Common.{◌≡◌, [], ℕ, List, Option}
use Rattle.rtps_records.specs.Traffic.{Traffic}
use Rattle.rtps_records.specs.declared.receive_end.ReceiveEnd.TheVariants.{Drained, Fault, More}
use Rattle.rtps_text.specs.Batched.{IsSameRun}
use Rattle.rtps_text.specs.Live.{IsLive, Listens}
use Rattle.rtps_text.proofs.live.Live.take_turns.Given as goal

abbrev pub invariant-loop-turn : goal.invariant-loop-turn
invariant-loop-turn g l = record {
  live : IsLive l.self;
  empty : l.lines.text.items ≡ [];
  same_writer : l.lines.writer.ghost_name ≡ l.fn.lines.writer.ghost_name;
  speech : g.N.Receive.speech l.network ≡ g.N.Receive.speech l.fn.network;
  same : IsSameRun l.fn.self.run l.self.run;
  all : l.end ≡ More → l.self.left ≡ 0;
  none : ¬ (l.end ≡ Fault);
  goes_on : (first : Option (List Traffic)) (origin : Option (List ℕ)) (most : ℕ)
      → Listens g.C.Catalog.text_of g.C.Catalog.decoding first (g.N.Receive.traffic l.fn.network)
      origin (g.W.Write.contents l.fn.lines.writer.now) most l.fn.self.left 0 l.fn.self.moment Drained
      l.fn.self.run.participant.engine
      → Listens g.C.Catalog.text_of g.C.Catalog.decoding first (g.N.Receive.traffic l.network)
      origin (g.W.Write.contents l.lines.writer.now) most l.self.left l._turn l.self.moment l.end
      l.self.run.participant.engine;
}
