use Rattle.std.proofs.Common.{◌∙◌, map, rules}
use Rattle.rtps_shards.specs.Ends.{owner_hand}
use Rattle.rtps_receiver.specs.Events.{view}
use Rattle.rtps_shards.proofs.Crews.{works_more}
use Rattle.rtps_shards.proofs.work.run_own.Goals as goal

pub loop-turn-preserved : goal.loop-turn-preserved
loop-turn-preserved g c = record {
  board = c.pop.ensures.board ∙ c.loop-turn.invariant.board;
  works = works_more g.C.Catalog.view (g.C.Catalog.decoding c.args.batch.now.catalog.now) (map view c.args.batch.now.events.now) (owner_hand c.args.board.now) (owner_hand c.loop-turn.board) (owner_hand c.pop.new.self) c.in-Some.work
      c.loop-turn.results.items c.run_more.new.results.items c.loop-turn.invariant.works (c.in_ok-run_more-in-Some.ensures.more c.loop-turn.invariant.catalog) c.in-Some.ensures.hand;
  catalog = search rules;
}
