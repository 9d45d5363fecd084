use Rattle.std.proofs.Common.{◌∙◌, ap, map, rules}
use Rattle.rtps_shards.specs.Ends.{owner_hand}
use Rattle.rtps_receiver.specs.Events.{view}
use Rattle.rtps_shards.specs.declared.board.Hand.{Hand}
use Rattle.rtps_shards.proofs.Crews.{works_more, works_none}
use Rattle.rtps_shards.proofs.work.run_rest.Goals as goal

pub loop-work-init : goal.loop-work-init
loop-work-init g c = record {
  works = works_none g.C.Catalog.view (g.C.Catalog.decoding c.args.batch.now.catalog.now) (map view c.args.batch.now.events.now) (owner_hand c.args.board.now) c.new-results.result.items c.new-results.ensures.items;
  whole = c.requires;
  catalog = search rules;
}

pub loop-work-preserved : goal.loop-work-preserved
loop-work-preserved g c = record {
  works = works_more g.C.Catalog.view (g.C.Catalog.decoding c.args.batch.now.catalog.now) (map view c.args.batch.now.events.now) (owner_hand c.args.board.now) (owner_hand c.loop-work.board) (owner_hand c.pop.new.self) c.in-Some.work
      c.loop-work.results.items c.run_more.new.results.items c.loop-work.invariant.works (c.in_ok-run_more.ensures.more c.loop-work.invariant.catalog) c.in-Some.ensures.hand;
  whole = ap (λ (v : Hand _). v.parts) c.in-Some.ensures.hand ∙ c.loop-work.invariant.whole;
  catalog = search rules;
}
