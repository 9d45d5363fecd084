use Rattle.std.proofs.Common.{◌∙◌, map, rules, subst, sym}
use Rattle.rtps_shards.specs.Ends.{thief_hand}
use Rattle.rtps_receiver.specs.Events.{view}
use Rattle.rtps_shards.specs.declared.board.Hand.{Hand}
use Rattle.rtps_shards.specs.Work.{Works}
use Rattle.rtps_shards.proofs.Crews.{on_err, takes_more, works_more}
use Rattle.rtps_shards.proofs.work.Thief+Posted+V.work.Goals.{in-Item+in_ok-run_more-in-Item, in-Again}
use Rattle.rtps_shards.proofs.work.Thief+Posted+V.work.Goals as goal

pub loop-turn-preserved : goal.loop-turn-preserved
loop-turn-preserved g c =
    let f = g.C.Catalog.view in
    let d = g.C.Catalog.decoding c.args.batch.now.catalog.now in
    let es = map view c.args.batch.now.events.now in
    elim c.match-steal.branch [
      | in-Item+in_ok-run_more-in-Item w ↦ record {
        board = c.steal.ensures.board ∙ c.loop-turn.invariant.board;
        works = rw w.results-is (works_more f d es (thief_hand c.args.self.now) (thief_hand c.loop-turn.self) (thief_hand c.steal.new.self) w.in-Item.work
            c.loop-turn.results.items w.run_more.new.results.items c.loop-turn.invariant.works (w.in_ok-run_more-in-Item.ensures.more c.loop-turn.invariant.catalog) w.in-Item.ensures.hand);
        catalog = rw w.worker-is (search rules);
      }
      | in-Again w ↦ record {
        board = c.steal.ensures.board ∙ c.loop-turn.invariant.board;
        works = rw w.results-is (subst (λ (v : Hand _). Works f d es (thief_hand c.args.self.now) v c.loop-turn.results.items) (sym w.in-Again.ensures.hand) c.loop-turn.invariant.works);
        catalog = rw w.worker-is c.loop-turn.invariant.catalog;
      }
    ]

pub returns-in_err-run_more-in-Item-clause-lost : goal.returns-in_err-run_more-in-Item-clause-lost
returns-in_err-run_more-in-Item-clause-lost g c =
    on_err c.from_residual.result _ (takes_more g.C.Catalog.view (g.C.Catalog.decoding c.args.batch.now.catalog.now) (map view c.args.batch.now.events.now) (thief_hand c.args.self.now) (thief_hand c.loop-turn.self) (thief_hand c.steal.new.self) c.in-Item.work c.loop-turn.results.items c.loop-turn.invariant.works c.in-Item.ensures.hand)
