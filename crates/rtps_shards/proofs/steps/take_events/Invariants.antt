use Rattle.std.proofs.Common.{◌≡◌, List, map, take, true}
use Rattle.rtps_receiver.specs.Events.{view}
use Rattle.rtps_proxy.specs.Effects.{GivesNothing}
use Rattle.rtps_reader.specs.declared.notice.Notice.{Notice}
use Rattle.rtps_reader.specs.Reader.{Reader}
use Rattle.rtps_reader.specs.Standing.{StandsAt}
use Rattle.rtps_planner.specs.Plan.{taken_in}
use Rattle.rtps_shards.specs.Results.{HasTaken, share}
use Rattle.rtps_shards.proofs.steps.take_events.Given as goal

-- the events so far are taken
abbrev pub invariant-loop-event : goal.invariant-loop-event
invariant-loop-event g l = record {
  taken : (r : Reader) (given : List (Notice g.C.Catalog.Meaning)) → StandsAt r given l.fn.state
      → HasTaken g.C.Catalog.view (g.C.Catalog.decoding l.fn.worker) (share r given (map taken_in (map view (take l.event-index l.events)))) l.state l.fn.output l.output;
  sound : l.fn.state.spent ≡ true → (l.event-index ≡ 0) × (l.state ≡ l.fn.state);
  rank : l.state.rank ≡ l.fn.state.rank;
  same : l.worker ≡ l.fn.worker;
  nothing : GivesNothing l.effects;
}
