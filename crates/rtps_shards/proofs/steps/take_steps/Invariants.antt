use Rattle.std.proofs.Common.{◌≡◌, List, [], map, take, true}
use Rattle.rtps_receiver.specs.Events.{view}
use Rattle.rtps_proxy.specs.Effects.{GivesNothing}
use Rattle.rtps_reader.specs.declared.notice.Notice.{Notice}
use Rattle.rtps_reader.specs.Reader.{Reader}
use Rattle.rtps_reader.specs.Standing.{StandsAt}
use Rattle.rtps_planner.specs.Plan.{steps_seen}
use Rattle.rtps_shards.specs.Results.{HasTaken, share}
use Rattle.rtps_shards.proofs.steps.take_steps.Given as goal

-- the steps so far are taken
abbrev pub invariant-loop-planned : goal.invariant-loop-planned
invariant-loop-planned g l = record {
  taken : (r : Reader) (given : List (Notice g.C.Catalog.Meaning)) → StandsAt r given l.fn.state
      → HasTaken g.C.Catalog.view (g.C.Catalog.decoding l.fn.worker) (share r given (steps_seen (map view l.events) (take l.planned-index l.steps))) l.state l.fn.output l.output;
  sound : l.fn.state.spent ≡ true
      → (steps_seen (map view l.events) (take l.planned-index l.steps) ≡ []) × (l.state ≡ l.fn.state);
  rank : l.state.rank ≡ l.fn.state.rank;
  same : l.worker ≡ l.fn.worker;
  nothing : GivesNothing l.effects;
}
