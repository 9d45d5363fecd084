use Rattle.std.proofs.Common.{◌≡◌, ◌++◌, map}
use Rattle.std.specs.Prelude.{drop}
use Rattle.rtps_receiver.specs.Events.{EventView, view}
use Rattle.rtps_planner.proofs.steps.add_places.Given as goal

-- the places of the events so far are there
abbrev pub invariant-loop-event : goal.invariant-loop-event
invariant-loop-event g l =
    l.places.items ++ map (λ (e : EventView). e.place) (map view (drop l.event-index l.events)) ≡ l.fn.places.items ++ map (λ (e : EventView). e.place) (map view l.events)
