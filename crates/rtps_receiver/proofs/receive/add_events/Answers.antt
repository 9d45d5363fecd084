use Rattle.std.proofs.Common.{ap, ◌∙◌, ◌++◌, map}
use Rattle.rtps_receiver.specs.Counters.{all_noted, ended}
use Rattle.rtps_receiver.specs.Events.{view}
use Rattle.rtps_receiver.proofs.Counting.{counted_at, events_among_all}
use Rattle.rtps_receiver.proofs.receive.add_events.Goals as goal

pub returns-in-Ok-add_outcomes-clause-added : goal.returns-in-Ok-add_outcomes-clause-added
returns-in-Ok-add_outcomes-clause-added g c =
    c.in-Ok-add_outcomes.ensures.added
    ∙ ap (λ es. map view c.args.events.now.items ++ es) (events_among_all c.args.own c.args.index c.args.octets.now c.in-Ok.outcomes c.in-Ok.ensures)

pub returns-in-Ok-add_outcomes-clause-counted : goal.returns-in-Ok-add_outcomes-clause-counted
returns-in-Ok-add_outcomes-clause-counted g c =
    c.in-Ok-add_outcomes.ensures.counted
    ∙ ap (λ started. ended c.in-Ok.outcomes.fault (all_noted c.in-Ok.outcomes.left started)) c.begin.ensures
    ∙ counted_at c.args.own c.args.index c.args.octets.now c.in-Ok.outcomes c.args.counters.now c.in-Ok.ensures
