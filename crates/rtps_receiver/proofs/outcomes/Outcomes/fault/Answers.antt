use Rattle.std.proofs.Common.{ap, ◌∙◌}
use Rattle.rtps_wire.specs.Reading.{Reading, reading}
use Rattle.rtps_receiver.specs.Outcomes.{OutcomesView}
use Rattle.rtps_receiver.proofs.Running.{none_left, one_left}
use Rattle.rtps_receiver.proofs.outcomes.Outcomes.fault.Goals as goal

pub returns-clause-ended : goal.returns-clause-ended
returns-clause-ended c none =
    let none_is = none_left c.self.inside.context c.self.inside.place (reading c.self.inside.rest.now).items (ap (λ (o : OutcomesView). o.left) c.self.view_is ∙ none) in
    c.fault.ensures.ended (ap (λ (r : Reading). r.items) c.new.ensures.value ∙ none_is)
    ∙ ap (λ (r : Reading). r.fault) c.new.ensures.value
    ∙ ap (λ (o : OutcomesView). o.fault) c.self.view_is

pub returns-clause-before : goal.returns-clause-before
returns-clause-before c next others is =
    let left = one_left c.self.inside.context c.self.inside.place (reading c.self.inside.rest.now).items next others (ap (λ (o : OutcomesView). o.left) c.self.view_is ∙ is) in
    c.fault.ensures.before left.0 left.1 (ap (λ (r : Reading). r.items) c.new.ensures.value ∙ left.2)
