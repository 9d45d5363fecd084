use Rattle.std.proofs.Common.{Ok, ap, ◌∙◌}
use Rattle.rtps_receiver.proofs.Running.{all_outcomes_left}
use Rattle.rtps_receiver.proofs.outcomes.Outcomes.new.Goals as goal

pub returns-in-Ok : goal.returns-in-Ok
returns-in-Ok c = ap Ok c.of_rest.ensures ∙ all_outcomes_left c.args.own c.args.index c.args.octets.now c.in-Ok.header c.in-Ok.ensures
