use Rattle.std.proofs.Common.{ap, ◌∙◌}
use Rattle.rtps_wire.specs.Reading.{reading_behind}
use Rattle.rtps_receiver.specs.Events.{events_under}
use Rattle.rtps_receiver.proofs.Running.{all_left}
use Rattle.rtps_receiver.proofs.datagram.Events.new.Goals as goal

pub returns-in-Ok : goal.returns-in-Ok
returns-in-Ok c = c.of_rest.ensures ∙ all_left c.args.own c.args.index c.args.octets.now c.in-Ok.header c.in-Ok.ensures

pub returns-in-Err : goal.returns-in-Err
unfolding reading_behind
returns-in-Err c =
    c.of_rest-in-Err.ensures ∙ ap (λ x. events_under c.args.own c.args.index c.args.octets.now x) c.in-Err.ensures
