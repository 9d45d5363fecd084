use Rattle.std.proofs.Common.{◌<◌, [], ◌∙◌, ap, get_or, length, map, rules, sym}
use Rattle.rtps_receiver.specs.Counters.{counted}
use Rattle.rtps_receiver.specs.Events.{view}
use Rattle.rtps_types.specs.declared.datagram.Datagram.{Datagram}
use Rattle.dds_participant.proofs.Decoding.{counted_more, decoded_more}
use Rattle.dds_participant.proofs.decode.decoded_alone.Goals as goal

pub loop-at-preserved : goal.loop-at-preserved
loop-at-preserved c =
    let below : c.loop-at.at < length c.args.datagrams.now = search rules in
    let none : Datagram = record { moment = 0; bytes = record { ref_ptr = (0, 0); now = [] } } in
    record {
      events = decoded_more c.args.own c.args.first c.loop-at.at c.args.datagrams.now none (map view c.add_events.new.events.items) (map view c.loop-at.events.items) below c.in_ok-add_events.ensures.added c.loop-at.invariant.events;
      counters = c.in_ok-add_events.ensures.counted ∙ ap (counted c.args.own (get_or c.args.datagrams.now c.loop-at.at none).bytes.now) c.loop-at.invariant.counters ∙ sym (counted_more c.args.own c.loop-at.at c.args.datagrams.now none c.args.counters below);
    }
