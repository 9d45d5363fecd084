use Rattle.dds_participant.proofs.Pieces.{pieces_joined}
use Rattle.rtps_receiver.proofs.Summing.{nothing_added}
use Rattle.dds_participant.proofs.decode.decoded.Goals as goal

pub returns-clause-decoded : goal.returns-clause-decoded
returns-clause-decoded g c = pieces_joined c.args.from.own c.args.from.first c.args.from.datagrams.now c.in_ok-decoded_apart.field-0.items c.args.counters c.joined.result c.in_ok-decoded_apart.ensures (nothing_added c.args.counters c.requires.counts) c.joined.ensures.ok c.joined.ensures.events c.joined.ensures.counters
