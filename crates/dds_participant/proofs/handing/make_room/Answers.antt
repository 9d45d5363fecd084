use Rattle.std.proofs.Common.{◌∙◌, ◌<◌, length, length-set, rules}
use Rattle.dds_participant.proofs.Onward.{room_more, same_view}
use Rattle.dds_participant.proofs.handing.make_room.Goals as goal

pub loop-rank-preserved : goal.loop-rank-preserved
loop-rank-preserved g c =
    let below : c.loop-rank.rank < length c.loop-rank.ports.items = search rules in
    let within : c.loop-rank.rank < length c.args.outputs.now = search rules in
    record {
      count = length-set c.loop-rank.ports.items c.loop-rank.rank c.reserve_at.new.place ∙ c.loop-rank.invariant.count;
      same = same_view c.loop-rank.ports.items c.loop-rank.rank _ c.reserve_at.new.place below c.index_mut.ensures.value c.reserve_at.ensures.same ∙ c.loop-rank.invariant.same;
      room = room_more (λ o. o.notices.items) c.loop-rank.ports.items c.args.outputs.now c.loop-rank.rank _ c.reserve_at.new.place c.index-outputs-rank.result below within c.index_mut.ensures.value (search rules) (search rules) c.loop-rank.invariant.room;
    }

pub returns-in_err-reserve_at-clause-same : goal.returns-in_err-reserve_at-clause-same
returns-in_err-reserve_at-clause-same g c =
    let below : c.loop-rank.rank < length c.loop-rank.ports.items = search rules in
    same_view c.loop-rank.ports.items c.loop-rank.rank _ c.reserve_at.new.place below c.index_mut.ensures.value c.reserve_at.ensures.same ∙ c.loop-rank.invariant.same

pub returns-clause-room : goal.returns-clause-room
returns-clause-room g c rank port below = c.loop-rank.invariant.room rank (search rules) port
