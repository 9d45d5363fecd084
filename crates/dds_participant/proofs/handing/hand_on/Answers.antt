use Rattle.std.proofs.Common.{◌∙◌, ◌<◌, ap, arith, length, refl}
use Rattle.std.proofs.lemmas.List.{length-map}
use Rattle.std.proofs.Math.Seq.{map-set_same}
use Rattle.dds_participant.specs.Handing.{reported}
use Rattle.dds_participant.proofs.Onward.{handed_all, handed_more, handed_none}
use Rattle.dds_participant.proofs.handing.hand_on.Goals as goal

pub loop-rank-init : goal.loop-rank-init
loop-rank-init g c = record {
  sent = refl;
  on = handed_none c.args.ports.now.items (reported c.args.outputs.now.items);
}

pub loop-rank-preserved : goal.loop-rank-preserved
loop-rank-preserved g c =
    let on = c.loop-rank.invariant.on in
    let below : c.loop-rank.rank < length c.loop-rank.ports.items = omega (arith, on.count, c.len-rank-end.ensures) in
    let within : c.loop-rank.rank < length c.loop-rank.outputs.items = omega (
      arith,
      on.lists,
      c.requires.same,
      c.len-rank-end.ensures,
      length-map c.loop-rank.outputs.items (λ o. o.notices.items),
      length-map c.args.outputs.now.items (λ o. o.notices.items),
    ) in
    record {
      sent = map-set_same (λ o. o.answers) c.loop-rank.outputs.items c.loop-rank.rank _ _ (ap (λ o. o.answers) c.index_mut-in-loop-rank.ensures.value) ∙ c.loop-rank.invariant.sent;
      on = handed_more (λ o. o.notices.items) _ _ _ _ _ _ _ _ _ on below within c.index_mut.ensures.value c.index_mut-in-loop-rank.ensures.value (c.keep_at.ensures.port, c.keep_at.ensures.left);
    }

pub returns-clause-on : goal.returns-clause-on
returns-clause-on g c = handed_all _ _ _ _ _ c.loop-rank.invariant.on (omega (arith, c.len-rank-end.ensures)) (omega (arith, c.requires.same, length-map c.args.outputs.now.items (λ o. o.notices.items)))
