use Rattle.std.proofs.Common.{◌<◌, arith, length}
use Rattle.std.proofs.lemmas.List.{length-map}
use Rattle.dds_participant.specs.Handing.{listed}
use Rattle.dds_participant.proofs.Onward.{handed_all, handed_more, handed_none}
use Rattle.dds_participant.proofs.handing.hand_on_lists.Goals as goal

pub loop-rank-init : goal.loop-rank-init
loop-rank-init g c = handed_none c.args.ports.now.items (listed c.args.lists.now.items)

pub loop-rank-preserved : goal.loop-rank-preserved
loop-rank-preserved g c =
    let on = c.loop-rank.invariant in
    let below : c.loop-rank.rank < length c.loop-rank.ports.items = omega (arith, on.count, c.len-rank-end.ensures) in
    let within : c.loop-rank.rank < length c.loop-rank.lists.items = omega (
      arith,
      on.lists,
      c.requires.same,
      c.len-rank-end.ensures,
      length-map c.loop-rank.lists.items (λ l. l.items),
      length-map c.args.lists.now.items (λ l. l.items),
    ) in
    handed_more (λ l. l.items) _ _ _ _ _ _ _ _ _ on below within c.index_mut.ensures.value c.index_mut-in-loop-rank.ensures.value (c.keep_at.ensures.port, c.keep_at.ensures.left)

pub returns-clause-on : goal.returns-clause-on
returns-clause-on g c = handed_all _ _ _ _ _ c.loop-rank.invariant (omega (arith, c.len-rank-end.ensures)) (omega (arith, c.requires.same, length-map c.args.lists.now.items (λ l. l.items)))
