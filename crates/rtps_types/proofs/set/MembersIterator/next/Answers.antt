use Rattle.std.proofs.Common.{sym, ◌∙◌}
use Rattle.rtps_types.proofs.Sets.{members_unnamed}
use Rattle.rtps_types.proofs.set.MembersIterator.next.Goals as goal

pub loop-self-preserved : goal.loop-self-preserved
loop-self-preserved c =
    let same = members_unnamed c.loop-self.self-inside.base c.loop-self.self-inside.offset c.loop-self.self-inside.bits c.loop-self.self-inside.words c.loop-self-test.true (sym c.names_offset.ensures ∙ c.if-names_offset.false) in
    (sym same ∙ c.loop-self.invariant.0, c.loop-self.invariant.1, c.loop-self.invariant.2)
