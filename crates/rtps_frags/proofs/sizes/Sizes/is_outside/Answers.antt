use Rattle.rtps_frags.proofs.Cuts.{outside_by}
use Rattle.rtps_frags.proofs.sizes.Sizes.is_outside.Goals as goal

pub returns : goal.returns
returns c =
    rw (c.from.ensures, c.from-2.ensures, c.from-3.ensures, c.from-4.ensures)
    (outside_by c.args.self c.requires c.args.start c.args.count c.if-start-eq0.false c.if-count-eq0.false)
