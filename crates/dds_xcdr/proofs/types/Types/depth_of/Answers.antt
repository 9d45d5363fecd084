use Rattle.std.proofs.Common.{◌<◌, length, ap, ◌∙◌, List, arith, get_or}
use Rattle.dds_xcdr.specs.declared.node.Entry.{Entry}
use Rattle.dds_xcdr.proofs.Described.{depth_is}
use Rattle.dds_xcdr.proofs.types.Types.depth_of.Goals as goal

pub returns-in-Some-clause-value : goal.returns-in-Some-clause-value
returns-in-Some-clause-value c =
    let entries : List Entry = c.self.inside.entries.items in
    let x : Entry = c.in-Some.entry.now in
    let below : c.args.id.0 < length entries =
    omega (arith, c.in-Some.ensures.lookup.3.0, ap length c.deref.ensures.value) in
    depth_is entries c.args.self.now c.args.id.0 x x c.self.invariant c.self.view_is below
    (c.in-Some.ensures.lookup.1 ∙ ap (λ (xs : List Entry). get_or xs c.args.id.0 x)
    c.deref.ensures.value)
