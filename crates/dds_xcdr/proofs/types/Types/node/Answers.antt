use Rattle.dds_xcdr.proofs.Described.{StandsAt, node_is}
use Rattle.dds_xcdr.specs.Types.{types_of}
use Rattle.dds_xcdr.proofs.types.Types.node.Goals as goal

stands : (c : goal.After-index) → StandsAt (types_of c.args.self.now) c.args.id.0
    c.index.result.now.node
stands c = node_is c.self.inside.entries.items c.args.self.now c.args.id.0 c.index.result.now
    c.index.result.now c.self.invariant c.self.view_is c.requires c.index.ensures

pub returns-clause-meant : goal.returns-clause-meant
returns-clause-meant c = (stands c).meant

pub returns-clause-below : goal.returns-clause-below
returns-clause-below c = (stands c).below
