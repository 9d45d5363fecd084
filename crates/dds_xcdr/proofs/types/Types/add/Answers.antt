use Rattle.std.proofs.Common.{◌≡◌, List, length, is_ok, arith}
use Rattle.dds_xcdr.specs.declared.node.Entry.{Entry}
use Rattle.dds_xcdr.proofs.Described.{kept_pushed}
use Rattle.dds_xcdr.proofs.types.Types.add.Goals as goal

pub invariant_of-self : goal.invariant_of-self
invariant_of-self c =
    let entries : List Entry = c.self.inside.entries.items in
    let e : Entry = record { node = c.args.node; depth = c.depth-depth.result } in
    let here : c.len.result ≡ length entries =
    omega (arith, c.len.ensures, c.self.inside.entries.ok.0) in
    kept_pushed entries c.push.new.self.items e c.args.self.now c.len.result (is_ok c.push.result)
    c.self.invariant c.self.view_is
    (c.names_below.ensures.0 c.if-not-names_below.false) here c.depth-depth.ensures.value
    (omega arith) c.push.ensures.items
