use Rattle.std.proofs.Common.{◌∙◌, sym, ap, List}
use Rattle.dds_xcdr.specs.Types.{type_in, types_of}
use Rattle.dds_xcdr.specs.Xtype.{Xtype}
use Rattle.dds_described.specs.Key.{is_keyed}
use Rattle.dds_described.proofs.Shorts.{no_key_is_short}
use Rattle.dds_described.proofs.hash.key_is_short.Goals as goal

pub returns-else-is_keyed : goal.returns-else-is_keyed
returns-else-is_keyed c =
    let types : List Xtype = types_of c.args.types.now in
    sym (no_key_is_short (type_in types c.args.of)
    (ap is_keyed (sym c.node.ensures.meant) ∙ sym (c.is_keyed.ensures types)
    ∙ c.if-is_keyed.false))
