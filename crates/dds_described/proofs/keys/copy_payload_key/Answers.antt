use Rattle.std.proofs.Common.{◌∙◌, sym, ap, List}
use Rattle.dds_xcdr.specs.Types.{type_in, types_of}
use Rattle.dds_xcdr.specs.Xtype.{Xtype}
use Rattle.dds_described.specs.Key.{is_keyed}
use Rattle.dds_described.proofs.KeyParts.{keyed_type, unkeyed_type}
use Rattle.dds_described.proofs.keys.copy_payload_key.Goals as goal

pub returns-then-is_keyed : goal.returns-then-is_keyed
returns-then-is_keyed c =
    let types : List Xtype = types_of c.args.types.now in
    rw (keyed_type (type_in types c.args.of)
    (ap is_keyed (sym c.node.ensures.meant) ∙ sym (c.is_keyed.ensures types)
    ∙ c.if-is_keyed.true)) c.copy_holder.ensures

pub returns-else-is_keyed : goal.returns-else-is_keyed
returns-else-is_keyed c =
    let types : List Xtype = types_of c.args.types.now in
    unkeyed_type c.args.version (type_in types c.args.of) c.args.copier.now
    (ap is_keyed (sym c.node.ensures.meant) ∙ sym (c.is_keyed.ensures types)
    ∙ c.if-is_keyed.false)
