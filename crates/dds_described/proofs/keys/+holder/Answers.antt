use Rattle.std.proofs.Common.{sym, List}
use Rattle.dds_xcdr.specs.declared.node.Node.TheVariants as node
use Rattle.dds_xcdr.specs.Types.{fields_in, type_in, types_of}
use Rattle.dds_xcdr.specs.Xtype.{Xtype}
use Rattle.dds_xcdr.proofs.Described.{means}
use Rattle.dds_described.specs.Key.{has_key}
use Rattle.dds_described.proofs.KeyParts.{holder_default, holder_member_done, holder_member_fails, holder_members_done}
use Rattle.dds_described.proofs.keys.+holder.Goals as goal

pub copy_holder-returns-in-Struct : goal.copy_holder-returns-in-Struct
copy_holder-returns-in-Struct t c =
    let types : List Xtype = types_of c.args.types.now in
    rw (sym (means types c.node.result.now (node.Struct c.in-Struct.members)
    (type_in types c.args.of) c.node.ensures.meant c.in-Struct.is))
    (rw (c.as_slice.ensures.value) at (c.copy_holder_members.ensures))

pub copy_holder-returns-in_default : goal.copy_holder-returns-in_default
copy_holder-returns-in_default t c =
    let types : List Xtype = types_of c.args.types.now in
    rw (holder_default types c.node.result.now (type_in types c.args.of) c.node.ensures.meant
    c.in_default.not-Struct) c.copy.ensures

pub copy_holder_members-returns-in-Err : goal.copy_holder_members-returns-in-Err
copy_holder_members-returns-in-Err t c =
    holder_member_fails c.args.version c.has_key-keyed.result
    (has_key (fields_in (types_of c.args.types.now) c.args.members.now))
    (types_of c.args.types.now) c.args.members.now c.members.member-index c.member-item.result
    c.is_left_out-is_left.result c.members.copier c.args.copier.now c.in-Err.error
    (c.has_key-keyed.ensures (types_of c.args.types.now)) c.members-test.true c.member-item.is
    c.is_left_out-is_left.ensures c.in-Err.ensures c.members.invariant

pub copy_holder_members-members-preserved : goal.copy_holder_members-members-preserved
copy_holder_members-members-preserved t c =
    holder_member_done c.args.version c.has_key-keyed.result (types_of c.args.types.now)
    c.args.members.now c.members.member-index c.member-item.result c.is_left_out-is_left.result
    c.members.copier c.copy_holder_member.new.copier c.args.copier.now c.members-test.true
    c.member-item.is c.is_left_out-is_left.ensures c.in-Ok.ensures c.members.invariant

pub copy_holder_members-returns : goal.copy_holder_members-returns
copy_holder_members-returns t c =
    holder_members_done c.args.version c.has_key-keyed.result
    (has_key (fields_in (types_of c.args.types.now) c.args.members.now))
    (types_of c.args.types.now) c.args.members.now c.members.member-index c.members.copier
    c.args.copier.now (c.has_key-keyed.ensures (types_of c.args.types.now)) c.members-test.false
    c.members.invariant
