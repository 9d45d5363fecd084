use Rattle.std.proofs.Common.{◌≡◌, Ok, Err, subst}
use Rattle.rtps_cdr.specs.Reading.{Cursor}
use Rattle.dds_topic.specs.declared.unread.Unread.TheVariants as unread
use Rattle.dds_xcdr.specs.Types.{type_in, types_of}
use Rattle.dds_xcdr.specs.Xtype.{Xtype}
use Rattle.dds_described.specs.Copying.{passed}
use Rattle.dds_described.specs.Reading.{value_found}
use Rattle.dds_described.proofs.Sources.{not_passed, passed_there, still_passed}
use Rattle.dds_described.proofs.source.Source.pass.Goals as goal

pub invariant_of-self : goal.invariant_of-self
invariant_of-self c =
    still_passed c.self.inside.endian c.args.version
    (type_in (types_of c.args.types.now) c.args.of) c.self.inside.reader c.skip.new.reader tt
    c.self.invariant c.in-Ok.ensures

pub returns-in-Ok : goal.returns-in-Ok
returns-in-Ok c =
    let t : Xtype = type_in (types_of c.args.types.now) c.args.of in
    subst (λ (d : Cursor). passed d (value_found c.args.version t d) ≡ Ok c.skip.new.reader)
    c.self.view_is
    (passed_there c.args.version t c.self.inside.reader c.skip.new.reader tt
    c.self.invariant.within c.in-Ok.ensures)

pub returns-in-Err : goal.returns-in-Err
returns-in-Err c =
    let t : Xtype = type_in (types_of c.args.types.now) c.args.of in
    subst (λ (d : Cursor). passed d (value_found c.args.version t d) ≡ Err unread.Malformed)
    c.self.view_is
    (not_passed c.args.version t c.self.inside.reader c.skip.new.reader c.in-Err.field-0
    c.self.invariant.within c.in-Err.ensures)
