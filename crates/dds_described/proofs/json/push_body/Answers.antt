use Rattle.std.proofs.Common.{◌≡◌, refl, subst}
use Rattle.rtps_cdr.specs.Reading.{Cursor, start}
use Rattle.dds_topic.specs.Answer.{Fails}
use Rattle.dds_topic.specs.declared.unread.CatalogError.{CatalogError}
use Rattle.dds_xcdr.specs.TopicType.{topic_type}
use Rattle.dds_xcdr.specs.Types.{type_in, types_of}
use Rattle.dds_xcdr.specs.Xtype.{Xtype}
use Rattle.dds_described.specs.Copying.{passed}
use Rattle.dds_described.specs.Reading.{value_found}
use Rattle.dds_described.proofs.JsonSteps.{body_null, body_prints, on_ok}
use Rattle.dds_described.proofs.json.push_body.Goals as goal

pub returns-in-Ok-clause-ok : goal.returns-in-Ok-clause-ok
returns-in-Ok-clause-ok g c =
    let begin : Cursor = start c.args.form.endian c.args.octets.now in
    let s : Xtype = type_in (types_of c.types.result.now) c.id.result in
    let t : Xtype = type_in (types_of c.types-in-Ok.result.now) c.id-in-Ok.result in
    let u : Xtype = topic_type c.args.topic.now in
    let first : s ≡ u = rw (c.types.ensures, c.id.ensures.is) refl in
    let second : t ≡ u = rw (c.types-in-Ok.ensures, c.id-in-Ok.ensures.is) refl in
    on_ok c.push_value.result
    (λ p. body_prints c.args.form.version s t u c.new-ahead.result c.new-source.result begin
    c.pass.new.self c.push_value.new.source c.args.out.now.items c.push_value.new.out.items first
    second c.new-ahead.ensures c.new-source.ensures c.in-Ok.ensures p) c.push_value.ensures.ok

pub returns-in-Unread-clause-ok : goal.returns-in-Unread-clause-ok
returns-in-Unread-clause-ok g c =
    let begin : Cursor = start c.args.form.endian c.args.octets.now in
    let s : Xtype = type_in (types_of c.types.result.now) c.id.result in
    let u : Xtype = topic_type c.args.topic.now in
    let first : s ≡ u = rw (c.types.ensures, c.id.ensures.is) refl in
    on_ok c.push_word.result
    (λ put. body_null c.args.form.version s u c.new-ahead.result begin c.args.out.now.items
    c.push_word.new.out.items c.in-Unread.field-0 first c.new-ahead.ensures
    (subst (λ (e : CatalogError). Fails e (passed c.new-ahead.result
    (value_found c.args.form.version s c.new-ahead.result))) c.in-Unread.is c.in-Err.ensures) put)
    c.push_word.ensures.ok
