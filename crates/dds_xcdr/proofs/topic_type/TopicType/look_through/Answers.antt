use Rattle.std.proofs.Common.{◌≡◌, Ok, Err, sym, ap, subst, ◌∙◌}
use Rattle.rtps_cdr.specs.Reading.{Cursor}
use Rattle.dds_xcdr.specs.declared.form.Form.{Form}
use Rattle.dds_xcdr.specs.Spans.{IsValue, Passes}
use Rattle.dds_xcdr.specs.Topic.{BeginsWith}
use Rattle.dds_xcdr.specs.TopicType.{topic_type}
use Rattle.dds_xcdr.proofs.Begins.{begins_not, same_end}
use Rattle.dds_xcdr.proofs.topic_type.TopicType.look_through.Goals as goal

pub returns-in-Ok-clause-only : goal.returns-in-Ok-clause-only
returns-in-Ok-clause-only c = λ f n is b.
    let same : c.in-Some.form ≡ f = cc (c.in-Some.is, c.of_kind.ensures, is) in
    let P : Form → Type 0 = λ x. BeginsWith (topic_type c.args.self.now) x c.args.body.now n in
    let C : Cursor → Type 0 = λ x. Passes
    (IsValue c.in-Some.form.version (topic_type c.args.self.now) x.endian) x c.skip.new.reader
    (Ok c.in-Ok.field-0) in
    ap Ok (c.position.ensures
    ∙ same_end (topic_type c.args.self.now) c.in-Some.form c.args.body.now c.skip.new.reader
    c.in-Ok.field-0 (subst C c.new-reader.ensures c.in-Ok.ensures) n (subst P (sym same) b))

pub returns-in-Err-clause-only : goal.returns-in-Err-clause-only
returns-in-Err-clause-only c = λ f n is b.
    let same : c.in-Some.form ≡ f = cc (c.in-Some.is, c.of_kind.ensures, is) in
    let P : Form → Type 0 = λ x. BeginsWith (topic_type c.args.self.now) x c.args.body.now n in
    let C : Cursor → Type 0 = λ x. Passes
    (IsValue c.in-Some.form.version (topic_type c.args.self.now) x.endian) x c.skip.new.reader
    (Err c.in-Err.fault) in
    absurd (begins_not (topic_type c.args.self.now) c.in-Some.form c.args.body.now c.skip.new.reader
    c.in-Err.fault (subst C c.new-reader.ensures c.in-Err.ensures) n (subst P (sym same) b))
