use Rattle.std.proofs.Common.{◌∙◌, sym}
use Rattle.dds_xcdr.specs.TopicType.{topic_type}
use Rattle.dds_described.proofs.TopicKeys.{payload_key_fails, payload_key_is}
use Rattle.dds_described.proofs.described.Described.payload_key_octets.Goals as goal

pub returns-in-Ok : goal.returns-in-Ok
returns-in-Ok c =
    rw (c.finish.ensures)
    (payload_key_is (topic_type c.args.self.now.topic) c.in-Some.form c.args.kind c.args.body.now
    c.args.order c.copy_payload_key.new.copier (sym c.of_kind.ensures ∙ c.in-Some.is)
    (rw (c.types.ensures, c.id.ensures.is, c.new-copier.ensures) at (c.in-Ok.ensures)))

pub returns-in-Err : goal.returns-in-Err
returns-in-Err c =
    payload_key_fails (topic_type c.args.self.now.topic) c.in-Some.form c.args.kind
    c.args.body.now c.args.order c.in-Err.error (sym c.of_kind.ensures ∙ c.in-Some.is)
    (rw (c.types.ensures, c.id.ensures.is, c.new-copier.ensures) at (c.in-Err.ensures))
