use Rattle.dds_xcdr.specs.TopicType.{topic_type}
use Rattle.dds_described.proofs.TopicKeys.{value_key_fails, value_key_is}
use Rattle.dds_described.proofs.described.Described.found_key.Goals as goal

pub returns-in-Ok : goal.returns-in-Ok
returns-in-Ok c =
    rw (c.finish.ensures)
    (value_key_is (topic_type c.args.self.now.topic)
    (record { form = c.args.form; octets = c.args.octets.now }) c.args.order
    c.copy_topic_key.new.copier
    (rw (c.types.ensures, c.id.ensures.is, c.new-copier.ensures) at (c.in-Ok.ensures)))

pub returns-in-Err : goal.returns-in-Err
returns-in-Err c =
    value_key_fails (topic_type c.args.self.now.topic)
    (record { form = c.args.form; octets = c.args.octets.now }) c.args.order c.in-Err.error
    (rw (c.types.ensures, c.id.ensures.is, c.new-copier.ensures) at (c.in-Err.ensures))
