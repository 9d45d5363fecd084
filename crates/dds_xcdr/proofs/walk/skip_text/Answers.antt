use Rattle.std.proofs.Common.{refl}
use Rattle.dds_xcdr.proofs.Texts.{text_fails, text_passes, text_too_long}
use Rattle.dds_xcdr.proofs.walk.skip_text.Goals as goal

pub returns-then-is_within : goal.returns-then-is_within
returns-then-is_within c = text_passes c.args.reader.now c.read_string.new.self c.in-Ok.text.now
    c.args.bound c.in-Ok.ensures.reads (c.if-is_within.ensures.0 refl)

pub returns-else-is_within : goal.returns-else-is_within
returns-else-is_within c = text_too_long c.args.reader.now c.read_string.new.self c.in-Ok.text.now
    c.args.bound c.in-Ok.ensures.reads (λ w. cc (c.if-is_within.ensures.1 w))

pub returns-in-Err : goal.returns-in-Err
returns-in-Err c = text_fails c.args.reader.now c.read_string.new.self c.args.bound c.in-Err.fault
    c.in-Err.ensures.reads
