use Rattle.std.proofs.Common.{◌≡◌, ◌++◌}
use Rattle.dds_announced.specs.Speaker.{announcements}
use Rattle.dds_announced.proofs.speaker.Speaker.write_all.Given as goal

-- what was written so far, with what the rest says, is all
abbrev pub invariant-loop-sending : goal.invariant-loop-sending
invariant-loop-sending l =
    l.more.items ++ announcements l.self l.sending-iterator.rest.items
    ≡ announcements l.self l.initial.sending-iterator.rest.items
