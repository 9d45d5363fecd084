use Rattle.std.proofs.Common.{rules, take}
use Rattle.rtps_records.proofs.RecordRead.{other_short}
use Rattle.rtps_records.proofs.records.Records.open.Goals as goal

pub returns-then-filled-lt4-clause-fault : goal.returns-then-filled-lt4-clause-fault
returns-then-filled-lt4-clause-fault g c =
    other_short _ _ (take c.fill-filled.result.count c.fill-filled.new.buffer) c.fill-filled.ensures.taken (search rules) (search rules)
