-- Batches that are read ahead.
use Rattle.std.specs.Prelude.{◌≡◌, ℕ, ◌+◌, ◌≤◌, List, Bool, true, false, Option, length}
use Rattle.rtps_records.specs.Batches.{EndsBatch, ReadsBatch, ticks_in}
use Rattle.rtps_records.specs.RecordFile.{Record}
use Rattle.rtps_records.specs.declared.batch_end.BatchEnd.{BatchEnd}
use Rattle.rtps_records.specs.declared.batch_end.BatchEnd.TheVariants.{End, Fault, More, Tick}
use Rattle.rtps_records.specs.declared.format.Format.{Format}

-- whether there is more to process after a batch with this end: more of the file, or a tick
abbrev pub goes_on : BatchEnd → Bool
goes_on More = true
goes_on (Tick moment) = true
goes_on End = false
goes_on (Fault fault) = false

-- a batch ended in this way after n records, at this rest of the file; with a tick that ended it
-- this number of records was read
pub record Ended (format : Format) (end : BatchEnd) (read : ℕ) (now : Option (List ℕ)) (n : ℕ)
    (here : Option (List ℕ)) : Type 0 where
  pub batch : List Record
  pub ends : EndsBatch format end n batch here now
  pub count : read ≡ n + ticks_in end

-- After n records a batch with these records was read, which makes m records; it has no more
-- records than a run takes at once. The tick that ended the batch before is a batch, after which
-- nothing was read yet.
pub record ReadsAhead (format : Format) (last : BatchEnd) (before after : Option (List ℕ))
    (n m : ℕ) (batch : List Record) (end : BatchEnd) : Type 0 where
  pub reads : ReadsBatch format before after n m batch end
  pub few : length batch ≤ 4096
  pub next : ticks_in last ≡ 1 → end ≡ More
