-- Adding one record to a batch.
use Rattle.std.specs.Prelude.{◌≡◌, ℕ, ◌<◌, List, [], ◌∷◌, ◌++◌, Option}
use Rattle.std.specs.Io.KnownBytes.{Consumes, IsAtEnd}
use Rattle.rtps_records.specs.RecordFile.{FaultHere, IsRecord, Record, Tick, frame}
use Rattle.rtps_records.specs.declared.batch_end.BatchEnd.{BatchEnd}
use Rattle.rtps_records.specs.declared.batch_end.BatchEnd.TheVariants.{End, Fault, More, Tick as ATick}
use Rattle.rtps_records.specs.declared.format.Format.{Format}

-- After n records the next one was read: a datagram, which was appended to the batch, or a tick,
-- and the batch is unchanged. Or the file ends, or has its first fault, and the batch is unchanged.
unfoldable pub ReadsOne : Format → BatchEnd → ℕ → Option (List ℕ) → Option (List ℕ) → List Record
    → List Record → Type 0
ReadsOne format More n before after old new =
    (n < 4294967295) × ((one : Record) × IsRecord format one
    × Consumes before after (frame format one) × (new ≡ old ++ one ∷ []))
ReadsOne format (ATick moment) n before after old new =
    (n < 4294967295) × IsRecord format (Tick moment)
    × Consumes before after (frame format (Tick moment)) × (new ≡ old)
ReadsOne format End n before after old new = IsAtEnd before × (new ≡ old)
ReadsOne format (Fault fault) n before after old new =
    FaultHere format fault n before after × (new ≡ old)
