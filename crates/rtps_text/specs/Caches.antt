-- What the caches of a run's readers keep, and the outcome of a run that prints their entries.
use Rattle.std.specs.Prelude.{◌≡◌, ℕ, ◌<◌, ◌⊎◌, List, [], length, map, slice_index_or, Option}
use Rattle.std.specs.declared.alloc.Global.{Global}
use Rattle.rtps_records.specs.Runs.{Stops, WroteFront, WroteReadFront}
use Rattle.rtps_records.specs.declared.fault.RunFault.{RunFault}
use Rattle.rtps_records.specs.declared.fault.RunFault.TheVariants.{NoMemory}
use Rattle.dds_topic.specs.Decoding.{Decoding}
use Rattle.dds_cache.specs.Calls.{Done, accepted_after}
use Rattle.dds_cache.specs.Standing as shelf
use Rattle.dds_cache.specs.Standing.{CacheView}
use Rattle.dds_cache.specs.declared.history.History.{History}
use Rattle.rtps_reader.specs.Notice.{notice_view}
use Rattle.rtps_reader.specs.declared.notice.Notice.{Notice}
use Rattle.rtps_reader.specs.declared.notice.Output.{Output}
use Rattle.rtps_run.specs.Seen.{notices_by}
use Rattle.rtps_run.specs.Standing.{EngineView}
use Rattle.rtps_text.specs.Inputs.{StandsAt, run_by}
use Rattle.rtps_run.specs.World.{ReportView}
use Rattle.rtps_records.specs.RecordFile.{Record}

-- a cache with this history with which nothing was done yet
pub record IsEmpty {V : Type 0} (history : History) (cache : CacheView V) : Type 0 where
  pub keep : cache.keep ≡ history
  pub stands : shelf.StandsAt [] cache

-- a cache accepted notices with these meanings, in this order
pub record HasHeard {V M : Type 0} (f : V → M) (history : History) (told : List (Notice M))
    (cache : CacheView V) : Type 0 where
  pub keep : cache.keep ≡ history
  pub heard : List (Notice V)
  pub means : map (notice_view f) heard ≡ told
  pub stands : shelf.StandsAt (accepted_after [] heard) cache

-- the cache of each rank accepted the notices of the reader of that rank
abbrev pub AllHeard : {V M : Type 0} → (V → M) → History → List (ReportView M) → List (CacheView V)
    → Type 0
AllHeard {V} f keep put caches =
    (rank : ℕ) (other : CacheView V) → rank < length caches
    → HasHeard f keep (notices_by rank put) (slice_index_or caches rank other)

-- the state of an engine is that after these records, and there is a cache for each reader, which
-- accepted the reader's notices
pub record AreKept {C V M : Type 0} (f : V → M) (decoding : C → Decoding M) (keep : History)
    (records : List Record) (engine : EngineView C) (caches : List (CacheView V)) : Type 0 where
  pub stands : StandsAt decoding records engine
  pub count : length caches ≡ length engine.config.readers.items
  pub heard : AllHeard f keep (run_by decoding engine records).put caches

-- a cache accepts these notices, whatever was done with it before
pub record Accepts {V : Type 0} (notices : List (Notice V)) (old new : CacheView V) : Type 0 where
  pub keep : new.keep ≡ old.keep
  pub stands : (past : List (Done V)) → shelf.StandsAt past old
      → shelf.StandsAt (accepted_after past notices) new

-- each cache accepts the notices in the output of the reader of its rank
pub record AllAccept {V : Type 0} (outputs : List (Output V Global)) (old new : List (CacheView V))
    : Type 0 where
  pub count : length new ≡ length old
  pub each : (rank : ℕ) (output : Output V Global) (other : CacheView V) → rank < length old
      → Accepts (slice_index_or outputs rank output).notices.items (slice_index_or old rank other)
      (slice_index_or new rank other)

-- The outcome of a run that stops at a fault, if text is written while the last lines are made.
-- Memory may run out then, after a read fault too, and is reported instead of it.
unfoldable pub StopsLate : (List Record → List ℕ) → RunFault → Option (List ℕ)
    → Option (List ℕ) → Option (List ℕ) → Option (List ℕ) → Type 0
StopsLate text NoMemory before after old new =
    WroteFront text before old new ⊎ WroteReadFront text before after old new
StopsLate text fault before after old new = Stops text fault before after old new
