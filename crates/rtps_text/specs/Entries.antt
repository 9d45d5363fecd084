-- The lines of the entries of the readers' caches.
use Rattle.std.specs.Prelude.{ℕ, zero, suc, List, [], ◌++◌, length, Bool, false, if◌then◌else◌}
use Rattle.std.specs.List.{flat_map}
use Rattle.dds_topic.specs.Decoding.{Decoding}
use Rattle.dds_cache.specs.Answered.{answered}
use Rattle.std.specs.Coded.{×_prop, Unit-prop, le_prop}
use Rattle.dds_cache.specs.Cache.{IsHistory, cached}
use Rattle.dds_cache.specs.Calls.{Done, accepted_after}
use Rattle.dds_cache.specs.declared.condition.Condition.{Condition}
use Rattle.dds_cache.specs.declared.entry.Sample.{Sample}
use Rattle.dds_cache.specs.declared.history.History.{History}
use Rattle.dds_cache.specs.declared.history.History.TheVariants.{KeepLast, KeepAll}
use Rattle.rtps_discovery.specs.declared.config.Config.{Config}
use Rattle.rtps_reader.specs.declared.notice.Notice.{Notice}
use Rattle.rtps_text.specs.Inputs.{run}
use Rattle.rtps_run.specs.Seen.{notices_by, reader_count}
use Rattle.rtps_run.specs.Standing.{EngineView}
use Rattle.rtps_run.specs.World.{ReportView}
use Rattle.rtps_text.specs.Replayed.{summary_text}
use Rattle.rtps_lines.specs.Entry.{entry_line}
use Rattle.rtps_records.specs.RecordFile.{Record}

-- the condition that every entry meets
abbrev pub any_entry : Condition
any_entry = record { not_read = false; new = false; alive = false }

-- all entries of a cache, taken in one call (DDS 1.4, 2.2.2.5.3.9)
abbrev pub all_taken : {M : Type 0} → History → List (Done M) → List (Sample M)
all_taken keep past = answered keep past (length (cached keep past).entries) any_entry

-- the lines of the entries of the reader of a rank, which reported these notices
abbrev pub cache_lines : {M : Type 0} → (M → List ℕ) → History → ℕ → List (Notice M) → List ℕ
cache_lines text keep rank told =
    flat_map (entry_line text rank) (all_taken keep (accepted_after [] told))

-- the lines of the readers with a rank below a count, by rank
abbrev pub entry_lines : {M : Type 0} → (M → List ℕ) → History → List (ReportView M) → ℕ → List ℕ
entry_lines text keep put zero = []
entry_lines text keep put (suc rank) =
    entry_lines text keep put rank ++ cache_lines text keep rank (notices_by rank put)

-- the text for these records: the lines of the entries that are taken from the caches of the run's
-- readers, and then the summary if it is asked for
abbrev pub samples_text : {M : Type 0} → (M → List ℕ) → Decoding M → Config → Bool → History
    → List Record → List ℕ
samples_text text decoding config summary keep records =
    entry_lines text keep (run decoding config records).put
    (reader_count (run decoding config records))
    ++ (if summary then summary_text (run decoding config records) else [])

-- the same text, with the catalog and the configuration of an engine
abbrev pub samples_by : {C M : Type 0} → (C → M → List ℕ) → (C → Decoding M) → EngineView C → Bool
    → History → List Record → List ℕ
samples_by text decoding engine summary keep records =
    samples_text (text engine.catalog) (decoding engine.catalog) engine.config summary keep records

-- any two proofs that a cache may have this history are equal
pub IsHistory-prop : (history : History) → IsProp (IsHistory history)
IsHistory-prop (KeepLast n) = ×_prop le_prop le_prop
IsHistory-prop KeepAll = Unit-prop
