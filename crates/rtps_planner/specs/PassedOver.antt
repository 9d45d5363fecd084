-- What comes to nothing in a run (DDSI-RTPS 8.3.4, 8.5): events that are for nobody, and records of
-- announcers that are ignored.
use Rattle.std.specs.Prelude.{◌≡◌, ℕ, ◌+◌, ◌-◌, ◌^◌, List, [], ◌∷◌, ◌++◌, min, Bool, not, ◌&&◌, if◌then◌else◌}
use Rattle.std.specs.List.{list_any}
use Rattle.rtps_types.specs.declared.identity.EntityId.{EntityId}
use Rattle.rtps_types.specs.declared.identity.Guid.{Guid}
use Rattle.rtps_receiver.specs.Events.{EventView}
use Rattle.rtps_discovery.specs.declared.config.Config.{Config}
use Rattle.rtps_discovery.specs.Addressed.{is_discovery, writer_of}
use Rattle.rtps_discovery.specs.Ignored.{ignored}
use Rattle.rtps_discovery.specs.Kept.{matched_ranks}
use Rattle.rtps_discovery.specs.Known.{Known, reader_at}
use Rattle.rtps_discovery.specs.Start.{first_known}
use Rattle.rtps_run.specs.Addressed.{is_named}
use Rattle.rtps_run.specs.Input.{Input, index_after_all, occurrences_from}
use Rattle.rtps_run.specs.Occurrence.{Occurrence, Passes, Came, Joins, Parts}
use Rattle.rtps_run.specs.World.{known_then}
use Rattle.rtps_planner.specs.Job.{known_after_all}
use Rattle.rtps_planner.specs.declared.passed_over.PassedOver.{PassedOver}

-- some reader of ours is matched with the writer and named by the reader id
abbrev pub has_reader : Known → Guid → EntityId → Bool
has_reader k writer reader =
    list_any (λ rank. is_named reader (reader_at k.readers rank)) (matched_ranks k writer)

-- An event of a user's writer is for nobody if no reader of ours is matched with its writer and
-- named by it then.
abbrev pub is_for_nobody : Known → EventView → Bool
is_for_nobody k e = not (is_discovery e.writer) && not (has_reader k (writer_of e) e.reader)

-- the events for nobody at an occurrence: one or none
abbrev pub nobody_at : Known → Occurrence → ℕ
nobody_at k (Passes index moment) = 0
nobody_at k (Came e) = if is_for_nobody k e then 1 else 0
nobody_at k (Joins index r) = 0
nobody_at k (Parts index rank) = 0

-- the events for nobody among occurrences, one after the other
abbrev pub nobody_among : Known → List Occurrence → ℕ
nobody_among k [] = 0
nobody_among k (o ∷ os) = nobody_at k o + nobody_among (known_then k o) os

-- the records that are ignored at an occurrence, and among occurrences, one after the other
abbrev pub ignored_at : Known → Occurrence → ℕ
ignored_at k (Passes index moment) = 0
ignored_at k (Came e) = ignored k e
ignored_at k (Joins index r) = 0
ignored_at k (Parts index rank) = 0

abbrev pub ignored_among : Known → List Occurrence → ℕ
ignored_among k [] = 0
ignored_among k (o ∷ os) = ignored_at k o + ignored_among (known_then k o) os

-- a number as a counter has it: it stops at 2^64 - 1
abbrev pub capped : ℕ → ℕ
capped n = min n (2 ^ 64 - 1)

-- the counters of these events for nobody and ignored records
abbrev pub counts_of : ℕ → ℕ → PassedOver
counts_of nobody ignored = record { nobody = capped nobody; ignored = capped ignored }

-- the counters of what comes to nothing among occurrences
abbrev pub passed_over : Known → List Occurrence → PassedOver
passed_over k os = counts_of (nobody_among k os) (ignored_among k os)

-- the counters after a list of inputs, which the run of one thread processes one by one
abbrev pub passed_by : Config → List Input → PassedOver
passed_by config inputs = passed_over (first_known config) (occurrences_from config.own 0 inputs)

-- what two lists of occurrences count together
abbrev pub plus : PassedOver → PassedOver → PassedOver
plus a b = counts_of (a.nobody + b.nobody) (a.ignored + b.ignored)

-- however a list of inputs is cut in two, what comes to nothing in the parts is what comes to
-- nothing in the list
abbrev pub AddsUp : Type 0
AddsUp = (config : Config) (earlier more : List Input)
    → passed_by config (earlier ++ more)
    ≡ plus (passed_by config earlier)
    (passed_over (known_after_all (first_known config) (occurrences_from config.own 0 earlier))
    (occurrences_from config.own (index_after_all 0 earlier) more))

-- an input counts nothing, wherever it comes
abbrev pub CountsNothing : Input → Type 0
CountsNothing x = (config : Config) (earlier : List Input)
    → passed_by config (earlier ++ x ∷ []) ≡ passed_by config earlier
