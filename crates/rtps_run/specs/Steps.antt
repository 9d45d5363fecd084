-- An event as steps of single readers (DDSI-RTPS 8.3.4, 8.4.10).
use Rattle.std.specs.Prelude.{ℕ, List, [], ◌∷◌, ◌++◌, map, filter, nat_lt, ◌==◌, if◌then◌else◌}
use Rattle.std.specs.List.Sorted.{IsSortedByKey, IsStableByKey}
use Rattle.std.specs.Ordering.{nat_cmp}
use Rattle.rtps_types.specs.declared.place.Place.{Place}
use Rattle.rtps_receiver.specs.Events.{EventView}
use Rattle.rtps_discovery.specs.Changes.{ChangeAt}
use Rattle.rtps_discovery.specs.Known.{Known, reader_at}
use Rattle.rtps_discovery.specs.declared.changes.MatchChange.{MatchChange}
use Rattle.dds_topic.specs.Decoding.{Decoding}
use Rattle.rtps_reader.specs.Reader.{reader_after}
use Rattle.rtps_reader.specs.Step.{Changes, StepView, asks_of}
use Rattle.rtps_run.specs.Addressed.{is_named}
use Rattle.rtps_run.specs.Seen.{reader_count}
use Rattle.rtps_run.specs.World.{ReportView, World, puts_at}

-- a step of the reader of a rank
pub record ReaderStep : Type 0 where
  pub rank : ℕ
  pub what : StepView

-- a step, with the rank of its reader
abbrev pub step_by : ℕ → StepView → ReaderStep
step_by rank what = record { rank = rank; what = what }

-- the reports of the reader at the step; none if no reader has the rank
abbrev pub step_puts : {M : Type 0} → Decoding M → Place → World M → ReaderStep
    → List (ReportView M)
step_puts decoding place w s =
    if nat_lt s.rank (reader_count w)
    then puts_at decoding place s.rank (w.readers s.rank) s.what
    else []

-- the world after the step of one reader
abbrev pub world_stepped : {M : Type 0} → Decoding M → Place → World M → ReaderStep → World M
world_stepped decoding place w s = record {
  known = w.known;
  readers = λ rank. if s.rank == rank then reader_after (w.readers rank) s.what else w.readers rank;
  put = w.put ++ step_puts decoding place w s;
}

-- the world after these steps, one after the other
abbrev pub steps_run : {M : Type 0} → Decoding M → Place → World M → List ReaderStep → World M
steps_run decoding place w [] = w
steps_run decoding place w (s ∷ ss) = steps_run decoding place (world_stepped decoding place w s) ss

-- the steps for a user's event: one for each reader of these ranks that the event names
abbrev pub event_steps : Known → EventView → List ℕ → List ReaderStep
event_steps k e ranks =
    map (λ rank. step_by rank (asks_of e))
    (filter (λ rank. is_named e.reader (reader_at k.readers rank)) ranks)

-- the step for a change of a match, which is one of its reader
abbrev pub change_step : ChangeAt → ReaderStep
change_step c = step_by c.rank (Changes c.what)

-- the new list is the old one sorted by rank; changes of one rank keep their order
pub record AreByRank {A : Type 0} (old new : List (MatchChange A)) : Type 0 where
  pub sorted : IsSortedByKey (λ c. c.rank) nat_cmp new
  pub stable : IsStableByKey (λ c. c.rank) nat_cmp old new
