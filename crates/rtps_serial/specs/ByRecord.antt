-- An event processed record by record (DDSI-RTPS 8.5.3, 8.5.4): the readers process the changes of
-- a record before the next record is applied.
use Rattle.std.specs.Prelude.{◌≡◌, ℕ, List, [], ◌∷◌, ◌++◌, None, map, if◌then◌else◌}
use Rattle.rtps_types.specs.declared.place.Place.{Place}
use Rattle.rtps_receiver.specs.Events.{EventView}
use Rattle.rtps_discovery.specs.Addressed.{is_discovery}
use Rattle.rtps_discovery.specs.Announcement.{Announcement}
use Rattle.rtps_discovery.specs.declared.config.Config.{Config}
use Rattle.rtps_discovery.specs.Changes.{changes}
use Rattle.rtps_discovery.specs.Known.{Known, known_after}
use Rattle.rtps_discovery.specs.Records.{announcements, answered, noted}
use Rattle.dds_topic.specs.Decoding.{Decoding}
use Rattle.rtps_reader.specs.Reader.{placed}
use Rattle.rtps_run.specs.Input.{Input, occurrences_from}
use Rattle.rtps_run.specs.Occurrence.{Occurrence, Passes, Came, Joins, Parts}
use Rattle.rtps_run.specs.Run.{first_world}
use Rattle.rtps_run.specs.Seen.{answers_in, notices_by}
use Rattle.rtps_run.specs.Steps.{change_step, steps_run}
use Rattle.rtps_run.specs.World.{World, sent_by, world_after}

-- the world with another state of discovery, and otherwise the same
abbrev pub knowing : {M : Type 0} → Known → World M → World M
knowing k w = record { known = k; readers = w.readers; put = w.put }

-- the world after discovery has answered an event of an announcer, before any record is applied
abbrev pub world_answered : {M : Type 0} → World M → EventView → World M
world_answered w e = record {
  known = noted w.known e;
  readers = w.readers;
  put = w.put ++ map (sent_by None) (placed e.place (answered w.known e));
}

-- the world after one record: it is applied, and then each of its changes is a step of one reader
abbrev pub record_taken : {M : Type 0} → Decoding M → Place → World M → Announcement → World M
record_taken decoding place w a =
    let k = known_after w.known a in
    steps_run decoding place (knowing k w) (map change_step (changes w.known k))

-- the world after these records, one by one
abbrev pub records_taken : {M : Type 0} → Decoding M → Place → World M → List Announcement
    → World M
records_taken decoding place w [] = w
records_taken decoding place w (a ∷ more) =
    records_taken decoding place (record_taken decoding place w a) more

-- the world after an event, record by record; an event of a user's writer has no records
abbrev pub event_by_record : {M : Type 0} → Decoding M → World M → EventView → World M
event_by_record decoding w e =
    if is_discovery e.writer
    then records_taken decoding e.place (world_answered w e) (announcements w.known e)
    else world_after decoding w (Came e)

-- the world after an occurrence, record by record; only events have records
abbrev pub world_by_record : {M : Type 0} → Decoding M → World M → Occurrence → World M
world_by_record decoding w (Passes index moment) = world_after decoding w (Passes index moment)
world_by_record decoding w (Came e) = event_by_record decoding w e
world_by_record decoding w (Joins index r) = world_after decoding w (Joins index r)
world_by_record decoding w (Parts index rank) = world_after decoding w (Parts index rank)

-- the world after these occurrences, each record by record
abbrev pub records_run : {M : Type 0} → Decoding M → World M → List Occurrence → World M
records_run decoding w [] = w
records_run decoding w (o ∷ os) = records_run decoding (world_by_record decoding w o) os

-- the world after a list of inputs, record by record
abbrev pub run_by_record : {M : Type 0} → Decoding M → Config → List Input → World M
run_by_record decoding config inputs =
    records_run decoding (first_world config) (occurrences_from config.own 0 inputs)

-- Two worlds have the same state of discovery, and the same reader at each rank, given or not,
-- which reported the same notices in the same order; and the same answers were sent in the same
-- order.
pub record AreAlike {M : Type 0} (one other : World M) : Type 0 where
  pub known : one.known ≡ other.known
  pub readers : (rank : ℕ) → one.readers rank ≡ other.readers rank
  pub told : (rank : ℕ) → notices_by rank one.put ≡ notices_by rank other.put
  pub answers : answers_in one.put ≡ answers_in other.put
