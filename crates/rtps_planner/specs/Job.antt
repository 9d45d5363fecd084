-- The part of one reader in a run (DDSI-RTPS 8.4.10, 8.5): what discovery asks of it, and what it
-- does then, independently of the other readers.
use Rattle.std.specs.Prelude.{ℕ, List, [], ◌∷◌, ◌++◌, map, if◌then◌else◌}
use Rattle.rtps_types.specs.declared.place.Place.{Place}
use Rattle.rtps_receiver.specs.Events.{EventView}
use Rattle.rtps_discovery.specs.Addressed.{is_discovery}
use Rattle.rtps_discovery.specs.Known.{Known}
use Rattle.rtps_discovery.specs.Records.{answered}
use Rattle.dds_topic.specs.Decoding.{Decoding}
use Rattle.rtps_proxy.specs.Replies.{ReplyView}
use Rattle.rtps_reader.specs.declared.notice.Notice.{Notice}
use Rattle.rtps_reader.specs.Reader.{Reader, placed, reader_after, reader_run, sends, tells}
use Rattle.rtps_reader.specs.Step.{StepView}
use Rattle.rtps_run.specs.Occurrence.{Occurrence, Passes, Came, Joins, Parts, place_of}
use Rattle.rtps_run.specs.World.{doings, known_then}

-- what is asked of a reader, step by step, each with the place of the occurrence that causes it
abbrev pub Job : Type 0
Job = List (Place × StepView)

-- what discovery asks of the reader of a rank over a list of occurrences
abbrev pub job_of : ℕ → Known → List Occurrence → Job
job_of rank k [] = []
job_of rank k (o ∷ os) =
    map (λ what. (place_of o, what)) (doings k rank o) ++ job_of rank (known_then k o) os

-- the reader after a job
abbrev pub job_run : Reader → Job → Reader
job_run r job = reader_run r (map (λ s. s.1) job)

-- the notices that a reader reports in a job
abbrev pub job_told : {M : Type 0} → Decoding M → Reader → Job → List (Notice M)
job_told decoding r [] = []
job_told decoding r (s ∷ ss) = tells decoding r s.0 s.1 ++ job_told decoding (reader_after r s.1) ss

-- the answers that a reader sends in a job, each with the place of the event that it answers
abbrev pub job_sent : Reader → Job → List (Place × ReplyView)
job_sent r [] = []
job_sent r (s ∷ ss) = sends r s.0 s.1 ++ job_sent (reader_after r s.1) ss

-- what is known after a list of occurrences
abbrev pub known_after_all : Known → List Occurrence → Known
known_after_all k [] = k
known_after_all k (o ∷ os) = known_after_all (known_then k o) os

-- discovery's answer to an event, that at an occurrence, and those over a list of occurrences
abbrev pub event_answer : Known → EventView → List (Place × ReplyView)
event_answer k e = if is_discovery e.writer then placed e.place (answered k e) else []

abbrev pub discovery_answer : Known → Occurrence → List (Place × ReplyView)
discovery_answer k (Passes index moment) = []
discovery_answer k (Came e) = event_answer k e
discovery_answer k (Joins index r) = []
discovery_answer k (Parts index rank) = []

abbrev pub discovery_answers : Known → List Occurrence → List (Place × ReplyView)
discovery_answers k [] = []
discovery_answers k (o ∷ os) = discovery_answer k o ++ discovery_answers (known_then k o) os
