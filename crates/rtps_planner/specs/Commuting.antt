-- The results of a run, reader by reader, and the order of what it puts out.
use Rattle.std.specs.Prelude.{◌≡◌, ℕ, ◌<◌, ◌==◌, List, [], ◌∷◌, ◌++◌, map, Bool, true, false, Option, Some, None, if◌then◌else◌}
use Rattle.rtps_types.specs.declared.place.Place.{Place}
use Rattle.rtps_discovery.specs.Changes.{ChangeAt, changes}
use Rattle.rtps_discovery.specs.Known.{Known, moved, passed}
use Rattle.dds_topic.specs.Decoding.{Decoding}
use Rattle.rtps_proxy.specs.Replies.{ReplyView}
use Rattle.rtps_reader.specs.Reader.{Reader}
use Rattle.rtps_run.specs.Merged.{PartsByRank, merged}
use Rattle.rtps_run.specs.Occurrence.{Occurrence, Passes, Came, Joins, Parts, head_of, place_of}
use Rattle.rtps_run.specs.Run.{world_run}
use Rattle.rtps_run.specs.Seen.{notices_by, reader_count}
use Rattle.rtps_run.specs.World.{ReportView, NoticeOf, AnswerOf, World, known_then}
use Rattle.rtps_planner.specs.Job.{discovery_answers, job_of, known_after_all, job_run, job_sent, job_told}

-- ---- each reader by itself

-- an answer is that of this rank, or of discovery where there is none
abbrev pub is_of : Option ℕ → Option ℕ → Bool
is_of None None = true
is_of (Some a) (Some b) = a == b
is_of None (Some b) = false
is_of (Some a) None = false

-- the answers of one rank, or of discovery, with their places, in order
abbrev pub answers_by : {M : Type 0} → Option ℕ → List (ReportView M) → List (Place × ReplyView)
answers_by by [] = []
answers_by by (NoticeOf rank notice ∷ put) = answers_by by put
answers_by by (AnswerOf s ∷ put) =
    if is_of s.rank by
    then (s.place, record { to = s.to; octets = s.octets }) ∷ answers_by by put
    else answers_by by put

-- the reader of a rank, and what it puts out, depend on its own job alone
pub record IsPart {M : Type 0} (decoding : Decoding M) (w : World M) (os : List Occurrence)
    (rank : ℕ) : Type 0 where
  pub reader : (world_run decoding w os).readers rank
      ≡ job_run (w.readers rank) (job_of rank w.known os)
  pub told : rank < reader_count w → notices_by rank (world_run decoding w os).put
      ≡ notices_by rank w.put ++ job_told decoding (w.readers rank) (job_of rank w.known os)
  pub sent : rank < reader_count w → answers_by (Some rank) (world_run decoding w os).put
      ≡ answers_by (Some rank) w.put ++ job_sent (w.readers rank) (job_of rank w.known os)

-- what is known, and what discovery answers, depend on no reader
pub record IsDiscovered {M : Type 0} (decoding : Decoding M) (w : World M) (os : List Occurrence)
    : Type 0 where
  pub known : (world_run decoding w os).known ≡ known_after_all w.known os
  pub answers : answers_by None (world_run decoding w os).put
      ≡ answers_by None w.put ++ discovery_answers w.known os

-- ---- all readers together

-- discovery's answers over a list of occurrences, and the notices and answers of each reader's job
abbrev pub parts_of : {M : Type 0} → Decoding M → Known → (ℕ → Reader) → List Occurrence
    → PartsByRank M
parts_of decoding k readers os = record {
  answers = discovery_answers k os;
  told = λ rank. job_told decoding (readers rank) (job_of rank k os);
  sent = λ rank. job_sent (readers rank) (job_of rank k os);
}

-- a run puts out these parts, merged by the occurrences' places
abbrev pub IsByPlace : {M : Type 0} → Decoding M → World M → List Occurrence → Type 0
IsByPlace decoding w os =
    (world_run decoding w os).put
    ≡ w.put ++ merged (parts_of decoding w.known w.readers os) (reader_count w)
    (map place_of os)

-- ---- places at which nothing is put out

-- the place before the events of a datagram, if matches end there
abbrev pub head_spoken : ℕ → List ChangeAt → List Place
head_spoken index [] = []
head_spoken index (c ∷ cs) = head_of index ∷ []

-- the place of an occurrence; none for a moment at which no match ends
abbrev pub spoken_at : Known → Occurrence → List Place
spoken_at k (Passes index moment) = head_spoken index (changes (moved moment k) (passed moment k))
spoken_at k (Came e) = e.place ∷ []
spoken_at k (Joins index r) = head_of index ∷ []
spoken_at k (Parts index rank) = head_of index ∷ []

-- the places of occurrences, without those of the moments at which no match ends
abbrev pub spoken : Known → List Occurrence → List Place
spoken k [] = []
spoken k (o ∷ os) = spoken_at k o ++ spoken (known_then k o) os

-- a run puts out its parts, merged by these places
abbrev pub IsBySpoken : {M : Type 0} → Decoding M → World M → List Occurrence → Type 0
IsBySpoken decoding w os =
    (world_run decoding w os).put
    ≡ w.put ++ merged (parts_of decoding w.known w.readers os) (reader_count w)
    (spoken w.known os)
