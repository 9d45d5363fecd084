-- The world and its step (DDSI-RTPS 8.3.4, 8.4.10, 8.5): the state of discovery, every reader by
-- its rank, and all that was put out, in order.
use Rattle.std.specs.Prelude.{ℕ, Bool, true, false, zero, suc, List, [], ◌∷◌, ◌++◌, length, map, filter, Option, Some, None, ◌==◌, if◌then◌else◌}
use Rattle.rtps_types.specs.declared.locator.Locator.{Locator}
use Rattle.rtps_types.specs.declared.place.Place.{Place}
use Rattle.dds_qos.specs.declared.policies.Reliability.{Reliability}
use Rattle.dds_qos.specs.declared.policies.Reliability.TheVariants.{BestEffort, Reliable}
use Rattle.rtps_receiver.specs.Events.{EventView}
use Rattle.rtps_discovery.specs.Addressed.{is_addressed, is_discovery}
use Rattle.rtps_discovery.specs.Changes.{ChangeAt, changes}
use Rattle.rtps_discovery.specs.Joining.{joined, parted, without_fixed, without_reader}
use Rattle.rtps_discovery.specs.Known.{Known, Wish, is_matched, moved, passed, reader_at}
use Rattle.rtps_discovery.specs.Records.{answered, changes_by, known_by}
use Rattle.dds_topic.specs.Decoding.{Decoding}
use Rattle.rtps_proxy.specs.Replies.{ReplyView}
use Rattle.rtps_reader.specs.declared.notice.Notice.{Notice}
use Rattle.rtps_reader.specs.Reader.{Reader, placed, reader_after, reader_run, sends, tells}
use Rattle.rtps_reader.specs.Step.{StepView, Changes, Starts, Stops, asks_of}
use Rattle.rtps_run.specs.Occurrence.{Occurrence, Passes, Came, Joins, Parts, place_of}

-- an answer: the place of the event that it answers, the rank of the reader that sends it (none if
-- discovery does), the locators that it is sent to, and its octets
pub record AnswerView : Type 0 where
  pub place : Place
  pub rank : Option ℕ
  pub to : List Locator
  pub octets : List ℕ

-- what is put out: a notice of the reader of a rank, or an answer
pub data ReportView (M : Type 0) : Type 0 where
  NoticeOf : ℕ → Notice M → ReportView M
  AnswerOf : AnswerView → ReportView M

-- all that is known, all readers, and all that was put out since the start, in order
pub record World (M : Type 0) : Type 0 where
  pub known : Known
  -- the readers by rank, counted from 0; only the ranks that were given count
  pub readers : ℕ → Reader
  pub put : List (ReportView M)

-- the steps of the reader of a rank for these changes, in order
abbrev pub changes_for : ℕ → List ChangeAt → List StepView
changes_for rank cs = map (λ c. Changes c.what) (filter (λ c. c.rank == rank) cs)

-- the step of a reader for a user's event, if the event is addressed to it by what is known then
abbrev pub addressed_to : Known → ℕ → EventView → Option Wish → List StepView
addressed_to k rank e None = []
addressed_to k rank e (Some r) =
    if is_addressed (is_matched k rank) r.entity e then asks_of e ∷ [] else []

-- all steps of the reader of a rank for an event, in order
abbrev pub asked_by : Known → ℕ → EventView → List StepView
asked_by k rank e =
    if is_discovery e.writer
    then changes_for rank (changes_by k e)
    else addressed_to k rank e (reader_at k.readers rank)

-- a reliability is RELIABLE, which asks for missing changes (DDS 1.4, 2.2.3.14)
abbrev pub is_reliable : Reliability → Bool
is_reliable BestEffort = false
is_reliable Reliable = true

-- the reader of a rank starts, if its rank is that of the reader that comes
abbrev pub starts : Known → ℕ → Wish → List StepView
starts k rank r =
    if rank == length k.readers
    then Starts k.own r.entity (is_reliable r.policies.reliability) ∷ []
    else []

-- it stops, if its rank is that of the reader that goes
abbrev pub stops : ℕ → ℕ → List StepView
stops rank gone = if rank == gone then Stops ∷ [] else []

-- All steps of the reader of a rank for an occurrence, in order; they depend on discovery alone. A
-- reader that comes is told of its matches, and one that goes of their ends.
abbrev pub doings : Known → ℕ → Occurrence → List StepView
doings k rank (Passes index moment) = changes_for rank (changes (moved moment k) (passed moment k))
doings k rank (Came e) = asked_by k rank e
doings k rank (Joins index r) =
    starts k rank r
    ++ changes_for rank (changes (without_fixed (length k.readers) k) (joined r k))
doings k rank (Parts index gone) =
    changes_for rank (changes k (without_reader gone k)) ++ stops rank gone

-- what is known after an event, and after an occurrence
abbrev pub known_after_event : Known → EventView → Known
known_after_event k e = if is_discovery e.writer then known_by k e else k

abbrev pub known_then : Known → Occurrence → Known
known_then k (Passes index moment) = passed moment k
known_then k (Came e) = known_after_event k e
known_then k (Joins index r) = joined r k
known_then k (Parts index rank) = parted rank k

-- an answer to the event at a place, from the reader of a rank, or from discovery if there is no
-- rank
abbrev pub answer_by : Option ℕ → Place × ReplyView → AnswerView
answer_by rank s = record { place = s.0; rank = rank; to = s.1.to; octets = s.1.octets }

-- that answer as a report
abbrev pub sent_by : {M : Type 0} → Option ℕ → Place × ReplyView → ReportView M
sent_by rank s = AnswerOf (answer_by rank s)

-- the report of discovery for an event: its answer, if there is one
abbrev pub event_puts : {M : Type 0} → Known → EventView → List (ReportView M)
event_puts k e =
    if is_discovery e.writer then map (sent_by None) (placed e.place (answered k e)) else []

-- the report of discovery for an occurrence; only an event is answered
abbrev pub discovery_puts : {M : Type 0} → Known → Occurrence → List (ReportView M)
discovery_puts k (Passes index moment) = []
discovery_puts k (Came e) = event_puts k e
discovery_puts k (Joins index r) = []
discovery_puts k (Parts index rank) = []

-- the reports of the reader of a rank at a step: its notices, in order, and then its answer
abbrev pub puts_at : {M : Type 0} → Decoding M → Place → ℕ → Reader → StepView → List (ReportView M)
puts_at decoding place rank r d =
    map (NoticeOf rank) (tells decoding r place d) ++ map (sent_by (Some rank)) (sends r place d)

-- its reports at several steps, one after the other
abbrev pub puts_run : {M : Type 0} → Decoding M → Place → ℕ → Reader → List StepView
    → List (ReportView M)
puts_run decoding place rank r [] = []
puts_run decoding place rank r (d ∷ ds) =
    puts_at decoding place rank r d ++ puts_run decoding place rank (reader_after r d) ds

-- the reports of the readers of the ranks below a count for an occurrence, by rising rank
abbrev pub puts_below : {M : Type 0} → Decoding M → Known → Occurrence → (ℕ → Reader) → ℕ
    → List (ReportView M)
puts_below decoding k o readers zero = []
puts_below decoding k o readers (suc rank) =
    puts_below decoding k o readers rank
    ++ puts_run decoding (place_of o) rank (readers rank) (doings k rank o)

-- the number of ranks that were given up to an occurrence, which may be a reader that comes
abbrev pub count_after : {M : Type 0} → World M → Occurrence → ℕ
count_after w o = length (known_then w.known o).readers

-- the world after one occurrence: discovery processes it, then each reader does its steps;
-- discovery's answer is put out first, then the reports of each reader, by rank
abbrev pub world_after : {M : Type 0} → Decoding M → World M → Occurrence → World M
world_after decoding w o = record {
  known = known_then w.known o;
  readers = λ rank. reader_run (w.readers rank) (doings w.known rank o);
  put = w.put ++ (discovery_puts w.known o
      ++ puts_below decoding w.known o w.readers (count_after w o));
}
