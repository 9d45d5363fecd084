-- The notices of a batch go to backlogs, where outlets are attached.
use Rattle.std.specs.Prelude.{◌≡◌, ◌<◌, ℕ, List, [], Option, length, map, slice_index_or}
use Rattle.std.specs.declared.alloc.Global.{Global}
use Rattle.std.specs.declared.vec.Vec.{Vec}
use Rattle.rtps_reader.specs.declared.notice.Notice.{Notice}
use Rattle.rtps_reader.specs.declared.notice.Output.{Output}
use Rattle.rtps_run.specs.declared.outcome.Outcome.{Outcome}
use Rattle.dds_participant.specs.Ports.{HasRoomFor, PortView, left_of, port_with}
use Rattle.rtps_run.specs.declared.batch_output.BatchOutput.{BatchOutput}
use Rattle.dds_participant.specs.declared.ports.Port.{Port}

-- by rank, the notices of each reader: in the lists of a batch, and in an outcome
abbrev pub reported : {V : Type 0} → List (Output V Global) → List (List (Notice V))
reported outputs = map (λ o. o.notices.items) outputs

abbrev pub listed : {V : Type 0} → List (Vec (Notice V) Global) → List (List (Notice V))
listed lists = map (λ l. l.items) lists

-- each backlog has room for the notices of its rank
abbrev pub HaveRoomFor : {V : Type 0} → List (Option (Port V)) → List (List (Notice V)) → Type 0
HaveRoomFor {V} ports notices =
    (rank : ℕ) (port : Option (Port V)) → rank < length ports
    → HasRoomFor (slice_index_or ports rank port) (length (slice_index_or notices rank []))

-- For each rank, all notices of the reader are returned, or all are appended to its backlog and
-- none is returned.
pub record AreHandedOn {V : Type 0} (old : List (Option (PortView V)))
    (whole : List (List (Notice V))) (new : List (Option (PortView V)))
    (left : List (List (Notice V))) : Type 0 where
  pub readers : length whole ≡ length old
  pub count : length new ≡ length old
  pub lists : length left ≡ length whole
  pub ports : (rank : ℕ) (port : Option (PortView V)) → rank < length old
      → slice_index_or new rank port
      ≡ port_with (slice_index_or old rank port) (slice_index_or whole rank [])
  pub given : (rank : ℕ) (port : Option (PortView V)) → rank < length old
      → slice_index_or left rank []
      ≡ left_of (slice_index_or old rank port) (slice_index_or whole rank [])

-- how all that a batch puts out is split: what is returned, and what goes to backlogs; all answers
-- are returned
pub record IsHandedOn {V : Type 0} (whole given : BatchOutput V)
    (old new : List (Option (PortView V)))
    : Type 0 where
  pub places : given.places ≡ whole.places
  pub answers : given.answers ≡ whole.answers
  pub sent : map (λ o. o.answers) given.outputs.items ≡ map (λ o. o.answers) whole.outputs.items
  pub notices : AreHandedOn old (reported whole.outputs.items) new (reported given.outputs.items)

-- the same for an outcome
pub record IsOutcomeHandedOn {V : Type 0} (whole outcome : Outcome V Global)
    (old new : List (Option (PortView V))) : Type 0 where
  pub answers : outcome.answers ≡ whole.answers
  pub notices : AreHandedOn old (listed whole.notices.items) new (listed outcome.notices.items)
