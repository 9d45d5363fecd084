-- The state of an engine, and its relation to the list of inputs processed so far.
use Rattle.std.specs.Prelude.{◌≡◌, ◌+◌, ◌++◌, ◌^◌, ◌<◌, ◌≤◌, false, Bool, true, ℕ, List, [], length, map, slice_index_or, Option, Result, Ok, Err}
use Rattle.std.specs.Option.{option_map}
use Rattle.dds_topic.specs.Decoding.{Decoding}
use Rattle.rtps_discovery.specs.declared.config.Config.{Config}
use Rattle.rtps_discovery.specs.declared.faults.ConfigFault.{ConfigFault}
use Rattle.rtps_discovery.specs.Kept.{DiscoveryView, IsKnown, RegistryView}
use Rattle.rtps_reader.specs.declared.notice.Notice.{Notice}
use Rattle.rtps_reader.specs.declared.status.Status.{Status}
use Rattle.rtps_reader.specs.Reader.{Reader}
use Rattle.rtps_reader.specs.Standing as reader
use Rattle.rtps_reader.specs.Standing.{ReaderView}
use Rattle.rtps_run.specs.declared.errors.EngineError.{EngineError}
use Rattle.rtps_run.specs.declared.errors.EngineError.TheVariants.{NoMemory, Failed, Spent, Full, BadReader, NoReader}
use Rattle.rtps_run.specs.declared.errors.StartError.{StartError}
use Rattle.rtps_run.specs.declared.errors.StartError.TheVariants as start
use Rattle.rtps_run.specs.declared.outcome.Report.{Report}
use Rattle.rtps_run.specs.Outcome.{report_view}
use Rattle.rtps_run.specs.Input.{Input, index_after_all}
use Rattle.rtps_run.specs.Run.{run}
use Rattle.rtps_run.specs.Seen.{notices_by, reader_count, status_seen}
use Rattle.rtps_run.specs.World.{ReportView, World}

-- the state of an engine, as contracts see it
pub record EngineView (C : Type 0) : Type 0 where
  pub catalog : C
  pub config : Config
  -- the number of datagrams processed
  pub index : ℕ
  pub failed : Bool
  pub discovery : DiscoveryView
  -- by rank; and the statuses after the last input that was processed, none where a reader went
  pub readers : List ReaderView
  pub statuses : List (Option Status)

-- the state of a rank represents the reader of that rank, which reported these notices
pub record StandsFor {M : Type 0} (r : Reader) (given : List (Notice M)) (rank : ℕ)
    (state : ReaderView) : Type 0 where
  pub stands : reader.StandsAt r given state
  pub ranked : state.rank ≡ rank

-- each state represents the reader of its rank, which reported the notices of that rank
abbrev pub AllStandBy : {M : Type 0} → (ℕ → Reader) → (ℕ → List (Notice M)) → List ReaderView
    → Type 0
AllStandBy readers given states =
    (rank : ℕ) (other : ReaderView) → rank < length states
    → StandsFor (readers rank) (given rank) rank (slice_index_or states rank other)

-- each state represents the reader of its rank in the world, with the notices that it reported
abbrev pub AllStand : {M : Type 0} → World M → List ReaderView → Type 0
AllStand w states = AllStandBy w.readers (λ rank. notices_by rank w.put) states

-- each state represents the reader of its rank, which reported no notice yet
abbrev pub AllStart : (ℕ → Reader) → List ReaderView → Type 0
AllStart readers states = AllStandBy {M = Unit {0}} readers (λ rank. []) states

-- there is a state for each reader of the world, which represents that reader; and the world has
-- put out these reports after the earlier ones
pub record ReadersStand {V M A : Type 0} (view : V → M) (w : World M)
    (earlier : List (ReportView M)) (states : List ReaderView) (reports : List (Report V A))
    : Type 0 where
  pub count : length states ≡ reader_count w
  pub readers : AllStand w states
  pub put : w.put ≡ earlier ++ map (report_view view) reports

-- the same, with the data of discovery, which represents what the world knows
pub record WorldStands {V M A : Type 0} (view : V → M) (w : World M) (earlier : List (ReportView M))
    (discovery : RegistryView) (states : List ReaderView) (reports : List (Report V A))
    : Type 0 where
  pub known : IsKnown w.known discovery
  pub readers : ReadersStand view w earlier states reports

-- the run of the engine's configuration over a list of inputs
abbrev pub run_by : {C M : Type 0} → (C → Decoding M) → EngineView C → List Input → World M
run_by decoding engine inputs = run (decoding engine.catalog) engine.config inputs

-- the statuses are those after these inputs, of every rank that was given; none if its reader went
pub record ShowsAt {C M : Type 0} (decoding : C → Decoding M) (inputs : List Input)
    (engine : EngineView C) : Type 0 where
  pub count : length engine.statuses ≡ reader_count (run_by decoding engine inputs)
  pub statuses : (rank : ℕ) (other : Option Status) → rank < length engine.statuses
      → slice_index_or engine.statuses rank other
      ≡ status_seen (run_by decoding engine inputs) rank

-- the state of the engine is that after these inputs
pub record StandsAt {C M : Type 0} (decoding : C → Decoding M) (inputs : List Input)
    (engine : EngineView C) : Type 0 where
  pub sound : engine.failed ≡ false
  pub index : engine.index ≡ index_after_all 0 inputs
  pub known : IsKnown (run_by decoding engine inputs).known engine.discovery.kept
  pub unspent : engine.discovery.spent ≡ false
  pub count : length engine.readers ≡ reader_count (run_by decoding engine inputs)
  pub readers : AllStand (run_by decoding engine inputs) engine.readers
  pub shows : ShowsAt decoding inputs engine

-- a run has at most 2^48 datagrams
abbrev pub datagram_limit : ℕ
datagram_limit = 2 ^ 48

-- How a datagram is processed, and when each refusal comes: Failed exactly where memory ran out
-- before, which leaves the engine failed; Spent exactly where one more datagram would pass the
-- limit. Either leaves the engine as it was.
unfoldable pub Takes : {C X : Type 0} → Result X EngineError → EngineView C → EngineView C → Type 0
Takes (Ok x) old new =
    (old.failed ≡ false) × (old.index < datagram_limit)
    × (new.failed ≡ false) × (new.index ≡ old.index + 1)
Takes (Err Failed) old new = (old.failed ≡ true) × (new ≡ old)
Takes (Err Spent) old new = (old.failed ≡ false) × (datagram_limit ≤ old.index) × (new ≡ old)
Takes (Err NoMemory) old new =
    (old.failed ≡ false) × (old.index < datagram_limit) × (new.failed ≡ true)
Takes (Err Full) old new = ⊥
Takes (Err BadReader) old new = ⊥
Takes (Err NoReader) old new = ⊥

-- How a tick is processed, and when each refusal comes: Failed exactly where memory ran out before,
-- which leaves the engine as it was. A tick takes no index, so it is never Spent.
unfoldable pub Ticks : {C X : Type 0} → Result X EngineError → EngineView C → EngineView C → Type 0
Ticks (Ok x) old new = (old.failed ≡ false) × (new.failed ≡ false) × (new.index ≡ old.index)
Ticks (Err Failed) old new = (old.failed ≡ true) × (new ≡ old)
Ticks (Err Spent) old new = ⊥
Ticks (Err NoMemory) old new = (old.failed ≡ false) × (new.failed ≡ true)
Ticks (Err Full) old new = ⊥
Ticks (Err BadReader) old new = ⊥
Ticks (Err NoReader) old new = ⊥

-- why a datagram is refused before it is looked at
unfoldable pub Refuses : {C : Type 0} → EngineError → EngineView C → Type 0
Refuses Failed engine = engine.failed ≡ true
Refuses Spent engine = (engine.failed ≡ false) × (datagram_limit ≤ engine.index)
Refuses NoMemory engine = ⊥
Refuses Full engine = ⊥
Refuses BadReader engine = ⊥
Refuses NoReader engine = ⊥

-- only discovery and the readers have changed
pub record IsSteppedFrom {C : Type 0} (old new : EngineView C) : Type 0 where
  pub catalog : new.catalog ≡ old.catalog
  pub config : new.config ≡ old.config
  pub index : new.index ≡ old.index
  pub failed : new.failed ≡ old.failed
  pub statuses : new.statuses ≡ old.statuses
  pub count : length new.readers ≡ length old.readers

-- the status of a reader's state, where a status was shown; none where its reader went
abbrev pub status_shown : Option Status → ReaderView → Option Status
status_shown was state = option_map (λ (s : Status). state.status) was

-- `count` more datagrams are processed, and the statuses are those of the readers
pub record IsFinishedFrom {C : Type 0} (count : ℕ) (old new : EngineView C) : Type 0 where
  pub catalog : new.catalog ≡ old.catalog
  pub config : new.config ≡ old.config
  pub index : new.index ≡ old.index + count
  pub sound : new.failed ≡ false
  pub discovery : new.discovery ≡ old.discovery
  pub readers : new.readers ≡ old.readers
  pub shown : length new.statuses ≡ length old.statuses
  pub statuses : (rank : ℕ) (s : Option Status) (r : ReaderView) → rank < length old.readers
      → slice_index_or new.statuses rank s
      ≡ status_shown (slice_index_or old.statuses rank s) (slice_index_or old.readers rank r)

-- What a refused input leaves in the caller's list: Failed and Spent leave it as it was, and
-- NoMemory leaves nothing.
unfoldable pub Leaves : {X Y : Type 0} → Result X EngineError → List Y → List Y → Type 0
Leaves (Ok x) old new = Unit {0}
Leaves (Err Failed) old new = new ≡ old
Leaves (Err Spent) old new = new ≡ old
Leaves (Err NoMemory) old new = new ≡ []
Leaves (Err Full) old new = ⊥
Leaves (Err BadReader) old new = ⊥
Leaves (Err NoReader) old new = ⊥

-- when a query is refused: Failed exactly where the engine has failed
unfoldable pub Answers : {C X : Type 0} → Result X EngineError → EngineView C → Type 0
Answers (Ok x) engine = engine.failed ≡ false
Answers (Err Failed) engine = engine.failed ≡ true
Answers (Err Spent) engine = ⊥
Answers (Err NoMemory) engine = engine.failed ≡ false
Answers (Err Full) engine = ⊥
Answers (Err BadReader) engine = ⊥
Answers (Err NoReader) engine = ⊥

-- when an engine is refused, by the check of its configuration
unfoldable pub Starts : {X : Type 0} → Result (Unit {0}) ConfigFault → Result X StartError → Type 0
Starts (Ok u) (Ok x) = Unit {0}
Starts (Ok u) (Err start.NoMemory) = Unit {0}
Starts (Ok u) (Err (start.Config fault)) = ⊥
Starts (Err fault) (Ok x) = ⊥
Starts (Err fault) (Err e) = e ≡ start.Config fault
