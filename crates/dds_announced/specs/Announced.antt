-- A participant and its announcer, over the same inputs (DDSI-RTPS 8.4.7, 8.5.3, 8.5.4).
use Rattle.std.specs.Prelude.{◌≡◌, List, ◌++◌, Bool, false, true, Option, None, Some, Result, Ok, Err}
use Rattle.rtps_types.specs.declared.identity.GuidPrefix.{GuidPrefix}
use Rattle.rtps_types.specs.declared.locator.Locator.{Locator}
use Rattle.dds_topic.specs.Decoding.{Decoding}
use Rattle.rtps_discovery.specs.declared.config.ReaderConfig.{ReaderConfig}
use Rattle.rtps_discovery.specs.declared.faults.ConfigFault.{ConfigFault}
use Rattle.rtps_run.specs.Input.{Input}
use Rattle.rtps_run.specs.declared.errors.EngineError.{EngineError}
use Rattle.rtps_run.specs.declared.errors.EngineError.TheVariants.{BadReader, Failed, Full, NoMemory, NoReader, Spent}
use Rattle.rtps_run.specs.declared.errors.StartError.{StartError}
use Rattle.rtps_run.specs.declared.errors.StartError.TheVariants as start
use Rattle.rtps_run.specs.Standing as engine
use Rattle.rtps_announcer.specs.Announcing.{sends_run, state_run}
use Rattle.rtps_announcer.specs.Standing as announcer
use Rattle.rtps_announcer.specs.Standing.{AnnouncerView}
use Rattle.dds_participant.specs.Kept.{ParticipantView}
use Rattle.dds_announced.specs.declared.announcing.AnnounceFault.{AnnounceFault}
use Rattle.dds_announced.specs.declared.announcing.AnnouncedError.{AnnouncedError}
use Rattle.dds_announced.specs.declared.announcing.AnnouncedError.TheVariants as begin
use Rattle.dds_announced.specs.declared.announcement.Announcement.{Announcement}
use Rattle.dds_announced.specs.declared.speaker.Speaker.{Speaker}
use Rattle.dds_announced.specs.declared.voice.VoiceFault.{VoiceFault}
use Rattle.dds_announced.specs.declared.voice.VoiceFault.TheVariants as voice
use Rattle.dds_announced.specs.Hearings.{all_heard, heard_at}
use Rattle.dds_announced.specs.Speaker.{announcements, has_long}

pub record AnnouncedView (C V : Type 0) : Type 0 where
  -- a call was refused memory, in either part
  pub failed : Bool
  pub run : ParticipantView C V
  pub announcer : AnnouncerView
  pub speaker : Speaker
  pub everyone : List Locator

-- the participant, which counts as failed where either part was refused memory
abbrev pub seen : {C V : Type 0} → AnnouncedView C V → ParticipantView C V
seen a = record a.run { engine = record a.run.engine { failed = a.failed } }

-- the participant and its announcer are where one list of inputs brings them
pub record StandAt {C M V : Type 0} (decoding : C → Decoding M) (inputs : List Input)
    (a : AnnouncedView C V) : Type 0 where
  pub run : engine.StandsAt decoding inputs a.run.engine
  pub announcer : announcer.StandsAt (heard_at a.run.engine.config inputs) a.announcer

-- The announcer heard inputs, and what is said by it was put after what was in a list: for each
-- thing that is said its datagram.
pub record Announces {C V : Type 0} (inputs : List Input) (old new : AnnouncedView C V)
    (before after : List Announcement) : Type 0 where
  pub state : new.announcer.state
      ≡ state_run old.announcer.rules old.announcer.state (all_heard old.announcer.own inputs)
  pub failed : new.announcer.failed ≡ false
  pub announced : after
      ≡ before ++ announcements new.speaker
      (sends_run old.announcer.rules old.announcer.state (all_heard old.announcer.own inputs))

-- what stays whatever is announced
pub record IsSame {C V : Type 0} (old new : AnnouncedView C V) : Type 0 where
  pub announcer : announcer.IsSame old.announcer new.announcer
  pub own : new.speaker.own ≡ old.speaker.own
  pub here : new.speaker.here ≡ old.speaker.here
  pub everyone : new.everyone ≡ old.everyone

-- when a farewell is refused: Failed exactly where an earlier call was refused memory
unfoldable pub Refuses : {X : Type 0} → Result X EngineError → Bool → Type 0
Refuses (Ok x) failed = failed ≡ false
Refuses (Err NoMemory) failed = failed ≡ false
Refuses (Err Failed) failed = failed ≡ true
Refuses (Err Spent) failed = ⊥
Refuses (Err Full) failed = ⊥
Refuses (Err BadReader) failed = ⊥
Refuses (Err NoReader) failed = ⊥

-- when a participant that announces itself can't be made, by how it is to announce itself and by
-- the check of its configuration
unfoldable pub Begins : {X : Type 0} → Option AnnounceFault → Result (Unit {0}) ConfigFault
    → Result X AnnouncedError → Type 0
Begins fault checked (Ok x) = (fault ≡ None) × engine.Starts checked (Ok x)
Begins fault checked (Err (begin.Announcing f)) = fault ≡ Some f
Begins {X} fault checked (Err (begin.Config f)) =
    (fault ≡ None) × engine.Starts {X = X} checked (Err (start.Config f))
Begins fault checked (Err begin.TooLong) = fault ≡ None
Begins fault checked (Err begin.NoMemory) = fault ≡ None

-- why it can't be made, by why its participant can't be started
abbrev pub refused_by : StartError → AnnouncedError
refused_by (start.Config f) = begin.Config f
refused_by start.NoMemory = begin.NoMemory

-- why it can't be made, by why it has no voice
abbrev pub voiceless_by : VoiceFault → AnnouncedError
voiceless_by (voice.Announcing f) = begin.Announcing f
voiceless_by voice.TooLong = begin.TooLong
voiceless_by voice.NoMemory = begin.NoMemory

-- where it can't be made for the length of a record, a reader has one that is too long
abbrev pub BlamesReader : GuidPrefix → List ReaderConfig → AnnouncedError → Type 0
BlamesReader own readers begin.TooLong = has_long own readers ≡ true
BlamesReader own readers begin.NoMemory = Unit {0}
BlamesReader own readers (begin.Announcing f) = Unit {0}
BlamesReader own readers (begin.Config f) = Unit {0}

-- What each call promises of both parts, as one: where one list of inputs brought them, that list
-- with the inputs of the call brings them after it.
abbrev pub StayTogether : {C M : Type 0} → Type 0 → (C → Decoding M) → Type 0
StayTogether {C} V decoding =
    (earlier inputs : List Input) (old new : AnnouncedView C V) (before after : List Announcement)
    → StandAt decoding earlier old
    → engine.StandsAt decoding (earlier ++ inputs) new.run.engine
    → new.run.engine.config ≡ old.run.engine.config
    → old.announcer.own ≡ old.run.engine.config.own
    → Announces inputs old new before after
    → IsSame old new
    → StandAt decoding (earlier ++ inputs) new
