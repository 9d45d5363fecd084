-- What a participant says of itself and of its readers, as datagrams (DDSI-RTPS 8.4.7, 8.5.3,
-- 8.5.4).
use Rattle.std.specs.Prelude.{◌≡◌, List, map, Bool, false, true, Option, None, Some}
use Rattle.rtps_types.specs.declared.identity.GuidPrefix.{GuidPrefix}
use Rattle.rtps_discovery.specs.declared.config.ReaderConfig.{ReaderConfig}
use Rattle.rtps_announcer.specs.declared.hearing.Hearing.{Hearing}
use Rattle.rtps_announcer.specs.declared.hearing.Hearing.TheVariants.{Joins}
use Rattle.rtps_announcer.specs.Announcing.{sends_run, state_run}
use Rattle.rtps_announcer.specs.Standing as announcer
use Rattle.dds_announced.specs.declared.announcement.Announcement.{Announcement}
use Rattle.dds_announced.specs.declared.announcing.AnnounceFault.{AnnounceFault}
use Rattle.dds_announced.specs.declared.voice.Voice.{Voice}
use Rattle.dds_announced.specs.declared.voice.VoiceFault.{VoiceFault}
use Rattle.dds_announced.specs.declared.voice.VoiceFault.TheVariants.{Announcing, NoMemory, TooLong}
use Rattle.dds_announced.specs.Speaker.{announcements, has_long}

-- at first each of its readers comes
abbrev pub joined_by : Voice → List Hearing
joined_by v = map (λ r. Joins) v.speaker.readers.items

-- a voice heard this, and said that by it: for each thing that is said its datagram
pub record Says (heard : List Hearing) (old new : Voice) (said : List Announcement) : Type 0 where
  pub state : new.announcer.state ≡ state_run old.announcer.rules old.announcer.state heard
  pub datagrams : said
      ≡ announcements old.speaker (sends_run old.announcer.rules old.announcer.state heard)
  pub failed : new.failed ≡ false

-- who speaks, by which rules and to which addresses of everyone: what no call changes
pub record IsSameVoice (old new : Voice) : Type 0 where
  pub announcer : announcer.IsSame old.announcer new.announcer
  pub speaker : new.speaker ≡ old.speaker
  pub everyone : new.everyone ≡ old.everyone

-- where there is no voice for the length of a record, a reader has one that is too long
abbrev pub BlamesReader : GuidPrefix → List ReaderConfig → VoiceFault → Type 0
BlamesReader own readers (Announcing f) = Unit {0}
BlamesReader own readers TooLong = has_long own readers ≡ true
BlamesReader own readers NoMemory = Unit {0}

-- why there is no voice, by how a participant is to announce itself
unfoldable pub IsVoiceFault : Option AnnounceFault → VoiceFault → Type 0
IsVoiceFault fault (Announcing f) = fault ≡ Some f
IsVoiceFault fault TooLong = fault ≡ None
IsVoiceFault fault NoMemory = fault ≡ None
