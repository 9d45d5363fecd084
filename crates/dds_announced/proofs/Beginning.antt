-- How a participant that announces itself begins: as its participant does.
use Rattle.std.proofs.Common.{◌≡◌, List, Option, None, Result, Ok, Err}
use Rattle.rtps_types.specs.declared.identity.GuidPrefix.{GuidPrefix}
use Rattle.rtps_discovery.specs.declared.config.ReaderConfig.{ReaderConfig}
use Rattle.rtps_discovery.specs.declared.faults.ConfigFault.{ConfigFault}
use Rattle.rtps_run.specs.declared.errors.StartError.{StartError}
use Rattle.rtps_run.specs.declared.errors.StartError.TheVariants as start
use Rattle.rtps_run.specs.Standing.{Starts}
use Rattle.dds_announced.specs.declared.announcing.AnnounceFault.{AnnounceFault}
use Rattle.dds_announced.specs.declared.announcing.AnnouncedError.TheVariants as begin
use Rattle.dds_announced.specs.declared.voice.VoiceFault.{VoiceFault}
use Rattle.dds_announced.specs.declared.voice.VoiceFault.TheVariants as voice
use Rattle.dds_announced.specs.Announced.{Begins, BlamesReader, refused_by, voiceless_by}
use Rattle.dds_announced.specs.Voice.{IsVoiceFault}
use Rattle.dds_announced.specs.Voice as Voice

pub begins_ok : {X Y : Type 0} (fault : Option AnnounceFault) (checked : Result (Unit {0}) ConfigFault) (x : X) (y : Y) → fault ≡ None → Starts checked (Ok x) → Begins fault checked (Ok y)
unfolding Begins Starts
begins_ok fault (Ok u) x y none at = (none, record {})
begins_ok fault (Err e) x y none at = absurd at

pub begins_err : (X Y : Type 0) (fault : Option AnnounceFault) (checked : Result (Unit {0}) ConfigFault)
    (e : StartError) → fault ≡ None → Starts {X = X} checked (Err e)
    → Begins {X = Y} fault checked (Err (refused_by e))
unfolding Begins Starts
begins_err X Y fault (Ok u) (start.Config f) none at = absurd at
begins_err X Y fault (Err e) (start.Config f) none at = (none, at)
begins_err X Y fault checked start.NoMemory none at = none

pub begins_voiceless : (X : Type 0) (fault : Option AnnounceFault)
    (checked : Result (Unit {0}) ConfigFault) (f : VoiceFault) → IsVoiceFault fault f
    → Begins {X = X} fault checked (Err (voiceless_by f))
unfolding Begins IsVoiceFault
begins_voiceless X fault checked (voice.Announcing f) is = is
begins_voiceless X fault checked voice.TooLong is = is
begins_voiceless X fault checked voice.NoMemory is = is

pub blames_voiceless : (own : GuidPrefix) (readers : List ReaderConfig) (f : VoiceFault)
    → Voice.BlamesReader own readers f → BlamesReader own readers (voiceless_by f)
blames_voiceless own readers (voice.Announcing f) blames = blames
blames_voiceless own readers voice.TooLong blames = blames
blames_voiceless own readers voice.NoMemory blames = blames

pub blames_refused : (own : GuidPrefix) (readers : List ReaderConfig) (e : StartError)
    → BlamesReader own readers (refused_by e)
blames_refused own readers (start.Config f) = tt
blames_refused own readers start.NoMemory = tt
