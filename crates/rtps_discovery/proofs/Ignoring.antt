-- The records of an event that are ignored.
use Rattle.std.proofs.Common.{◌≡◌, ◌≤◌, ◌+◌, arith, List, [], ◌∷◌, length, Option, Some, None, refl}
use Rattle.rtps_receiver.specs.EventBody.{EventBodyView, Whole, Fragment, Heartbeat, Gap, HeartbeatFrag}
use Rattle.rtps_discovery.specs.Announcement.{Announcement}
use Rattle.rtps_discovery.specs.Ignored.{data_record, silent_among}

-- no more are ignored than there are
pub silent_few : (records : List (Option Announcement)) → silent_among records ≤ length records
silent_few [] = omega arith
silent_few (None ∷ records) = omega (arith, silent_few records)
silent_few (Some a ∷ records) = omega (arith, silent_few records)

-- a record, and those after it
pub silent_next : (said : Option Announcement) (records : List (Option Announcement)) → silent_among (said ∷ records) ≡ silent_among (said ∷ []) + silent_among records
silent_next None records = omega arith
silent_next (Some a) records = omega arith

-- a DATA that announces something isn't ignored
pub data_said : (body : EventBodyView) (a : Announcement) → silent_among (data_record body (Some a)) ≡ 0
data_said (Whole c) a = refl
data_said (Fragment f) a = refl
data_said (Heartbeat h) a = refl
data_said (Gap g) a = refl
data_said (HeartbeatFrag h) a = refl
