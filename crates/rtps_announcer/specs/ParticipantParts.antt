-- The parts of what is heard of a participant's own announcer, by the form of a change.
use Rattle.std.specs.Prelude.{ℕ, List, Option, None, option_and_then}
use Rattle.rtps_types.specs.declared.identity.Guid.{Guid}
use Rattle.rtps_types.specs.declared.identity.GuidPrefix.{GuidPrefix}
use Rattle.rtps_types.specs.declared.identity.KeyHash.{KeyHash}
use Rattle.rtps_discovery.specs.AnnouncedData as said
use Rattle.rtps_discovery.specs.AnnouncedData.{AnnouncedData, Ends, record_in}
use Rattle.rtps_discovery.specs.Announcement.{participant_said}
use Rattle.rtps_discovery.specs.Records.{participant_guid}
use Rattle.rtps_announcer.specs.declared.hearing.Hearing.{Hearing}
use Rattle.rtps_announcer.specs.Participant.{heard_as}

-- what is heard of the data of a change, with this key hash
abbrev pub data_heard :
    GuidPrefix → GuidPrefix → Option KeyHash → Option AnnouncedData → Option Hearing
data_heard own source hash what =
    option_and_then (λ d. heard_as source d (participant_said own source hash d)) what

abbrev pub record_heard : GuidPrefix → GuidPrefix → List ℕ → Option Hearing
record_heard own source payload = data_heard own source None (record_in payload)

-- of an end nothing depends on our own participant
abbrev pub end_heard : GuidPrefix → Option Guid → Option KeyHash → Option Hearing
end_heard source named hash =
    heard_as source (Ends named) (participant_said source source hash (Ends named))

abbrev pub end_in : GuidPrefix → Option KeyHash → List ℕ → Option Hearing
end_in source hash payload =
    data_heard source source hash (said.end_in participant_guid payload)
