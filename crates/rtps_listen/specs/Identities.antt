-- Writers as the command line writes them: their octets (DDSI-RTPS 9.3.1) in hex digits of either
-- case.
use Rattle.std.specs.Prelude.{◌≡◌, IsOk, Ok}
use Rattle.clap.specs.Words.{Text}
use Rattle.rtps_types.specs.Text.{guid_in}
use Rattle.rtps_types.specs.declared.identity.Guid.{Guid}

-- the text is one of an endpoint: 32 digits
abbrev pub IsGuidText : Text → Type 0
IsGuidText text = IsOk (guid_in text)

-- the text writes this endpoint
abbrev pub WritesGuid : Text → Guid → Type 0
WritesGuid text guid = guid_in text ≡ Ok guid
