-- The prefix of a participant as a word: its octets (DDSI-RTPS 9.3.1) in hex digits of either case;
-- and what is refused of it.
use Rattle.std.specs.Prelude.{◌≡◌, ℕ, List, IsOk, Ok, Result, Err, IfErr}
use Rattle.rtps_types.specs.Text.{prefix_in}
use Rattle.rtps_types.specs.declared.identity.GuidPrefix.{GuidPrefix}
use Rattle.rtps_files.specs.declared.fault.FileFault.{FileFault}
use Rattle.rtps_files.specs.declared.fault.FileFault.TheVariants.{BadPrefix, Run}

-- the text is one of a participant: 24 digits
abbrev pub IsPrefixText : List ℕ → Type 0
IsPrefixText text = IsOk (prefix_in text)

-- the text writes this participant
abbrev pub WritesPrefix : List ℕ → GuidPrefix → Type 0
WritesPrefix text prefix = prefix_in text ≡ Ok prefix

-- what is wrong if it ends with this fault: the prefix, or the run
abbrev pub IsCause : List ℕ → FileFault → Type 0
IsCause own BadPrefix = ¬ IsPrefixText own
IsCause own (Run fault) = Unit {0}

-- a text that is no prefix is refused, and the prefix for no other cause
unfoldable pub RefusesFirst : List ℕ → Result (Unit {0}) FileFault → Type 0
RefusesFirst own result =
    (¬ IsPrefixText own → result ≡ Err BadPrefix) × IfErr result (IsCause own)
