-- The configuration that options ask for, and why they are refused.
use Rattle.std.specs.Prelude.{◌≡◌, ℕ, ◌+◌, List, [], ◌∷◌, map, Bool, true, false, not, ◌||◌, IsTrue, Option, Some, None, ◌⊎◌, Result, Err}
use Rattle.std.specs.List.{range_with_len}
use Rattle.std.specs.Str.{bytes_eq}
use Rattle.std.specs.Borrow.{Bor}
use Rattle.clap.specs.Words.{Text}
use Rattle.rtps_types.specs.declared.identity.EntityId.{EntityId}
use Rattle.rtps_types.specs.declared.identity.Guid.{Guid}
use Rattle.rtps_types.specs.declared.identity.GuidPrefix.{GuidPrefix}
use Rattle.dds_qos.specs.Defaults.{default_policies}
use Rattle.dds_qos.specs.declared.policies.Reliability.{Reliability}
use Rattle.dds_qos.specs.declared.policies.Reliability.TheVariants.{BestEffort, Reliable}
use Rattle.rtps_discovery.specs.Config.{is_writer}
use Rattle.rtps_discovery.specs.declared.config.Config.{Config}
use Rattle.rtps_discovery.specs.declared.config.FixedMatch.{FixedMatch}
use Rattle.rtps_discovery.specs.Known.{Wish}
use Rattle.rtps_discovery.specs.Start.{wish_of}
use Rattle.rtps_records.specs.declared.fault.RunFault.TheVariants.{NoMemory}
use Rattle.rtps_files.specs.Prefixes.{IsPrefixText, WritesPrefix}
use Rattle.rtps_listen.specs.Identities.{IsGuidText, WritesGuid}
use Rattle.rtps_listen.specs.declared.options.Options.{Options}
use Rattle.rtps_listen.specs.declared.fault.ListenFault.{ListenFault}
use Rattle.rtps_listen.specs.declared.fault.ListenFault.TheVariants.{BadPrefix, BadWriter, Run}

-- the kind of a reader of a topic with a key, and with `--no-key` of one without (DDSI-RTPS 9.3.1.2)
abbrev pub kind_of : Bool → ℕ
kind_of false = 0x07
kind_of true = 0x04

-- the entity of the reader of a rank: readers are counted from 1
abbrev pub entity_of : Bool → ℕ → EntityId
entity_of no_key rank = record { 0 = 0x00 ∷ 0x00 ∷ (rank + 1) ∷ kind_of no_key ∷ [] }

-- with `--best-effort` readers ask for nothing again
abbrev pub reliability_of : Bool → Reliability
reliability_of true = BestEffort
reliability_of false = Reliable

-- the reader of a rank: it has this topic and type, and the policies that hold where none is
-- announced
abbrev pub reader_of : Options → ℕ → Wish
reader_of options rank = record {
  entity = entity_of options.no_key rank;
  topic = options.topic.now;
  type_name = options.type_name.now;
  policies = default_policies (reliability_of options.best_effort);
  partitions = [];
}

-- n readers, by their ranks
abbrev pub readers_of : Options → ℕ → List Wish
readers_of options count = map (reader_of options) (range_with_len 0 count)

-- the match of the reader of a rank, which knows no address of the writer
abbrev pub match_of : Guid → ℕ → FixedMatch
match_of writer rank = record { rank = rank; writer = writer; locators = [] }

-- the match of the reader of a rank with the writer, where there is one
abbrev pub match_at : Option Guid → ℕ → List FixedMatch
match_at None rank = []
match_at (Some writer) rank = match_of writer rank ∷ []

-- a match of each of n readers with the writer, where there is one
abbrev pub matches_of : Option Guid → ℕ → List FixedMatch
matches_of None count = []
matches_of (Some writer) count = map (match_of writer) (range_with_len 0 count)

-- `--fixed` names this writer; where it isn't given, none
abbrev pub NamesWriter : Option (Bor Text) → Option Guid → Type 0
NamesWriter None None = Unit {0}
NamesWriter None (Some writer) = ⊥
NamesWriter (Some text) None = ⊥
NamesWriter (Some text) (Some writer) = WritesGuid text.now writer

-- the configuration of the options, with what their texts write
pub record IsMadeOf (options : Options) (own : GuidPrefix) (writer : Option Guid) (config : Config)
    : Type 0 where
  pub prefix : config.own ≡ own
  pub readers : map wish_of config.readers.items ≡ readers_of options options.readers
  pub fixed : config.fixed.items ≡ matches_of writer options.readers

-- what the texts of options write
pub record AreWritten (options : Options) (own : GuidPrefix) (writer : Option Guid) : Type 0 where
  pub prefix : WritesPrefix options.own.now own
  pub fixed : NamesWriter options.fixed writer

-- the configuration that options ask for
abbrev pub IsConfigOf : Options → Config → Type 0
IsConfigOf options config =
    (own : GuidPrefix) × (writer : Option Guid) × AreWritten options own writer
    × IsMadeOf options own writer config

-- no reader of ours is matched with the writer: it is none by its kind, or our own
abbrev pub is_unmatched : GuidPrefix → Option Guid → Bool
is_unmatched own None = false
is_unmatched own (Some writer) = not (is_writer writer.entity) || bytes_eq own.0 writer.prefix.0

-- the options name such a writer
abbrev pub IsUnmatched : Options → Type 0
IsUnmatched options =
    (own : GuidPrefix) × (writer : Option Guid) × AreWritten options own writer
    × IsTrue (is_unmatched own writer)

-- `--fixed` has 32 digits, or isn't given
abbrev pub IsFixedText : Option (Bor Text) → Type 0
IsFixedText None = Unit {0}
IsFixedText (Some text) = IsGuidText text.now

-- which fault is reported first; memory is taken before the writer is judged
pub record Refuses {T : Type 0} (options : Options) (result : Result T ListenFault) : Type 0 where
  pub prefix : ¬ IsPrefixText options.own.now → result ≡ Err BadPrefix
  pub fixed : IsPrefixText options.own.now → ¬ IsFixedText options.fixed
      → result ≡ Err BadWriter
  pub writer : IsPrefixText options.own.now → IsUnmatched options
      → (result ≡ Err BadWriter) ⊎ (result ≡ Err (Run NoMemory))

-- what is wrong with options that are refused with this fault; memory may always run out
abbrev pub IsCause : Options → ListenFault → Type 0
IsCause options BadPrefix = ¬ IsPrefixText options.own.now
IsCause options BadWriter = ¬ IsFixedText options.fixed ⊎ IsUnmatched options
IsCause options (Run NoMemory) = Unit {0}
IsCause options _ = ⊥

-- what is wrong if `replay` ends with this fault: its options, or its run
abbrev pub IsReplayCause : Options → ListenFault → Type 0
IsReplayCause options (Run fault) = Unit {0}
IsReplayCause options fault = IsCause options fault
