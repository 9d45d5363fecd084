-- The configuration that options ask for, and why they are refused.
use Rattle.std.specs.Prelude.{◌≡◌, ℕ, ◌+◌, ◌%◌, ◌==◌, List, [], ◌∷◌, ◌++◌, map, Option, Some, None, ◌⊎◌, IsErr, IsOk, Ok, codes, if◌then◌else◌, replicate}
use Rattle.std.specs.Fmt.{decimal}
use Rattle.std.specs.List.{range_with_len}
use Rattle.std.specs.Borrow.{Bor}
use Rattle.clap.specs.Words.{Text}
use Rattle.rtps_types.specs.Text.{guid_in}
use Rattle.rtps_types.specs.declared.identity.EntityId.{EntityId}
use Rattle.rtps_types.specs.declared.identity.Guid.{Guid}
use Rattle.rtps_types.specs.declared.identity.GuidPrefix.{GuidPrefix}
use Rattle.dds_qos.specs.Defaults.{default_policies}
use Rattle.dds_qos.specs.declared.policies.Reliability.TheVariants.{Reliable}
use Rattle.rtps_discovery.specs.Config.{check_of}
use Rattle.rtps_discovery.specs.declared.config.Config.{Config}
use Rattle.rtps_discovery.specs.declared.config.FixedMatch.{FixedMatch}
use Rattle.rtps_discovery.specs.Known.{Wish}
use Rattle.rtps_discovery.specs.Start.{wish_of}
use Rattle.rtps_records.specs.declared.fault.RunFault.TheVariants.{NoMemory}
use Rattle.rtps_bench.specs.declared.options.Options.{Options}
use Rattle.rtps_bench.specs.declared.fault.BenchFault.{BenchFault}
use Rattle.rtps_bench.specs.declared.fault.BenchFault.TheVariants.{BadWriter, Run}

-- the participant
abbrev pub own : GuidPrefix
own = record { 0 = replicate 12 0x0b }

-- the entity of the reader of a rank: readers with a key (DDSI-RTPS 9.3.1.2) that are counted
-- from 1
abbrev pub entity_of : ℕ → EntityId
entity_of rank = record { 0 = 0x00 ∷ 0x00 ∷ (rank + 1) ∷ 0x07 ∷ [] }

-- the topic of the reader of a rank: where there are several topics, they are numbered, and the
-- readers have them in turn
abbrev pub topic_of : Text → ℕ → ℕ → Text
topic_of topic topics rank = if topics == 1 then topic else topic ++ decimal (rank % topics)

-- the reader of a rank: it is reliable, has the type of the Shapes demo, and the policies that hold
-- where none is announced
abbrev pub reader_of : Text → ℕ → ℕ → Wish
reader_of topic topics rank = record {
  entity = entity_of rank;
  topic = topic_of topic topics rank;
  type_name = codes "ShapeType";
  policies = default_policies Reliable;
  partitions = [];
}

-- n readers, by their ranks
abbrev pub readers_of : Text → ℕ → ℕ → List Wish
readers_of topic topics count = map (reader_of topic topics) (range_with_len 0 count)

-- the match of the reader of a rank, which knows no address of the writer
abbrev pub match_of : Guid → ℕ → FixedMatch
match_of writer rank = record { rank = rank; writer = writer; locators = [] }

-- the match of the reader of a rank with the writer, where there is one
abbrev pub match_at : Option Guid → ℕ → List FixedMatch
match_at None rank = []
match_at (Some writer) rank = match_of writer rank ∷ []

-- a match of each of n readers with the writer, where there is one
abbrev pub matches_of : Option Guid → ℕ → List FixedMatch
matches_of None count = []
matches_of (Some writer) count = map (match_of writer) (range_with_len 0 count)

-- `--fixed` names this writer, in hex digits of either case (DDSI-RTPS 9.3.1); where it isn't
-- given, none
abbrev pub NamesWriter : Option (Bor Text) → Option Guid → Type 0
NamesWriter None None = Unit {0}
NamesWriter None (Some writer) = ⊥
NamesWriter (Some text) None = ⊥
NamesWriter (Some text) (Some writer) = guid_in text.now ≡ Ok writer

-- `--fixed` has 32 digits, or isn't given
abbrev pub IsFixedText : Option (Bor Text) → Type 0
IsFixedText None = Unit {0}
IsFixedText (Some text) = IsOk (guid_in text.now)

-- the configuration of the options, with this writer
pub record IsMadeOf (options : Options) (writer : Option Guid) (config : Config) : Type 0 where
  pub prefix : config.own ≡ own
  pub readers : map wish_of config.readers.items
      ≡ readers_of options.topic.now options.topics options.readers
  pub fixed : config.fixed.items ≡ matches_of writer options.readers

-- the configuration that options ask for
abbrev pub IsConfigOf : Options → Config → Type 0
IsConfigOf options config =
    (writer : Option Guid) × NamesWriter options.fixed writer × IsMadeOf options writer config

-- discovery refuses the configuration that options ask for
abbrev pub IsRefused : Options → Type 0
IsRefused options = (config : Config) × IsConfigOf options config × IsErr (check_of config)

-- what is wrong with options that are refused with this fault; memory may always run out
abbrev pub IsCause : Options → BenchFault → Type 0
IsCause options BadWriter = ¬ IsFixedText options.fixed ⊎ IsRefused options
IsCause options (Run NoMemory) = Unit {0}
IsCause options _ = ⊥
