-- The state of discovery at the start (DDSI-RTPS 8.5): our readers, and the fixed matches.
use Rattle.std.specs.Prelude.{ℕ, List, [], Option, Some, None, map}
use Rattle.std.specs.String.{string_bytes}
use Rattle.rtps_types.specs.declared.identity.Guid.{Guid}
use Rattle.rtps_discovery.specs.declared.config.ReaderConfig.{ReaderConfig}
use Rattle.rtps_discovery.specs.declared.config.FixedMatch.{FixedMatch}
use Rattle.rtps_discovery.specs.declared.config.Config.{Config}
use Rattle.rtps_discovery.specs.Known.{Known, Wish, is_fixed}
use Rattle.rtps_discovery.specs.OneWriter.{matched_from}

-- a reader of the configuration, and what it requests
abbrev pub wish_of : ReaderConfig → Wish
wish_of r = record {
  entity = r.entity;
  topic = string_bytes r.topic;
  type_name = string_bytes r.type_name;
  policies = r.requested.policies;
  partitions = r.requested.partitions;
}

-- the same, as a reader that is present
abbrev pub reader_of : ReaderConfig → Option Wish
reader_of r = Some (wish_of r)

-- the rank and the writer of a fixed match
abbrev pub pair_of : FixedMatch → ℕ × Guid
pair_of m = (m.rank, m.writer)

-- the readers of the configuration, its fixed matches, and nothing else
abbrev pub first_known : Config → Known
first_known c = record {
  own = c.own;
  moment = 0;
  readers = map reader_of c.readers.items;
  fixed = map pair_of c.fixed.items;
  participants = [];
  announcers = [];
  writers = [];
  remote_readers = [];
}

-- the ranks of the readers that have a fixed match with a writer, rising
abbrev pub fixed_ranks : List (ℕ × Guid) → List (Option Wish) → Guid → List ℕ
fixed_ranks pairs readers g = matched_from (λ rank. is_fixed pairs rank g) None 0 readers
