-- The faults of a configuration, and the one that is reported (DDSI-RTPS 9.3.1.2).
use Rattle.std.specs.Prelude.{◌≡◌, ℕ, ◌≤◌, ◌==◌, nat_le, nat_lt, List, [], ◌∷◌, length, slice_index, Bool, true, false, not, ◌&&◌, ◌||◌, if◌then◌else◌, Result, Ok, Err, All, AllPairs, IsFalse, ◌↔◌}
use Rattle.std.specs.List.{list_any}
use Rattle.std.specs.Str.{bytes_eq}
use Rattle.rtps_types.specs.declared.identity.EntityId.{EntityId}
use Rattle.rtps_types.specs.declared.identity.GuidPrefix.{GuidPrefix}
use Rattle.rtps_types.specs.declared.identity.Guid.{Guid}
use Rattle.dds_qos.specs.declared.policies.Ownership.{Ownership}
use Rattle.dds_qos.specs.declared.policies.Ownership.TheVariants.{Shared, Exclusive}
use Rattle.rtps_discovery.specs.declared.config.ReaderConfig.{ReaderConfig}
use Rattle.rtps_discovery.specs.declared.config.FixedMatch.{FixedMatch}
use Rattle.rtps_discovery.specs.declared.config.Config.{Config}
use Rattle.rtps_discovery.specs.declared.faults.ConfigFault.{ConfigFault}
use Rattle.rtps_discovery.specs.declared.faults.ConfigFault.TheVariants.{Readers, BadReader, BadFixed}

-- the last octet of an entity is its kind (DDSI-RTPS 9.3.1.2)
abbrev pub kind_of : EntityId → ℕ
kind_of e = slice_index e.0 3

-- the kind of a reader: 04 without a key, 07 with a key
abbrev pub is_reader : EntityId → Bool
is_reader e = kind_of e == 0x04 || kind_of e == 0x07

-- the kind of a writer: 02 with a key, 03 without a key
abbrev pub is_writer : EntityId → Bool
is_writer e = kind_of e == 0x02 || kind_of e == 0x03

-- the ownership isn't shared
abbrev pub is_exclusive : Ownership → Bool
is_exclusive Shared = false
is_exclusive Exclusive = true

-- a reader has a fault: its kind isn't a reader's, or its ownership isn't shared
abbrev pub is_bad_reader : ReaderConfig → Bool
is_bad_reader r = not (is_reader r.entity) || is_exclusive r.requested.policies.ownership

-- a fixed match has a fault: no reader has its rank, its writer's kind isn't a writer's, or the
-- writer belongs to our own participant
abbrev pub is_bad_fixed : GuidPrefix → ℕ → FixedMatch → Bool
is_bad_fixed own readers m =
    nat_le readers m.rank || (not (is_writer m.writer.entity) || bytes_eq own.0 m.writer.prefix.0)

-- two readers have the same entity
abbrev pub is_same_entity : ReaderConfig → ReaderConfig → Bool
is_same_entity a b = bytes_eq a.entity.0 b.entity.0

-- two guids are the same
abbrev pub is_same_guid : Guid → Guid → Bool
is_same_guid a b = bytes_eq a.prefix.0 b.prefix.0 && bytes_eq a.entity.0 b.entity.0

-- two fixed matches have the same reader and the same writer
abbrev pub is_same_pair : FixedMatch → FixedMatch → Bool
is_same_pair a b = a.rank == b.rank && is_same_guid a.writer b.writer

-- a list has two items that are the same, by a test
abbrev pub has_twice : {T : Type 0} → (T → T → Bool) → List T → Bool
has_twice is_same [] = false
has_twice is_same (x ∷ xs) = list_any (is_same x) xs || has_twice is_same xs

-- a configuration has this fault, whatever others it has
abbrev pub has_fault : ConfigFault → Config → Bool
has_fault Readers c = length c.readers.items == 0 || nat_lt 256 (length c.readers.items)
has_fault BadReader c =
    list_any is_bad_reader c.readers.items || has_twice is_same_entity c.readers.items
has_fault BadFixed c =
    list_any (is_bad_fixed c.own (length c.readers.items)) c.fixed.items
    || has_twice is_same_pair c.fixed.items

-- a configuration is taken exactly if it has no fault; else the first one is reported
unfoldable pub check_of : Config → Result (Unit {0}) ConfigFault
check_of c =
    if has_fault Readers c then Err Readers else
    if has_fault BadReader c then Err BadReader else
    if has_fault BadFixed c then Err BadFixed else
    Ok tt

-- a configuration without a fault: 1 to 256 readers, each without a fault and with its own entity,
-- and fixed matches, each without a fault and with its own reader and writer
pub record IsFaultless (c : Config) : Type 0 where
  pub some_reader : 1 ≤ length c.readers.items
  pub readers_at_most : length c.readers.items ≤ 256
  pub good_readers : All (λ r. IsFalse (is_bad_reader r)) c.readers.items
  pub entities_differ : AllPairs (λ a b. IsFalse (is_same_entity a b)) c.readers.items
  pub good_fixed : All (λ m. IsFalse (is_bad_fixed c.own (length c.readers.items) m)) c.fixed.items
  pub pairs_differ : AllPairs (λ a b. IsFalse (is_same_pair a b)) c.fixed.items

-- the configurations that are taken are exactly those without a fault
abbrev pub TakenIsFaultless : Type 0
TakenIsFaultless = (c : Config) → (check_of c ≡ Ok tt) ↔ IsFaultless c
