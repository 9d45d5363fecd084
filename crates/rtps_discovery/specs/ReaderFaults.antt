-- Why a reader of ours can't come or go (DDSI-RTPS 8.5, 9.3.1.2).
use Rattle.std.specs.Prelude.{ℕ, nat_le, List, length, count_by, Option, Some, None, is_some, Bool, false, not, ◌||◌, if◌then◌else◌, codes}
use Rattle.std.specs.List.{list_any}
use Rattle.std.specs.Str.{bytes_eq}
use Rattle.rtps_types.specs.declared.identity.EntityId.{EntityId}
use Rattle.rtps_discovery.specs.Config.{is_exclusive, is_reader}
use Rattle.rtps_discovery.specs.Known.{Wish, reader_at}
use Rattle.rtps_discovery.specs.declared.reader_faults.ReaderFault.{ReaderFault}
use Rattle.rtps_discovery.specs.declared.reader_faults.ReaderFault.TheVariants.{Full, BadReader, NoReader, NoMemory}

-- no reader can come: 256 are there, or 4,096 ranks were given
abbrev pub is_full : List (Option Wish) → Bool
is_full readers = nat_le 256 (count_by is_some readers) || nat_le 4096 (length readers)

-- the reader of a rank is there and has this entity
abbrev pub has_entity : EntityId → Option Wish → Bool
has_entity entity None = false
has_entity entity (Some r) = bytes_eq entity.0 r.entity.0

-- a reader is bad: its kind isn't a reader's, its ownership isn't shared, or a reader that is there
-- has its entity
abbrev pub is_bad : List (Option Wish) → Wish → Bool
is_bad readers r =
    (not (is_reader r.entity) || is_exclusive r.policies.ownership)
    || list_any (has_entity r.entity) readers

-- why a reader can't come, given the readers by rank; the first fault in this order
unfoldable pub adding_fault : List (Option Wish) → Wish → Option ReaderFault
adding_fault readers r =
    if is_full readers then Some Full else if is_bad readers r then Some BadReader else None

-- why the reader of a rank can't go: it isn't there
abbrev pub removing_fault : List (Option Wish) → ℕ → Option ReaderFault
removing_fault readers rank = if is_some (reader_at readers rank) then None else Some NoReader

-- the name of a fault
abbrev pub name_of : ReaderFault → List ℕ
name_of Full = codes "Full"
name_of BadReader = codes "BadReader"
name_of NoReader = codes "NoReader"
name_of NoMemory = codes "NoMemory"
