-- Outlets that are attached to readers, and the backlogs of notices that wait for them.
use Rattle.std.specs.Prelude.{◌≡◌, ◌⊎◌, ◌+◌, ◌≤◌, ℕ, List, [], ◌∷◌, ◌++◌, length, map, Option, Some, None, option_map, slice_index_or}
use Rattle.std.specs.VecDeque.{deque_capacity}
use Rattle.std.specs.declared.alloc.Global.{Global}
use Rattle.rtps_reader.specs.declared.notice.Notice.{Notice}
use Rattle.rtps_reader.specs.declared.status.Status.{Status}
use Rattle.dds_outlet.specs.Ring.{Sending}
use Rattle.dds_participant.specs.declared.ports.Port.{Port}
use Rattle.dds_participant.specs.declared.ports.AttachFault.{AttachFault}
use Rattle.dds_participant.specs.declared.ports.AttachFault.TheVariants.{NoReader, Attached}

-- an attached outlet, and the notices that wait for it
pub record PortView (V : Type 0) : Type 0 where
  pub outlet : Sending V Global
  pub backlog : List (Notice V)

abbrev pub port_view : {V : Type 0} → Port V → PortView V
port_view p = record { outlet = p.outlet; backlog = p.backlog.items }

-- the ports by rank
abbrev pub ports_view : {V : Type 0} → List (Option (Port V)) → List (Option (PortView V))
ports_view ports = map (option_map port_view) ports

-- an outlet that was just attached
abbrev pub new_port : {V : Type 0} → Sending V Global → PortView V
new_port o = record { outlet = o; backlog = [] }

-- why no outlet can be attached to a reader, given its status and its outlet; `None` if one can
abbrev pub fault_of : {V : Type 0} → Option Status → Option (PortView V) → Option AttachFault
fault_of None port = Some NoReader
fault_of (Some status) None = None
fault_of (Some status) (Some port) = Some Attached

-- the same for the reader of a rank; a rank that wasn't given has no status
abbrev pub fault_at : {V : Type 0} → List (Option Status) → List (Option (PortView V)) → ℕ
    → Option AttachFault
fault_at statuses ports rank =
    fault_of (slice_index_or statuses rank None) (slice_index_or ports rank None)

-- nothing is attached to any reader
abbrev pub NoneAttached : {V : Type 0} → List (Option (PortView V)) → Type 0
NoneAttached [] = Unit {0}
NoneAttached (None ∷ ports) = NoneAttached ports
NoneAttached (Some p ∷ ports) = ⊥

-- Notices from the front of a backlog were sent, in order, until the backlog was empty or the ring
-- full.
pub record Delivers {V : Type 0} (before after : PortView V) : Type 0 where
  pub moved : List (Notice V)
  pub backlog : before.backlog ≡ moved ++ after.backlog
  pub sent : after.outlet.sent ≡ before.outlet.sent ++ moved
  pub ring : (after.outlet.ring ≡ before.outlet.ring)
      × (after.outlet.capacity ≡ before.outlet.capacity)
  pub stops : (after.backlog ≡ []) ⊎ (after.outlet.free ≡ 0)

-- the notices of a reader that a batch returns: none if the reader has an outlet, else all
abbrev pub left_of : {V : Type 0} → Option (PortView V) → List (Notice V) → List (Notice V)
left_of None notices = notices
left_of (Some p) notices = []

-- the outlet of a reader, if it has one, once the notices of a batch are in its backlog
abbrev pub port_with : {V : Type 0} → Option (PortView V) → List (Notice V) → Option (PortView V)
port_with None notices = None
port_with (Some p) notices = Some (record p { backlog = p.backlog ++ notices })

-- a backlog, where there is one, has room for this many notices more
abbrev pub HasRoomFor : {V : Type 0} → Option (Port V) → ℕ → Type 0
HasRoomFor None count = Unit {0}
HasRoomFor (Some p) count = length p.backlog.items + count ≤ deque_capacity p.backlog
