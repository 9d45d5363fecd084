-- The state chart of an instance (DDS 1.4, 2.2.2.5.1.3).
use Rattle.std.specs.Prelude.{List, Bool, not, ◌&&◌, if◌then◌else◌}
use Rattle.std.specs.List.{list_any}
use Rattle.rtps_types.specs.declared.identity.Guid.{Guid}
use Rattle.rtps_types.specs.declared.identity.KeyHash.{KeyHash}
use Rattle.rtps_proxy.specs.Matches.{same_guid}
use Rattle.dds_cache.specs.declared.state.InstanceState.{InstanceState}
use Rattle.dds_cache.specs.declared.state.InstanceState.TheVariants.{Alive, Disposed, NoWriters}
use Rattle.dds_cache.specs.Calls.{Done}
use Rattle.dds_cache.specs.Instances.{About, AValue, ADisposal, AnUnregistration, Nothing, brought, is_live}

-- a writer besides this one is live in the instance
abbrev pub has_other : {M : Type 0} → List (Done M) → KeyHash → Guid → Bool
has_other past k w = list_any (brought (λ v. not (same_guid w v) && is_live past k v) k) past

-- the state after a writer goes: an alive instance stays alive while another writer is live, and a
-- disposed one stays disposed
abbrev pub without_writer : Bool → InstanceState → InstanceState
without_writer others Alive = if others then Alive else NoWriters
without_writer others Disposed = Disposed
without_writer others NoWriters = NoWriters

-- the state after a notice, by what it says of the instance, whether the match with its writer
-- ended, and whether another writer is live
abbrev pub state_after : About → Bool → Bool → InstanceState → InstanceState
state_after AValue ended others s = Alive
state_after ADisposal ended others s = Disposed
state_after AnUnregistration ended others s = without_writer others s
state_after Nothing ended others s = if ended then without_writer others s else s
