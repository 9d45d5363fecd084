use Rattle.std.proofs.Common.{◌≡◌, drop, not}
use Rattle.std.specs.Prelude.{filter}
use Rattle.rtps_types.specs.declared.identity.GuidPrefix.{GuidPrefix}
use Rattle.rtps_discovery.specs.Ends.{Covers}
use Rattle.rtps_discovery.specs.Known.{RemoteParticipant, is_of}
use Rattle.rtps_discovery.proofs.leave.forget_participants.Given as goal

-- without those that are left to go, there are those that stay
abbrev pub invariant-loop-prefix : goal.invariant-loop-prefix
invariant-loop-prefix g l = record {
  stay : filter (λ (e : GuidPrefix × RemoteParticipant). not (is_of (drop l.prefix-index l.prefixes) e.0)) l.participants.entries
      ≡ filter (λ (e : GuidPrefix × RemoteParticipant). not (is_of l.prefixes e.0)) l.fn.participants.entries;
  covers : Covers l.fn.leases l.fn.participants.entries → Covers l.leases l.participants.entries;
}
