use Rattle.std.proofs.Common.{◌≡◌, ◌++◌, length, map}
use Rattle.rtps_types.specs.declared.identity.GuidPrefix.{GuidPrefix}
use Rattle.rtps_announcer.specs.declared.peer.Peer.{Peer}
use Rattle.rtps_announcer.specs.declared.said.Said.TheVariants.{Bye}
use Rattle.rtps_announcer.specs.Said.{to_peer}
use Rattle.rtps_announcer.proofs.peers.send_farewells.Given as goal

-- what was said so far, with what is said to the peers that are left, is all
abbrev pub invariant-entries : goal.invariant-entries
invariant-entries g l =
    l.sends.items ++ map (λ (e : GuidPrefix × Peer). to_peer e.0 e.1.to Bye) l.entries
    ≡ l.fn.sends.items ++ map (λ (e : GuidPrefix × Peer). to_peer e.0 e.1.to Bye) l.peers.entries

abbrev pub decreases-entries : goal.decreases-entries
decreases-entries g l = length l.entries
