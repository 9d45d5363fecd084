use Rattle.std.proofs.Common.{◌≡◌, None, length}
use Rattle.rtps_announcer.specs.Announcing.{oldest}
use Rattle.rtps_announcer.proofs.peers.oldest_mute.Given as goal

-- the one that is chosen so far goes on through those that are left
abbrev pub invariant-entries : goal.invariant-entries
invariant-entries g l = oldest l.oldest l.entries ≡ oldest None l.peers.entries

abbrev pub decreases-entries : goal.decreases-entries
decreases-entries g l = length l.entries
