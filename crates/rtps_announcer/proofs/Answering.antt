-- The answer to an ACKNACK of a peer.
use Rattle.std.proofs.Common.{◌≡◌, List, Some, true, refl}
use Rattle.std.specs.Map.{lookup}
use Rattle.rtps_types.specs.declared.identity.GuidPrefix.{GuidPrefix}
use Rattle.rtps_discovery.specs.Known.{same_prefix}
use Rattle.rtps_announcer.specs.Ack.{AckView}
use Rattle.rtps_announcer.specs.declared.peer.Peer.{Peer}
use Rattle.rtps_announcer.specs.declared.rules.Rules.{Rules}
use Rattle.rtps_announcer.specs.declared.said.Sending.{Sending}
use Rattle.rtps_announcer.specs.Announcing.{State, answer_at, reply}
use Rattle.rtps_announcer.specs.Peer.{is_new}
use Rattle.rtps_announcer.specs.Said.{to_one}

pub answered : (r : Rules) (p : GuidPrefix) (a : AckView) (s : State) (peer : Peer) (sends : List Sending) → lookup (same_prefix p) s.peers ≡ Some peer → is_new peer a ≡ true
    → sends ≡ to_one p peer.to (reply r s peer a) → Some sends ≡ answer_at r p a s
answered r p a s peer sends some new is = rw (is, some, new) refl
