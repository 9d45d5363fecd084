use Rattle.std.proofs.Common.{◌≡◌, ◌++◌, filter, take}
use Rattle.std.specs.List.{flat_map}
use Rattle.rtps_listen.specs.Reaching.{first_five, groups_of, is_other}
use Rattle.rtps_listen.proofs.reach.Reach.everyone.Given as goal

abbrev pub invariant-loop-peer : goal.invariant-loop-peer
invariant-loop-peer l =
    l.places.items
    ≡ groups_of l.self.multicast l.self.domain
    ++ flat_map (λ peer. filter (is_other l.own) (first_five l.self.domain peer)) (take l.peer-index l.self.peers.items)
