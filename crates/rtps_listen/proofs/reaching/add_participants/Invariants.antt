use Rattle.std.proofs.Common.{◌≡◌, ◌++◌, filter, map}
use Rattle.std.specs.List.{range_with_len}
use Rattle.rtps_listen.specs.Reaching.{is_other, participant_at}
use Rattle.rtps_listen.proofs.reaching.add_participants.Given as goal

abbrev pub invariant-loop-index : goal.invariant-loop-index
invariant-loop-index l =
    l.places.items
    ≡ l.initial.places.items ++ filter (is_other l.own) (map (participant_at l.domain l.peer) (range_with_len 0 l.index))
