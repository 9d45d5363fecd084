use Rattle.std.proofs.Common.{◌≡◌}
use Rattle.std.specs.List.{list_all}
use Rattle.rtps_types.specs.NumberSet.{members}
use Rattle.rtps_types.specs.Sets.{sn_view}
use Rattle.rtps_receiver.specs.EventBody.{is_taken}
use Rattle.rtps_receiver.proofs.brought.has_only_changes.Given as goal

abbrev pub invariant-loop-number : goal.invariant-loop-number
invariant-loop-number l = list_all is_taken l.number-iterator ≡ list_all is_taken (members (sn_view l.list))
