use Rattle.std.proofs.Common.{◌≡◌, ◌||◌, length}
use Rattle.std.specs.List.Sorted.{IsStrictlySortedBy}
use Rattle.rtps_types.specs.declared.identity.GuidPrefix.{GuidPrefix}
use Rattle.rtps_discovery.specs.Ends.{end_order, has_due, has_prefix}
use Rattle.rtps_discovery.specs.Known.{prefix_order}
use Rattle.rtps_discovery.proofs.leases.Leases.due.Given as goal

-- those that are found and those that are left are all that are due
abbrev pub invariant-due : goal.invariant-due
invariant-due g l = record {
  found : (q : GuidPrefix) → (has_prefix l.found.keys q || has_due l.ends l.moment q) ≡ has_due l.self l.moment q;
  sorted : IsStrictlySortedBy prefix_order l.found.keys;
  left : IsStrictlySortedBy end_order l.ends;
}

abbrev pub decreases-due : goal.decreases-due
decreases-due g l = length l.ends
