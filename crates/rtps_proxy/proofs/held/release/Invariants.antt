use Rattle.std.proofs.Common.{◌≡◌, ◌++◌, map, length}
use Rattle.rtps_proxy.specs.Change.{change_view}
use Rattle.rtps_proxy.specs.Held.{behind_front, front_below}
use Rattle.rtps_proxy.proofs.held.release.Given as goal

abbrev pub invariant-loop-held : goal.invariant-loop-held
invariant-loop-held g l = record {
  taken : map change_view l.ready.items ++ front_below l.frontier (map change_view l.held.items) ≡ map change_view l.fn.ready.items ++ front_below l.frontier (map change_view l.fn.held.items);
  left : behind_front l.frontier (map change_view l.held.items) ≡ behind_front l.frontier (map change_view l.fn.held.items);
}

abbrev pub decreases-loop-held : goal.decreases-loop-held
decreases-loop-held g l = length l.held.items
