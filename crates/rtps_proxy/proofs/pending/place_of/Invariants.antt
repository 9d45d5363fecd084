use Rattle.std.proofs.Common.{◌≡◌, ◌+◌, drop}
use Rattle.rtps_proxy.specs.Pending.{pending_views, place_in}
use Rattle.rtps_proxy.proofs.pending.place_of.Given as goal

abbrev pub invariant-loop-at : goal.invariant-loop-at
invariant-loop-at g l = place_in l.number (pending_views l.pending) ≡ l.at + place_in l.number (pending_views (drop l.at l.pending))
