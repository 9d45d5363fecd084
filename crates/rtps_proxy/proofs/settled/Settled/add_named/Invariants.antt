use Rattle.std.proofs.Common.{◌≡◌, ◌&&◌, ◌||◌, ◌==◌, ℕ, nat_le, nat_lt, true}
use Rattle.std.specs.List.{list_all, list_any}
use Rattle.rtps_types.specs.Number.{value_of}
use Rattle.rtps_types.specs.NumberSet.{members}
use Rattle.rtps_types.specs.Sets.{sn_view}
use Rattle.rtps_receiver.specs.EventBody.{is_taken}
use Rattle.rtps_proxy.specs.Runs.{marks}
use Rattle.rtps_proxy.proofs.settled.Settled.add_named.Given as goal

abbrev pub invariant-loop-member : goal.invariant-loop-member
invariant-loop-member g l = record {
  few : list_all is_taken l.member-iterator ≡ true;
  named : (n : ℕ) → (list_any (λ m. m == n) l.member-iterator || marks l.self.frontier l.self.runs n) ≡ (list_any (λ m. m == n) (members (sn_view l.gap.list)) || ((nat_le (value_of l.gap.start) n && nat_lt n l.gap.list.base) || marks l.fn.self.frontier l.fn.self.runs n));
}
