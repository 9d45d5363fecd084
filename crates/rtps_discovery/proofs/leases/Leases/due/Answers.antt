use Rattle.rtps_discovery.specs.Ends.{has_due, has_prefix}
use Rattle.rtps_discovery.proofs.Ends.{one_found}
use Rattle.rtps_discovery.proofs.leases.Leases.due.Goals as goal

pub due-preserved : goal.due-preserved
due-preserved g c = record {
  found = λ q. one_found c.in-Some.prefix q (has_prefix c.due.found.keys q) (has_prefix c.insert.new.self.keys q) (has_due c.due.ends c.args.moment q) (has_due c.next_due.new.ends c.args.moment q)
      (has_due c.args.self.now c.args.moment q) (c.in_ok-insert.ensures.updates.0 q) (c.in-Some.ensures.some q) (c.due.invariant.found q);
  sorted = c.insert.ensures.ordered;
  left = c.next_due.ensures.sorted;
}
