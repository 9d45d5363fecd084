use Rattle.std.proofs.Common.{◌≡◌, ◌==◌, ap, arith, cond, false, is_eq, sym, ◌∙◌}
use Rattle.std.proofs.lemmas.Bool.Decides.{nat_tests}
use Rattle.rtps_discovery.specs.Ends.{end_order, has_end, soonest_of}
use Rattle.rtps_discovery.proofs.Ends.{first_stays}
use Rattle.rtps_discovery.proofs.leases.Leases.forget.Goals as goal

pub returns-then-last-self : goal.returns-then-last-self
returns-then-last-self g c = λ m p. c.remove.ensures.updates.0 (m, p) ∙ ap (λ es. cond (is_eq (end_order (c.args.last, c.args.prefix) (m, p))) false (has_end es m p)) c.self.view_is

pub returns-else-last-self : goal.returns-else-last-self
returns-else-last-self g c = λ m p. c.remove.ensures.updates.0 (m, p) ∙ ap (λ es. cond (is_eq (end_order (c.args.last, c.args.prefix) (m, p))) false (has_end es m p)) c.self.view_is

pub invariant_of-self-inside-else-last-self : goal.invariant_of-self-inside-else-last-self
invariant_of-self-inside-else-last-self g c =
    let ends = c.self.inside.ends.keys in
    let apart : (c.args.last == c.self.inside.soonest) ≡ false = grind (arith, nat_tests, c.if-last-self.false) in
    let stays : c.self.inside.soonest ≡ soonest_of c.remove.new.self.keys = c.self.inside.first ∙ sym (first_stays ends c.args.last c.args.prefix (rw (← c.self.inside.first) apart)) ∙ ap soonest_of (sym c.remove.ensures.keys) in
    (stays, (c.remove.ensures.ordered, tt))
