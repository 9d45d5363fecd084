use Rattle.std.proofs.Common.{ap, subst, ◌∙◌}
use Rattle.std.specs.List.Sorted.{IsStrictlySortedBy}
use Rattle.std.proofs.lemmas.Map.Keys.{sorted_tail}
use Rattle.rtps_discovery.specs.Ends.{end_order, has_due}
use Rattle.rtps_discovery.proofs.Ends.{none_sooner, one_sooner}
use Rattle.rtps_discovery.proofs.leases.next_due.Goals as goal

pub returns-clause-some : goal.returns-clause-some
returns-clause-some c q =
    ap (λ es. has_due es c.args.moment q) c.in_ok-end.ensures.steps ∙ one_sooner c.args.moment c.in_ok-end.end.now c.next.new.self c.if-end-moment.false q

pub returns-then-end-moment-clause-none : goal.returns-then-end-moment-clause-none
returns-then-end-moment-clause-none c q =
    ap (λ es. has_due es c.args.moment q) c.in_ok-end.ensures.steps
    ∙ none_sooner c.args.moment c.in_ok-end.end.now c.next.new.self (subst (IsStrictlySortedBy end_order) c.in_ok-end.ensures.steps c.requires) c.if-end-moment.true q

pub returns-then-end-moment-clause-sorted : goal.returns-then-end-moment-clause-sorted
returns-then-end-moment-clause-sorted c = sorted_tail end_order c.in_ok-end.end.now c.next.new.self (subst (IsStrictlySortedBy end_order) c.in_ok-end.ensures.steps c.requires)

pub returns-clause-sorted : goal.returns-clause-sorted
returns-clause-sorted c = sorted_tail end_order c.in_ok-end.end.now c.next.new.self (subst (IsStrictlySortedBy end_order) c.in_ok-end.ensures.steps c.requires)
