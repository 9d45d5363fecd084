use Rattle.std.proofs.Common.{false, refl, rules, true, Ok, Err}
use Rattle.rtps_listen.proofs.Printing.{heard_fault, listens_by}
use Rattle.rtps_listen.proofs.Refused.{is_err}
use Rattle.rtps_listen.proofs.domain.run_over.Goals as goal

pub returns-in_err-listen-clause-listens : goal.returns-in_err-listen-clause-listens
returns-in_err-listen-clause-listens g c =
    listens_by _ _ _ c.live_setup_of-setup.result true _ _ _ _ (Err _) _ (search rules) c.live_setup_of-setup.ensures c.in_err-listen.ensures.prints
    (is_err _ _ c.from_residual.ensures.1)

pub returns-in_err-listen-clause-fault : goal.returns-in_err-listen-clause-fault
returns-in_err-listen-clause-fault g c = heard_fault _ _ c.from_residual.ensures.1

pub returns-then-options-clause-listens : goal.returns-then-options-clause-listens
returns-then-options-clause-listens g c =
    listens_by _ _ _ c.live_setup_of-setup.result true _ _ _ _ (Ok tt) (Ok tt) (search rules) c.live_setup_of-setup.ensures c.in_ok-listen.ensures.prints refl

pub returns-in_err-listen-2-clause-listens : goal.returns-in_err-listen-2-clause-listens
returns-in_err-listen-2-clause-listens g c =
    listens_by _ _ _ c.live_setup_of-setup-2.result false _ _ _ _ (Err _) _ (search rules) c.live_setup_of-setup-2.ensures c.in_err-listen-2.ensures.prints
    (is_err _ _ c.from_residual-in_err-listen-2.ensures.1)

pub returns-in_err-listen-2-clause-fault : goal.returns-in_err-listen-2-clause-fault
returns-in_err-listen-2-clause-fault g c = heard_fault _ _ c.from_residual-in_err-listen-2.ensures.1

pub returns-clause-listens : goal.returns-clause-listens
returns-clause-listens g c =
    listens_by _ _ _ c.live_setup_of-setup-2.result false _ _ _ _ (Ok tt) (Ok tt) (search rules) c.live_setup_of-setup-2.ensures c.in_ok-listen-2.ensures.prints refl
