use Rattle.std.proofs.Common.{sym}
use Rattle.rtps_params.proofs.Steps.{leads_end, leads_fault}
use Rattle.rtps_params.proofs.Grammar.{answer_found, answer_only}
use Rattle.rtps_params.proofs.list.ParamList.new.Goals as goal

pub returns-in-End-clause-found : goal.returns-in-End-clause-found
returns-in-End-clause-found c =
    answer_found _ _ _ (sym (leads_end _ _ _ _ c.loop-after.invariant (sym c.in-End.ensures.value)))

pub returns-in-End-clause-only : goal.returns-in-End-clause-only
returns-in-End-clause-only c =
    answer_only _ _ _ (sym (leads_end _ _ _ _ c.loop-after.invariant (sym c.in-End.ensures.value)))

pub returns-in-Fault-clause-found : goal.returns-in-Fault-clause-found
returns-in-Fault-clause-found c =
    answer_found _ _ _ (sym (leads_fault _ _ _ _ c.loop-after.invariant (sym c.in-Fault.ensures.value)))

pub returns-in-Fault-clause-only : goal.returns-in-Fault-clause-only
returns-in-Fault-clause-only c =
    answer_only _ _ _ (sym (leads_fault _ _ _ _ c.loop-after.invariant (sym c.in-Fault.ensures.value)))
