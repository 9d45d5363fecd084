use Rattle.std.proofs.Common.{◌∙◌, sym, arith}
use Rattle.std.proofs.lemmas.Grind.{common_steps}
use Rattle.rtps_cdr.proofs.Texts.{places_step, places_fault}
use Rattle.rtps_cdr.proofs.strings.behind_strings.Goals as goal

pub returns-in_err-after-clause-value : goal.returns-in_err-after-clause-value
returns-in_err-after-clause-value c =
    let fault = sym c.texts.invariant.leads ∙ places_fault c.args.count c.texts.i _ c.in_err-after.field-0.0 c.texts-test.true c.in_err-after.ensures.value in
    grind (arith, common_steps)

pub texts-preserved : goal.texts-preserved
texts-preserved c = record {
  within = c.in_ok-after.ensures.within;
  leads = places_step c.args.count c.texts.i _ c.in_ok-after.field-0-0 c.in_ok-after.after c.texts-test.true c.in_ok-after.ensures.value ∙ c.texts.invariant.leads;
}
