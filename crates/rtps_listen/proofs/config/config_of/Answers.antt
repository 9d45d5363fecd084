use Rattle.std.proofs.Common.{◌≡◌, ◌∙◌, true, false, refl, sym, ap, inr, is_ok}
use Rattle.rtps_listen.proofs.Taken.{refused_unmatched, taken_matched}
use Rattle.rtps_listen.proofs.config.config_of.Goals as goal

pub returns-in_default-clause-refused : goal.returns-in_default-clause-refused
returns-in_default-clause-refused c = record {
  prefix = λ bad. refl;
  fixed = λ good bad. let none : false ≡ true = ap is_ok c.in_default.ensures.value ∙ good in cc;
  writer = λ good unmatched. let none : false ≡ true = ap is_ok c.in_default.ensures.value ∙ good in cc;
}

pub returns-in_default-config_with-clause-refused : goal.returns-in_default-config_with-clause-refused
returns-in_default-config_with-clause-refused c = record {
  prefix = λ bad. absurd (bad (ap is_ok (sym c.in-Ok.ensures.value)));
  fixed = λ good bad. absurd (bad (c.in-Ok-writer_in.ensures.found.0 refl));
  writer = λ good unmatched. inr refl;
}

pub returns-in-Ok-check-clause-refused : goal.returns-in-Ok-check-clause-refused
returns-in-Ok-check-clause-refused c = record {
  prefix = λ bad. absurd (bad (ap is_ok (sym c.in-Ok.ensures.value)));
  fixed = λ good bad. absurd (bad (c.in-Ok-writer_in.ensures.found.0 refl));
  writer = λ good unmatched. absurd
      (taken_matched c.args.options.now c.in-Ok.own c.in-Ok-writer_in.writer c.in-Ok-config_with.config c.in-Ok-config_with.ensures
      (record { prefix = sym c.in-Ok.ensures.value; fixed = c.in-Ok-writer_in.ensures.value }) (sym c.check.ensures.checked ∙ c.in-Ok-check.is) unmatched);
}

pub returns-in-Err-check-clause-cause : goal.returns-in-Err-check-clause-cause
returns-in-Err-check-clause-cause c = inr
    (refused_unmatched c.args.options.now c.in-Ok.own c.in-Ok-writer_in.writer c.in-Ok-config_with.config c.in-Err-check.field-0 c.in-Ok-config_with.ensures
    (record { prefix = sym c.in-Ok.ensures.value; fixed = c.in-Ok-writer_in.ensures.value }) (sym c.check.ensures.checked ∙ c.in-Err-check.is))
