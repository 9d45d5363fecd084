use Rattle.std.proofs.Common.{◌≡◌, ◌∙◌, ap, sym, refl, false, true, is_ok, Err}
use Rattle.rtps_files.specs.declared.fault.FileFault.TheVariants.{BadPrefix}
use Rattle.rtps_files.proofs.Printing.{ends_well, fails, prints_all, prints_front, prints_none, refuses}
use Rattle.rtps_files.proofs.files.explain_file.Goals as goal

pub returns-in_default-clause-refused : goal.returns-in_default-clause-refused
returns-in_default-clause-refused g c =
    refuses c.args.own.now (λ good. let none : false ≡ true = ap is_ok c.in_default.ensures.value ∙ good in cc)

pub returns-in_default-clause-prints : goal.returns-in_default-clause-prints
returns-in_default-clause-prints g c = prints_none _ _ _ _ (Err BadPrefix) BadPrefix refl tt

pub returns-in_err-file-clause-refused : goal.returns-in_err-file-clause-refused
returns-in_err-file-clause-refused g c = fails c.args.own.now _ _ (ap is_ok (sym c.in-Ok.ensures.value)) c.from_residual.ensures.1

pub returns-in_err-file-clause-prints : goal.returns-in_err-file-clause-prints
returns-in_err-file-clause-prints g c = prints_none _ _ _ _ _ _ c.from_residual.ensures.1 c.in_err-file.ensures.fault

pub returns-in_err-explain-clause-refused : goal.returns-in_err-explain-clause-refused
returns-in_err-explain-clause-refused g c = fails c.args.own.now _ _ (ap is_ok (sym c.in-Ok.ensures.value)) c.from_residual-in_err-explain.ensures.1

pub returns-in_err-explain-clause-prints : goal.returns-in_err-explain-clause-prints
returns-in_err-explain-clause-prints g c =
    prints_front _ _ c.in-Ok.prefix _ _ _ _ _ _ _ (sym c.in-Ok.ensures.value) c.in_ok-file.ensures.holds c.from_residual-in_err-explain.ensures.1 c.in_err-explain.ensures.fault

pub returns-clause-refused : goal.returns-clause-refused
returns-clause-refused g c = ends_well c.args.own.now (ap is_ok (sym c.in-Ok.ensures.value))

pub returns-clause-prints : goal.returns-clause-prints
returns-clause-prints g c = prints_all _ _ c.in-Ok.prefix _ _ _ _ (sym c.in-Ok.ensures.value) c.in_ok-file.ensures.holds c.in_ok-explain.ensures.ok
