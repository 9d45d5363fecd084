use Rattle.std.proofs.Common.{ap₂, ◌∙◌}
use Rattle.dds_xcdr.specs.Types.{type_in, types_of}
use Rattle.idl_files.proofs.Texts.{declares_none, utf8_texts}
use Rattle.idl_files.proofs.files.declared_in.Goals as goal

pub returns-in_default-find-clause-cause : goal.returns-in_default-find-clause-cause
returns-in_default-find-clause-cause c =
    declares_none c.args.texts.now c.args.name.now c.in-Ok-parse.declared c.undeclared.result c.in_default-find.ensures.other c.undeclared.ensures

pub returns-in-Ok-new-clause-declared : goal.returns-in-Ok-new-clause-declared
returns-in-Ok-new-clause-declared c = (
  utf8_texts c.args.texts.now c.in-Ok.sources.items c.in-Ok.ensures
      (rw c.as_slice.ensures.value at c.in-Ok-parse.ensures.utf8),
  (
    c.in-Ok-parse.declared,
    c.in-Some.id,
    c.in-Some.ensures.named,
    ap₂ (λ ts i. type_in (types_of ts) i) (c.in-Ok-new.ensures.is.0 ∙ c.into_types.ensures) c.in-Ok-new.ensures.is.1,
  ),
)
