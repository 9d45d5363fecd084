use Rattle.idl_files.proofs.Texts.{declared_all}
use Rattle.idl_files.proofs.files.declared_type.Goals as goal

pub returns-in-Ok-clause-declared : goal.returns-in-Ok-clause-declared
returns-in-Ok-clause-declared g c =
    declared_all _ c.args.names.now c.args.name.now _ c.add_texts.new.texts.items c.declared_in.result c.new-texts.ensures.items c.in-Ok.ensures.added
    (rw c.as_slice.ensures.value at c.declared_in.ensures.declared)
