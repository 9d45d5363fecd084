use Rattle.std.proofs.Common.{◌∙◌, ap, refl}
use Rattle.idl_files.specs.Types.{named}
use Rattle.idl_files.proofs.Texts.{sources_more}
use Rattle.idl_files.proofs.files.sources_of.Goals as goal

pub loop-text-init : goal.loop-text-init
loop-text-init c = rw c.new-sources.ensures.items refl

pub loop-text-preserved : goal.loop-text-preserved
loop-text-preserved c =
    sources_more c.args.texts.now c.loop-text.sources.items c.push.new.self.items c.loop-text.text-index _
    (record { name = c.text-item.result.name; text = c.as_slice.result }) c.loop-text-test.true c.loop-text.invariant c.in_ok-push.ensures.items
    (ap (λ o. (c.text-item.result.name.now, o)) c.as_slice.ensures.value ∙ ap named c.text-item.is)
