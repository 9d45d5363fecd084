use Rattle.std.proofs.Common.{false, suc, sym, ◌∙◌, ap, add-one}
use Rattle.std.specs.Prelude.{is_some}
use Rattle.rtps_frags.specs.Chunks.{holds}
use Rattle.rtps_frags.specs.declared.sizes.Sizes.{Sizes}
use Rattle.rtps_frags.proofs.Assembled.{missing_same}
use Rattle.rtps_frags.proofs.Placed.{apart_in}
use Rattle.rtps_frags.proofs.Stored.{stored_is}
use Rattle.rtps_frags.proofs.assembly.missing_of_none.Goals as goal

pub returns : goal.returns
returns g c =
    let p = c.new.result in
    let z : Sizes = record { sample = 0; fragment = 0 } in
    c.missing_up_to.ensures
    ∙ missing_same (holds p) (λ k. false) c.args.last (λ k one le. sym (stored_is z p.next p.buffer.items p.early.entries k) ∙ ap is_some (c.new.ensures.none z k))

pub missing_up_to-requires-clause-begun : goal.missing_up_to-requires-clause-begun
missing_up_to-requires-clause-begun g c = (c.new.ensures.kept (record { sample = 0; fragment = 0 })).kept.begun

pub missing_up_to-requires-clause-apart : goal.missing_up_to-requires-clause-apart
missing_up_to-requires-clause-apart g c =
    let p = c.new.result in
    let z : Sizes = record { sample = 0; fragment = 0 } in
    rw add-one (apart_in z p.buffer.items p.early.entries (suc p.next) (c.new.ensures.kept z).kept.apart)
