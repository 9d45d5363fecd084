use Rattle.std.proofs.Common.{◌≡◌, ◌++◌, ap, ◌∙◌}
use Rattle.dds_cache.specs.Effects.{take_shown}
use Rattle.dds_cache.specs.Standing.{parts}
use Rattle.dds_cache.proofs.Answering.{picked, took, took_shown}
use Rattle.dds_cache.proofs.take.take_some.Goals as goal

pub returns-clause-answers : goal.returns-clause-answers
returns-clause-answers g c = λ past s.
    let p = parts {A = g.row.A.Denot} {M = g.row.V.Denot} c.args.index.now c.args.entries.now in
    let is : c.deref.result.now ≡ picked past p s c.args.condition c.args.max = c.deref.ensures.value ∙ c.in_ok-chosen.ensures in
    c.hand_over.ensures.taken ∙ ap (λ l. l ++ take_shown c.deref.result.now c.args.entries.now.entries) c.in_ok-taken.ensures.items
    ∙ took_shown past p s c.args.condition c.args.max c.deref.result.now is

pub returns-clause-stands : goal.returns-clause-stands
returns-clause-stands g c = λ past s.
    let p = parts {A = g.row.A.Denot} {M = g.row.V.Denot} c.args.index.now c.args.entries.now in
    let q = parts {A = g.row.A.Denot} {M = g.row.V.Denot} c.hand_over.new.index c.hand_over.new.entries in
    let is : c.deref.result.now ≡ picked past p s c.args.condition c.args.max = c.deref.ensures.value ∙ c.in_ok-chosen.ensures in
    took past p s c.args.condition c.args.max c.deref.result.now q is
    (record { keep = c.hand_over.ensures.same.0; accepted = c.hand_over.ensures.same.1; entries = c.hand_over.ensures.left; find = c.hand_over.ensures.find; live = c.hand_over.ensures.same.2 })
