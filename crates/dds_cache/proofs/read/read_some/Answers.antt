use Rattle.std.proofs.Common.{◌≡◌, map, ap, ◌∙◌}
use Rattle.dds_cache.specs.Lent.{answer_at}
use Rattle.dds_cache.specs.Standing.{parts}
use Rattle.dds_cache.proofs.Answering.{picked}
use Rattle.dds_cache.proofs.Reading.{read_answers, was_read}
use Rattle.dds_cache.proofs.read.read_some.Goals as goal

pub returns-clause-answers : goal.returns-clause-answers
returns-clause-answers g c = λ past s.
    let p = parts {A = g.row.A.Denot} {M = g.row.V.Denot} c.args.index.now c.args.shelf.now.entries in
    let is : c.in_ok-chosen.chosen.items ≡ picked past p s c.args.condition c.args.max = c.in_ok-chosen.ensures in
    let cut : c.deref.result.now ≡ c.in_ok-chosen.chosen.items = c.deref.ensures.value in
    ap (λ es. map (answer_at es) c.in_ok-chosen.chosen.items) (rw cut at c.mark_all.ensures.marked) ∙ read_answers past p s c.args.condition c.args.max c.in_ok-chosen.chosen.items is

pub returns-clause-stands : goal.returns-clause-stands
returns-clause-stands g c = λ past s.
    let p = parts {A = g.row.A.Denot} {M = g.row.V.Denot} c.args.index.now c.args.shelf.now.entries in
    let q = parts {A = g.row.A.Denot} {M = g.row.V.Denot} c.mark_all.new.index c.mark_all.new.entries in
    let is : c.deref.result.now ≡ picked past p s c.args.condition c.args.max = c.deref.ensures.value ∙ c.in_ok-chosen.ensures in
    was_read past p s c.args.condition c.args.max c.deref.result.now q is
    (record { keep = c.mark_all.ensures.same.0; accepted = c.mark_all.ensures.same.1; entries = c.mark_all.ensures.marked; find = c.mark_all.ensures.find; live = c.mark_all.ensures.same.2 })
