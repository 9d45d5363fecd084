use Rattle.std.proofs.Common.{◌∙◌, ap, sym}
use Rattle.dds_outlet.proofs.Adding.{reserve_moves}
use Rattle.dds_outlet.proofs.history.spare_word.Goals as goal

pub compare_exchange-found-requires : goal.compare_exchange-found-requires
compare_exchange-found-requires c =
    let door = c.requires in
    let seen = c.again-seen.ensures in
    let offer = c.plain-offer.ensures in
    let pen = c.no_pen-pen.ensures in
    let book = ap (λ s. s.book) seen ∙ sym (ap (λ w. w.book) door) in (
      ap (λ w. w.tracked) door,
      book,
      pen.0 ∙ book,
      offer.0,
      rw (ap (λ w. w.key) door, pen.1, offer.3, seen)
          (reserve_moves c.args.seen.now.log c.plain-offer.result.ask),
    )
