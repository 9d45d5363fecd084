use Rattle.std.proofs.Common.{ap, ◌∙◌, sym}
use Rattle.dds_outlet.proofs.Keeping.{turns}
use Rattle.dds_outlet.proofs.board.show.Goals as goal

pub show_as-requires : goal.show_as-requires
show_as-requires g c =
    turns _ _ c.open-open.result.0.shown.value c.args.next
    (c.requires ∙ ap (λ p. p.value.front.seen.book) (sym c.open-open.ensures.values.0))
