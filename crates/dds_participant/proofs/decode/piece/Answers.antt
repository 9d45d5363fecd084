use Rattle.std.proofs.Common.{ap, ◌∙◌, take}
use Rattle.std.proofs.lemmas.List.{take_min}
use Rattle.dds_participant.proofs.decode.piece.Goals as goal

pub returns : goal.returns
returns c =
    let rest = c.split_at.result.1.now in
    c.split_at-2.ensures.front ∙ ap (λ n. take n rest) c.min.ensures ∙ take_min 64 rest ∙ ap (take 64) c.split_at.ensures.back
