use Rattle.std.proofs.Common.{◌≡◌, ◌+◌, ◌∷◌, drop, get_or, ap, sym, ◌∙◌}
use Rattle.std.proofs.lemmas.List.{drop_more}
use Rattle.rtps_discovery.specs.Pairs.{with_ranks}
use Rattle.rtps_discovery.proofs.pairs.add_ranks.Goals as goal

pub loop-rank-preserved : goal.loop-rank-preserved
loop-rank-preserved g c =
    let i = c.loop-rank.rank-index in
    let r = get_or c.args.ranks.now i 0 in
    let left = drop (i + 1) c.args.ranks.now in
    let cut : drop i c.args.ranks.now ≡ r ∷ left = drop_more c.args.ranks.now i 0 c.loop-rank-test.true in
    ap (λ ps. with_ranks ps c.args.writer left) c.in_ok-insert.ensures.keys
    ∙ ap (with_ranks c.loop-rank.pairs.keys c.args.writer) (sym cut)
    ∙ c.loop-rank.invariant
