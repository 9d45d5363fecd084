use Rattle.std.proofs.Common.{◌≡◌, ◌+◌, [], ◌∷◌, ◌++◌, ◌||◌, if◌then◌else◌, drop, map, sym, ap, ◌∙◌}
use Rattle.std.proofs.lemmas.List.{drop_more}
use Rattle.rtps_proxy.specs.Matches.{is_at}
use Rattle.rtps_discovery.specs.declared.config.FixedMatch.{FixedMatch}
use Rattle.rtps_discovery.specs.Kept.{ranks_at}
use Rattle.rtps_discovery.specs.Known.{is_fixed}
use Rattle.rtps_discovery.specs.OneWriter.{has_rank}
use Rattle.rtps_discovery.specs.Start.{pair_of}
use Rattle.rtps_discovery.proofs.Starting.{one_more}
use Rattle.rtps_discovery.proofs.start.listed.Goals as goal

pub loop-pair-preserved : goal.loop-pair-preserved
loop-pair-preserved g c = λ q rank.
    let i = c.loop-pair.pair-index in
    let p = c.pair-item.result in
    let old = c.loop-pair.index.entries in
    let left = drop (i + 1) c.args.pairs.now in
    let cut : drop i c.args.pairs.now ≡ p ∷ left = drop_more c.args.pairs.now i p c.loop-pair-test.true ∙ ap (λ (r : FixedMatch). r ∷ left) (sym c.pair-item.is) in
    one_more q p.writer p.rank rank old c.put_ranks.new.index.entries (map pair_of left)
    (c.in_ok-put_ranks.ensures q
    ∙ ap (λ l. if is_at p.writer q then l else ranks_at q old) (c.in_ok-ranks.ensures ∙ ap (λ l. l ++ p.rank ∷ []) c.ranks_at.ensures))
    ∙ ap (λ ps. has_rank (ranks_at q old) rank || is_fixed (map pair_of ps) rank q) (sym cut)
    ∙ c.loop-pair.invariant q rank
