use Rattle.std.proofs.Common.{◌≡◌, ◌≤◌, length, ◌+◌, ◌∷◌, None, if◌then◌else◌, drop, refl, sym, ap, ◌∙◌, rules}
use Rattle.std.specs.List.{list_any}
use Rattle.std.proofs.lemmas.List.{drop_all, drop_more}
use Rattle.rtps_proxy.specs.Matches.{is_at}
use Rattle.rtps_discovery.specs.declared.config.FixedMatch.{FixedMatch}
use Rattle.rtps_discovery.specs.Kept.{ranks_at}
use Rattle.rtps_discovery.specs.OneWriter.{has_rank, matched_from}
use Rattle.rtps_discovery.proofs.Starting.{none_fixed, one_put}
use Rattle.rtps_discovery.proofs.start.index_of.Goals as goal

pub loop-pair-init : goal.loop-pair-init
loop-pair-init g c = λ q none. rw c.new-index.ensures.empty (none_fixed q c.args.pairs.now c.args.readers.now none)

pub loop-pair-preserved : goal.loop-pair-preserved
loop-pair-preserved g c = λ q.
    let i = c.loop-pair.pair-index in
    let p = c.pair-item.result in
    let old = c.loop-pair.index.entries in
    let listed = c.in_ok-listed.listed.entries in
    let left = drop (i + 1) c.args.pairs.now in
    let cut : drop i c.args.pairs.now ≡ p ∷ left = drop_more c.args.pairs.now i p c.loop-pair-test.true ∙ ap (λ (r : FixedMatch). r ∷ left) (sym c.pair-item.is) in
    one_put q p.writer c.args.pairs.now left p c.args.readers.now listed old c.put_ranks.new.index.entries refl
    (c.in_ok-listed.ensures p.writer)
    (c.in_ok-put_ranks.ensures q
    ∙ ap (λ l. if is_at p.writer q then l else ranks_at q old) (c.in_ok-ranks.ensures ∙ ap (λ l. matched_from (has_rank l) None 0 c.args.readers.now) c.ranks_at.ensures))
    (λ none. c.loop-pair.invariant q (ap (λ ps. list_any (λ (o : FixedMatch). is_at o.writer q) ps) cut ∙ none))

pub returns : goal.returns
returns g c = λ q.
    let past : length c.args.pairs.now ≤ c.loop-pair.pair-index = search rules in
    c.loop-pair.invariant q (ap (λ ps. list_any (λ (o : FixedMatch). is_at o.writer q) ps) (drop_all c.loop-pair.pair-index c.args.pairs.now past))
