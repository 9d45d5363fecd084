use Rattle.std.proofs.Common.{◌≡◌, ◌<◌, ◌+◌, ◌==◌, ◌++◌, ◌∷◌, [], ◌∙◌, ap, arith, get_or, if◌then◌else◌, length, map, refl, subst, sym, take, true, false}
use Rattle.std.specs.List.{list_any}
use Rattle.std.proofs.lemmas.List.{take_all, take_more}
use Rattle.rtps_discovery.specs.Known.{reader_at}
use Rattle.rtps_run.specs.Addressed.{is_named}
use Rattle.rtps_planner.specs.Plan.{Grow, burst_at, events_at, taken_in}
use Rattle.rtps_planner.proofs.Passing.{any_named, any_unnamed}
use Rattle.rtps_planner.proofs.Planned.{grow_more, grow_not, rank_more, rank_named, rank_unnamed}
use Rattle.rtps_planner.proofs.steps.add_burst.Goals as goal
use Rattle.rtps_planner.proofs.steps.add_burst.Goals.{then-is_named+in_ok-take_in_at, else-is_named}

pub loop-rank-preserved : goal.loop-rank-preserved
loop-rank-preserved g c =
    let old = c.args.lists.now.items in
    let mid = c.loop-rank.lists.items in
    let readers = c.args.readers.now in
    let ranks = c.args.ranks.now in
    let burst = c.args.burst in
    let i = c.loop-rank.rank-index in
    let rank = get_or ranks i 0 in
    let less : i < length ranks = omega (arith, c.loop-rank-test.true) in
    let more : take (i + 1) ranks ≡ take i ranks ++ rank ∷ [] = take_more ranks i 0 less in
    elim c.if-is_named.branch [
      | then-is_named+in_ok-take_in_at b ↦ record {
        grows = λ es.
            let named : is_named burst.reader (reader_at readers rank) ≡ true = sym c.is_named.ensures ∙ b.if-is_named.true in
            rw b.lists-is
            (grow_more es old mid b.take_in_at.new.lists.items (burst_at es burst readers (take i ranks)) (λ at. if rank == at then map taken_in (events_at es burst.first burst.more) else []) (burst_at es burst readers (take (i + 1) ranks))
            (λ at. ap (λ l. burst_at es burst readers (take i ranks) at ++ l) (rank_named es burst readers rank at named)
            ∙ rank_more es burst readers (take i ranks) rank at ∙ ap (λ l. burst_at es burst readers l at) (sym more))
            (c.loop-rank.invariant.grows es) (b.in_ok-take_in_at.ensures es));
        named = rw b.named-is
            (let named : is_named burst.reader (reader_at readers rank) ≡ true = sym c.is_named.ensures ∙ b.if-is_named.true in
            sym (ap (list_any (λ r. is_named burst.reader (reader_at readers r))) more ∙ any_named (λ r. is_named burst.reader (reader_at readers r)) (take i ranks) rank named));
      }
      | else-is_named b ↦ record {
        grows = λ es.
            let named : is_named burst.reader (reader_at readers rank) ≡ false = sym c.is_named.ensures ∙ b.if-is_named.false in
            rw b.lists-is
            (grow_more es old mid mid (burst_at es burst readers (take i ranks)) (λ at. []) (burst_at es burst readers (take (i + 1) ranks))
            (λ at. ap (λ l. burst_at es burst readers (take i ranks) at ++ l) (sym (rank_unnamed es burst readers rank at named))
            ∙ rank_more es burst readers (take i ranks) rank at ∙ ap (λ l. burst_at es burst readers l at) (sym more))
            (c.loop-rank.invariant.grows es) (grow_not es mid (λ at. []) (λ at. refl)));
        named = rw b.named-is
            (let named : is_named burst.reader (reader_at readers rank) ≡ false = sym c.is_named.ensures ∙ b.if-is_named.false in
            c.loop-rank.invariant.named
            ∙ sym (ap (list_any (λ r. is_named burst.reader (reader_at readers r))) more ∙ any_unnamed (λ r. is_named burst.reader (reader_at readers r)) (take i ranks) rank named));
      }
    ]

pub returns-clause-named : goal.returns-clause-named
returns-clause-named g c =
    let ranks = c.args.ranks.now in
    let whole : take c.loop-rank.rank-index ranks ≡ ranks = take_all c.loop-rank.rank-index ranks (omega (arith, c.loop-rank-test.false)) in
    subst (λ l. c.loop-rank.named ≡ list_any (λ r. is_named c.args.burst.reader (reader_at c.args.readers.now r)) l) whole c.loop-rank.invariant.named

pub returns-clause-grows : goal.returns-clause-grows
returns-clause-grows g c =
    let ranks = c.args.ranks.now in
    let whole : take c.loop-rank.rank-index ranks ≡ ranks = take_all c.loop-rank.rank-index ranks (omega (arith, c.loop-rank-test.false)) in
    λ es. subst (λ l. Grow es c.args.lists.now.items c.loop-rank.lists.items (burst_at es c.args.burst c.args.readers.now l)) whole (c.loop-rank.invariant.grows es)
