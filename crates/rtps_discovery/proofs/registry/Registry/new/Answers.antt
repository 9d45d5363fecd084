use Rattle.std.proofs.Common.{◌≡◌, List, map, ap, subst, sym, ◌∙◌}
use Rattle.std.specs.Map.{keys_of}
use Rattle.rtps_types.specs.declared.identity.Guid.{Guid}
use Rattle.rtps_discovery.specs.Announcement.{Offer}
use Rattle.rtps_discovery.specs.Kept.{IsKnown}
use Rattle.rtps_discovery.specs.Sized.{are_sized}
use Rattle.rtps_discovery.specs.Start.{first_known, fixed_ranks, pair_of, reader_of}
use Rattle.rtps_discovery.proofs.Sizes.{sized_none}
use Rattle.rtps_discovery.proofs.Starting.{at_first, at_start, few_readers}
use Rattle.rtps_discovery.proofs.registry.Registry.new.Goals as goal

pub index_of-requires : goal.index_of-requires
index_of-requires g c =
    rw (c.deref-2.ensures.value ∙ c.in_ok-readers.ensures ∙ ap (λ l. map reader_of l) c.deref.ensures.value)
    (few_readers c.args.config.now c.requires)

pub index_of-requires-2 : goal.index_of-requires-2
index_of-requires-2 g c =
    rw (c.deref-4.ensures.value ∙ c.in_ok-readers.ensures ∙ ap (λ l. map reader_of l) c.deref.ensures.value)
    (few_readers c.args.config.now c.requires)

pub invariant_of-result-clause-few : goal.invariant_of-result-clause-few
invariant_of-result-clause-few g c =
    rw (c.in_ok-readers.ensures ∙ ap (λ l. map reader_of l) c.deref.ensures.value)
    (few_readers c.args.config.now c.requires)

pub invariant_of-result-clause-writers_sized : goal.invariant_of-result-clause-writers_sized
invariant_of-result-clause-writers_sized g c = ap (λ (l : List (Guid × Offer)). are_sized (keys_of l)) c.new-writers.ensures.empty ∙ sized_none

pub invariant_of-result-clause-readers_sized : goal.invariant_of-result-clause-readers_sized
invariant_of-result-clause-readers_sized g c = ap (λ (l : List (Guid × Unit {0})). are_sized (keys_of l)) c.new-remote_readers.ensures.empty ∙ sized_none

pub returns : goal.returns
returns g c =
    let config = c.args.config.now in
    let fixed = c.in_ok-fixed.fixed.entries in
    let ranks = c.in_ok-ranks.ranks.entries in
    let readers : c.in_ok-readers.readers.items ≡ map reader_of config.readers.items = c.in_ok-readers.ensures ∙ ap (λ l. map reader_of l) c.deref.ensures.value in
    let start = at_start config fixed ranks c.requires
    (λ q. c.in_ok-fixed.ensures q
    ∙ ap (λ ps. fixed_ranks (map pair_of ps) c.deref-2.result.now q) c.deref-3.ensures.value
    ∙ ap (λ rs. fixed_ranks (map pair_of config.fixed.items) rs q) (c.deref-2.ensures.value ∙ readers))
    (λ q. c.in_ok-ranks.ensures q
    ∙ ap (λ ps. fixed_ranks (map pair_of ps) c.deref-4.result.now q) c.deref-5.ensures.value
    ∙ ap (λ rs. fixed_ranks (map pair_of config.fixed.items) rs q) (c.deref-4.ensures.value ∙ readers)) in
    rw (c.new-participants.ensures.empty, c.new-announcers.ensures, c.new-writers.ensures.empty, c.new-remote_readers.ensures.empty, c.new.ensures)
    (subst (λ rs. IsKnown (first_known config) (at_first config.own rs fixed ranks)) (sym readers) start)
