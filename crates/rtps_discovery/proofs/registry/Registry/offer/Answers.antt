use Rattle.rtps_discovery.proofs.Sizes.{sized_put}
use Rattle.std.proofs.Common.{rules, Some, map, if◌then◌else◌, ap, ◌∙◌}
use Rattle.rtps_proxy.specs.Matches.{is_at}
use Rattle.rtps_discovery.specs.Kept.{kept, ranks_at}
use Rattle.rtps_discovery.specs.Seen.{change_seen}
use Rattle.rtps_discovery.proofs.Turning.{IsStep, offers}
use Rattle.rtps_discovery.proofs.registry.Registry.offer.Goals as goal

pub returns-in-Ok : goal.returns-in-Ok
returns-in-Ok g c =
    let d = kept c.args.self.now in
    let w = c.args.writer in
    let offered = c.in_ok-offered.offered in
    let step : IsStep d.writers c.insert.new.self.entries w (Some offered) = record {
      here = c.in-Ok.ensures.updates.1;
      others = c.in-Ok.ensures.updates.2;
      sorted = c.in-Ok.ensures.ordered;
    } in
    let applies = offers d w offered c.insert.new.self.entries c.put_ranks.new.index.entries (map change_seen c.args.changes.now.items) (map change_seen c.hear.new.changes.items) step
    c.in-Ok.ensures.entries
    (λ q. c.in_ok-put_ranks.ensures q ∙ ap (λ r. if is_at w q then r else ranks_at q d.ranks) c.in_ok-ranks.ensures.ranks)
    c.in_ok-ranks.ensures.changes in
    rw (← c.in_ok-offered.ensures) applies

pub invariant_of-self-2-clause-writers_sized : goal.invariant_of-self-2-clause-writers_sized
invariant_of-self-2-clause-writers_sized g c =
    sized_put c.insert.result c.args.self.now.writers.entries c.insert.new.self.entries c.args.writer c.in_ok-offered.offered c.insert.ensures.entries c.insert.ensures.err (search rules) c.args.self.now.writers_sized
