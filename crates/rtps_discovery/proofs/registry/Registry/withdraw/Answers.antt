use Rattle.std.specs.Map.{keys_of}
use Rattle.rtps_discovery.specs.Sized.{are_sized}
use Rattle.rtps_discovery.proofs.Sizes.{sized_remove}
use Rattle.std.proofs.Common.{None, map, if◌then◌else◌, ap, ◌∙◌}
use Rattle.rtps_proxy.specs.Matches.{is_at}
use Rattle.rtps_discovery.specs.Kept.{kept, ranks_at}
use Rattle.rtps_discovery.specs.Seen.{change_seen}
use Rattle.rtps_discovery.proofs.Turning.{IsStep, withdraws}
use Rattle.rtps_discovery.proofs.registry.Registry.withdraw.Goals as goal

pub returns : goal.returns
returns g c =
    let d = kept c.args.self.now in
    let w = c.args.writer in
    let step : IsStep d.writers c.remove.new.self.entries w None = record {
      here = c.remove.ensures.updates.1;
      others = c.remove.ensures.updates.2;
      sorted = c.remove.ensures.ordered;
    } in
    withdraws d w c.remove.new.self.entries c.put_ranks.new.index.entries (map change_seen c.args.changes.now.items) (map change_seen c.hear.new.changes.items) step
    c.remove.ensures.entries
    (λ q. c.in_ok-put_ranks.ensures q ∙ ap (λ r. if is_at w q then r else ranks_at q d.ranks) c.in_ok-ranks.ensures.ranks)
    c.in_ok-ranks.ensures.changes

pub invariant_of-self-2-clause-writers_sized : goal.invariant_of-self-2-clause-writers_sized
invariant_of-self-2-clause-writers_sized g c =
    ap (λ l. are_sized (keys_of l)) c.remove.ensures.entries ∙ sized_remove (is_at c.args.writer) c.args.self.now.writers.entries c.args.self.now.writers_sized
