use Rattle.std.proofs.Common.{◌≡◌, [], List, if◌then◌else◌, Option, sym, ap, ◌∙◌}
use Rattle.std.specs.Option.{unwrap_or}
use Rattle.rtps_proxy.specs.Matches.{is_at}
use Rattle.rtps_discovery.specs.Kept.{ranks_at}
use Rattle.rtps_discovery.proofs.Moving.{one_added}
use Rattle.rtps_discovery.proofs.join.add_rank.Goals as goal
use Rattle.rtps_discovery.proofs.join.add_rank.Goals.{in-Some, in-None}

pub returns : goal.returns
returns g c = λ q.
    let writer = c.args.writer in
    let old = c.args.index.now.entries in
    let listed : c.match-remove.ranks ≡ ranks_at writer old = elim c.match-remove.branch [
      | in-Some w ↦ w.ranks-is ∙ ap (λ (o : Option (List _)). unwrap_or o []) (sym w.in-Some.is ∙ c.remove.ensures.value)
      | in-None w ↦ w.ranks-is ∙ w.new-ranks.ensures ∙ w.new.ensures.items ∙ ap (λ (o : Option (List _)). unwrap_or o []) (sym w.in-None.is ∙ c.remove.ensures.value)
    ] in
    one_added writer q c.args.rank c.match-remove.ranks old c.remove.new.self.entries c.put_ranks.new.index.entries listed (c.remove.ensures.updates.2 q)
    (c.in_ok-put_ranks.ensures q ∙ ap (λ l. if is_at writer q then l else ranks_at q c.remove.new.self.entries) c.in_ok-add.ensures)
