use Rattle.std.proofs.Common.{Bool, subst}
use Rattle.dds_cache.specs.Coming.{came, counted, made}
use Rattle.dds_cache.specs.Effects.{ChangesAt}
use Rattle.dds_cache.specs.Standing.{known_at}
use Rattle.dds_cache.proofs.Admitting.{fits, joined_undone}
use Rattle.dds_cache.proofs.accept.arrive.Goals as goal

pub returns-in-Ok-clause-arrives : goal.returns-in-Ok-clause-arrives
returns-in-Ok-clause-arrives g c = record {
  live = c.in_ok-joined.ensures.live;
  gives_up = c.in-Ok.ensures.oldest;
  find = λ counts.
      subst (λ (b : Bool). ChangesAt c.args.pair.1 (made (λ i. came c.args.is_value b (counted c.args.index.now.keep c.args.number i))) (known_at c.args.index.now.instances.entries) (known_at c.enter.new.instances.entries)) c.in_ok-joined.ensures.joined
      (c.in-Ok.ensures.entered (fits c.args.pair c.args.is_value c.args.index.now.live.keys c.join.new.live.keys c.in_ok-joined.joined _ c.len.result c.in_ok-joined.ensures.joined c.in_ok-joined.ensures.live c.len.ensures.len counts));
}

pub returns-then-joined-clause-live : goal.returns-then-joined-clause-live
returns-then-joined-clause-live g c =
    joined_undone c.args.pair c.args.is_value c.args.index.now.live.keys c.join.new.live.keys c.remove.new.self.keys c.in_ok-joined.joined c.if-joined.true c.in_ok-joined.ensures.joined c.in_ok-joined.ensures.live c.remove.ensures.keys
