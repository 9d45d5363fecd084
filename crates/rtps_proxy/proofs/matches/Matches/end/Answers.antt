use Rattle.std.proofs.Common.{◌≡◌, None, sym, subst, ap, ◌∙◌}
use Rattle.std.specs.Map.{lookup, remove_entry}
use Rattle.std.specs.Ordering.{is_eq}
use Rattle.rtps_proxy.specs.Matches.{AllStand, ended}
use Rattle.rtps_types.specs.Order.{guid_order}
use Rattle.rtps_proxy.proofs.Matching.{ended_stands}
use Rattle.rtps_proxy.proofs.matches.Matches.end.Goals as goal

pub returns : goal.returns
returns g c ms all =
    let kept : AllStand ms c.self.inside.proxies.entries = subst (AllStand ms) (sym c.self.view_is) all in
    let none : lookup (λ k. is_eq (guid_order c.args.writer k)) (remove_entry (λ k. is_eq (guid_order c.args.writer k)) c.self.inside.proxies.entries) ≡ None = ap (lookup (λ k. is_eq (guid_order c.args.writer k))) (sym c.remove.ensures.entries) ∙ c.remove.ensures.updates.1 in
    subst (AllStand (ended c.args.writer ms)) (sym c.remove.ensures.entries) (ended_stands c.args.writer ms c.self.inside.proxies.entries kept none)
