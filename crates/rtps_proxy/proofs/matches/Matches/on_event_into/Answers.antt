use Rattle.std.proofs.Common.{◌≡◌, Option, true, Some, None, sym, ◌∙◌, ap, subst, rules}
use Rattle.std.specs.Map.{lookup, set_value}
use Rattle.std.specs.Option.{option_copied_mut}
use Rattle.std.specs.Ordering.{is_eq}
use Rattle.std.proofs.lemmas.Map.Steps.{set_value_same}
use Rattle.rtps_proxy.specs.Effects.{match_event}
use Rattle.rtps_proxy.specs.Matches.{AllStand, IsSpentAt, extended}
use Rattle.rtps_proxy.specs.Kept.{ProxyView}
use Rattle.rtps_types.specs.Order.{guid_order}
use Rattle.rtps_proxy.proofs.Matching.{matched, not_matched}
use Rattle.rtps_proxy.proofs.matches.Matches.on_event_into.Goals as goal

pub returns-in_default-clause-stands : goal.returns-in_default-clause-stands
returns-in_default-clause-stands g c ms all =
    let w = c.args.writer in
    let e = match_event c.args.time c.args.brought.now in
    let none : lookup (λ k. is_eq (guid_order w k)) c.self.inside.proxies.entries ≡ None = sym c.get_mut.ensures.value ∙ ap option_copied_mut c.in_default.is in
    let kept : AllStand ms c.self.inside.proxies.entries = subst (AllStand ms) (sym c.self.view_is) all in
    let same : c.get_mut.follows.lender-at-none.entries ≡ c.self.inside.proxies.entries = search rules in
    rw ((not_matched w e ms c.self.inside.proxies.entries kept none).0, same) kept

pub returns-in_default-clause-effects : goal.returns-in_default-clause-effects
returns-in_default-clause-effects g c ms all =
    let w = c.args.writer in
    let e = match_event c.args.time c.args.brought.now in
    let none : lookup (λ k. is_eq (guid_order w k)) c.self.inside.proxies.entries ≡ None = sym c.get_mut.ensures.value ∙ ap option_copied_mut c.in_default.is in
    let kept : AllStand ms c.self.inside.proxies.entries = subst (AllStand ms) (sym c.self.view_is) all in
    rw (not_matched w e ms c.self.inside.proxies.entries kept none).1 tt

pub returns-clause-stands : goal.returns-clause-stands
returns-clause-stands g c ms all =
    let w = c.args.writer in
    let e = match_event c.args.time c.args.brought.now in
    let some : lookup (λ k. is_eq (guid_order w k)) c.self.inside.proxies.entries ≡ Some c.in-Some.proxy.now = sym c.get_mut.ensures.value ∙ ap option_copied_mut c.in-Some.is in
    let kept : AllStand ms c.self.inside.proxies.entries = subst (AllStand ms) (sym c.self.view_is) all in
    let found = matched w e ms c.self.inside.proxies.entries c.in-Some.proxy.now kept some in
    subst (AllStand (extended w e ms)) (sym (c.get_mut.follows.holds c.on_event_into.new.self).0)
    (found.after c.on_event_into.new.self c.in_ok-on_event_into.ensures.takes.pairing (c.in_ok-on_event_into.ensures.takes.stands found.match.past found.stands))

pub returns-clause-effects : goal.returns-clause-effects
returns-clause-effects g c ms all =
    let w = c.args.writer in
    let e = match_event c.args.time c.args.brought.now in
    let some : lookup (λ k. is_eq (guid_order w k)) c.self.inside.proxies.entries ≡ Some c.in-Some.proxy.now = sym c.get_mut.ensures.value ∙ ap option_copied_mut c.in-Some.is in
    let kept : AllStand ms c.self.inside.proxies.entries = subst (AllStand ms) (sym c.self.view_is) all in
    let found = matched w e ms c.self.inside.proxies.entries c.in-Some.proxy.now kept some in
    rw (found.is, found.pairing) (c.in_ok-on_event_into.ensures.takes.effects found.match.past found.stands)

pub returns-in_err-on_event_into-clause-err : goal.returns-in_err-on_event_into-clause-err
returns-in_err-on_event_into-clause-err g c =
    let w = c.args.writer in
    let some : lookup (λ k. is_eq (guid_order w k)) c.self.inside.proxies.entries ≡ Some c.in-Some.proxy.now = sym c.get_mut.ensures.value ∙ ap option_copied_mut c.in-Some.is in
    let spent : c.on_event_into.new.self.spent ≡ true = search rules in
    let at : IsSpentAt w c.self.inside.proxies.entries (c.get_mut.follows.lender c.on_event_into.new.self).entries =
    record {
      was = c.in-Some.proxy.now;
      kept = c.on_event_into.new.self;
      found = some;
      pairing = c.on_event_into.ensures.takes.pairing;
      spent = spent;
      others = (c.get_mut.follows.holds c.on_event_into.new.self).0;
    } in
    let here : IsSpentAt w c.args.self.now (c.get_mut.follows.lender c.on_event_into.new.self).entries = subst (λ old. IsSpentAt w old (c.get_mut.follows.lender c.on_event_into.new.self).entries) c.self.view_is at in
    search rules

-- the proxy that is found is the spent one
is_the_spent_one : (found : Option ProxyView) (p k : ProxyView) → found ≡ Some p → found ≡ Some k → k.spent ≡ true → p.spent ≡ true
is_the_spent_one found p k is_p is_k is_spent =
    let both : Some p ≡ Some k = sym is_p ∙ is_k in
    let same : p ≡ k = cc in
    ap (λ (q : ProxyView). q.spent) same ∙ is_spent

pub returns-in_default-clause-spent : goal.returns-in_default-clause-spent
returns-in_default-clause-spent g c k found is_spent =
    let w = c.args.writer in
    let none : lookup (λ k. is_eq (guid_order w k)) c.self.inside.proxies.entries ≡ None = sym c.get_mut.ensures.value ∙ ap option_copied_mut c.in_default.is in
    let some : lookup (λ k. is_eq (guid_order w k)) c.self.inside.proxies.entries ≡ Some k = ap (lookup (λ k. is_eq (guid_order w k))) c.self.view_is ∙ found in
    let both : None ≡ Some k = sym none ∙ some in
    absurd cc

pub returns-in_err-on_event_into-clause-spent : goal.returns-in_err-on_event_into-clause-spent
returns-in_err-on_event_into-clause-spent g c k found is_spent =
    let w = c.args.writer in
    let at : lookup (λ k. is_eq (guid_order w k)) c.self.inside.proxies.entries ≡ Some c.in-Some.proxy.now = sym c.get_mut.ensures.value ∙ ap option_copied_mut c.in-Some.is in
    let some : lookup (λ k. is_eq (guid_order w k)) c.self.inside.proxies.entries ≡ Some k = ap (lookup (λ k. is_eq (guid_order w k))) c.self.view_is ∙ found in
    let was : c.in-Some.proxy.now.spent ≡ true = is_the_spent_one _ c.in-Some.proxy.now k at some is_spent in
    let still : c.on_event_into.new.self ≡ c.in-Some.proxy.now = c.on_event_into.ensures.takes.still was in
    let put : (c.get_mut.follows.lender c.on_event_into.new.self).entries ≡ set_value (λ k. is_eq (guid_order w k)) c.self.inside.proxies.entries c.on_event_into.new.self = (c.get_mut.follows.holds c.on_event_into.new.self).0 in
    let left : set_value (λ k. is_eq (guid_order w k)) c.self.inside.proxies.entries c.in-Some.proxy.now ≡ c.self.inside.proxies.entries = set_value_same (λ k. is_eq (guid_order w k)) c.self.inside.proxies.entries c.in-Some.proxy.now at in
    (search rules, put ∙ ap (set_value (λ k. is_eq (guid_order w k)) c.self.inside.proxies.entries) still ∙ left ∙ c.self.view_is)

pub returns-in_err-on_event_into-clause-still : goal.returns-in_err-on_event_into-clause-still
returns-in_err-on_event_into-clause-still g c k found is_spent =
    let w = c.args.writer in
    let at : lookup (λ k. is_eq (guid_order w k)) c.self.inside.proxies.entries ≡ Some c.in-Some.proxy.now = sym c.get_mut.ensures.value ∙ ap option_copied_mut c.in-Some.is in
    let some : lookup (λ k. is_eq (guid_order w k)) c.self.inside.proxies.entries ≡ Some k = ap (lookup (λ k. is_eq (guid_order w k))) c.self.view_is ∙ found in
    c.on_event_into.ensures.lent (is_the_spent_one _ c.in-Some.proxy.now k at some is_spent)

pub returns-clause-spent : goal.returns-clause-spent
returns-clause-spent g c k found is_spent =
    let w = c.args.writer in
    let at : lookup (λ k. is_eq (guid_order w k)) c.self.inside.proxies.entries ≡ Some c.in-Some.proxy.now = sym c.get_mut.ensures.value ∙ ap option_copied_mut c.in-Some.is in
    let some : lookup (λ k. is_eq (guid_order w k)) c.self.inside.proxies.entries ≡ Some k = ap (lookup (λ k. is_eq (guid_order w k))) c.self.view_is ∙ found in
    let refused = c.in_ok-on_event_into.ensures.takes.spent (is_the_spent_one _ c.in-Some.proxy.now k at some is_spent) in
    absurd cc

pub returns-clause-still : goal.returns-clause-still
returns-clause-still g c k found is_spent =
    let w = c.args.writer in
    let at : lookup (λ k. is_eq (guid_order w k)) c.self.inside.proxies.entries ≡ Some c.in-Some.proxy.now = sym c.get_mut.ensures.value ∙ ap option_copied_mut c.in-Some.is in
    let some : lookup (λ k. is_eq (guid_order w k)) c.self.inside.proxies.entries ≡ Some k = ap (lookup (λ k. is_eq (guid_order w k))) c.self.view_is ∙ found in
    let refused = c.in_ok-on_event_into.ensures.takes.spent (is_the_spent_one _ c.in-Some.proxy.now k at some is_spent) in
    absurd cc
