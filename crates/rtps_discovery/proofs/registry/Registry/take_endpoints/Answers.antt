use Rattle.std.proofs.Common.{◌≡◌, refl, None, map, true, false, ap, sym, ◌∙◌, subst}
use Rattle.std.specs.Prelude.{IfOk, OnOk}
use Rattle.std.specs.Option.{option_map}
use Rattle.rtps_proxy.specs.Replies.{reply_view}
use Rattle.rtps_receiver.specs.Events.{view}
use Rattle.rtps_discovery.specs.Addressed.{is_for}
use Rattle.rtps_discovery.specs.Effects.{AreHeard, match_of}
use Rattle.rtps_discovery.specs.Kept.{IsKnown, kept}
use Rattle.rtps_discovery.specs.Records.{announcer_of, answer_by, changes_by}
use Rattle.rtps_discovery.specs.Seen.{change_seen}
use Rattle.rtps_discovery.proofs.Hearing.{named_if, of_endpoints, unheard_of}
use Rattle.rtps_discovery.proofs.registry.Registry.take_endpoints.Goals as goal

pub returns-then-not-is_for-clause-known : goal.returns-then-not-is_for-clause-known
returns-then-not-is_for-clause-known g c = λ k is.
    let e = view c.args.event.now in
    let not_for : is_for e.reader c.args.reader ≡ false = sym c.is_for.ensures ∙ c.if-not-is_for.true in
    let none : announcer_of k e ≡ None = named_if k e c.args.reader is.announce c.requires.detected ∙ rw not_for refl in
    subst (λ x. IsKnown x (kept c.args.self.now)) (unheard_of k e c.requires.other none).known is

pub returns-then-not-is_for-clause-effects : goal.returns-then-not-is_for-clause-effects
returns-then-not-is_for-clause-effects g c = λ k is.
    let e = view c.args.event.now in
    let not_for : is_for e.reader c.args.reader ≡ false = sym c.is_for.ensures ∙ c.if-not-is_for.true in
    let none : announcer_of k e ≡ None = named_if k e c.args.reader is.announce c.requires.detected ∙ rw not_for refl in
    let gives = unheard_of k e c.requires.other none in
    record { heard = ap (map change_seen) c.silent.ensures.changes ∙ gives.changes; said = ap (option_map reply_view) c.silent.ensures.answer ∙ gives.answer }

pub returns-clause-known : goal.returns-clause-known
returns-clause-known g c = λ k is.
    let e = view c.args.event.now in
    let for_us : is_for e.reader c.args.reader ≡ true = sym c.is_for.ensures ∙ c.if-not-is_for.false in
    let named : announcer_of k e ≡ match_of k e = named_if k e c.args.reader is.announce c.requires.detected ∙ rw for_us refl in
    subst (λ x. OnOk c.hear_announcer.result (IsKnown x (kept c.hear_announcer.new.self))) (of_endpoints k e c.requires.other named).known (c.hear_announcer.ensures.known k is)

pub returns-clause-effects : goal.returns-clause-effects
returns-clause-effects g c = λ k is.
    let e = view c.args.event.now in
    let for_us : is_for e.reader c.args.reader ≡ true = sym c.is_for.ensures ∙ c.if-not-is_for.false in
    let named : announcer_of k e ≡ match_of k e = named_if k e c.args.reader is.announce c.requires.detected ∙ rw for_us refl in
    let gives = of_endpoints k e c.requires.other named in
    subst (λ a. IfOk c.hear_announcer.result (AreHeard (changes_by k e) a)) gives.answer
    (subst (λ l. IfOk c.hear_announcer.result (AreHeard l (answer_by e (match_of k e)))) gives.changes (c.hear_announcer.ensures.effects k is))

pub returns-then-not-is_for-clause-ignored : goal.returns-then-not-is_for-clause-ignored
returns-then-not-is_for-clause-ignored g c = λ k is.
    let e = view c.args.event.now in
    let not_for : is_for e.reader c.args.reader ≡ false = sym c.is_for.ensures ∙ c.if-not-is_for.true in
    let none : announcer_of k e ≡ None = named_if k e c.args.reader is.announce c.requires.detected ∙ rw not_for refl in
    rw (c.requires.other, none) c.silent.ensures.ignored

pub returns-clause-ignored : goal.returns-clause-ignored
returns-clause-ignored g c = λ k is.
    let e = view c.args.event.now in
    let for_us : is_for e.reader c.args.reader ≡ true = sym c.is_for.ensures ∙ c.if-not-is_for.false in
    let named : announcer_of k e ≡ match_of k e = named_if k e c.args.reader is.announce c.requires.detected ∙ rw for_us refl in
    rw (c.requires.other, named) (c.hear_announcer.ensures.ignored k is)
