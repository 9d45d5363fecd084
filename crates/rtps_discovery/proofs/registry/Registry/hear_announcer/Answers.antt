use Rattle.std.proofs.Common.{◌≡◌, ◌++◌, List, None, map, option_to_list, ap, ◌∙◌, subst}
use Rattle.std.specs.List.{flat_map}
use Rattle.std.specs.Option.{option_map}
use Rattle.rtps_receiver.specs.Events.{view}
use Rattle.rtps_proxy.specs.Change.{change_view, ChangeView}
use Rattle.rtps_proxy.specs.History.{match_event_of}
use Rattle.rtps_proxy.specs.Replies.{reply_view}
use Rattle.rtps_discovery.specs.Announcement.{Announcement}
use Rattle.rtps_discovery.specs.Changes.{changes_run, known_run}
use Rattle.rtps_discovery.specs.Effects.{extends, match_of}
use Rattle.rtps_discovery.specs.Ignored.{silent_among}
use Rattle.rtps_discovery.specs.Kept.{IsKnown, kept}
use Rattle.rtps_discovery.specs.Records.{endpoint_in}
use Rattle.rtps_discovery.specs.Seen.{change_seen}
use Rattle.rtps_discovery.proofs.Hearing.{came_for, none_taken, some_taken}
use Rattle.rtps_discovery.proofs.registry.Registry.hear_announcer.Goals as goal

pub returns-then-not-is_matched-clause-known : goal.returns-then-not-is_matched-clause-known
returns-then-not-is_matched-clause-known g c = λ k is.
    let e = view c.args.event.now in
    let none : match_of k e ≡ None = none_taken g.row.A.Denot (match_of k e) (match_event_of e) (rw c.if-not-is_matched.true at (c.in_ok-is_matched.ensures.effects k.announcers is.announcers)) in
    rw none (came_for k (kept c.args.self.now) e c.on_event_into.new.self is (c.in_ok-is_matched.ensures.stands k.announcers is.announcers))

pub returns-then-not-is_matched-clause-effects : goal.returns-then-not-is_matched-clause-effects
returns-then-not-is_matched-clause-effects g c = λ k is.
    let e = view c.args.event.now in
    let none : match_of k e ≡ None = none_taken g.row.A.Denot (match_of k e) (match_event_of e) (rw c.if-not-is_matched.true at (c.in_ok-is_matched.ensures.effects k.announcers is.announcers)) in
    rw none (record { heard = ap (map change_seen) c.silent.ensures.changes; said = ap (option_map reply_view) c.silent.ensures.answer })

pub returns-then-not-is_matched-clause-ignored : goal.returns-then-not-is_matched-clause-ignored
returns-then-not-is_matched-clause-ignored g c = λ k is.
    let e = view c.args.event.now in
    let none : match_of k e ≡ None = none_taken g.row.A.Denot (match_of k e) (match_event_of e) (rw c.if-not-is_matched.true at (c.in_ok-is_matched.ensures.effects k.announcers is.announcers)) in
    rw none c.silent.ensures.ignored

pub returns-clause-known : goal.returns-clause-known
returns-clause-known g c = λ k is.
    let e = view c.args.event.now in
    let took = some_taken (match_of k e) (match_event_of e) c.on_event_into.new.effects (rw c.if-not-is_matched.false at (c.in_ok-is_matched.ensures.effects k.announcers is.announcers)) in
    let said : ChangeView → List Announcement = λ s. option_to_list (endpoint_in e.source e.writer s) in
    let ready = ap (flat_map said) (ap (map change_view) c.as_slice-ready.ensures.value ∙ took.effects.ready) in
    let stands = came_for k (kept c.args.self.now) e c.on_event_into.new.self is (c.in_ok-is_matched.ensures.stands k.announcers is.announcers) in
    rw took.is (subst (λ l. IsKnown (known_run (extends k e) l) (kept c.apply_ready.new.self)) ready (c.in_ok-ignored.ensures.applied.known (extends k e) stands))

pub returns-clause-effects : goal.returns-clause-effects
returns-clause-effects g c = λ k is.
    let e = view c.args.event.now in
    let took = some_taken (match_of k e) (match_event_of e) c.on_event_into.new.effects (rw c.if-not-is_matched.false at (c.in_ok-is_matched.ensures.effects k.announcers is.announcers)) in
    let said : ChangeView → List Announcement = λ s. option_to_list (endpoint_in e.source e.writer s) in
    let ready = ap (flat_map said) (ap (map change_view) c.as_slice-ready.ensures.value ∙ took.effects.ready) in
    let stands = came_for k (kept c.args.self.now) e c.on_event_into.new.self is (c.in_ok-is_matched.ensures.stands k.announcers is.announcers) in
    rw took.is (record { heard = c.in_ok-ignored.ensures.applied.changes (extends k e) stands ∙ ap (λ l. map change_seen l ++ changes_run (extends k e) (flat_map said (map change_view c.as_slice-ready.result.now))) c.new-changes.ensures.items ∙ ap (changes_run (extends k e)) ready; said = took.effects.answer })

pub returns-clause-ignored : goal.returns-clause-ignored
returns-clause-ignored g c = λ k is.
    let e = view c.args.event.now in
    let took = some_taken (match_of k e) (match_event_of e) c.on_event_into.new.effects (rw c.if-not-is_matched.false at (c.in_ok-is_matched.ensures.effects k.announcers is.announcers)) in
    rw took.is (c.in_ok-ignored.ensures.ignored ∙ ap (λ l. silent_among (map (endpoint_in e.source e.writer) l)) (ap (map change_view) c.as_slice-ready.ensures.value ∙ took.effects.ready))
