use Rattle.std.proofs.Common.{◌≡◌, None, ap, ◌∙◌, subst}
use Rattle.std.specs.Option.{option_map}
use Rattle.rtps_proxy.specs.Replies.{reply_view}
use Rattle.rtps_receiver.specs.Events.{view}
use Rattle.rtps_discovery.specs.Addressed.{writer_of}
use Rattle.rtps_discovery.specs.Changes.{changes_run, known_run}
use Rattle.rtps_discovery.specs.Ignored.{participant_records, silent_among}
use Rattle.rtps_discovery.specs.Kept.{IsKnown, kept}
use Rattle.rtps_discovery.specs.Records.{announcer_of, named_match, participants_in}
use Rattle.rtps_discovery.proofs.Hearing.{of_participants, spdp_undetected, undetected}
use Rattle.rtps_discovery.proofs.registry.Registry.take_participant.Goals as goal

pub returns-clause-known : goal.returns-clause-known
returns-clause-known g c = λ k is.
    let e = view c.args.event.now in
    let none : announcer_of k e ≡ None = ap (named_match e) (undetected (writer_of e) k.announcers is.announce (spdp_undetected e.writer c.requires)) in
    let gives = of_participants k e c.requires none in
    subst (λ x. IsKnown x (kept c.hear_participant.new.self)) gives.known
    (subst (λ o. IsKnown (known_run k (participants_in o e)) (kept c.hear_participant.new.self)) is.own (c.in_ok-effects.ensures.applied.known k is))

pub returns-clause-effects : goal.returns-clause-effects
returns-clause-effects g c = λ k is.
    let e = view c.args.event.now in
    let none : announcer_of k e ≡ None = ap (named_match e) (undetected (writer_of e) k.announcers is.announce (spdp_undetected e.writer c.requires)) in
    let gives = of_participants k e c.requires none in
    record {
      heard = c.in_ok-effects.ensures.applied.changes k is ∙ ap (λ o. changes_run k (participants_in o e)) is.own ∙ gives.changes;
      said = ap (option_map reply_view) c.in_ok-effects.ensures.answer ∙ gives.answer;
    }

pub returns-clause-ignored : goal.returns-clause-ignored
returns-clause-ignored g c = λ k is.
    let e = view c.args.event.now in
    rw c.requires (c.in_ok-effects.ensures.ignored ∙ ap (λ o. silent_among (participant_records o e)) is.own)
