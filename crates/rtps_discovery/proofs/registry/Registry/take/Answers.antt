use Rattle.std.proofs.Common.{map, sym, ap, ◌∙◌, subst}
use Rattle.std.specs.Option.{option_map}
use Rattle.rtps_proxy.specs.Replies.{reply_view}
use Rattle.rtps_receiver.specs.Events.{view}
use Rattle.rtps_discovery.specs.Addressed.{writer_of}
use Rattle.rtps_discovery.specs.Kept.{IsKnown, kept}
use Rattle.rtps_discovery.specs.Records.{named_match}
use Rattle.rtps_discovery.specs.Seen.{change_seen}
use Rattle.rtps_discovery.proofs.Announcers.{announcing, is_none, user_writer}
use Rattle.rtps_discovery.proofs.Hearing.{undetected, unheard_of}
use Rattle.rtps_discovery.proofs.registry.Registry.take.Goals as goal

pub returns-in-None-clause-known : goal.returns-in-None-clause-known
returns-in-None-clause-known g c = λ k is.
    let e = view c.args.event.now in
    let user = is_none e.writer (sym c.of.ensures ∙ c.in-None.is) in
    let gives = unheard_of k e user.other (ap (named_match e) (undetected (writer_of e) k.announcers is.announce user.detector)) in
    subst (λ x. IsKnown x (kept c.args.self.now)) gives.known is

pub returns-in-None-clause-effects : goal.returns-in-None-clause-effects
returns-in-None-clause-effects g c = λ k is.
    let e = view c.args.event.now in
    let user = is_none e.writer (sym c.of.ensures ∙ c.in-None.is) in
    let gives = unheard_of k e user.other (ap (named_match e) (undetected (writer_of e) k.announcers is.announce user.detector)) in
    record { heard = ap (map change_seen) c.none.ensures.changes ∙ gives.changes; said = ap (option_map reply_view) c.none.ensures.answer ∙ gives.answer }

pub returns-in-None-clause-ignored : goal.returns-in-None-clause-ignored
returns-in-None-clause-ignored g c = λ k is. rw (user_writer c.args.event.now.writer (sym c.of.ensures ∙ c.in-None.is)) c.none.ensures.ignored

pub returns-in-Some-Participant-clause-ignored : goal.returns-in-Some-Participant-clause-ignored
returns-in-Some-Participant-clause-ignored g c = λ k is. rw (announcing c.args.event.now.writer _ (sym c.of.ensures ∙ c.in-Some-Participant.is)) (c.take_participant.ensures.ignored k is)
