use Rattle.std.proofs.Common.{◌≡◌, List, OnOk, Some, ◌∙◌, ap, refl, rules, subst, sym}
use Rattle.std.specs.Prelude.{is_some}
use Rattle.std.specs.BTreeMap.{insert_entry}
use Rattle.std.specs.Option.{option_copied_mut}
use Rattle.rtps_types.specs.declared.identity.GuidPrefix.{GuidPrefix}
use Rattle.rtps_discovery.specs.Announcement.{Comes}
use Rattle.rtps_discovery.specs.Ends.{EndsAt, Renews, end_of}
use Rattle.rtps_discovery.specs.Kept.{Applies, kept, participant_in}
use Rattle.rtps_discovery.specs.Known.{RemoteParticipant, prefix_order}
use Rattle.rtps_discovery.specs.Seen.{facts_seen}
use Rattle.rtps_discovery.proofs.Coming.{comes}
use Rattle.rtps_discovery.proofs.Ends.{covers_then}
use Rattle.rtps_discovery.proofs.Guids.{prefix_total}
use Rattle.rtps_discovery.proofs.Inserted.{put_again}
use Rattle.rtps_discovery.proofs.registry.Registry.come.Goals as goal

pub returns-in_default : goal.returns-in_default
returns-in_default g c = λ earlier.
    let d = kept c.args.self.now in
    let same : c.get_mut.follows.lender-at-none.entries ≡ d.participants = search rules in
    subst (λ (ps : List (GuidPrefix × RemoteParticipant)). OnOk c.welcome.result (Applies (Comes c.args.prefix (facts_seen c.args.facts)) (record d { participants = ps }) (kept c.welcome.new.self) earlier earlier)) same (c.welcome.ensures earlier)

pub returns : goal.returns
returns g c = λ earlier.
    let d = kept c.args.self.now in
    let p = c.args.prefix in
    let f = facts_seen c.args.facts in
    let es = c.args.self.now.participants.entries in
    let ps = (c.get_mut.follows.lender c.hear.new.self).entries in
    let some : participant_in p d.participants ≡ Some c.in-Some.known.now = sym c.get_mut.ensures.value ∙ ap option_copied_mut c.in-Some.is in
    let written = c.get_mut.follows.holds c.hear.new.self in
    comes d p f ps c.renew.new.self d.announcers earlier
    (written.0 ∙ put_again prefix_order prefix_total es p c.in-Some.known.now c.hear.new.self c.get_mut.ensures.ordered some ∙ ap (insert_entry prefix_order es p) c.in_ok-hear.ensures)
    written.4
    (λ covers.
    let was : end_of (participant_in p d.participants) ≡ c.deadline-earlier.result = ap end_of some ∙ ap (λ x. end_of (Some x)) (sym c.known.view_is) ∙ sym c.deadline-earlier.ensures in
    let is : c.deadline-last.result ≡ end_of (Some c.hear.new.self) = c.deadline-last.ensures ∙ ap (λ x. end_of (Some x)) (sym c.in_ok-hear.ensures) in
    let ended : EndsAt p c.deadline-earlier.result d.leases = subst (λ o. EndsAt p o d.leases) was (covers p) in
    let renews : Renews p (end_of (Some c.hear.new.self)) d.leases c.renew.new.self = subst (λ o. Renews p o d.leases c.renew.new.self) is (c.in_ok-renew.ensures ended) in
    covers_then p (Some c.hear.new.self) d.leases c.renew.new.self d.participants ps renews (written.3 (rw some refl)).0 covers)
    (λ ms all. rw (ap is_some some) all)
