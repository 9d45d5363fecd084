use Rattle.std.proofs.Common.{◌≡◌, false, List, None, Some, ◌∙◌, ap, subst}
use Rattle.std.specs.Prelude.{is_some}
use Rattle.std.specs.BTreeMap.{insert_entry}
use Rattle.rtps_types.specs.declared.locator.Locator.{Locator}
use Rattle.rtps_discovery.specs.Ends.{EndsAt, Renews, end_of}
use Rattle.rtps_discovery.specs.Kept.{kept, participant_in}
use Rattle.rtps_discovery.specs.Known.{RemoteParticipant, of_publications, prefix_order, where_announced}
use Rattle.rtps_discovery.specs.Seen.{facts_seen}
use Rattle.rtps_discovery.proofs.Coming.{comes}
use Rattle.rtps_discovery.proofs.Ends.{covers_then}
use Rattle.rtps_discovery.proofs.registry.Registry.welcome.Goals as goal

pub returns-in-Ok : goal.returns-in-Ok
returns-in-Ok g c = λ earlier.
    let d = kept c.args.self.now in
    let p = c.args.prefix in
    let fresh : is_some (participant_in p d.participants) ≡ false = ap is_some c.requires in
    let part : List Locator → RemoteParticipant = λ ls. record { locators = ls; lease = c.args.facts.lease; heard = d.moment } in
    let f = facts_seen c.args.facts in
    let one : c.as_slice-to.result.now ≡ f.metatraffic = c.as_slice-to.ensures ∙ c.in_ok-metatraffic.ensures in
    comes d p f c.insert.new.self.entries c.begin.new.self c.begin_where-2.new.announcers earlier
    (c.in-Ok.ensures.entries ∙ ap (λ ls. insert_entry prefix_order d.participants p (part ls)) c.in_ok-collected.ensures)
    c.insert.ensures.ordered
    (λ covers.
    let none : EndsAt p None d.leases = subst (λ o. EndsAt p (end_of o) d.leases) c.requires (covers p) in
    let x : RemoteParticipant = part c.in_ok-collected.field-0 in
    let renews : Renews p (end_of (Some x)) d.leases c.begin.new.self = rw (← c.deadline.ensures) (c.in_ok-begin.ensures none) in
    covers_then p (Some x) d.leases c.begin.new.self d.participants c.insert.new.self.entries renews c.in-Ok.ensures.updates.0 covers)
    (λ ms all.
    let first = rw (one, c.publications-writers.ensures) at (c.in_ok-begin_where.ensures ms all) in
    let m = of_publications d.own p f in
    let second = rw (one, c.subscriptions-readers.ensures) at (c.in_ok-begin_where-2.ensures (where_announced f.announces_writers m ms) first) in
    rw fresh second)
