use Rattle.std.proofs.Common.{◌≡◌, ◌∙◌, ℕ, false, true, List, ap, subst, sym}
use Rattle.std.specs.Net.Addr.{ipv4_octets}
use Rattle.std.specs.Time.{instant_nanos}
use Rattle.rtps_types.specs.declared.locator.Locator.{Locator}
use Rattle.dds_announced.specs.declared.announcement.Announcement.{Announcement}
use Rattle.rtps_announcer.specs.Announcing.{farewell}
use Rattle.dds_announced.specs.Speaker.{announcements}
use Rattle.rtps_announced.specs.Announced.{AnnouncesMore, IsSilentBy, all_addressed, manner_of, said_by, speech_of}
use Rattle.rtps_announced.proofs.Silent.{silenced}
use Rattle.rtps_announced.proofs.Spoken.{left_by, not_failed, still_traffic}
use Rattle.rtps_announced.proofs.sockets.AnnouncedSockets.farewell.Goals as goal

pub invariant_of-self : goal.invariant_of-self
invariant_of-self g c =
    let v = c.self.inside.voice in
    let same = c.send_all.ensures.same in
    let bound = ipv4_octets c.self.inside.sockets.binding.address in
    let here = ap (λ b. ipv4_octets b.address) same.binding in
    let s = instant_nanos c.self.inside.sockets.ports.start in
    let t = instant_nanos c.send_all.new.sockets.ports.start in
    let a = g.L.Link.calls c.self.inside.sockets.ports.link in
    let e = g.L.Link.calls c.send_all.new.sockets.ports.link in
    let said = said_by (manner_of v bound) (announcements v.speaker (farewell v.announcer.state)) in
    let announces : AnnouncesMore s a e said =
    subst (λ (l : List Announcement). AnnouncesMore s a e (all_addressed v.everyone bound l))
    (c.deref.ensures.value ∙ c.in_ok-announcements.ensures.said)
    (subst (λ (l : List Locator). AnnouncesMore s a e (all_addressed l bound c.deref.result.now))
    c.everyone.ensures c.send_all.ensures.announced) in
    let left = left_by v bound c.self.inside.moment s a e (c.self.invariant.0 c.if-self.false)
    (not_failed v.failed c.in_ok-announcements.ensures.failed) announces in (
      λ present. absurd (let bad : true ≡ false = present in cc),
      λ gone. subst (λ (x : List ℕ). IsSilentBy (speech_of (manner_of v x)) t e) (sym here)
          (silenced (speech_of (manner_of v bound)) s t (ap instant_nanos same.start) a e said announces
          left),
    )

pub returns-clause-left : goal.returns-clause-left
returns-clause-left g c =
    let v = c.self.inside.voice in
    let bound = ipv4_octets c.self.inside.sockets.binding.address in
    let s = instant_nanos c.self.inside.sockets.ports.start in
    let a = g.L.Link.calls c.self.inside.sockets.ports.link in
    let e = g.L.Link.calls c.send_all.new.sockets.ports.link in
    rw (← c.self.view_is)
    (left_by v bound c.self.inside.moment s a e (c.self.invariant.0 c.if-self.false)
    (not_failed v.failed c.in_ok-announcements.ensures.failed)
    (subst (λ (l : List Announcement). AnnouncesMore s a e (all_addressed v.everyone bound l))
    (c.deref.ensures.value ∙ c.in_ok-announcements.ensures.said)
    (subst (λ (l : List Locator). AnnouncesMore s a e (all_addressed l bound c.deref.result.now))
    c.everyone.ensures c.send_all.ensures.announced)))

pub returns-clause-traffic : goal.returns-clause-traffic
returns-clause-traffic g c =
    rw (← c.self.view_is)
    (still_traffic (instant_nanos c.self.inside.sockets.ports.start)
    (instant_nanos c.send_all.new.sockets.ports.start)
    (ap instant_nanos c.send_all.ensures.same.start)
    (g.L.Link.calls c.self.inside.sockets.ports.link)
    (g.L.Link.calls c.send_all.new.sockets.ports.link) _ c.send_all.ensures.announced)
