use Rattle.std.proofs.Common.{false, true, ◌≡◌, ◌∙◌, ◌∷◌, [], List, Option, ap, append-nil, refl, subst, sym, take}
use Rattle.std.specs.Net.Addr.{ipv4_octets}
use Rattle.std.specs.Time.{instant_nanos}
use Rattle.rtps_types.specs.declared.locator.Locator.{Locator}
use Rattle.rtps_records.specs.Traffic.{Exhausted, Failed, Grows, Received, Traffic}
use Rattle.rtps_udp.specs.Calls.{traffic_in}
use Rattle.rtps_announcer.specs.Hearing.{hearings_of}
use Rattle.rtps_announced.specs.Announced.{AnnouncesMore, spoken}
use Rattle.rtps_announced.proofs.Sent.{none_more}
use Rattle.rtps_announced.proofs.Silent.{silent_at}
use Rattle.rtps_announced.proofs.Spoken.{same_voice, speaks_of, spoken_at, still_traffic, unheard}
use Rattle.rtps_announced.proofs.sockets.AnnouncedSocketsReceive.receive.Goals as goal

pub invariant_of-self : goal.invariant_of-self
invariant_of-self g c =
    let v = c.self.inside.voice in
    let m = c.self.inside.moment in
    let next = c.receive_next.ensures in
    let bound = ipv4_octets c.self.inside.sockets.binding.address in
    let s = instant_nanos c.self.inside.sockets.ports.start in
    let t = instant_nanos c.receive_next.new.self.ports.start in
    let a = g.L.Link.calls c.self.inside.sockets.ports.link in
    let e = g.L.Link.calls c.receive_next.new.self.ports.link in
    let here = ap (λ b. ipv4_octets b.address) next.same in
    let start = ap instant_nanos next.start in (
      λ present. spoken_at v v bound _ here m m s t t start refl a e e (Failed ∷ []) [] []
          (c.self.invariant.0 present) next.quiet c.in_err-next.ensures.fault (none_more t e)
          (same_voice v) refl refl (unheard v bound),
      λ gone. silent_at v bound _ here s t start a e (Failed ∷ []) (c.self.invariant.1 gone)
          next.quiet c.in_err-next.ensures.fault,
    )

pub invariant_of-self-in_default : goal.invariant_of-self-in_default
invariant_of-self-in_default g c =
    let v = c.self.inside.voice in
    let m = c.self.inside.moment in
    let next = c.receive_next.ensures in
    let bound = ipv4_octets c.self.inside.sockets.binding.address in
    let s = instant_nanos c.self.inside.sockets.ports.start in
    let t = instant_nanos c.receive_next.new.self.ports.start in
    let a = g.L.Link.calls c.self.inside.sockets.ports.link in
    let e = g.L.Link.calls c.receive_next.new.self.ports.link in
    let here = ap (λ b. ipv4_octets b.address) next.same in
    let start = ap instant_nanos next.start in
    let exhausted = c.in_ok-next.ensures.none c.in_default.is in (
      λ present. spoken_at v v bound _ here m m s t t start refl a e e (Exhausted ∷ []) [] []
          (c.self.invariant.0 present) next.quiet exhausted (none_more t e) (same_voice v) refl refl
          (unheard v bound),
      λ gone. silent_at v bound _ here s t start a e (Exhausted ∷ []) (c.self.invariant.1 gone)
          next.quiet exhausted,
    )

pub invariant_of-self-then-not-self : goal.invariant_of-self-then-not-self
invariant_of-self-then-not-self g c =
    let v = c.self.inside.voice in
    let w = c.hear-said.new.self in
    let m = c.self.inside.moment in
    let next = c.receive_next.ensures in
    let heard = c.hear-said.ensures in
    let octets = take c.in-Some.length c.receive_next.new.room in
    let bound = ipv4_octets c.self.inside.sockets.binding.address in
    let there = ipv4_octets c.receive_next.new.self.binding.address in
    let s = instant_nanos c.self.inside.sockets.ports.start in
    let t = instant_nanos c.receive_next.new.self.ports.start in
    let u = instant_nanos c.send_said.new.sockets.ports.start in
    let a = g.L.Link.calls c.self.inside.sockets.ports.link in
    let b = g.L.Link.calls c.receive_next.new.self.ports.link in
    let e = g.L.Link.calls c.send_said.new.sockets.ports.link in
    let same : there ≡ bound = ap (λ b. ipv4_octets b.address) next.same in
    let grows : Grows (traffic_in s a) (traffic_in t b) (Received octets ∷ []) =
    (rw c.in-Some.is at c.in_ok-next.ensures.some) in (
      λ present. spoken_at v w bound _ (ap (λ b. ipv4_octets b.address) (c.send_said.ensures.same.binding ∙ next.same))
          m m s t u (ap instant_nanos next.start) (ap instant_nanos c.send_said.ensures.same.start) a b e
          (Received octets ∷ []) (spoken v.everyone bound c.hear-said.result)
          (hearings_of v.announcer.own m octets) (c.self.invariant.0 present) next.quiet grows
          (subst (λ x. AnnouncesMore t b e (spoken v.everyone x c.hear-said.result)) same
          (subst (λ (l : List Locator). AnnouncesMore t b e (spoken l there c.hear-said.result))
          (c.everyone.ensures ∙ heard.same.everyone) c.send_said.ensures.announced))
          heard.same refl (append-nil (hearings_of v.announcer.own m octets))
          (speaks_of v w bound (hearings_of v.announcer.own m octets) c.hear-said.result heard.says
          heard.failed heard.still),
      λ gone. absurd (let bad : false ≡ true = sym c.if-not-self.true ∙ gone in cc),
    )

pub invariant_of-self-else-not-self : goal.invariant_of-self-else-not-self
invariant_of-self-else-not-self g c =
    let v = c.self.inside.voice in
    let next = c.receive_next.ensures in
    let octets = take c.in-Some.length c.receive_next.new.room in
    let bound = ipv4_octets c.self.inside.sockets.binding.address in
    let s = instant_nanos c.self.inside.sockets.ports.start in
    let t = instant_nanos c.receive_next.new.self.ports.start in
    let a = g.L.Link.calls c.self.inside.sockets.ports.link in
    let e = g.L.Link.calls c.receive_next.new.self.ports.link in
    let grows : Grows (traffic_in s a) (traffic_in t e) (Received octets ∷ []) =
    (rw c.in-Some.is at c.in_ok-next.ensures.some) in (
      λ present. absurd (let bad : false ≡ true = sym present ∙ c.if-not-self.false in cc),
      λ gone. silent_at v bound _ (ap (λ b. ipv4_octets b.address) next.same) s t
          (ap instant_nanos next.start) a e (Received octets ∷ []) (c.self.invariant.1 gone) next.quiet
          grows,
    )

pub returns-then-not-self-clause-some : goal.returns-then-not-self-clause-some
returns-then-not-self-clause-some g c =
    let s = instant_nanos c.self.inside.sockets.ports.start in
    let t = instant_nanos c.receive_next.new.self.ports.start in
    let u = instant_nanos c.send_said.new.sockets.ports.start in
    let a = g.L.Link.calls c.self.inside.sockets.ports.link in
    let b = g.L.Link.calls c.receive_next.new.self.ports.link in
    let e = g.L.Link.calls c.send_said.new.sockets.ports.link in
    let octets = take c.in-Some.length c.receive_next.new.room in
    let grows : Grows (traffic_in s a) (traffic_in t b) (Received octets ∷ []) =
    (rw c.in-Some.is at c.in_ok-next.ensures.some) in
    rw (← c.self.view_is)
    (subst (λ (x : Option (List Traffic)). Grows (traffic_in s a) x (Received octets ∷ []))
    (sym (still_traffic t u (ap instant_nanos c.send_said.ensures.same.start) b e _
    c.send_said.ensures.announced)) grows)
