use Rattle.std.proofs.Common.{false, true, ◌≡◌, ◌∙◌, ◌∷◌, [], List, Option, ap, refl, subst, sym}
use Rattle.std.specs.Net.Addr.{ipv4_octets}
use Rattle.std.specs.Time.{instant_nanos}
use Rattle.std.specs.declared.io.ErrorKind.TheVariants.{OutOfMemory}
use Rattle.rtps_types.specs.declared.locator.Locator.{Locator}
use Rattle.rtps_records.specs.Traffic.{Failed, Grows, Passed, Traffic, Waited}
use Rattle.rtps_udp.proofs.Announced.{quiet_break}
use Rattle.rtps_udp.proofs.Calls.{seen_break}
use Rattle.rtps_udp.specs.Calls.{traffic_in}
use Rattle.rtps_announcer.specs.declared.hearing.Hearing.TheVariants.{Passes}
use Rattle.rtps_announced.specs.Announced.{AnnouncesMore, spoken}
use Rattle.rtps_announced.proofs.Sent.{none_more}
use Rattle.rtps_announced.proofs.Silent.{silent_at}
use Rattle.rtps_announced.proofs.Spoken.{same_voice, speaks_of, spoken_at, still_traffic, unheard}
use Rattle.rtps_announced.proofs.sockets.AnnouncedSocketsExchange.wait.Goals as goal

pub invariant_of-self : goal.invariant_of-self
invariant_of-self g c =
    let v = c.self.inside.voice in
    let m = c.self.inside.moment in
    let gone = c.give_up.ensures in
    let bound = ipv4_octets c.self.inside.sockets.binding.address in
    let s = instant_nanos c.self.inside.sockets.ports.start in
    let t = instant_nanos c.give_up.new.self.ports.start in
    let a = g.L.Link.calls c.self.inside.sockets.ports.link in
    let e = g.L.Link.calls c.give_up.new.self.ports.link in
    let start : t ≡ s = ap instant_nanos gone.start in
    let here = ap (λ b. ipv4_octets b.address) gone.same in
    let quiet = quiet_break a e OutOfMemory gone.failed in
    let grows = seen_break s t a e OutOfMemory start gone.failed in (
      λ present. spoken_at v v bound _ here m m s t t start refl a e e (Failed ∷ []) [] []
          (c.self.invariant.0 present) quiet grows (none_more t e) (same_voice v) refl refl
          (unheard v bound),
      λ gone. silent_at v bound _ here s t start a e (Failed ∷ []) (c.self.invariant.1 gone) quiet
          grows,
    )

pub returns-then-not-self-clause-fault : goal.returns-then-not-self-clause-fault
returns-then-not-self-clause-fault g c =
    let gone = c.give_up.ensures in
    rw (← c.self.view_is) (seen_break _ _ _ _ OutOfMemory (ap instant_nanos gone.start) gone.failed)

pub invariant_of-self-in_err-moment : goal.invariant_of-self-in_err-moment
invariant_of-self-in_err-moment g c =
    let v = c.self.inside.voice in
    let m = c.self.inside.moment in
    let wait = c.wait_turn.ensures in
    let bound = ipv4_octets c.self.inside.sockets.binding.address in
    let s = instant_nanos c.self.inside.sockets.ports.start in
    let t = instant_nanos c.wait_turn.new.self.ports.start in
    let a = g.L.Link.calls c.self.inside.sockets.ports.link in
    let e = g.L.Link.calls c.wait_turn.new.self.ports.link in
    let here = ap (λ b. ipv4_octets b.address) wait.same in
    let start = ap instant_nanos wait.start in (
      λ present. spoken_at v v bound _ here m m s t t start refl a e e (Failed ∷ []) [] []
          (c.self.invariant.0 present) wait.quiet c.in_err-moment.ensures.fault (none_more t e)
          (same_voice v) refl refl (unheard v bound),
      λ gone. silent_at v bound _ here s t start a e (Failed ∷ []) (c.self.invariant.1 gone)
          wait.quiet c.in_err-moment.ensures.fault,
    )

pub invariant_of-self-then-not-self-2 : goal.invariant_of-self-then-not-self-2
invariant_of-self-then-not-self-2 g c =
    let v = c.self.inside.voice in
    let w = c.pass-said.new.self in
    let m = c.self.inside.moment in
    let n = c.in_ok-moment.moment in
    let wait = c.wait_turn.ensures in
    let heard = c.pass-said.ensures in
    let bound = ipv4_octets c.self.inside.sockets.binding.address in
    let there = ipv4_octets c.wait_turn.new.self.binding.address in
    let s = instant_nanos c.self.inside.sockets.ports.start in
    let t = instant_nanos c.wait_turn.new.self.ports.start in
    let u = instant_nanos c.send_said.new.sockets.ports.start in
    let a = g.L.Link.calls c.self.inside.sockets.ports.link in
    let b = g.L.Link.calls c.wait_turn.new.self.ports.link in
    let e = g.L.Link.calls c.send_said.new.sockets.ports.link in
    let same : there ≡ bound = ap (λ b. ipv4_octets b.address) wait.same in (
      λ present. spoken_at v w bound _ (ap (λ b. ipv4_octets b.address) (c.send_said.ensures.same.binding ∙ wait.same))
          m n s t u (ap instant_nanos wait.start) (ap instant_nanos c.send_said.ensures.same.start) a b e
          (Waited ∷ Passed n ∷ []) (spoken v.everyone bound c.pass-said.result) (Passes n ∷ [])
          (c.self.invariant.0 present) wait.quiet c.in_ok-moment.ensures.waited
          (subst (λ x. AnnouncesMore t b e (spoken v.everyone x c.pass-said.result)) same
          (subst (λ (l : List Locator). AnnouncesMore t b e (spoken l there c.pass-said.result))
          (c.everyone.ensures ∙ heard.same.everyone) c.send_said.ensures.announced))
          heard.same refl refl
          (speaks_of v w bound (Passes n ∷ []) c.pass-said.result heard.says heard.failed heard.still),
      λ gone. absurd (let bad : false ≡ true = sym c.if-not-self-2.true ∙ gone in cc),
    )

pub invariant_of-self-else-not-self-2 : goal.invariant_of-self-else-not-self-2
invariant_of-self-else-not-self-2 g c =
    let v = c.self.inside.voice in
    let wait = c.wait_turn.ensures in
    let bound = ipv4_octets c.self.inside.sockets.binding.address in
    let s = instant_nanos c.self.inside.sockets.ports.start in
    let t = instant_nanos c.wait_turn.new.self.ports.start in
    let a = g.L.Link.calls c.self.inside.sockets.ports.link in
    let e = g.L.Link.calls c.wait_turn.new.self.ports.link in (
      λ present. absurd (let bad : false ≡ true = sym present ∙ c.if-not-self-2.false in cc),
      λ gone. silent_at v bound _ (ap (λ b. ipv4_octets b.address) wait.same) s t
          (ap instant_nanos wait.start) a e (Waited ∷ Passed c.in_ok-moment.moment ∷ [])
          (c.self.invariant.1 gone) wait.quiet c.in_ok-moment.ensures.waited,
    )

pub returns-then-not-self-2-clause-waited : goal.returns-then-not-self-2-clause-waited
returns-then-not-self-2-clause-waited g c =
    let s = instant_nanos c.self.inside.sockets.ports.start in
    let t = instant_nanos c.wait_turn.new.self.ports.start in
    let u = instant_nanos c.send_said.new.sockets.ports.start in
    let a = g.L.Link.calls c.self.inside.sockets.ports.link in
    let b = g.L.Link.calls c.wait_turn.new.self.ports.link in
    let e = g.L.Link.calls c.send_said.new.sockets.ports.link in
    let n = c.in_ok-moment.moment in
    rw (← c.self.view_is)
    (subst (λ (x : Option (List Traffic)). Grows (traffic_in s a) x (Waited ∷ Passed n ∷ []))
    (sym (still_traffic t u (ap instant_nanos c.send_said.ensures.same.start) b e _
    c.send_said.ensures.announced)) c.in_ok-moment.ensures.waited)
