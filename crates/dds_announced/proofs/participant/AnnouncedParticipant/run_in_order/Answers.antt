use Rattle.std.proofs.Common.{rules, arith, ◌≡◌, ◌+◌, ◌≤◌, ◌++◌, ◌∙◌, List, ap, length, sym}
use Rattle.rtps_announcer.specs.declared.said.Sending.{Sending}
use Rattle.rtps_run.specs.Standing.{datagram_limit}
use Rattle.dds_announced.specs.declared.announcement.Announcement.{Announcement}
use Rattle.dds_announced.specs.Speaker.{announcements}
use Rattle.dds_announced.proofs.Taking.{on_err, refused, taken}
use Rattle.dds_announced.proofs.participant.AnnouncedParticipant.run_in_order.Goals as goal

pub returns-clause-stands : goal.returns-clause-stands
returns-clause-stands g c = rw (← c.self.view_is) (λ earlier at. c.in_ok-run_in_order.ensures.stands earlier at)

pub returns-clause-gives : goal.returns-clause-gives
returns-clause-gives g c = rw (← c.self.view_is) (λ earlier at. c.in_ok-run_in_order.ensures.gives earlier at)

pub returns-clause-alone : goal.returns-clause-alone
returns-clause-alone g c = rw (← c.self.view_is) (λ earlier at none. c.in_ok-run_in_order.ensures.alone earlier at none)

pub returns-clause-passed : goal.returns-clause-passed
returns-clause-passed g c = rw (← c.self.view_is) (λ earlier at was. c.in_ok-run_in_order.ensures.passed earlier at was)

pub returns-clause-free : goal.returns-clause-free
returns-clause-free g c = rw (← c.self.view_is) (λ none. c.in_ok-run_in_order.ensures.free none)

pub returns-in_err-run_in_order-clause-uncounted : goal.returns-in_err-run_in_order-clause-uncounted
returns-in_err-run_in_order-clause-uncounted g c = rw (← c.self.view_is) (on_err c.from_residual.result c.in_err-run_in_order.ensures.uncounted)

pub returns-in_err-run_in_order-clause-ports : goal.returns-in_err-run_in_order-clause-ports
returns-in_err-run_in_order-clause-ports g c = rw (← c.self.view_is) (on_err c.from_residual.result c.in_err-run_in_order.ensures.ports)

pub returns-in_err-run_in_order-clause-shows : goal.returns-in_err-run_in_order-clause-shows
returns-in_err-run_in_order-clause-shows g c =
    rw (← c.self.view_is) (λ earlier at. on_err c.from_residual.result (c.in_err-run_in_order.ensures.shows earlier at))

pub returns-in_err-run_in_order-clause-takes : goal.returns-in_err-run_in_order-clause-takes
returns-in_err-run_in_order-clause-takes g c =
    let both = c.self.invariant c.if-self.false in
    let most = c.saturating_add.ensures in
    let below = c.if-saturating_add-gt-DATAGRAM_LIMIT.false in
    let index = both.2 in
    let fits : c.self.inside.participant.engine.index + length c.args.datagrams.now ≤ datagram_limit = omega (arith, most, below, index) in
    rw (← c.self.view_is) (refused c.from_residual.result c.in_err-run_in_order.field-0.0 c.self.inside.failed (length c.args.datagrams.now)
    c.self.inside.participant c.run_in_order.new.self c.from_residual.ensures.1 c.if-self.false
    c.in_err-run_in_order.ensures.takes both.0 fits)

pub invariant_of-self-2 : goal.invariant_of-self-2
invariant_of-self-2 g c = λ none.
    let both = c.self.invariant c.if-self.false in
    let done = taken _ (length c.args.datagrams.now) c.self.inside.participant c.run_in_order.new.self c.in_ok-run_in_order.ensures.takes in
    (done.0, c.in-Ok.ensures.failed, ap (λ n. n + length c.args.datagrams.now) both.2 ∙ sym done.1)

pub returns-clause-announces : goal.returns-clause-announces
returns-clause-announces g c =
    let before = c.args.announcements.now.items in
    rw (← c.self.view_is) (record {
      state = c.in-Ok.ensures.state;
      failed = c.in-Ok.ensures.failed;
      announced = c.in_ok-append.ensures.items
          ∙ ap (λ (l : List Announcement). l ++ c.in-Ok-write_for.more.items) c.in-Ok-write_for.ensures.same
          ∙ ap (λ (l : List Announcement). before ++ l) c.in-Ok-write_for.ensures.more
          ∙ ap (λ (l : List Sending). before ++ announcements c.self.inside.voice.speaker l) c.in-Ok.ensures.sends;
    })
