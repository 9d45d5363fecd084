use Rattle.std.proofs.Common.{rules, ◌≡◌, ◌∙◌, ap, inl, inr, length, refl, subst}
use Rattle.std.specs.Time.{instant_nanos}
use Rattle.rtps_records.specs.Batches.{records_in}
use Rattle.rtps_udp.specs.Receiving.{HoldsAll}
use Rattle.rtps_udp.proofs.Receiving.{after_wait, at_once, empty_list, holds_after, holds_read, if_ok, some_here}
use Rattle.rtps_udp.proofs.sockets.Sockets.receive_batch.Goals as goal

pub returns-in_err-fill-clause-holds : goal.returns-in_err-fill-clause-holds
returns-in_err-fill-clause-holds g c =
    rw c.in_err-fill.ensures.moment
    (holds_after _ _ _ 0 _ _ (holds_read _ _ _ _ _ _ (ap instant_nanos c.in_ok-read_clock.ensures.start)
    c.in_ok-read_clock.ensures.read) c.in_err-fill.ensures.holds)

pub returns-then-is_empty-clause-takes : goal.returns-then-is_empty-clause-takes
returns-then-is_empty-clause-takes g c =
    let none : length (records_in c.fill.new.batch) ≡ 0 = search rules in
    if_ok c.receive_later.result _ _ (λ moment rest. inr (after_wait _ _ _ _ _ _ _ _ _ _ _ _ _ _
    (ap instant_nanos c.in_ok-read_clock.ensures.start) (empty_list _ none) c.in-Drained.is c.in_ok-read_clock.ensures.read
    c.in_ok-fill.ensures.fills.receives rest)) c.receive_later.ensures.takes

pub returns-then-is_empty-clause-holds : goal.returns-then-is_empty-clause-holds
returns-then-is_empty-clause-holds g c =
    let none : length (records_in c.fill.new.batch) ≡ 0 = search rules in
    holds_after _ _ _ _ _ _
    (subst (HoldsAll _ _ _) (empty_list _ none)
    (holds_after _ _ _ 0 _ _ (holds_read _ _ _ _ _ _ (ap instant_nanos c.in_ok-read_clock.ensures.start)
    c.in_ok-read_clock.ensures.read) c.in_ok-fill.ensures.holds))
    c.receive_later.ensures.holds

pub returns-else-is_empty-clause-takes : goal.returns-else-is_empty-clause-takes
returns-else-is_empty-clause-takes g c =
    let some : ¬ (length (records_in c.fill.new.batch) ≡ 0) = search rules in
    inl (at_once _ _ _ _ _ _ _ _ _ _ (ap instant_nanos c.in_ok-read_clock.ensures.start)
    c.in_ok-fill.ensures.moment c.in_ok-read_clock.ensures.read c.in_ok-fill.ensures.fills
    (λ is. some_here _ some))

pub returns-else-is_empty-clause-holds : goal.returns-else-is_empty-clause-holds
returns-else-is_empty-clause-holds g c =
    rw c.in_ok-fill.ensures.moment
    (holds_after _ _ _ 0 _ _ (holds_read _ _ _ _ _ _ (ap instant_nanos c.in_ok-read_clock.ensures.start)
    c.in_ok-read_clock.ensures.read) c.in_ok-fill.ensures.holds)

pub returns-in_default : goal.returns-in_default
returns-in_default g c = record {
  moment = refl;
  takes = inl (at_once _ _ _ _ _ _ _ _ _ _ (ap instant_nanos c.in_ok-read_clock.ensures.start)
      c.in_ok-fill.ensures.moment c.in_ok-read_clock.ensures.read c.in_ok-fill.ensures.fills
      (λ is. absurd (c.in_default.not-Drained is)));
  holds = rw c.in_ok-fill.ensures.moment
      (holds_after _ _ _ 0 _ _ (holds_read _ _ _ _ _ _ (ap instant_nanos c.in_ok-read_clock.ensures.start)
      c.in_ok-read_clock.ensures.read) c.in_ok-fill.ensures.holds);
  few = c.in_ok-fill.ensures.few;
  same = c.in_ok-fill.ensures.same ∙ c.in_ok-read_clock.ensures.same;
  fault = tt;
}
