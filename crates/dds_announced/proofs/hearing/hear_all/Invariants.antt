use Rattle.std.proofs.Common.{◌≡◌, ◌++◌, drop, false, map}
use Rattle.rtps_announcer.specs.Announcing.{sends_run, state_run}
use Rattle.rtps_announcer.specs.Standing.{IsSame}
use Rattle.rtps_run.specs.Input.{arrived}
use Rattle.dds_announced.specs.Hearings.{all_heard}
use Rattle.dds_announced.proofs.hearing.hear_all.Given as goal

-- what was said so far, with what the rest says, is all; and the rest ends as all does
abbrev pub invariant-loop-datagram : goal.invariant-loop-datagram
invariant-loop-datagram l = record {
  same : IsSame l.fn.announcer l.announcer;
  failed : l.announcer.failed ≡ false;
  sends :
      l.sends.items ++ sends_run l.announcer.rules l.announcer.state
      (all_heard l.announcer.own (map arrived (drop l.datagram-index l.datagrams)))
      ≡ sends_run l.fn.announcer.rules l.fn.announcer.state
      (all_heard l.fn.announcer.own (map arrived l.datagrams));
  state :
      state_run l.announcer.rules l.announcer.state
      (all_heard l.announcer.own (map arrived (drop l.datagram-index l.datagrams)))
      ≡ state_run l.fn.announcer.rules l.fn.announcer.state
      (all_heard l.fn.announcer.own (map arrived l.datagrams));
}
