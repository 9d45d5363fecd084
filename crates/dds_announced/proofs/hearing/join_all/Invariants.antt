use Rattle.std.proofs.Common.{◌≡◌, drop, false, map}
use Rattle.rtps_announcer.specs.declared.hearing.Hearing.TheVariants.{Joins}
use Rattle.rtps_announcer.specs.Announcing.{state_run}
use Rattle.rtps_announcer.specs.Standing.{IsSame}
use Rattle.dds_announced.proofs.hearing.join_all.Given as goal

-- the rest ends as all does
abbrev pub invariant-loop-reader : goal.invariant-loop-reader
invariant-loop-reader l = record {
  same : IsSame l.fn.announcer l.announcer;
  failed : l.announcer.failed ≡ false;
  state :
      state_run l.fn.announcer.rules l.announcer.state (map (λ r. Joins) (drop l._reader-index l.readers))
      ≡ state_run l.fn.announcer.rules l.fn.announcer.state (map (λ r. Joins) l.readers);
}
