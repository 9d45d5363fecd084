-- The hand-off of a reader's notices, from the run to an outlet.
use Rattle.std.specs.Prelude.{◌≡◌, ℕ, List, ◌++◌, map}
use Rattle.rtps_reader.specs.declared.notice.Notice.{Notice}
use Rattle.rtps_reader.specs.Notice.{notice_view}
use Rattle.rtps_run.specs.Seen.{notices_by}
use Rattle.rtps_run.specs.World.{World}
use Rattle.dds_participant.specs.Ports.{PortView}

-- The notices that were sent after the earlier ones, followed by the backlog, are those that the
-- reader of a rank reported in the run between two worlds.
pub record IsHandedOff {V M : Type 0} (f : V → M) (rank : ℕ) (start now : World M)
    (earlier : List (Notice V)) (port : PortView V) : Type 0 where
  pub since : List (Notice V)
  pub sent : port.outlet.sent ≡ earlier ++ since
  pub put : notices_by rank now.put
      ≡ notices_by rank start.put ++ map (notice_view f) (since ++ port.backlog)
