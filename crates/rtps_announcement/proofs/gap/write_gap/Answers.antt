use Rattle.rtps_announcement.proofs.Gaps.{gap_built}
use Rattle.rtps_announcement.proofs.gap.write_gap.Goals as goal

pub returns : goal.returns
returns g c =
    rw (c.new.ensures, c.in_ok-push_u32.ensures, c.in_ok-push_sn-2.ensures, c.in_ok-push_sn.ensures, c.in_ok-extend_from_slice-2.ensures.items, c.in_ok-extend_from_slice.ensures.items, c.in_ok-octets.ensures, c.get.ensures.value, c.get-2.ensures.value)
    (gap_built c.args.own c.args.to _ _)
