use Rattle.std.proofs.Common.{rules}
use Rattle.rtps_records.proofs.Cuts.{IsAnew, read_datagram, read_end, read_fault, read_tick}
use Rattle.rtps_records.proofs.batch.Batch.read_here.Goals as goal

pub returns-in_ok-push-in-Ok-Some-Datagram-clause-reads : goal.returns-in_ok-push-in-Ok-Some-Datagram-clause-reads
returns-in_ok-push-in-Ok-Some-Datagram-clause-reads g c =
    let anew : IsAnew c.args.self.now c.as_mut_slice.result.now c.read_after.new.octets = record { was = c.as_mut_slice.ensures.value; length = c.read_after.ensures.length; same = c.read_after.ensures.same } in
    read_datagram c.args.format _ _ c.args.self.now _ _ _ c.in-Ok-Some-Datagram.piece _ (search rules) anew (search rules) c.requires.datagrams (search rules)

pub returns-in-Ok-Some-Tick-clause-reads : goal.returns-in-Ok-Some-Tick-clause-reads
returns-in-Ok-Some-Tick-clause-reads g c =
    let anew : IsAnew c.args.self.now c.as_mut_slice.result.now c.read_after.new.octets = record { was = c.as_mut_slice.ensures.value; length = c.read_after.ensures.length; same = c.read_after.ensures.same } in
    rw c.reserve.ensures.items (read_tick c.args.format _ _ c.args.self.now _ c.read_after.new.octets c.in-Ok-Some-Tick.moment _ (search rules) anew (search rules))

pub returns-in-Ok-None-clause-reads : goal.returns-in-Ok-None-clause-reads
returns-in-Ok-None-clause-reads g c =
    let anew : IsAnew c.args.self.now c.as_mut_slice.result.now c.read_after.new.octets = record { was = c.as_mut_slice.ensures.value; length = c.read_after.ensures.length; same = c.read_after.ensures.same } in
    rw c.reserve.ensures.items (read_end c.args.format _ _ c.args.self.now _ c.read_after.new.octets _ (search rules) anew (search rules))

pub returns-in-Err-clause-reads : goal.returns-in-Err-clause-reads
returns-in-Err-clause-reads g c =
    let anew : IsAnew c.args.self.now c.as_mut_slice.result.now c.read_after.new.octets = record { was = c.as_mut_slice.ensures.value; length = c.read_after.ensures.length; same = c.read_after.ensures.same } in
    rw c.reserve.ensures.items (read_fault c.args.format _ _ c.args.self.now _ c.read_after.new.octets _ _ (search rules) anew (search rules))
