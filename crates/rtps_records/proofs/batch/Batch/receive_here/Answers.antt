use Rattle.std.proofs.Common.{rules, drop, take}
use Rattle.rtps_records.specs.Traffic.{ReceivesNext}
use Rattle.rtps_records.proofs.Cuts.{IsAnew, grown, still}
use Rattle.rtps_records.proofs.batch.Batch.receive_here.Goals as goal

pub returns-in_ok-push-in-Ok-Some-clause-receives : goal.returns-in_ok-push-in-Ok-Some-clause-receives
unfolding ReceivesNext
returns-in_ok-push-in-Ok-Some-clause-receives g c =
    let anew : IsAnew c.args.self.now c.as_mut_slice.result.now c.receive_after.new.octets = record { was = c.as_mut_slice.ensures.value; length = c.receive_after.ensures.length; same = c.receive_after.ensures.same } in
    let more = rw c.reserve.ensures.items at c.in_ok-push-in-Ok-Some.ensures.items in
    (take c.in-Ok-Some.length (drop c.args.self.now.used c.receive_after.new.octets), search rules, grown c.args.self.now _ _ _ _ anew (search rules) c.requires.datagrams more)

pub returns-in-Ok-None-clause-receives : goal.returns-in-Ok-None-clause-receives
unfolding ReceivesNext
returns-in-Ok-None-clause-receives g c =
    let anew : IsAnew c.args.self.now c.as_mut_slice.result.now c.receive_after.new.octets = record { was = c.as_mut_slice.ensures.value; length = c.receive_after.ensures.length; same = c.receive_after.ensures.same } in
    rw c.reserve.ensures.items (search rules, still c.args.self.now _ _ anew (search rules))

pub returns-in-Err-clause-receives : goal.returns-in-Err-clause-receives
unfolding ReceivesNext
returns-in-Err-clause-receives g c =
    let anew : IsAnew c.args.self.now c.as_mut_slice.result.now c.receive_after.new.octets = record { was = c.as_mut_slice.ensures.value; length = c.receive_after.ensures.length; same = c.receive_after.ensures.same } in
    rw c.reserve.ensures.items (search rules, still c.args.self.now _ _ anew (search rules))
