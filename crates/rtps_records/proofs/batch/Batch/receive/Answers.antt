use Rattle.std.proofs.Common.{◌<◌, ◌∙◌, arith, length, rules}
use Rattle.rtps_records.specs.Batches.{IsFull, records_in}
use Rattle.rtps_records.proofs.Received.{ends, more}
use Rattle.rtps_records.proofs.batch.Batch.receive.Goals as goal

pub loop-self-smaller : goal.loop-self-smaller
loop-self-smaller g c =
    let next = more _ _ _ _ _ (records_in c.receive_next.new.self) _ c.loop-self.invariant.so_far c.in-More.is c.in_ok-end.ensures.receives in
    let room : length (records_in c.loop-self.self) < c.args.most = search rules in
    omega (arith, next.0, room)

pub loop-self-preserved : goal.loop-self-preserved
loop-self-preserved g c =
    let next = more _ _ _ _ _ (records_in c.receive_next.new.self) _ c.loop-self.invariant.so_far c.in-More.is c.in_ok-end.ensures.receives in
    let room : length (records_in c.loop-self.self) < c.args.most = search rules in
    record {
      datagrams = c.in_ok-end.ensures.datagrams;
      few = omega (arith, next.0, room);
      speech = c.receive_next.ensures.speech ∙ c.loop-self.invariant.speech;
      so_far = next.1;
    }

pub returns-in_default : goal.returns-in_default
returns-in_default g c =
    let last = ends _ _ _ _ _ (records_in c.receive_next.new.self) _ c.loop-self.invariant.so_far c.in_default.not-More c.in_ok-end.ensures.receives in
    record {
      receives = last.1;
      stops = tt;
      few = rw last.0 c.loop-self.invariant.few;
      full = λ is. absurd {A = IsFull c.args.most c.receive_next.new.self} (c.in_default.not-More is);
      speech = c.receive_next.ensures.speech ∙ c.loop-self.invariant.speech;
    }
