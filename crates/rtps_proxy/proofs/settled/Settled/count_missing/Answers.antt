use Rattle.std.proofs.Common.{◌≡◌, ◌<◌, ◌≤◌, ◌+◌, ◌-◌, arith, rules, get_or, length, min, drop}
use Rattle.rtps_proxy.specs.Runs.{Run, end_of, missing_from, start_of}
use Rattle.rtps_proxy.proofs.Apart.{apart_from, apart_next, missing_is, missing_next, missing_none, missing_end}
use Rattle.rtps_proxy.proofs.settled.Settled.count_missing.Goals as goal

pub loop-run-init : goal.loop-run-init
loop-run-init g c = record {
  apart = apart_from c.args.self.now.frontier c.args.self.now.runs c.args.self.now.apart;
  small = c.args.self.now.small;
  few = omega arith;
  counted = omega arith;
}

pub returns-then-at-end : goal.returns-then-at-end
returns-then-at-end g c =
    let runs = c.args.self.now.runs in
    let none : missing_from c.loop-run.at (drop c.loop-run.run-index runs) c.args.end ≡ 0 = missing_none c.loop-run.at (drop c.loop-run.run-index runs) c.args.end c.loop-run.invariant.apart c.if-at-end.true in
    let whole = missing_is c.args.self.now.frontier runs (apart_from c.args.self.now.frontier runs c.args.self.now.apart) c.args.end in
    let so_far = c.loop-run.invariant.counted in
    omega arith

pub overflow_sub-count : goal.overflow_sub-count
overflow_sub-count g c =
    let runs = c.args.self.now.runs in
    let d : Run = c.run-item.result in
    let l : c.loop-run.run-index < length runs = rw c.as_slice-run-items.ensures at c.loop-run-test.true in
    let is : d ≡ get_or runs c.loop-run.run-index d = rw c.as_slice-run-items.ensures at c.run-item.is in
    let next = rw (← is) at (apart_next runs c.loop-run.run-index c.loop-run.at d l c.loop-run.invariant.apart) in
    let first : c.loop-run.at < start_of d = next.0 in
    omega arith

pub overflow_add-count : goal.overflow_add-count
overflow_add-count g c = search (arith, rules)

pub loop-run-preserved : goal.loop-run-preserved
loop-run-preserved g c =
    let runs = c.args.self.now.runs in
    let d : Run = c.run-item.result in
    let l : c.loop-run.run-index < length runs = rw c.as_slice-run-items.ensures at c.loop-run-test.true in
    let is : d ≡ get_or runs c.loop-run.run-index d = rw c.as_slice-run-items.ensures at c.run-item.is in
    let next = rw (← is) at (apart_next runs c.loop-run.run-index c.loop-run.at d l c.loop-run.invariant.apart) in
    let first : c.loop-run.at < start_of d = next.0 in
    let some : start_of d < end_of d = next.1.0 in
    let last : c.get-at.result + 1 ≡ end_of d = omega arith in
    let more : missing_from c.loop-run.at (drop c.loop-run.run-index runs) c.args.end ≡ (min (start_of d) c.args.end - c.loop-run.at) + missing_from (end_of d) (drop (c.loop-run.run-index + 1) runs) c.args.end = rw (← is) at (missing_next runs c.loop-run.run-index c.loop-run.at c.args.end d l) in
    record {
      apart = rw last next.1.1;
      small = omega arith;
      few = omega arith;
      counted = rw last (omega (arith, more, c.loop-run.invariant.counted));
    }

pub overflow_add-result : goal.overflow_add-result
overflow_add-result g c = search (arith, rules)

pub returns : goal.returns
returns g c =
    let runs = c.args.self.now.runs in
    let ended : length runs ≤ c.loop-run.run-index = rw c.as_slice-run-items.ensures at c.loop-run-test.false in
    let rest : missing_from c.loop-run.at (drop c.loop-run.run-index runs) c.args.end ≡ c.args.end - c.loop-run.at = missing_end runs c.loop-run.run-index c.loop-run.at c.args.end ended in
    let whole = missing_is c.args.self.now.frontier runs (apart_from c.args.self.now.frontier runs c.args.self.now.apart) c.args.end in
    let so_far = c.loop-run.invariant.counted in
    omega arith
