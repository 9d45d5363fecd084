use Rattle.std.proofs.Common.{◌≡◌, ◌∙◌, ◌-◌, ◌<◌, ◌≤◌, sym, length, arith, rules, ltb, get_or, true, false}
use Rattle.std.proofs.lemmas.List.Sorted.{IsPartitionPoint-from_clause}
use Rattle.std.proofs.lemmas.Bool.Decides.{nat_tests}
use Rattle.rtps_proxy.specs.Runs.{Run, end_of}
use Rattle.rtps_proxy.proofs.Apart.{apart_parts, all_front, all_back, ends_rise}
use Rattle.rtps_proxy.proofs.settled.first_reaching.Goals as goal

pub returns-then-is_before-clause-before : goal.returns-then-is_before-clause-before
returns-then-is_before-clause-before c =
    let rs = c.args.runs.now in
    let n = c.args.number in
    let d : Run = c.index-runs-count.result in
    let tested : ltb (end_of d) n ≡ true = sym c.is_before.ensures ∙ c.if-is_before.true in
    let last : end_of d < n = grind (arith, nat_tests) in
    let same : d ≡ get_or rs (length rs - 1) d = c.index-runs-count.is in
    let greatest : end_of (get_or rs (length rs - 1) d) < n = rw same at last in
    all_front (λ r. end_of r < n) rs (length rs) (λ k e l.
    let rise : end_of (get_or rs k e) ≤ end_of (get_or rs (length rs - 1) d) = ends_rise c.requires.0 rs c.requires.1 k (length rs - 1) d e (omega arith) (omega arith) in
    omega arith) (omega arith)

pub returns-then-not-is_before-clause-behind : goal.returns-then-not-is_before-clause-behind
returns-then-not-is_before-clause-behind c =
    let rs = c.args.runs.now in
    let n = c.args.number in
    let d : Run = c.index-runs-0.result in
    let tested : ltb (end_of d) n ≡ false = sym c.is_before-2.ensures ∙ c.if-not-is_before.true in
    let first : n ≤ end_of d = grind (arith, nat_tests) in
    let same : d ≡ get_or rs 0 d = c.index-runs-0.is in
    let least : n ≤ end_of (get_or rs 0 d) = rw same at first in
    all_back (λ r. n ≤ end_of r) rs 0 (λ k e le l.
    let rise : end_of (get_or rs 0 d) ≤ end_of (get_or rs k e) = ends_rise c.requires.0 rs c.requires.1 0 k e d (omega arith) l in
    omega arith)

pub returns-clause-before : goal.returns-clause-before
returns-clause-before c =
    let point = IsPartitionPoint-from_clause (λ (r : Run). ltb (end_of r) c.args.number) c.args.runs.now c.partition_point.result c.partition_point.ensures.partitioned (apart_parts c.requires.0 c.args.number c.args.runs.now c.requires.1) (λ a r q k. search rules) in
    all_front (λ r. end_of r < c.args.number) c.args.runs.now c.partition_point.result (λ k d l. let t : ltb (end_of (get_or c.args.runs.now k d)) c.args.number ≡ true = point.0 k d (omega arith) l in grind (arith, nat_tests)) c.partition_point.ensures.bound

pub returns-clause-behind : goal.returns-clause-behind
returns-clause-behind c =
    let point = IsPartitionPoint-from_clause (λ (r : Run). ltb (end_of r) c.args.number) c.args.runs.now c.partition_point.result c.partition_point.ensures.partitioned (apart_parts c.requires.0 c.args.number c.args.runs.now c.requires.1) (λ a r q k. search rules) in
    all_back (λ r. c.args.number ≤ end_of r) c.args.runs.now c.partition_point.result (λ k d le l. let t : ltb (end_of (get_or c.args.runs.now k d)) c.args.number ≡ false = point.1 k d le l in grind (arith, nat_tests))
