use Rattle.std.proofs.Common.{◌≡◌, ◌-◌, ◌<◌, ◌≤◌, length, arith, rules, ltb, get_or}
use Rattle.std.proofs.lemmas.List.Sorted.{IsPartitionPoint-from_clause}
use Rattle.rtps_types.specs.Number.{value_of}
use Rattle.rtps_proxy.specs.declared.change.Change.{Change}
use Rattle.rtps_proxy.proofs.Waiting.{place_before, place_behind, place_from, rising_parts}
use Rattle.rtps_proxy.proofs.held.place_of.Goals as goal

pub returns-clause-place : goal.returns-clause-place
returns-clause-place g c = λ rising.
    let hs = c.args.held.now.items in
    let n = c.args.number in
    let point = IsPartitionPoint-from_clause (λ (t : Change g.row.A.Denot). ltb (value_of t.number) n) hs c.partition_point.result c.partition_point.ensures.partitioned (rising_parts n hs rising) (λ a r q k. search rules) in
    let within : c.partition_point.result ≤ length hs = search rules in
    place_from n hs c.partition_point.result (λ k d l. point.0 k d (omega arith) l) (λ k d le l. point.1 k d le l) within

pub returns-then-get-number-clause-place : goal.returns-then-get-number-clause-place
returns-then-get-number-clause-place g c = λ rising.
    let hs = c.args.held.now.items in
    let n = c.args.number in
    let d : Change g.row.A.Denot = c.index.result.now in
    let count : c.len-count.result ≡ length hs = search rules in
    let last : value_of d.number < n = omega (arith, c.get.ensures.value, c.if-get-number.true) in
    let same : d ≡ get_or hs (length hs - 1) d = rw count at c.index.ensures in
    let greatest : value_of (get_or hs (length hs - 1) d).number < n = rw same at last in
    rw count (place_behind n hs d rising (λ some. greatest))

pub returns-then-number-get-clause-place : goal.returns-then-number-get-clause-place
returns-then-number-get-clause-place g c = λ rising.
    let hs = c.args.held.now.items in
    let n = c.args.number in
    let d : Change g.row.A.Denot = c.index-2.result.now in
    let count : c.len-count.result ≡ length hs = search rules in
    let first : n ≤ value_of d.number = omega (arith, c.get-2.ensures.value, c.if-number-get.true) in
    let same : d ≡ get_or hs 0 d = c.index-2.ensures in
    let least : n ≤ value_of (get_or hs 0 d).number = rw same at first in
    place_before n hs d rising least (omega (arith, count, c.if-count-eq0.false))
