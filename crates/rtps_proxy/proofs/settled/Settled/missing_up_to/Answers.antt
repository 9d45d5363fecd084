use Rattle.std.proofs.Common.{◌≡◌, ◌+◌, ◌≤◌, true, false, arith, replicate, sym, ◌∙◌, take, drop, length}
use Rattle.std.specs.List.{AllByRecursion, list_any}
use Rattle.rtps_proxy.specs.Runs.{AreApart, EndBelow, end_of, marks, within}
use Rattle.rtps_proxy.proofs.Apart.{apart_from, contains_is, end_more, reach_first}
use Rattle.rtps_types.proofs.Walks.{walked_from, walked_on, walked_past}
use Rattle.rtps_proxy.proofs.settled.Settled.missing_up_to.Goals as goal
use Rattle.rtps_proxy.proofs.settled.Settled.missing_up_to.Goals.{then-not-is_begun, else-not-is_begun}

pub loop-offset-init : goal.loop-offset-init
loop-offset-init g c =
    let s = c.args.self.now in
    record {
      within = omega arith;
      before = tt;
      behind = reach_first s.frontier (s.frontier + 0) s.runs (omega arith) (apart_from s.frontier s.runs s.apart);
      walked = walked_from (marks s.frontier s.runs) s.frontier c.min-count.result (replicate 8 0);
    }

pub next_reaching-at-requires-clause-apart : goal.next_reaching-at-requires-clause-apart
next_reaching-at-requires-clause-apart g c =
    let s = c.args.self.now in
    let apart : AreApart s.frontier s.runs = apart_from s.frontier s.runs s.apart in
    (s.frontier, rw c.as_slice-runs.ensures apart)

pub next_reaching-at-requires-clause-behind : goal.next_reaching-at-requires-clause-behind
next_reaching-at-requires-clause-behind g c = rw (c.from.ensures, c.as_slice-runs.ensures) c.loop-offset.invariant.behind

pub is_begun-requires-clause-apart : goal.is_begun-requires-clause-apart
is_begun-requires-clause-apart g c =
    let s = c.args.self.now in
    let apart : AreApart s.frontier s.runs = apart_from s.frontier s.runs s.apart in
    (s.frontier, rw c.as_slice-runs.ensures apart)

pub loop-offset-preserved : goal.loop-offset-preserved
loop-offset-preserved g c =
    let s = c.args.self.now in
    let runs = s.runs in
    let p = marks s.frontier runs in
    let base = s.frontier in
    let offset = c.loop-offset.offset in
    let at = c.next_reaching-at.result in
    let from : c.from.result ≡ offset = c.from.ensures in
    let inside : at ≤ length runs = rw c.as_slice-runs.ensures at c.next_reaching-at.ensures.within in
    let before : EndBelow (base + offset + 1) (take at runs) = rw (c.as_slice-runs.ensures, from) at c.next_reaching-at.ensures.before in
    let behind : AllByRecursion (λ r. base + offset + 1 ≤ end_of r) (drop at runs) = rw (c.as_slice-runs.ensures, from) at c.next_reaching-at.ensures.behind in
    let in_run : c.is_begun.result ≡ list_any (within (base + offset)) runs = rw (from, c.as_slice-runs.ensures) at c.is_begun.ensures in
    let begun : c.is_begun.result ≡ p (base + offset) = in_run ∙ sym (contains_is base runs (base + offset) (omega arith)) in
    let far : EndBelow (base + (offset + 1) + 1) (take at runs) = end_more (base + offset + 1) (base + (offset + 1) + 1) (take at runs) (omega arith) before in
    let next : base + (offset + 1) ≡ base + offset + 1 = omega arith in
    let near : AllByRecursion (λ r. base + (offset + 1) ≤ end_of r) (drop at runs) = rw next behind in
    elim c.if-not-is_begun.branch [
      | then-not-is_begun w ↦ (
          let fails : p (base + offset) ≡ false = sym begun ∙ w.if-not-is_begun.true in
          record {
            within = inside;
            before = far;
            behind = near;
            walked = rw (w.words-is, w.bits-is, w.set_bit.ensures) (walked_on p base c.min-count.result offset c.loop-offset.words (replicate 8 0) c.loop-offset.bits c.loop-offset-test.true fails c.loop-offset.invariant.walked);
          }
          )
      | else-not-is_begun w ↦ (
          let passes : p (base + offset) ≡ true = sym begun ∙ w.if-not-is_begun.false in
          record {
            within = inside;
            before = far;
            behind = near;
            walked = rw (w.words-is, w.bits-is) (walked_past p base c.min-count.result offset c.loop-offset.words (replicate 8 0) c.loop-offset.bits c.loop-offset-test.true passes c.loop-offset.invariant.walked);
          }
          )
    ]
