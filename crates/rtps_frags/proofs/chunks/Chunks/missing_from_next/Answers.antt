use Rattle.std.proofs.Common.{◌≡◌, ◌+◌, ◌<◌, false, ◌&&◌, ◌∙◌, arith, replicate, leb, ltb}
use Rattle.std.proofs.lemmas.Bool.Decides.{nat_tests}
use Rattle.rtps_types.proofs.Walks.{walked_from, walked_on, walked_past}
use Rattle.rtps_frags.specs.Chunks.{holds}
use Rattle.rtps_frags.specs.Spans.{IsAhead}
use Rattle.rtps_frags.proofs.Ahead.{ahead_from, ahead_on, here}
use Rattle.rtps_frags.proofs.chunks.Chunks.missing_from_next.Goals as goal
use Rattle.rtps_frags.proofs.chunks.Chunks.missing_from_next.Goals.{then-at-span, else-at-span}

pub loop-offset-init : goal.loop-offset-init
loop-offset-init g c =
    let p = c.args.self.now in
    let start : p.next + 0 ≡ p.next = omega arith in
    record {
      ahead = rw (start, c.from-3.ensures, c.from-4.ensures, c.iter-chunks.ensures.rest) (ahead_from p.next p.early.entries c.requires.apart);
      walked = walked_from (holds p) p.next c.args.count (replicate 8 0);
    }

pub loop-offset-preserved : goal.loop-offset-preserved
loop-offset-preserved g c =
    let p = c.args.self.now in
    let offset = c.loop-offset.offset in
    let span = c.next_span-span.result in
    let before : IsAhead p.early.entries c.from-at.result c.loop-offset.span c.loop-offset.chunks = rw c.from-at.ensures c.loop-offset.invariant.ahead in
    let ahead = rw c.from-at.ensures at (c.next_span-span.ensures.same p.early.entries before) in
    let goes : p.next + offset < span.end = rw c.from-at.ensures at (c.next_span-span.ensures.goes p.early.entries before) in
    let first : (leb 1 (p.next + offset) && ltb (p.next + offset) p.next) ≡ false = grind (arith, nat_tests) in
    let there : holds p (p.next + offset) ≡ leb span.start (p.next + offset) = rw first (here p.early.entries (p.next + offset) span c.next_span-span.new.chunks goes ahead) in
    let next : p.next + (offset + 1) ≡ p.next + offset + 1 = omega arith in
    elim c.if-at-span.branch [
      | then-at-span w ↦ record {
        ahead = rw next (ahead_on p.early.entries (p.next + offset) span c.next_span-span.new.chunks goes ahead);
        walked = rw (w.words-is, w.bits-is, w.set_bit.ensures) (walked_on (holds p) p.next c.args.count offset c.loop-offset.words (replicate 8 0) c.loop-offset.bits c.loop-offset-test.true (there ∙ grind (arith, nat_tests)) c.loop-offset.invariant.walked);
      }
      | else-at-span w ↦ record {
        ahead = rw next (ahead_on p.early.entries (p.next + offset) span c.next_span-span.new.chunks goes ahead);
        walked = rw (w.words-is, w.bits-is) (walked_past (holds p) p.next c.args.count offset c.loop-offset.words (replicate 8 0) c.loop-offset.bits c.loop-offset-test.true (there ∙ grind (arith, nat_tests)) c.loop-offset.invariant.walked);
      }
    ]
