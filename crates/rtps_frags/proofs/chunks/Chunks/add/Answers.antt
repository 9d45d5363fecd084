use Rattle.std.proofs.Common.{◌≡◌, ℕ, suc, ◌+◌, ◌-◌, ◌<◌, ◌≤◌, ◌∙◌, ap, arith}
use Rattle.std.specs.Prelude.{is_some}
use Rattle.rtps_frags.specs.Fragments.{fragment_in}
use Rattle.rtps_frags.specs.declared.chunks.Chunks.{Chunks}
use Rattle.rtps_frags.specs.declared.sizes.Sizes.{Sizes}
use Rattle.rtps_frags.specs.Chunks.{holds, part_at}
use Rattle.rtps_frags.proofs.Adding.{found_as, put_added, there_added}
use Rattle.rtps_frags.proofs.Fronts.{none_from}
use Rattle.rtps_frags.proofs.Placed.{apart_in}
use Rattle.rtps_frags.proofs.Stored.{stored_is}
use Rattle.rtps_frags.proofs.chunks.Chunks.add.Goals as goal

is_held : {A : Type 0} (z : Sizes) (p : Chunks A) (k : ℕ) → is_some (part_at z p k) ≡ holds p k
is_held z p k = stored_is z p.next p.buffer.items p.early.entries k

pub stretch_from-is_there-requires-clause-apart : goal.stretch_from-is_there-requires-clause-apart
stretch_from-is_there-requires-clause-apart g c =
    let p = c.loop-at.self in
    (suc p.next, apart_in c.args.sizes p.buffer.items p.early.entries (suc p.next) c.loop-at.invariant.kept.kept.apart)

pub put-requires-clause-free : goal.put-requires-clause-free
put-requires-clause-free g c =
    let z = c.args.sizes in
    let start : c.part.result.start ≡ c.loop-at.at = c.part.ensures.start in
    let count : c.part.result.count ≡ c.min-until.result - c.loop-at.at = c.part.ensures.count in
    let test : c.loop-at.at < c.args.piece.start + c.args.piece.count = c.loop-at-test.true in
    let goes : c.loop-at.at < c.stretch_from-is_there.result.1 = c.stretch_from-is_there.ensures.goes in
    let low : c.args.piece.start ≤ c.loop-at.at = c.loop-at.invariant.low in
    record {
      first = omega (arith, start, low, c.requires.first);
      some = omega (arith, count, c.min-until.ensures, goes, test);
      within = omega (arith, start, count, c.min-until.ensures, goes, test, c.requires.within);
      fits = rw (start, count) c.part.ensures.fits;
      none = λ k le l.
          let from : c.loop-at.at ≤ k = omega (arith, start, le) in
          let high : k < c.stretch_from-is_there.result.1 = omega (arith, start, count, c.min-until.ensures, goes, test, l) in
          none_from (part_at z c.loop-at.self k) (is_held z c.loop-at.self k ∙ c.stretch_from-is_there.ensures.same k from high ∙ c.if-not-is_there.true);
    }

pub loop-at-preserved-in_ok-put : goal.loop-at-preserved-in_ok-put
loop-at-preserved-in_ok-put g c =
    let z = c.args.sizes in
    let piece = c.args.piece in
    let at = c.loop-at.at in
    let until = c.min-until.result in
    let test : at < piece.start + piece.count = c.loop-at-test.true in
    let goes : at < c.stretch_from-is_there.result.1 = c.stretch_from-is_there.ensures.goes in
    let more : at < until = omega (arith, c.min-until.ensures, goes, test) in
    let low : piece.start ≤ at = c.loop-at.invariant.low in
    let within : until ≤ c.stretch_from-is_there.result.1 = omega (arith, c.min-until.ensures) in
    let each : (j : ℕ) → at ≤ j → j < until → fragment_in z c.part.result.start c.part.result.octets.now j ≡ fragment_in z piece.start piece.octets.now j =
    (λ j le l. ap (λ n. fragment_in z n c.part.result.octets.now j) c.part.ensures.start ∙ c.part.ensures.same j le l)
    in
    record {
      kept = c.put.ensures.kept;
      bounded = c.in_ok-put.ensures.bounded;
      low = omega (arith, low, more);
      high = omega (arith, c.min-until.ensures);
      added = put_added (part_at z c.args.self.now) (part_at z c.loop-at.self) (fragment_in z piece.start piece.octets.now) piece.start at until low more c.loop-at.invariant.added (part_at z c.put.new.self)
          (λ k le l. is_held z c.loop-at.self k ∙ c.stretch_from-is_there.ensures.same k le (omega (arith, within, l)) ∙ c.if-not-is_there.true)
          (λ k. c.in_ok-put.ensures.put k ∙ found_as (fragment_in z piece.start piece.octets.now) (fragment_in z c.part.result.start c.part.result.octets.now) (part_at z c.loop-at.self k) c.part.result.start at c.part.result.count until k c.part.ensures.start (omega (arith, more)) c.part.ensures.count each);
    }

pub loop-at-preserved : goal.loop-at-preserved
loop-at-preserved g c =
    let z = c.args.sizes in
    let piece = c.args.piece in
    let at = c.loop-at.at in
    let until = c.min-until.result in
    let test : at < piece.start + piece.count = c.loop-at-test.true in
    let goes : at < c.stretch_from-is_there.result.1 = c.stretch_from-is_there.ensures.goes in
    let more : at < until = omega (arith, c.min-until.ensures, goes, test) in
    let low : piece.start ≤ at = c.loop-at.invariant.low in
    let within : until ≤ c.stretch_from-is_there.result.1 = omega (arith, c.min-until.ensures) in
    record {
      kept = c.loop-at.invariant.kept;
      bounded = c.loop-at.invariant.bounded;
      low = omega (arith, low, more);
      high = omega (arith, c.min-until.ensures);
      added = there_added (part_at z c.args.self.now) (part_at z c.loop-at.self) (fragment_in z piece.start piece.octets.now) piece.start at until low more c.loop-at.invariant.added
          (λ k le l. is_held z c.loop-at.self k ∙ c.stretch_from-is_there.ensures.same k le (omega (arith, within, l)) ∙ c.if-not-is_there.false);
    }

pub returns-clause-added : goal.returns-clause-added
returns-clause-added g c = λ k.
    let end : c.loop-at.at ≡ c.args.piece.start + c.args.piece.count = (let high = c.loop-at.invariant.high in omega (arith, high, c.loop-at-test.false)) in
    rw (← end) (c.loop-at.invariant.added k)
