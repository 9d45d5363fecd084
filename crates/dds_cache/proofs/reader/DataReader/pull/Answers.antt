use Rattle.std.proofs.Common.{◌≡◌, ◌∙◌, ◌+◌, ◌<◌, ◌++◌, ◌∷◌, [], true, false, ap, arith, inl, length-append, rules, sym}
use Rattle.dds_cache.proofs.Pulling.{found_none, moved_one, on_error, pulls_back, pulls_end, pulls_more, was_put_back}
use Rattle.dds_cache.proofs.reader.DataReader.pull.Goals as goal

pub returns-in_err-pull_one-clause-pulls : goal.returns-in_err-pull_one-clause-pulls
returns-in_err-pull_one-clause-pulls g c =
    let p = c.loop-done.invariant in
    let b = was_put_back c.in_err-pull_one.field-0.0 c.loop-done.self c.pull_one.new.self c.loop-done.inlet c.pull_one.new.inlet c.in_err-pull_one.ensures.one in
    let r = on_error c.from_residual.result _ _ _ c.from_residual.ensures.1 b.waits in
    (p.0, pulls_back p.0 _ _ _ _ _ _ p.1 b c.pull_one.ensures.ring, r.0, r.1)

pub returns-then-not-branch-clause-pulls : goal.returns-then-not-branch-clause-pulls
returns-then-not-branch-clause-pulls g c =
    let p = c.loop-done.invariant in
    let e : c.in_ok-pull_one.field-0 ≡ false = search rules in
    let f = found_none _ c.in_ok-pull_one.field-0 c.loop-done.self c.pull_one.new.self c.loop-done.inlet c.pull_one.new.inlet e c.in_ok-pull_one.ensures.one in
    (p.0, pulls_end p.0 _ _ _ _ _ _ p.1 f c.pull_one.ensures.ring, (sym p.2, inl f.next.1), tt)

pub loop-done-preserved : goal.loop-done-preserved
loop-done-preserved g c =
    let p = c.loop-done.invariant in
    let e : c.in_ok-pull_one.field-0 ≡ true = search rules in
    let m = moved_one _ c.in_ok-pull_one.field-0 c.loop-done.self c.pull_one.new.self c.loop-done.inlet c.pull_one.new.inlet e c.in_ok-pull_one.ensures.one in
    let below : c.loop-done.done < c.args.inlet.now.capacity = search rules in (
      p.0 ++ m.notice ∷ [],
      pulls_more p.0 _ _ _ _ _ _ p.1 m (omega (arith, p.2, below)) c.pull_one.ensures.ring,
      length-append p.0 (m.notice ∷ []) ∙ ap (λ n. n + 1) p.2,
      c.pull_one.ensures.keep ∙ p.3,
    )
