use Rattle.std.proofs.Common.{◌≡◌, ℕ, ◌+◌, ◌*◌, ◌≢◌, List, length, refl, subst, sym, ◌∙◌, ap, arith, drop}
use Rattle.std.proofs.lemmas.Grind.{common_steps}
use Rattle.dds_xcdr.specs.Dimensions.{HasNoCount}
use Rattle.dds_xcdr.specs.Product.{product}
use Rattle.dds_xcdr.proofs.Counts.{is_counted, none_counted, product_all, product_more}
use Rattle.dds_xcdr.proofs.dimensions.Dimensions.new.Goals as goal

pub returns-then-more-eq0-clause-err : goal.returns-then-more-eq0-clause-err
returns-then-more-eq0-clause-err c =
    let xs : List ℕ = c.deref-size-items.result.now in (
      refl,
      subst HasNoCount c.deref-size-items.ensures.value
          (none_counted xs c.sizes.size-index 0 c.sizes.count c.sizes-test.true
          c.sizes.invariant.counted (sym c.in-Some.ensures.1 ∙ c.if-more-eq0.true)),
    )

pub sizes-preserved : goal.sizes-preserved
sizes-preserved c =
    let xs : List ℕ = c.deref-size-items.result.now in
    let rest : ℕ = product (drop (c.sizes.size-index + 1) xs) in
    record {
      counted = ap (λ (k : ℕ). k * rest) c.in-Some.ensures.1
          ∙ product_more xs c.sizes.size-index 0 c.sizes.count c.sizes-test.true
          c.sizes.invariant.counted;
      some = omega arith;
      fits = omega (arith, c.in-Some.ensures.0, c.in-Some.ensures.1);
    }

pub returns-clause-ok : goal.returns-clause-ok
returns-clause-ok c =
    let xs : List ℕ = c.args.sizes.items in
    let some : length xs ≢ 0 = grind (arith, common_steps) in
    let whole : c.sizes.count ≡ product xs =
    product_all c.deref-size-items.result.now c.sizes.size-index c.sizes.count
    c.sizes-test.false c.sizes.invariant.counted
    ∙ ap (λ (ys : List ℕ). product ys) c.deref-size-items.ensures.value in (
      refl,
      is_counted xs c.sizes.count (λ e. some (ap length e)) whole c.sizes.invariant.some
          c.sizes.invariant.fits,
    )
