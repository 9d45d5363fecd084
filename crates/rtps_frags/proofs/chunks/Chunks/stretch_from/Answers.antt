use Rattle.std.proofs.Common.{◌≡◌, ℕ, true, false, ◌&&◌, ◌||◌, arith, refl, leb, ltb}
use Rattle.std.proofs.lemmas.Bool.Decides.{nat_tests}
use Rattle.rtps_frags.specs.Runs.{covers}
use Rattle.rtps_frags.proofs.Runs.{neither, or_true}
use Rattle.rtps_frags.proofs.chunks.Chunks.stretch_from.Goals as goal

pub returns-in-Some-clause-same : goal.returns-in-Some-clause-same
returns-in-Some-clause-same g c = λ k le l.
    let p = c.args.self.now in
    rw (c.in-Some.ensures.all k le l) (or_true (leb 1 k && ltb k p.next))

either : (at n : ℕ) → (leb n at || ltb at n) ≡ true
either at n = grind (arith, nat_tests)

pub returns-in-None-clause-same : goal.returns-in-None-clause-same
returns-in-None-clause-same g c = λ k le l.
    let p = c.args.self.now in
    let before : (leb 1 k && ltb k p.next) ≡ false = grind (arith, nat_tests) in
    let none : covers p.early.entries k ≡ false = neither (λ r. leb r.0 c.args.at) (λ r. ltb c.args.at r.0) (λ r. either c.args.at r.0) p.early.entries k (c.in-None.ensures.none k le) (c.start_behind.ensures.none k l) in
    rw (before, none) refl
