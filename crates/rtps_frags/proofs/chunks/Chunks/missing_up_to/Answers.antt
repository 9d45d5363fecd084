use Rattle.std.proofs.Common.{◌≡◌, ◌+◌, ◌-◌, true, false, ◌&&◌, sym, ◌∙◌, ap, arith, refl, leb, ltb, min, Some}
use Rattle.std.proofs.lemmas.Bool.Decides.{nat_tests}
use Rattle.rtps_types.specs.Named.{set_naming}
use Rattle.rtps_types.specs.Numbers.{failing_from}
use Rattle.rtps_frags.specs.Chunks.{holds}
use Rattle.rtps_frags.specs.Runs.{covers}
use Rattle.rtps_frags.proofs.Assembled.{nothing_missing, some_missing}
use Rattle.rtps_frags.proofs.Runs.{none_below}
use Rattle.rtps_frags.proofs.chunks.Chunks.missing_up_to.Goals as goal

pub returns-then-end-self : goal.returns-then-end-self
returns-then-end-self g c =
    let p = c.args.self.now in
    sym (nothing_missing (holds p) p.next c.args.end (λ k one l. let inside : (leb 1 k && ltb k p.next) ≡ true = grind (arith, nat_tests) in rw inside refl) c.if-end-self.true)

pub returns : goal.returns
returns g c =
    let p = c.args.self.now in
    let out : (leb 1 p.next && ltb p.next p.next) ≡ false = grind (arith, nat_tests) in
    let none : covers p.early.entries p.next ≡ false = none_below p.early.entries (p.next + 1) p.next c.requires.apart (omega arith) in
    let count : c.min-count.result + 1 ≡ min 256 (c.args.end + 1 - p.next) = omega (arith, c.min-count.ensures) in
    ap (λ s. Some s) c.missing_from_next.ensures
    ∙ ap (λ n. Some (set_naming p.next (failing_from (holds p) p.next n))) count
    ∙ sym (some_missing (holds p) p.next c.args.end c.requires.begun (λ k one l. let inside : (leb 1 k && ltb k p.next) ≡ true = grind (arith, nat_tests) in rw inside refl) (rw (out, none) refl) c.if-end-self.false)
