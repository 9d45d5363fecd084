use Rattle.std.proofs.Common.{◌≡◌, ℕ, ◌∷◌, true, ◌&&◌, sym, ◌∙◌, subst, arith, ltb}
use Rattle.std.specs.List.{filter}
use Rattle.std.specs.Ordering.{is_lt, nat_cmp}
use Rattle.std.proofs.lemmas.Bool.Decides.{nat_tests}
use Rattle.rtps_frags.specs.Runs.{AreApart, Run, Runs, begins_behind}
use Rattle.rtps_frags.proofs.Runs.{apart_filter, filter_same, none_below}
use Rattle.rtps_frags.proofs.chunks.start_behind.Goals as goal

begins : (at n : ℕ) → (is_lt (nat_cmp at n) && true) ≡ ltb at n
begins at n = grind (arith, nat_tests)

pub returns-in-Some-clause-none : goal.returns-in-Some-clause-none
returns-in-Some-clause-none g c = λ k l.
    let runs = c.args.early.now.entries in
    let r : ℕ × Run = (c.in-Some.start.now, c.in-Some.field-0-1.now) in
    let between : c.range.result ≡ filter (λ e. is_lt (nat_cmp c.args.at e.0) && true) runs = c.range.ensures.between tt in
    let same : filter (λ e. is_lt (nat_cmp c.args.at e.0) && true) runs ≡ begins_behind c.args.at runs = filter_same (λ e. is_lt (nat_cmp c.args.at e.0) && true) (λ e. ltb c.args.at e.0) (λ e. begins c.args.at e.0) runs in
    let is : begins_behind c.args.at runs ≡ r ∷ c.next.new.self = sym same ∙ sym between ∙ c.in-Some.ensures.steps in
    let low : AreApart c.requires.0 (r ∷ c.next.new.self) = subst (λ (rs : Runs). AreApart c.requires.0 rs) is (apart_filter (λ e. ltb c.args.at e.0) runs c.requires.0 c.requires.1) in
    let apart : AreApart c.in-Some.start.now (r ∷ c.next.new.self) = (omega arith, low.1, low.2) in
    rw is (none_below (r ∷ c.next.new.self) c.in-Some.start.now k apart (omega (arith, l)))
