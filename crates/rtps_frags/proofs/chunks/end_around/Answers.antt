use Rattle.std.proofs.Common.{◌≡◌, ℕ, ◌≤◌, [], ◌∷◌, ◌++◌, true, sym, ◌∙◌, ap, arith, leb, not}
use Rattle.std.specs.List.{filter}
use Rattle.std.specs.Ordering.{is_lt, nat_cmp}
use Rattle.std.proofs.lemmas.Bool.Decides.{nat_tests}
use Rattle.rtps_frags.specs.Runs.{AreApart, Run, begun_by, end_of, within}
use Rattle.rtps_frags.proofs.Runs.{apart_filter, filter_same, last_covers, none_behind}
use Rattle.rtps_frags.proofs.chunks.end_around.Goals as goal

begins : (at n : ℕ) → not (is_lt (nat_cmp at n)) ≡ leb n at
begins at n = grind (arith, nat_tests)

pub returns-then-from-end-clause-all : goal.returns-then-from-end-clause-all
returns-then-from-end-clause-all g c = λ k le l.
    let runs = c.args.early.now.entries in
    let r : ℕ × Run = (c.in_ok-start.start.now, c.in_ok-start.chunk.now) in
    let count : r.1.count ≡ c.chunk.inside.count = ap (λ (x : Run). x.count) (sym c.chunk.view_is) in
    let inside : within k r ≡ true = grind (arith, nat_tests, count) in
    let between : c.range.result ≡ filter (λ e. not (is_lt (nat_cmp c.args.at e.0))) runs = c.range.ensures.between tt in
    last_covers (λ e. not (is_lt (nat_cmp c.args.at e.0))) runs c.next_back.new.self r k (sym between ∙ c.in_ok-start.ensures.steps) inside

pub returns-else-from-end-clause-none : goal.returns-else-from-end-clause-none
returns-else-from-end-clause-none g c = λ k le.
    let runs = c.args.early.now.entries in
    let r : ℕ × Run = (c.in_ok-start.start.now, c.in_ok-start.chunk.now) in
    let count : r.1.count ≡ c.chunk.inside.count = ap (λ (x : Run). x.count) (sym c.chunk.view_is) in
    let between : c.range.result ≡ filter (λ e. not (is_lt (nat_cmp c.args.at e.0))) runs = c.range.ensures.between tt in
    let same : filter (λ e. not (is_lt (nat_cmp c.args.at e.0))) runs ≡ begun_by c.args.at runs = filter_same (λ e. not (is_lt (nat_cmp c.args.at e.0))) (λ e. leb e.0 c.args.at) (λ e. begins c.args.at e.0) runs in
    let is : begun_by c.args.at runs ≡ c.next_back.new.self ++ r ∷ [] = sym same ∙ sym between ∙ c.in_ok-start.ensures.steps in
    let apart : AreApart c.requires.0 (c.next_back.new.self ++ r ∷ []) = rw (← is) (apart_filter (λ e. leb e.0 c.args.at) runs c.requires.0 c.requires.1) in
    let ends : end_of r ≤ k = omega (arith, count) in
    rw is (none_behind c.next_back.new.self r c.requires.0 k apart ends).1
