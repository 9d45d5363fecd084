use Rattle.std.proofs.Common.{◌≡◌, ℕ, ◌-◌, List, ◌∷◌, ◌++◌, map, Some, ap, sym, ◌∙◌, subst}
use Rattle.std.specs.Map.{lookup}
use Rattle.std.specs.Option.{option_copied}
use Rattle.dds_cache.specs.declared.entry.Entry.{Entry}
use Rattle.dds_cache.specs.Cache.{first_by}
use Rattle.dds_cache.specs.Effects.{chosen_by, looked, passes, with_found}
use Rattle.dds_cache.specs.Standing.{is_number, known_at}
use Rattle.dds_cache.proofs.Choosing.{enough, judged, more_wanted, not_this, one_less, one_more, refused}
use Rattle.dds_cache.proofs.choose.choose_unread.Goals as goal

pub numbers-preserved-in-Some-judge : goal.numbers-preserved-in-Some-judge
numbers-preserved-in-Some-judge g c =
    let find = known_at c.args.instances.now.entries in
    let es = c.args.entries.now.entries in
    let p = passes {M = g.row.V.Denot} find c.args.wanted.condition in
    let f = chosen_by {M = g.row.V.Denot} find in
    let n = c.in-Some.number.now in
    let e : ℕ × Entry g.row.V.Denot = (n, c.in-Some-get.entry.now) in
    let all = c.args.chosen.now.items ++ map f (first_by p c.args.wanted.max (looked es c.args.numbers.now.keys)) in
    let j = judged (p e) (f e) c.in-Some-judge.one c.in-Some-judge.ensures in
    let found : lookup (is_number n) es ≡ Some c.in-Some-get.entry.now = sym c.get.ensures.value ∙ ap option_copied c.in-Some-get.is in
    let cut : looked es c.numbers.rest ≡ e ∷ looked es c.next.new.self = ap (looked es) c.in-Some.ensures.steps ∙ ap (λ o. with_found n o (looked es c.next.new.self)) found in
    let before : c.numbers.chosen.items ++ map f (first_by p c.numbers.left (e ∷ looked es c.next.new.self)) ≡ all = subst (λ (l : List (ℕ × Entry g.row.V.Denot)). c.numbers.chosen.items ++ map f (first_by p c.numbers.left l) ≡ all) cut c.numbers.invariant.chosen in
    record {
      chosen = ap (λ l. l ++ map f (first_by p (c.numbers.left - 1) (looked es c.next.new.self))) c.in_ok-push.ensures.items
          ∙ one_more p f c.numbers.chosen.items all c.numbers.left e (looked es c.next.new.self) c.in-Some-judge.one c.numbers-test.true j.0 j.1 before;
      left = one_less c.numbers.chosen.items _ c.in-Some-judge.one c.numbers.left _ c.numbers-test.true c.in_ok-push.ensures.items c.numbers.invariant.left;
    }

pub numbers-preserved-in_default-judge : goal.numbers-preserved-in_default-judge
numbers-preserved-in_default-judge g c =
    let find = known_at c.args.instances.now.entries in
    let es = c.args.entries.now.entries in
    let p = passes {M = g.row.V.Denot} find c.args.wanted.condition in
    let f = chosen_by {M = g.row.V.Denot} find in
    let n = c.in-Some.number.now in
    let e : ℕ × Entry g.row.V.Denot = (n, c.in-Some-get.entry.now) in
    let all = c.args.chosen.now.items ++ map f (first_by p c.args.wanted.max (looked es c.args.numbers.now.keys)) in
    let not_so = refused (p e) (f e) (sym c.in_default-judge.is ∙ c.judge.ensures) in
    let found : lookup (is_number n) es ≡ Some c.in-Some-get.entry.now = sym c.get.ensures.value ∙ ap option_copied c.in-Some-get.is in
    let cut : looked es c.numbers.rest ≡ e ∷ looked es c.next.new.self = ap (looked es) c.in-Some.ensures.steps ∙ ap (λ o. with_found n o (looked es c.next.new.self)) found in
    let before : c.numbers.chosen.items ++ map f (first_by p c.numbers.left (e ∷ looked es c.next.new.self)) ≡ all = subst (λ (l : List (ℕ × Entry g.row.V.Denot)). c.numbers.chosen.items ++ map f (first_by p c.numbers.left l) ≡ all) cut c.numbers.invariant.chosen in
    record {
      chosen = not_this p f c.numbers.chosen.items all c.numbers.left e (looked es c.next.new.self) c.numbers-test.true not_so before;
      left = c.numbers.invariant.left;
    }

pub returns : goal.returns
returns g c =
    let find = known_at c.args.instances.now.entries in
    let p = passes {M = g.row.V.Denot} find c.args.wanted.condition in
    let f = chosen_by {M = g.row.V.Denot} find in
    let es = c.args.entries.now.entries in
    let all = c.args.chosen.now.items ++ map f (first_by p c.args.wanted.max (looked es c.args.numbers.now.keys)) in
    let is : c.numbers.chosen.items ≡ all = enough p f c.numbers.chosen.items all c.numbers.left (looked es c.numbers.rest) c.numbers-test.false c.numbers.invariant.chosen in
    (is, more_wanted f c.numbers.chosen.items c.args.chosen.now.items (first_by p c.args.wanted.max (looked es c.args.numbers.now.keys)) c.numbers.left c.args.wanted.max c.numbers.invariant.left is)
