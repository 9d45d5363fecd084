use Rattle.std.proofs.Common.{◌≡◌, ℕ, ◌-◌, List, ◌∷◌, ◌++◌, map, ap, ◌∙◌, subst}
use Rattle.dds_cache.specs.declared.entry.Entry.{Entry}
use Rattle.dds_cache.specs.Cache.{first_by}
use Rattle.dds_cache.specs.Effects.{chosen_by, passes}
use Rattle.dds_cache.specs.Standing.{known_at}
use Rattle.dds_cache.proofs.Choosing.{enough, judged, more_wanted, one_less, one_more}
use Rattle.dds_cache.proofs.choose.choose_all.Goals as goal

pub entries-preserved-in-Some-judge : goal.entries-preserved-in-Some-judge
entries-preserved-in-Some-judge g c =
    let find = known_at c.args.instances.now.entries in
    let p = passes {M = g.row.V.Denot} find c.args.wanted.condition in
    let f = chosen_by {M = g.row.V.Denot} find in
    let e : ℕ × Entry g.row.V.Denot = (c.in-Some.number.now, c.in-Some.entry.now) in
    let all = c.args.chosen.now.items ++ map f (first_by p c.args.wanted.max c.args.entries.now.entries) in
    let j = judged (p e) (f e) c.in-Some-judge.one c.in-Some-judge.ensures in
    let before : c.entries.chosen.items ++ map f (first_by p c.entries.left (e ∷ c.next.new.self)) ≡ all = subst (λ (l : List (ℕ × Entry g.row.V.Denot)). c.entries.chosen.items ++ map f (first_by p c.entries.left l) ≡ all) c.in-Some.ensures.steps c.entries.invariant.chosen in
    record {
      chosen = ap (λ l. l ++ map f (first_by p (c.entries.left - 1) c.next.new.self)) c.in_ok-push.ensures.items
          ∙ one_more p f c.entries.chosen.items all c.entries.left e c.next.new.self c.in-Some-judge.one c.entries-test.true j.0 j.1 before;
      left = one_less c.entries.chosen.items _ c.in-Some-judge.one c.entries.left _ c.entries-test.true c.in_ok-push.ensures.items c.entries.invariant.left;
    }

pub returns : goal.returns
returns g c =
    let find = known_at c.args.instances.now.entries in
    let p = passes {M = g.row.V.Denot} find c.args.wanted.condition in
    let f = chosen_by {M = g.row.V.Denot} find in
    let all = c.args.chosen.now.items ++ map f (first_by p c.args.wanted.max c.args.entries.now.entries) in
    let is : c.entries.chosen.items ≡ all = enough p f c.entries.chosen.items all c.entries.left c.entries.rest c.entries-test.false c.entries.invariant.chosen in
    (is, more_wanted f c.entries.chosen.items c.args.chosen.now.items (first_by p c.args.wanted.max c.args.entries.now.entries) c.entries.left c.args.wanted.max c.entries.invariant.left is)
