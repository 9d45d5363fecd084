use Rattle.std.proofs.Common.{◌≡◌, ◌++◌, suc, length, map, sym, ap, ◌∙◌, arith}
use Rattle.std.specs.VecDeque.Iter.{deque_iter_rest}
use Rattle.dds_cache.specs.Cache.{first_by}
use Rattle.dds_cache.specs.Effects.{chosen_by, passes}
use Rattle.dds_cache.specs.Placed.{placed}
use Rattle.dds_cache.specs.Standing.{known_at}
use Rattle.dds_cache.proofs.Choosing.{enough, more_wanted, one_less, place_more}
use Rattle.dds_cache.proofs.choose.choose_placed.Goals as goal

pub places-preserved-in-Some-judge_place : goal.places-preserved-in-Some-judge_place
places-preserved-in-Some-judge_place g c =
    let find = known_at c.args.instances.now.entries in
    record {
      chosen = place_more {M = g.row.V.Denot} find c.args.wanted.condition c.places.chosen.items _ c.push.new.self.items c.places.left c.places.number c.in-Some.place.now (deque_iter_rest c.places.rest) (deque_iter_rest c.next.new.self) c.in-Some-judge_place.one c.places-test.true (sym c.in-Some-judge_place.is ∙ c.judge_place.ensures) c.in-Some.ensures.steps c.in_ok-push.ensures.items c.places.invariant.chosen;
      left = one_less c.places.chosen.items _ c.in-Some-judge_place.one c.places.left _ c.places-test.true c.in_ok-push.ensures.items c.places.invariant.left;
      small = let one : length (deque_iter_rest c.places.rest) ≡ suc (length (deque_iter_rest c.next.new.self)) = ap length c.in-Some.ensures.steps in omega (arith, c.places.invariant.small, one);
    }

pub returns : goal.returns
returns g c =
    let find = known_at c.args.instances.now.entries in
    let p = passes {M = g.row.V.Denot} find c.args.wanted.condition in
    let f = chosen_by {M = g.row.V.Denot} find in
    let es = placed c.args.first c.args.row.now.items in
    let all = c.args.chosen.now.items ++ map f (first_by p c.args.wanted.max es) in
    let is : c.places.chosen.items ≡ all = enough p f c.places.chosen.items all c.places.left (placed c.places.number (deque_iter_rest c.places.rest)) c.places-test.false c.places.invariant.chosen in
    (is, more_wanted f c.places.chosen.items c.args.chosen.now.items (first_by p c.args.wanted.max es) c.places.left c.args.wanted.max c.places.invariant.left is)
