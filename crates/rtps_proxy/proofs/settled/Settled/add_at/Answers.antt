use Rattle.std.proofs.Common.{◌≡◌, ◌+◌, sym, subst, ℕ, ◌<◌, ◌≤◌, ◌||◌, ◌∙◌, ap, ◌∷◌, ◌++◌, arith, take, drop, is_ok}
use Rattle.std.specs.List.{AllByRecursion, list_any}
use Rattle.rtps_proxy.specs.Runs.{AreApart, EndBelow, Run, end_of, start_of, within}
use Rattle.rtps_proxy.proofs.Apart.{apart_from, apart_test, apart_take, apart_joined, added_behind, added_between, either_apart}
use Rattle.rtps_proxy.proofs.settled.Settled.add_at.Goals as goal

differ : (a b : ℕ) → a ≤ b → (a ≡ b → ⊥) → a < b
differ a b le ne = omega arith

pub joined_from-next-requires-clause-behind : goal.joined_from-next-requires-clause-behind
joined_from-next-requires-clause-behind g c =
    let behind : AllByRecursion (λ r. c.args.start ≤ end_of r) (drop c.args.at c.args.self.now.runs) = c.requires.place.behind in
    rw (c.as_slice.ensures, c.number_at.ensures) behind

pub invariant_of-self-clause-begun : goal.invariant_of-self-clause-begun
invariant_of-self-clause-begun g c = omega arith

pub invariant_of-self-clause-apart : goal.invariant_of-self-clause-apart
invariant_of-self-clause-apart g c =
    let f = c.args.self.now.frontier in
    let runs = c.args.self.now.runs in
    let apart : AreApart f runs = apart_from f runs c.args.self.now.apart in
    let rest : AreApart (end_of c.joined_from-next.result.0) (drop c.joined_from-next.result.1 runs) = rw c.as_slice.ensures at (c.joined_from-next.ensures.rest f (rw c.as_slice.ensures apart)) in
    let last : c.get.result + 1 ≡ end_of c.joined_from-next.result.0 = omega arith in
    rw (last, c.give_up.ensures) (apart_test (end_of c.joined_from-next.result.0) (drop c.joined_from-next.result.1 runs) rest)

pub returns-then-start-self : goal.returns-then-start-self
returns-then-start-self g c = record {
  ok = λ n.
      let f = c.args.self.now.frontier in
      let runs = c.args.self.now.runs in
      let run : Run = (c.number_at.result, c.number_at-2.result) in
      let last : c.get.result + 1 ≡ end_of c.joined_from-next.result.0 = omega arith in
      let joins : (within n c.joined_from-next.result.0 || list_any (within n) (drop c.joined_from-next.result.1 runs)) ≡ (within n run || list_any (within n) (drop c.args.at runs)) = rw c.as_slice.ensures at (c.joined_from-next.ensures.joins n) in
      let before : EndBelow c.args.start (take c.args.at runs) = c.requires.place.before in
      let first : start_of run ≡ c.args.start = c.number_at.ensures in
      let behind : end_of run ≡ c.args.end = omega arith in
      rw (last, c.give_up.ensures)
      (added_behind f c.args.start c.args.end c.args.start n c.joined_from-next.result.1 c.args.at runs run c.joined_from-next.result.0 (omega arith) c.if-start-self.true (omega arith) first behind before joins (omega arith) (omega arith));
}

pub invariant_of-self-then-at-next-clause-apart : goal.invariant_of-self-then-at-next-clause-apart
invariant_of-self-then-at-next-clause-apart g c =
    let f = c.args.self.now.frontier in
    let runs = c.args.self.now.runs in
    let at = c.args.at in
    let j = c.joined_from-next.result.0 in
    let run : Run = (c.number_at.result, c.number_at-2.result) in
    let apart : AreApart f runs = apart_from f runs c.args.self.now.apart in
    let same : AreApart f c.as_slice.result.now = rw c.as_slice.ensures apart in
    let rest : AreApart (end_of j) (drop c.joined_from-next.result.1 runs) = rw c.as_slice.ensures at (c.joined_from-next.ensures.rest f same) in
    let before : EndBelow (start_of run) (take at c.as_slice.result.now) = rw (c.as_slice.ensures, c.number_at.ensures) (c.requires.place.before) in
    let above : f < start_of run = omega arith in
    let ends : EndBelow (start_of j) (take at runs) = rw c.as_slice.ensures at (c.joined_from-next.ensures.before f same before) in
    let whole : AreApart f (take at runs ++ j ∷ drop c.joined_from-next.result.1 runs) = apart_joined f (take at runs) (drop c.joined_from-next.result.1 runs) j (apart_take f runs apart at) (c.joined_from-next.ensures.first f same above) ends c.joined_from-next.ensures.some rest in
    let same_place : c.joined_from-next.result.1 ≡ at = sym c.if-at-next.true in
    let here : AreApart f (take at runs ++ j ∷ drop at runs) = subst (λ (k : ℕ). AreApart f (take at runs ++ j ∷ drop k runs)) same_place whole in
    rw c.insert.ensures.items (either_apart f (is_ok c.insert.result) (take at runs ++ j ∷ drop at runs) runs (apart_test f (take at runs ++ j ∷ drop at runs) here) c.args.self.now.apart)

pub returns-in_ok-insert : goal.returns-in_ok-insert
returns-in_ok-insert g c = record {
  ok = λ n.
      let f = c.args.self.now.frontier in
      let runs = c.args.self.now.runs in
      let at = c.args.at in
      let j = c.joined_from-next.result.0 in
      let run : Run = (c.number_at.result, c.number_at-2.result) in
      let joins : (within n j || list_any (within n) (drop c.joined_from-next.result.1 runs)) ≡ (within n run || list_any (within n) (drop at runs)) = rw c.as_slice.ensures at (c.joined_from-next.ensures.joins n) in
      let first : start_of run ≡ c.args.start = c.number_at.ensures in
      let behind : end_of run ≡ c.args.end = omega arith in
      let all : c.insert.new.self ≡ take at runs ++ j ∷ drop c.joined_from-next.result.1 runs = c.in_ok-insert.ensures.items ∙ ap (λ (k : ℕ). take at runs ++ j ∷ drop k runs) c.if-at-next.true in
      rw all (added_between f c.args.start c.args.end c.args.start n c.joined_from-next.result.1 at runs run j (omega arith) (omega arith) first behind joins);
}

pub invariant_of-self-else-at-next-clause-apart : goal.invariant_of-self-else-at-next-clause-apart
invariant_of-self-else-at-next-clause-apart g c =
    let f = c.args.self.now.frontier in
    let runs = c.args.self.now.runs in
    let at = c.args.at in
    let next = c.joined_from-next.result.1 in
    let j = c.joined_from-next.result.0 in
    let run : Run = (c.number_at.result, c.number_at-2.result) in
    let apart : AreApart f runs = apart_from f runs c.args.self.now.apart in
    let same : AreApart f c.as_slice.result.now = rw c.as_slice.ensures apart in
    let rest : AreApart (end_of j) (drop next runs) = rw c.as_slice.ensures at (c.joined_from-next.ensures.rest f same) in
    let before : EndBelow (start_of run) (take at c.as_slice.result.now) = rw (c.as_slice.ensures, c.number_at.ensures) (c.requires.place.before) in
    let above : f < start_of run = omega arith in
    let ends : EndBelow (start_of j) (take at runs) = rw c.as_slice.ensures at (c.joined_from-next.ensures.before f same before) in
    let whole : AreApart f (take at runs ++ j ∷ drop next runs) = apart_joined f (take at runs) (drop next runs) j (apart_take f runs apart at) (c.joined_from-next.ensures.first f same above) ends c.joined_from-next.ensures.some rest in
    rw c.replace.ensures (apart_test f (take at runs ++ j ∷ drop next runs) whole)

pub returns-else-at-next : goal.returns-else-at-next
returns-else-at-next g c = record {
  ok = λ n.
      let f = c.args.self.now.frontier in
      let runs = c.args.self.now.runs in
      let at = c.args.at in
      let next = c.joined_from-next.result.1 in
      let j = c.joined_from-next.result.0 in
      let run : Run = (c.number_at.result, c.number_at-2.result) in
      let joins : (within n j || list_any (within n) (drop next runs)) ≡ (within n run || list_any (within n) (drop at runs)) = rw c.as_slice.ensures at (c.joined_from-next.ensures.joins n) in
      let first : start_of run ≡ c.args.start = c.number_at.ensures in
      let behind : end_of run ≡ c.args.end = omega arith in
      rw c.replace.ensures
      (added_between f c.args.start c.args.end c.args.start n next at runs run j (omega arith) (omega arith) first behind joins);
}

pub replace-requires-clause-some : goal.replace-requires-clause-some
replace-requires-clause-some g c = differ c.args.at c.joined_from-next.result.1 c.joined_from-next.ensures.order c.if-at-next.false
