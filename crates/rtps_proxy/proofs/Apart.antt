-- Lemmas on runs.
use Rattle.std.proofs.Common.{◌≡◌, ℕ, zero, suc, ◌+◌, ◌-◌, ◌<◌, ◌≤◌, Bool, true, false, ◌&&◌, ◌||◌, cond, List, [], ◌∷◌, ◌++◌, refl, sym, arith, ltb, leb, inl, inr, max, min, length, take, drop, get_or, add-one, drop-cons}
use Rattle.std.proofs.Math.Bool.{or_assoc, or-true}
use Rattle.std.proofs.lemmas.List.{take_all, drop_all}
use Rattle.std.proofs.lemmas.List.Folds.{list_any-append}
use Rattle.std.specs.List.{list_any, AllByRecursion}
use Rattle.std.specs.List.Sorted.{IsPartitionedBy}
use Rattle.std.proofs.lemmas.Bool.Decides.{nat_tests, leb_tells}
use Rattle.rtps_types.specs.Number.{value_of}
use Rattle.rtps_types.specs.Numbers.{count_failing}
use Rattle.rtps_proxy.specs.Runs.{AreApart, EndBelow, Run, are_apart, end_of, marks, missing_from, start_of, within}

apart_end : (low : ℕ) (rs : List Run) → AreApart low rs → (j : ℕ) (d : Run) → j < length rs → low < end_of (get_or rs j d)
apart_end low [] h j d l = absurd (omega arith)
apart_end low (r ∷ rs) h zero d l = let a = h.0 in let b = h.1.0 in omega arith
apart_end low (r ∷ rs) h (suc j) d l = let a = h.0 in let b = h.1.0 in let rest : end_of r < end_of (get_or rs j d) = apart_end (end_of r) rs h.1.1 j d (omega arith) in omega arith

pub ends_rise : (low : ℕ) (rs : List Run) → AreApart low rs → (i j : ℕ) (d e : Run) → i ≤ j → j < length rs → end_of (get_or rs i e) ≤ end_of (get_or rs j d)
ends_rise low [] h i j d e le l = absurd (omega arith)
ends_rise low (r ∷ rs) h zero zero d e le l = omega arith
ends_rise low (r ∷ rs) h zero (suc j) d e le l = let rest : end_of r < end_of (get_or rs j d) = apart_end (end_of r) rs h.1.1 j d (omega arith) in omega arith
ends_rise low (r ∷ rs) h (suc i) zero d e le l = absurd (omega arith)
ends_rise low (r ∷ rs) h (suc i) (suc j) d e le l = ends_rise (end_of r) rs h.1.1 i j d e (omega arith) (omega arith)

pub apart_parts : (low number : ℕ) (rs : List Run) → AreApart low rs → IsPartitionedBy (λ r. ltb (end_of r) number) rs
apart_parts low number rs h i j d le l e =
    let rise : end_of (get_or rs i d) ≤ end_of (get_or rs j d) = ends_rise low rs h i j d d le l in
    grind (arith, nat_tests)

pub all_front : (P : Run → Type 0) (rs : List Run) (i : ℕ) → ((k : ℕ) (d : Run) → k < i → P (get_or rs k d)) → i ≤ length rs → AllByRecursion P (take i rs)
all_front P [] zero h le = tt
all_front P [] (suc i) h le = tt
all_front P (r ∷ rs) zero h le = tt
all_front P (r ∷ rs) (suc i) h le = (h zero r (omega arith), all_front P rs i (λ k d l. h (suc k) d (omega arith)) (omega arith))

pub all_back : (P : Run → Type 0) (rs : List Run) (i : ℕ) → ((k : ℕ) (d : Run) → i ≤ k → k < length rs → P (get_or rs k d)) → AllByRecursion P (drop i rs)
all_back P [] zero h = tt
all_back P [] (suc i) h = tt
all_back P (r ∷ rs) zero h = (h zero r (omega arith) (omega arith), all_back P rs zero (λ k d le l. h (suc k) d (omega arith) (omega arith)))
all_back P (r ∷ rs) (suc i) h = all_back P rs i (λ k d le l. h (suc k) d (omega arith) (omega arith))

pub starts_behind : (low : ℕ) (rs : List Run) → AreApart low rs → (k : ℕ) (d : Run) → k < length rs → low < start_of (get_or rs k d)
starts_behind low [] h k d l = absurd (omega arith)
starts_behind low (r ∷ rs) h zero d l = h.0
starts_behind low (r ∷ rs) h (suc k) d l = let a = h.0 in let b = h.1.0 in let rest : end_of r < start_of (get_or rs k d) = starts_behind (end_of r) rs h.1.1 k d (omega arith) in omega arith

-- a run after a place begins after the ends of those before it
pub ends_before : (low : ℕ) (rs : List Run) → AreApart low rs → (at k : ℕ) (d : Run) → at ≤ k → k < length rs → EndBelow (start_of (get_or rs k d)) (take at rs)
ends_before low [] h at k d le l = absurd (omega arith)
ends_before low (r ∷ rs) h zero k d le l = tt
ends_before low (r ∷ rs) h (suc at) zero d le l = absurd (omega arith)
ends_before low (r ∷ rs) h (suc at) (suc k) d le l = (starts_behind (end_of r) rs h.1.1 k d (omega arith), ends_before (end_of r) rs h.1.1 at k d (omega arith) (omega arith))

pub apart_drop : (low : ℕ) (rs : List Run) → AreApart low rs → (k m : ℕ) (d : Run) → (k < length rs → m < start_of (get_or rs k d)) → AreApart m (drop k rs)
apart_drop low [] h zero m d g = tt
apart_drop low [] h (suc k) m d g = tt
apart_drop low (r ∷ rs) h zero m d g = (g (omega arith), h.1)
apart_drop low (r ∷ rs) h (suc k) m d g = apart_drop (end_of r) rs h.1.1 k m d (λ l. g (omega arith))

pub apart_joined : (low : ℕ) (front back : List Run) (r : Run) → AreApart low front → low < start_of r → EndBelow (start_of r) front → start_of r < end_of r → AreApart (end_of r) back → AreApart low (front ++ r ∷ back)
apart_joined low [] back r h first ends some rest = (first, (some, rest))
apart_joined low (f ∷ front) back r h first ends some rest = (h.0, (h.1.0, apart_joined (end_of f) front back r h.1.1 ends.0 ends.1 some rest))

-- a run from the lesser first number to the greater last one
pub record IsHull (a b h : Run) : Type 0 where
  pub starts : start_of h ≡ min (start_of a) (start_of b)
  pub ends : end_of h ≡ max (end_of a) (end_of b)

-- two runs that touch make one
pub within_hull : (n : ℕ) (a b h : Run) → IsHull a b h → start_of a < end_of a → start_of b ≤ end_of a → start_of a ≤ end_of b → within n h ≡ (within n a || within n b)
within_hull n a b h is some ab ba = let x = is.starts in let y = is.ends in grind (arith, nat_tests)

below_min : (a b : ℕ) (rs : List Run) → EndBelow a rs → EndBelow b rs → EndBelow (min a b) rs
below_min a b [] h k = tt
below_min a b (r ∷ rs) h k = let x = h.0 in let y = k.0 in (omega arith, below_min a b rs h.1 k.1)

pub next_of : (rs : List Run) (next : ℕ) (d : Run) → next < length rs → drop next rs ≡ get_or rs next d ∷ drop (next + 1) rs
next_of rs next d l = rw (add-one, drop-cons rs next d) refl

pub join_behind : (rs : List Run) (next start : ℕ) (d : Run) → next < length rs → AllByRecursion (λ r. start ≤ end_of r) (drop next rs) → (start ≤ end_of (get_or rs next d)) × AllByRecursion (λ r. start ≤ end_of r) (drop (next + 1) rs)
join_behind rs next start d l h = let e = next_of rs next d l in rw e at h

pub join_joins : (rs : List Run) (next : ℕ) (run j d h : Run) (n : ℕ) → next < length rs → IsHull j (get_or rs next d) h → start_of j < end_of j → start_of (get_or rs next d) ≤ end_of j → start_of j ≤ start_of run → AllByRecursion (λ r. start_of run ≤ end_of r) (drop next rs) → (within n h || list_any (within n) (drop (next + 1) rs)) ≡ (within n j || list_any (within n) (drop next rs))
join_joins rs next run j d h n l is some touches starts behind =
    let e = next_of rs next d l in
    let ends : start_of run ≤ end_of (get_or rs next d) = (join_behind rs next (start_of run) d l behind).0 in
    rw (e, within_hull n j (get_or rs next d) h is some touches (omega arith)) (or_assoc (within n j) (within n (get_or rs next d)) (list_any (within n) (drop (next + 1) rs)))

pub join_first : (rs : List Run) (next low : ℕ) (j d h : Run) → next < length rs → AreApart low rs → IsHull j (get_or rs next d) h → low < start_of j → low < start_of h
join_first rs next low j d h l apart is first =
    let b : low < start_of (get_or rs next d) = starts_behind low rs apart next d l in
    let x = is.starts in
    omega arith

pub join_ends : (rs : List Run) (at next low : ℕ) (j d h : Run) → at ≤ next → next < length rs → AreApart low rs → IsHull j (get_or rs next d) h → EndBelow (start_of j) (take at rs) → EndBelow (start_of h) (take at rs)
join_ends rs at next low j d h le l apart is ends =
    let both : EndBelow (min (start_of j) (start_of (get_or rs next d))) (take at rs) = below_min (start_of j) (start_of (get_or rs next d)) (take at rs) ends (ends_before low rs apart at next d le l) in
    rw is.starts both

and_both : (a b : Bool) → (a && b) ≡ true → (a ≡ true) × (b ≡ true)
and_both true b h = (refl, h)
and_both false b h = absurd cc

pub apart_from : (low : ℕ) (rs : List Run) → are_apart low rs ≡ true → AreApart low rs
apart_from low [] h = tt
apart_from low (r ∷ rs) h =
    let a = and_both (ltb low (start_of r)) (ltb (start_of r) (end_of r) && are_apart (end_of r) rs) h in
    let b = and_both (ltb (start_of r) (end_of r)) (are_apart (end_of r) rs) a.1 in
    (grind (arith, nat_tests, a.0), (grind (arith, nat_tests, b.0), apart_from (end_of r) rs b.1))

pub apart_test : (low : ℕ) (rs : List Run) → AreApart low rs → are_apart low rs ≡ true
apart_test low [] h = refl
apart_test low (r ∷ rs) h =
    let a : ltb low (start_of r) ≡ true = grind (arith, nat_tests, h.0) in
    let b : ltb (start_of r) (end_of r) ≡ true = grind (arith, nat_tests, h.1.0) in
    rw (a, b) (apart_test (end_of r) rs h.1.1)

neither : (b : Bool) → ((b && false) || false) ≡ false
neither true = refl
neither false = refl

-- runs that end below a number don't hold it
pub none_before : (f n : ℕ) (rs : List Run) → EndBelow f rs → f ≤ n + 1 → list_any (within n) rs ≡ false
none_before f n [] h le = refl
none_before f n (r ∷ rs) h le =
    let rest : list_any (within n) rs ≡ false = none_before f n rs h.1 le in
    let a = h.0 in
    let c : leb n (value_of r.1) ≡ false = grind (arith, nat_tests) in
    rw (c, rest) (neither (leb (value_of r.0) n))

-- runs after a number don't hold it, nor any number below
pub none_behind : (low n : ℕ) (rs : List Run) → AreApart low rs → n ≤ low → list_any (within n) rs ≡ false
none_behind low n [] h le = refl
none_behind low n (r ∷ rs) h le =
    let a = h.0 in
    let b = h.1.0 in
    let rest : list_any (within n) rs ≡ false = none_behind (end_of r) n rs h.1.1 (omega arith) in
    let c : leb (value_of r.0) n ≡ false = grind (arith, nat_tests) in
    rw (c, rest) refl

pub parts_of : (rs : List Run) (at n : ℕ) → list_any (within n) rs ≡ (list_any (within n) (take at rs) || list_any (within n) (drop at rs))
parts_of [] zero n = refl
parts_of [] (suc at) n = refl
parts_of (r ∷ rs) zero n = refl
parts_of (r ∷ rs) (suc at) n = rw (parts_of rs at n) (sym (or_assoc (within n r) (list_any (within n) (take at rs)) (list_any (within n) (drop at rs))))

-- the numbers of a run from start on and below end, above a frontier
clipped : (start end from f n : ℕ) (run : Run) → from ≡ max start f → start_of run ≡ from → end_of run ≡ end → f ≤ n → within n run ≡ (leb start n && ltb n end)
clipped start end from f n run is starts ends le = grind (arith, nat_tests)

-- a run at the frontier, joined with those that it touches
pub added_behind : (f start end from n next at : ℕ) (rs : List Run) (run joined : Run) → from ≡ max start f → from ≡ f → f < end → start_of run ≡ from → end_of run ≡ end → EndBelow from (take at rs) → (within n joined || list_any (within n) (drop next rs)) ≡ (within n run || list_any (within n) (drop at rs)) → start_of joined ≤ from → end ≤ end_of joined → marks (end_of joined) (drop next rs) n ≡ ((leb start n && ltb n end) || marks f rs n)
added_behind f start end from n next at rs run joined is here some starts stops ends joins low high =
    elim (leb_tells (suc n) f) [
      | inl w ↦ (
          let under : ltb n (end_of joined) ≡ true = grind (arith, nat_tests) in
          rw (under, w.0) (sym (or-true (leb start n && ltb n end)))
          )
      | inr w ↦ (
          let clip : within n run ≡ (leb start n && ltb n end) = clipped start end from f n run is starts stops (omega arith) in
          let all : ltb n (end_of joined) ≡ within n joined = grind (arith, nat_tests) in
          let before : list_any (within n) (take at rs) ≡ false = none_before from n (take at rs) ends (omega arith) in
          rw (all, joins, clip, w.0, parts_of rs at n, before) refl
          )
    ]

pub added_between : (f start end from n next at : ℕ) (rs : List Run) (run joined : Run) → from ≡ max start f → f < end → start_of run ≡ from → end_of run ≡ end → (within n joined || list_any (within n) (drop next rs)) ≡ (within n run || list_any (within n) (drop at rs)) → marks f (take at rs ++ joined ∷ drop next rs) n ≡ ((leb start n && ltb n end) || marks f rs n)
added_between f start end from n next at rs run joined is some starts stops joins =
    elim (leb_tells (suc n) f) [
      | inl w ↦ rw w.0 (sym (or-true (leb start n && ltb n end)))
      | inr w ↦ (
          let clip : within n run ≡ (leb start n && ltb n end) = clipped start end from f n run is starts stops (omega arith) in
          rw (w.0, list_any-append (within n) (take at rs) (joined ∷ drop next rs), joins, clip, parts_of rs at n)
          (swapped (list_any (within n) (take at rs)) (leb start n && ltb n end) (list_any (within n) (drop at rs)))
          )
    ]
  where
    swapped : (a b c : Bool) → (a || (b || c)) ≡ (b || (a || c))
    swapped true true c = refl
    swapped true false c = refl
    swapped false b c = refl

-- whether a number is in the first run that ends after it
pub found_in : (low : ℕ) (rs : List Run) (at n : ℕ) (d : Run) → AreApart low rs → EndBelow (n + 1) (take at rs) → AllByRecursion (λ r. n + 1 ≤ end_of r) (drop at rs) → list_any (within n) rs ≡ (ltb at (length rs) && leb (start_of (get_or rs at d)) n)
found_in low [] zero n d apart ends reaches = refl
found_in low [] (suc at) n d apart ends reaches = let none : ltb (suc at) 0 ≡ false = grind (arith, nat_tests) in rw none refl
found_in low (r ∷ rs) zero n d apart ends reaches =
    let a = reaches.0 in
    let rest : list_any (within n) rs ≡ false = none_behind (end_of r) n rs apart.1.1 (omega arith) in
    let c : leb n (value_of r.1) ≡ true = grind (arith, nat_tests) in
    let some : ltb 0 (length (r ∷ rs)) ≡ true = grind (arith, nat_tests) in
    rw (rest, c, some) (alone (leb (value_of r.0) n))
  where
    alone : (b : Bool) → ((b && true) || false) ≡ (true && b)
    alone true = refl
    alone false = refl
found_in low (r ∷ rs) (suc at) n d apart ends reaches =
    let a = ends.0 in
    let rest : list_any (within n) rs ≡ (ltb at (length rs) && leb (start_of (get_or rs at d)) n) = found_in (end_of r) rs at n d apart.1.1 ends.1 reaches in
    let c : leb n (value_of r.1) ≡ false = grind (arith, nat_tests) in
    let less : ltb (suc at) (length (r ∷ rs)) ≡ ltb at (length rs) = grind (arith, nat_tests) in
    rw (c, less, ← rest) (other (leb (value_of r.0) n) (list_any (within n) rs))
  where
    other : (b d : Bool) → ((b && false) || d) ≡ d
    other true d = refl
    other false d = refl

-- a number that isn't below the frontier is in the set where it is in a run
pub contains_is : (f : ℕ) (rs : List Run) (n : ℕ) → f ≤ n → marks f rs n ≡ list_any (within n) rs
contains_is f rs n le = let above : ltb n f ≡ false = grind (arith, nat_tests) in rw above refl

-- no run ends after it
pub found_none : (rs : List Run) (at n : ℕ) → EndBelow (n + 1) (take at rs) → length rs ≤ at → list_any (within n) rs ≡ false
found_none rs at n ends all =
    let whole : EndBelow (n + 1) rs = rw (take_all at rs all) at ends in
    none_before (n + 1) n rs whole (omega arith)

pub end_more : (n m : ℕ) (rs : List Run) → n ≤ m → EndBelow n rs → EndBelow m rs
end_more n m [] le h = tt
end_more n m (r ∷ rs) le h = let a = h.0 in (omega arith, end_more n m rs le h.1)

-- where a run reaches a number, so do those after it
pub reach_all : (low n : ℕ) (rs : List Run) (at : ℕ) (e : Run) → AreApart low rs → (at < length rs → n ≤ end_of (get_or rs at e)) → AllByRecursion (λ r. n ≤ end_of r) (drop at rs)
reach_all low n rs at e apart reaches =
    all_back (λ r. n ≤ end_of r) rs at (λ k d le l.
    let rise : end_of (get_or rs at e) ≤ end_of (get_or rs k d) = ends_rise low rs apart at k d e le l in
    let here : n ≤ end_of (get_or rs at e) = reaches (omega arith) in
    omega arith)

-- and the next one begins after its end
pub next_behind : (low : ℕ) (rs : List Run) (at : ℕ) (d e : Run) → AreApart low rs → suc at < length rs → end_of (get_or rs at e) < end_of (get_or rs (suc at) d)
next_behind low [] at d e apart l = absurd (omega arith)
next_behind low (r ∷ rs) zero d e apart l = apart_end (end_of r) rs apart.1.1 zero d (omega arith)
next_behind low (r ∷ rs) (suc at) d e apart l = next_behind (end_of r) rs at d e apart.1.1 (omega arith)

pub reach_first : (low n : ℕ) (rs : List Run) → n ≤ low → AreApart low rs → AllByRecursion (λ r. n ≤ end_of r) rs
reach_first low n [] le apart = tt
reach_first low n (r ∷ rs) le apart = let a = apart.0 in let b = apart.1.0 in (omega arith, reach_first (end_of r) n rs (omega arith) apart.1.1)

pub first_reaches : (n : ℕ) (rs : List Run) (at : ℕ) (d : Run) → at < length rs → AllByRecursion (λ r. n ≤ end_of r) (drop at rs) → n ≤ end_of (get_or rs at d)
first_reaches n rs at d l h = let e = next_of rs at d l in (rw e at h).0

count_step : (p q : ℕ → Bool) (n x y : ℕ) (a b : Bool) → p n ≡ a → q n ≡ b → count_failing p n ≡ x + count_failing q n → cond a 0 1 + x ≡ y + cond b 0 1 → count_failing p (suc n) ≡ y + count_failing q (suc n)
count_step p q n x y a b e f so_far sum = rw (e, f) (omega arith)

-- what is missing before the first run, and after it
count_split : (f : ℕ) (r : Run) (rs : List Run) → f < start_of r → start_of r < end_of r → AreApart (end_of r) rs → (n : ℕ) → count_failing (marks f (r ∷ rs)) n ≡ (min (start_of r) n - f) + count_failing (marks (end_of r) rs) n
count_split f r rs first some apart zero = omega arith
count_split f r rs first some apart (suc n) =
    let so_far : count_failing (marks f (r ∷ rs)) n ≡ (min (start_of r) n - f) + count_failing (marks (end_of r) rs) n = count_split f r rs first some apart n in
    elim (leb_tells (suc n) (end_of r)) [
      | inl u ↦ (
          let other : marks (end_of r) rs n ≡ true = rw u.0 refl in
          elim (leb_tells (suc n) f) [
            | inl w ↦ (
                let here : marks f (r ∷ rs) n ≡ true = rw w.0 refl in
                count_step (marks f (r ∷ rs)) (marks (end_of r) rs) n (min (start_of r) n - f) (min (start_of r) (suc n) - f) true true here other so_far (omega arith)
                )
            | inr w ↦ elim (leb_tells (suc n) (start_of r)) [
              | inl v ↦ (
                  let fails : list_any (within n) (r ∷ rs) ≡ false = none_behind n n (r ∷ rs) (omega arith, (some, apart)) (omega arith) in
                  let here : marks f (r ∷ rs) n ≡ false = rw w.0 fails in
                  count_step (marks f (r ∷ rs)) (marks (end_of r) rs) n (min (start_of r) n - f) (min (start_of r) (suc n) - f) false true here other so_far (omega arith)
                  )
              | inr v ↦ (
                  let inside : within n r ≡ true = grind (arith, nat_tests) in
                  let here : marks f (r ∷ rs) n ≡ true = rw (w.0, inside) refl in
                  count_step (marks f (r ∷ rs)) (marks (end_of r) rs) n (min (start_of r) n - f) (min (start_of r) (suc n) - f) true true here other so_far (omega arith)
                  )
            ]
          ]
          )
      | inr u ↦ (
          let above : ltb n f ≡ false = grind (arith, nat_tests) in
          let outside : within n r ≡ false = grind (arith, nat_tests) in
          let here : marks f (r ∷ rs) n ≡ list_any (within n) rs = rw (above, outside) refl in
          let other : marks (end_of r) rs n ≡ list_any (within n) rs = rw u.0 refl in
          count_step (marks f (r ∷ rs)) (marks (end_of r) rs) n (min (start_of r) n - f) (min (start_of r) (suc n) - f) (list_any (within n) rs) (list_any (within n) rs) here other so_far (omega arith)
          )
    ]

count_all : (f n : ℕ) → count_failing (marks f []) n ≡ n - f
count_all f zero = omega arith
count_all f (suc n) =
    let so_far : count_failing (marks f []) n ≡ n - f = count_all f n in
    elim (leb_tells (suc n) f) [ inl w ↦ rw w.0 (omega arith) | inr w ↦ rw w.0 (omega arith) ]

pub missing_is : (f : ℕ) (rs : List Run) → AreApart f rs → (n : ℕ) → missing_from f rs n ≡ count_failing (marks f rs) n
missing_is f [] apart n = sym (count_all f n)
missing_is f (r ∷ rs) apart n =
    let rest : missing_from (end_of r) rs n ≡ count_failing (marks (end_of r) rs) n = missing_is (end_of r) rs apart.1.1 n in
    rw rest (sym (count_split f r rs apart.0 apart.1.0 apart.1.1 n))

pub missing_none : (low : ℕ) (rs : List Run) (high : ℕ) → AreApart low rs → high ≤ low → missing_from low rs high ≡ 0
missing_none low [] high apart le = omega arith
missing_none low (r ∷ rs) high apart le =
    let a = apart.0 in
    let b = apart.1.0 in
    let rest : missing_from (end_of r) rs high ≡ 0 = missing_none (end_of r) rs high apart.1.1 (omega arith) in
    omega arith

pub missing_end : (rs : List Run) (i low high : ℕ) → length rs ≤ i → missing_from low (drop i rs) high ≡ high - low
missing_end rs i low high le = let e : drop i rs ≡ [] = drop_all i rs le in rw e refl

-- one run further
pub missing_next : (rs : List Run) (i low high : ℕ) (d : Run) → i < length rs → missing_from low (drop i rs) high ≡ (min (start_of (get_or rs i d)) high - low) + missing_from (end_of (get_or rs i d)) (drop (i + 1) rs) high
missing_next rs i low high d l = let e = next_of rs i d l in rw e refl

pub apart_next : (rs : List Run) (i low : ℕ) (d : Run) → i < length rs → AreApart low (drop i rs) → (low < start_of (get_or rs i d)) × ((start_of (get_or rs i d) < end_of (get_or rs i d)) × AreApart (end_of (get_or rs i d)) (drop (i + 1) rs))
apart_next rs i low d l h = let e = next_of rs i d l in rw e at h

-- a list with one run for those from at on and before next
pub apart_take : (low : ℕ) (rs : List Run) → AreApart low rs → (k : ℕ) → AreApart low (take k rs)
apart_take low [] h zero = tt
apart_take low [] h (suc k) = tt
apart_take low (r ∷ rs) h zero = tt
apart_take low (r ∷ rs) h (suc k) = (h.0, (h.1.0, apart_take (end_of r) rs h.1.1 k))

pub either_apart : (low : ℕ) (b : Bool) (xs ys : List Run) → are_apart low xs ≡ true → are_apart low ys ≡ true → are_apart low (cond b xs ys) ≡ true
either_apart low true xs ys h k = h
either_apart low false xs ys h k = k
