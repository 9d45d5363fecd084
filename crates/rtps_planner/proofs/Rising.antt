-- Outputs that are those of the planned ranks, in rising order.
use Rattle.std.proofs.Common.{◌≡◌, ℕ, suc, ◌<◌, ◌≤◌, ◌+◌, ◌==◌, nat_lt, not, List, [], ◌∷◌, length, filter, get_or, drop, Bool, true, false, if◌then◌else◌, None, ◌||◌, All, refl, sym, ap, ◌∙◌, subst, arith}
use Rattle.std.specs.List.{list_any}
use Rattle.std.proofs.lemmas.Bool.{eq-eqb, ne_eqb}
use Rattle.std.proofs.Math.ListN.{get_or-map}
use Rattle.std.proofs.lemmas.List.{drop_all, drop_more, length-map}
use Rattle.std.proofs.lemmas.List.Elements.{All-cons, All-nil}
use Rattle.std.proofs.lemmas.List.Folds.{list_any_none}
use Rattle.rtps_reader.specs.declared.notice.Output.{Output}
use Rattle.rtps_planner.specs.Outputs.{fault_of, is_among, ranks_of, times}

-- each of these is this number or more, and above those before it
abbrev pub AreRisen : ℕ → List ℕ → Type 0
AreRisen least [] = Unit {0}
AreRisen least (x ∷ xs) = (least ≤ x) × AreRisen (x + 1) xs

all_above : (least : ℕ) (xs : List ℕ) → AreRisen least xs → (bound : ℕ) → bound ≤ least → All (λ x. bound ≤ x) xs
all_above least [] up bound low = All-nil (λ x. bound ≤ x)
all_above least (x ∷ xs) up bound low = All-cons (λ y. bound ≤ y) x xs (omega (arith, low, up.0)) (all_above (x + 1) xs up.1 bound (omega (arith, low, up.0)))

none_below : (least : ℕ) (xs : List ℕ) → AreRisen least xs → (rank : ℕ) → rank < least → times rank xs ≡ 0
none_below least [] up rank low = refl
none_below least (x ∷ xs) up rank low =
    let other : (x == rank) ≡ false = ne_eqb x rank (λ e. omega (arith, e, low, up.0)) in
    ap (λ (b : Bool). length (if b then x ∷ filter (λ r. r == rank) xs else filter (λ r. r == rank) xs)) other ∙ none_below (x + 1) xs up.1 rank (omega (arith, low, up.0))

-- each comes once
each_once : (least : ℕ) (xs : List ℕ) → AreRisen least xs → All (λ rank. times rank xs ≡ 1) xs
each_once least [] up = All-nil (λ rank. times rank [] ≡ 1)
each_once least (x ∷ xs) up =
    let here : times x (x ∷ xs) ≡ 1 = ap (λ (b : Bool). length (if b then x ∷ filter (λ r. r == x) xs else filter (λ r. r == x) xs)) (eq-eqb x x refl) ∙ ap suc (none_below (x + 1) xs up.1 x (omega arith)) in
    let above : All (λ rank. x + 1 ≤ rank) xs = all_above (x + 1) xs up.1 (x + 1) (omega arith) in
    let others : All (λ rank. times rank xs ≡ 1) xs = each_once (x + 1) xs up.1 in
    All-cons (λ rank. times rank (x ∷ xs) ≡ 1) x xs here (λ k d less.
    let rank : ℕ = get_or xs k d in
    let other : (x == rank) ≡ false = ne_eqb x rank (λ e. omega (arith, e, above k d less)) in
    ap (λ (b : Bool). length (if b then x ∷ filter (λ r. r == rank) xs else filter (λ r. r == rank) xs)) other ∙ others k d less)

among : (rank : ℕ) (xs : List ℕ) (n : ℕ) → times rank xs ≡ suc n → is_among xs rank ≡ true
among rank [] n some = absurd cc
among rank (x ∷ xs) n some = by_test (x == rank) some (λ rest. among rank xs n rest)
  where
    by_test : (b : Bool) → length (if b then x ∷ filter (λ r. r == rank) xs else filter (λ r. r == rank) xs) ≡ suc n → (times rank xs ≡ suc n → is_among xs rank ≡ true) → (b || is_among xs rank) ≡ true
    by_test true some rest = refl
    by_test false some rest = rest some

no_fault : (planned given : List ℕ) (a b c : Bool) → list_any (λ rank. times rank given == 0) planned ≡ a → list_any (λ rank. nat_lt 1 (times rank given)) planned ≡ b → list_any (λ rank. not (is_among planned rank)) given ≡ c
    → a ≡ false → b ≡ false → c ≡ false → fault_of planned given ≡ None
no_fault planned given a b c there once known na nb nc = rw (there, na, once, nb, known, nc) refl

-- then nothing is wrong with them
pub rising_fine : (ranks : List ℕ) → AreRisen 0 ranks → fault_of ranks ranks ≡ None
rising_fine ranks up =
    let once : All (λ rank. times rank ranks ≡ 1) ranks = each_once 0 ranks up in
    no_fault ranks ranks false false false
    (list_any_none (λ rank. times rank ranks == 0) ranks (λ k d less. ap (λ n. n == 0) (once k d less)))
    (list_any_none (λ rank. nat_lt 1 (times rank ranks)) ranks (λ k d less. ap (λ n. nat_lt 1 n) (once k d less)))
    (list_any_none (λ rank. not (is_among ranks rank)) ranks (λ k d less. ap not (among (get_or ranks k d) ranks 0 (once k d less))))
    refl refl refl

module _ {V A : Type 0} (planned : List ℕ) (outputs : List (ℕ × Output V A)) where
  -- so are those up to a place, if those from there on are
  pub record AreRightTo (at least : ℕ) : Type 0 where
    pub count : length planned ≡ length outputs
    pub risen : AreRisen least (drop at (ranks_of outputs)) → AreRisen 0 (ranks_of outputs)
    pub same : drop at (ranks_of outputs) ≡ drop at planned → ranks_of outputs ≡ planned

  pub one_more : (at least rank : ℕ) (o : ℕ × Output V A) → AreRightTo at least → at < length outputs → (get_or outputs at o).0 ≡ rank → least ≤ rank → rank ≡ get_or planned at 0
      → AreRightTo (at + 1) (rank + 1)
  one_more at least rank o to below found low is =
      let ranks : List ℕ = ranks_of outputs in
      let inside : at < length ranks = omega (arith, below, length-map outputs (λ (p : ℕ × Output V A). p.0)) in
      let planned_too : at < length planned = omega (arith, below, to.count) in
      let here : get_or ranks at o.0 ≡ rank = get_or-map (λ (p : ℕ × Output V A). p.0) outputs at o ∙ found in
      let left : drop at ranks ≡ rank ∷ drop (at + 1) ranks = drop_more ranks at o.0 inside ∙ ap (λ r. r ∷ drop (at + 1) ranks) here in
      record {
        count = to.count;
        risen = λ up. to.risen (subst (AreRisen least) (sym left) (low, up));
        same = λ e. to.same (left ∙ ap (λ r. r ∷ drop (at + 1) ranks) is ∙ ap (λ l. get_or planned at 0 ∷ l) e ∙ sym (drop_more planned at 0 planned_too));
      }

  pub all_right : (at least : ℕ) → AreRightTo at least → length outputs ≤ at → fault_of planned (ranks_of outputs) ≡ None
  all_right at least to past =
      let ranks : List ℕ = ranks_of outputs in
      let end : drop at ranks ≡ [] = drop_all at ranks (omega (arith, past, length-map outputs (λ (p : ℕ × Output V A). p.0))) in
      let ended : drop at planned ≡ [] = drop_all at planned (omega (arith, past, to.count)) in
      let whole : ranks ≡ planned = to.same (end ∙ sym ended) in
      ap (λ l. fault_of l ranks) (sym whole) ∙ rising_fine ranks (to.risen (subst (AreRisen least) (sym end) tt))
