-- Each step at the table keeps its rule.
use Rattle.std.proofs.Common.{rules, ◌≡◌, ◌≢◌, ℕ, true, false, List, [], ◌∷◌, ◌++◌, set, refl, sym, ap, subst, ◌∙◌, ⊎_elim}
use mathlib.Core.Option.{some, some-ne-none}
use lib.ListN.{get_elem?}
use Rattle.left_right.specs.Register.{Admits, TurnsAt, Forks, Merges}
use Rattle.atomic_table.proofs.Lists.{at_set, at_snoc}
use Rattle.logbook.specs.Pages.{Book}
use Rattle.dds_outlet.specs.declared.shown.Shown.{Shown}
use Rattle.dds_outlet.specs.declared.rule.Known.{Known}
use Rattle.dds_outlet.specs.Knowing.{known, book_of, AllFit, Fits, Sees}

-- a seat that knows no history fits each row
no_history : (x : Shown) (v : Known) → known false 0 0 0 ≡ v → Fits v x
no_history x v same knows =
    let e : false ≡ true = ap (λ (k : Known). k.knows) same ∙ knows in absurd (search rules)

-- one seat gives way to another that fits
set_fits : (x : Shown) (seats : List Known) (at : ℕ) (w : Known)
    → AllFit x seats → Fits w x → AllFit x (set seats at w)
set_fits x seats at w all fits j u e =
    ⊎_elim
    (λ (t : (j ≡ at) × (w ≡ u)). subst (λ (z : Known). Fits z x) t.1 fits)
    (λ (t : (j ≢ at) × (get_elem? seats j ≡ some u)). all j u t.1)
    (at_set seats at j w u e)

-- one seat more, that fits
snoc_fits : (x : Shown) (seats : List Known) (w : Known)
    → AllFit x seats → Fits w x → AllFit x (seats ++ w ∷ [])
snoc_fits x seats w all fits j u e =
    ⊎_elim
    (λ t. all j u t)
    (λ (t : w ≡ u). subst (λ (z : Known). Fits z x) t fits)
    (at_snoc seats w u j e)

-- a reader comes
pub admits : Admits AllFit (known false 0 0 0)
admits x seats all = snoc_fits x seats _ all (no_history x _ refl)

-- the seat that comes first knows no history
pub opens : (book : Book) (at : ℕ) (v : Known)
    → get_elem? (known false 0 0 0 ∷ []) at ≡ some v → v.knows ≡ true → book_of v ≡ book
opens book at v here knows =
    ⊎_elim
    (λ e. absurd (some-ne-none v (sym e)))
    (λ (same : known false 0 0 0 ≡ v).
    let e : false ≡ true = ap (λ (k : Known). k.knows) same ∙ knows in absurd (search rules))
    (at_snoc [] (known false 0 0 0) v at here)

-- a step from a row to one of the same history
pub turns : (at : ℕ) (v : Known) (x y : Shown)
    → y.front.seen.book ≡ x.front.seen.book → TurnsAt AllFit at v x y Sees
turns at v x y same seats all here =
    let b : Book = y.front.seen.book in
    let w : Known = known true b.number b.log_name b.cells_name in
    let moved : AllFit y seats = λ j u e knows. all j u e knows ∙ sym same in (
      w,
      set_fits y seats at w moved (λ _. refl),
      ((refl, refl), λ knows. moved at v here knows),
    )

-- what a seat knows is cut off for another
pub forks : (at : ℕ) (v : Known) → Forks AllFit at v v v
forks at v x seats all here =
    snoc_fits x (set seats at v) v (set_fits x seats at v all (all at v here)) (all at v here)

-- a seat learns what another knew
pub merges : (at : ℕ) (v : Known) (other : ℕ) (w : Known)
    → Merges AllFit at v other w w (known false 0 0 0)
merges at v other w x seats all here apart there =
    let fits : Fits w x =
    ⊎_elim
    (λ (t : (other ≡ at) × (w ≡ w)). absurd (apart t.0))
    (λ (t : (other ≢ at) × (get_elem? seats other ≡ some w)). all other w t.1)
    (at_set seats at other w w there)
    in
    set_fits x (set seats at w) other (known false 0 0 0)
    (set_fits x seats at w all fits)
    (no_history x _ refl)
