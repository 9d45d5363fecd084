-- A record of one writer changes what is heard of that writer alone.
use Rattle.std.proofs.Common.{◌≡◌, ℕ, ◌+◌, List, [], ◌∷◌, ◌++◌, Bool, true, false, ◌||◌, Option, Some, None, if◌then◌else◌, cond, refl, sym, ap, ◌∙◌, arith}
use Rattle.std.specs.List.{AllByRecursion, flat_map, list_any}
use Rattle.std.specs.Map.{keys_of, lookup}
use Rattle.std.specs.declared.cmp.Ordering.{Ordering}
use Rattle.std.specs.declared.cmp.Ordering.TheVariants.{Less, Equal, Greater}
use Rattle.std.proofs.lemmas.List.{append-nil}
use Rattle.std.proofs.lemmas.Bool.Decides.{nat_tests}
use Rattle.std.proofs.lemmas.Map.Keys.{sorted_head, sorted_tail}
use Rattle.rtps_types.specs.declared.identity.Guid.{Guid}
use Rattle.rtps_types.specs.declared.locator.Locator.{Locator}
use Rattle.rtps_types.specs.Order.{guid_order}
use Rattle.rtps_proxy.specs.Matches.{is_at}
use Rattle.rtps_proxy.proofs.Matching.{exact}
use Rattle.rtps_discovery.specs.Changes.{ChangeAt, at_pair, both, changes, row, rows, told}
use Rattle.rtps_discovery.specs.Known.{Known, PairState, Unmatched, Joined, Refused, Wish, is_fixed, locators_at, standing, writer_at}
use Rattle.rtps_discovery.specs.OneWriter.{column}
use Rattle.rtps_discovery.proofs.Guids.{guid_total}
use Rattle.rtps_discovery.proofs.SortedKeys.{InOrder, any_tied, not_in_both, sorted_both}

-- nothing is reported where nothing becomes
told_same : (k : ℕ) (g : Guid) (ls : List Locator) (s : PairState) → told k g ls s s ≡ []
told_same k g ls Unmatched = refl
told_same k g ls Joined = refl
told_same k g ls (Refused p) = grind (arith, nat_tests)

pub at_pair_same : (fixed : List (ℕ × Guid)) (k : ℕ) (g : Guid) (ls : List Locator) (s : PairState) → at_pair fixed k g ls s s ≡ []
at_pair_same fixed k g ls s = by_test (is_fixed fixed k g)
  where
    by_test : (b : Bool) → (if b then [] else told k g ls s s) ≡ []
    by_test true = refl
    by_test false = told_same k g ls s

-- of a sorted list of guids where only one counts
module _ {B : Type 0} (f : Guid → List B) (g : Guid) where
  none_counts : (x : Guid) (gs : List Guid) → guid_order g x ≡ Equal → AllByRecursion (λ y. guid_order x y ≡ Less) gs → ((y : Guid) → is_at g y ≡ false → f y ≡ []) → flat_map f gs ≡ []
  none_counts x [] e a h = refl
  none_counts x (y ∷ ys) e (b, a) h = rw (h y (rw (guid_total.congr g x y e ∙ b) refl)) (none_counts x ys e a h)

  pub one_counts : (gs : List Guid) → InOrder gs → ((y : Guid) → is_at g y ≡ false → f y ≡ []) → (list_any (is_at g) gs ≡ false → f g ≡ []) → flat_map f gs ≡ f g
  one_counts [] s h absent = sym (absent refl)
  one_counts (x ∷ xs) s h absent = by_order (guid_order g x) refl (one_counts xs (sorted_tail guid_order x xs s) h)
    where
      by_order : (r : Ordering) → guid_order g x ≡ r → ((list_any (is_at g) xs ≡ false → f g ≡ []) → flat_map f xs ≡ f g) → f x ++ flat_map f xs ≡ f g
      by_order Equal e more = rw (none_counts x xs e (sorted_head guid_order x xs s) h) (append-nil (f x) ∙ ap f (exact g x e))
      by_order Less e more = rw (h x (rw e refl)) (more (λ n. absent (rw e n)))
      by_order Greater e more = rw (h x (rw e refl)) (more (λ n. absent (rw e n)))

pub lookup_none : {X : Type 0} (test : Guid → Bool) (es : List (Guid × X)) → list_any test (keys_of es) ≡ false → lookup test es ≡ None
lookup_none test [] h = refl
lookup_none test (e ∷ es) h = by_test (test e.0) refl (lookup_none test es)
  where
    by_test : (b : Bool) → test e.0 ≡ b → (list_any test (keys_of es) ≡ false → lookup test es ≡ None) → cond b (Some e.1) (lookup test es) ≡ None
    by_test true t more = absurd (cc (h, t))
    by_test false t more = more (sym (ap (λ c. c || list_any test (keys_of es)) t) ∙ h)

-- the same readers are known, and of the writers only this one differs
pub record DiffersAt (before after : Known) (g : Guid) : Type 0 where
  pub readers : after.readers ≡ before.readers
  pub others : (q : Guid) → is_at g q ≡ false → writer_at after q ≡ writer_at before q
  pub sorted : InOrder (keys_of after.writers)

pub no_writer : (r : Option Wish) → standing r None ≡ Unmatched
no_writer (Some r) = refl
no_writer None = refl

module _ (before after : Known) (g : Guid) (d : DiffersAt before after g) where
  abbrev gs : List Guid
  gs = both (keys_of before.writers) (keys_of after.writers)

  abbrev counts : ℕ → Option Wish → Guid → List ChangeAt
  counts k r x = at_pair before.fixed k x (locators_at after x) (standing r (writer_at before x)) (standing r (writer_at after x))

  abbrev fixed_of : ℕ → Bool
  fixed_of rank = is_fixed before.fixed rank g

  row_one : (k : ℕ) (r : Option Wish) → row before after gs k r r ≡ counts k r g
  row_one k r =
      one_counts (counts k r) g gs (sorted_both (keys_of before.writers) (keys_of after.writers) d.sorted)
      (λ y apart. ap (λ w. at_pair before.fixed k y (locators_at after y) (standing r (writer_at before y)) (standing r w)) (d.others y apart)
      ∙ at_pair_same before.fixed k y (locators_at after y) (standing r (writer_at before y)))
      (λ n. let m = not_in_both g (keys_of before.writers) (keys_of after.writers) (sym (any_tied g gs) ∙ n) in
      let one : writer_at before g ≡ None = lookup_none (is_at g) before.writers m.0 in
      let two : writer_at after g ≡ None = lookup_none (is_at g) after.writers m.1 in
      rw (one, two, no_writer r) (at_pair_same before.fixed k g [] Unmatched))

  rows_one : (k : ℕ) (rs : List (Option Wish)) → rows before after gs k rs rs ≡ column fixed_of g (locators_at after g) (writer_at before g) (writer_at after g) k rs
  rows_one k [] = refl
  rows_one k (r ∷ rs) = rw (row_one k r) (ap (λ l. counts k r g ++ l) (rows_one (k + 1) rs))

  pub changes_one : changes before after ≡ column fixed_of g (locators_at after g) (writer_at before g) (writer_at after g) 0 before.readers
  unfolding changes
  changes_one = ap (rows before after gs 0 before.readers) d.readers ∙ rows_one 0 before.readers
