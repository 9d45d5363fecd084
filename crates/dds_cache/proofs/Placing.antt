-- What is put at its place in order, and what is put at the end.
use Rattle.std.proofs.Common.{◌≡◌, ℕ, suc, ◌+◌, ◌<◌, ◌≤◌, Bool, true, false, cond, List, [], ◌∷◌, ◌++◌, length, refl, sym, ap, ◌∙◌, arith}
use Rattle.std.specs.BTreeMap.{insert_entry}
use Rattle.std.specs.BTreeSet.{insert_key}
use Rattle.std.specs.Cmp.{IsTotalOrder}
use Rattle.std.specs.List.{AllByRecursion, list_any}
use Rattle.std.specs.Ordering.{is_eq, match_ordering, nat_cmp}
use Rattle.std.specs.Prelude.{filter, if◌then◌else◌, ◌||◌}
use Rattle.std.specs.Set.{remove_key}
use Rattle.std.specs.declared.cmp.Ordering.{Ordering}
use Rattle.std.specs.declared.cmp.Ordering.TheVariants.{Less, Equal, Greater}
use Rattle.std.proofs.lemmas.Bool.Decides.{nat_tests}
use Rattle.std.proofs.lemmas.Cmp.{alike_right}
use Rattle.dds_cache.specs.Standing.{Rising}
use Rattle.dds_cache.proofs.Keys.{itself}

or_again : (b r : Bool) → (b || r) ≡ (b || (b || r))
or_again true r = refl
or_again false r = refl

or_swap : (a b r : Bool) → (a || (b || r)) ≡ (b || (a || r))
or_swap true true r = refl
or_swap true false r = refl
or_swap false true r = refl
or_swap false false r = refl

module _ {K : Type 0} (R : K → K → Ordering) (o : IsTotalOrder R) where
  abbrev at : K → K → Bool
  at k q = is_eq (R k q)

  -- what is put in and taken out again
  pub taken_back : (k : K) (ks : List K) → list_any (at k) ks ≡ false → remove_key (at k) (insert_key R ks k) ≡ ks
  taken_back k [] none = ap (λ b. cond b [] (k ∷ [])) (itself R o k)
  taken_back k (x ∷ xs) none = by_order (R k x) refl none (taken_back k xs)
    where
      by_order : (r : Ordering) → R k x ≡ r → (is_eq r || list_any (at k) xs) ≡ false → (list_any (at k) xs ≡ false → remove_key (at k) (insert_key R xs k) ≡ xs)
          → remove_key (at k) (match_ordering r (k ∷ x ∷ xs) (x ∷ xs) (x ∷ insert_key R xs k)) ≡ x ∷ xs
      by_order Less e h more = ap (λ b. cond b (x ∷ xs) (k ∷ remove_key (at k) (x ∷ xs))) (itself R o k)
      by_order Equal e h more = absurd cc
      by_order Greater e h more = ap (λ b. cond b (insert_key R xs k) (x ∷ remove_key (at k) (insert_key R xs k))) (ap is_eq e) ∙ ap (λ l. x ∷ l) (more h)

  pub any_put : (q k : K) (ks : List K) → list_any (at q) (insert_key R ks k) ≡ (at q k || list_any (at q) ks)
  any_put q k [] = refl
  any_put q k (x ∷ xs) = by_order (R k x) refl (any_put q k xs)
    where
      by_order : (r : Ordering) → R k x ≡ r → list_any (at q) (insert_key R xs k) ≡ (at q k || list_any (at q) xs)
          → list_any (at q) (match_ordering r (k ∷ x ∷ xs) (x ∷ xs) (x ∷ insert_key R xs k)) ≡ (at q k || (at q x || list_any (at q) xs))
      by_order Less e more = refl
      by_order Equal e more =
          ap (λ b. b || list_any (at q) xs) (ap is_eq (sym (alike_right o k x q e))) ∙ or_again (at q k) (list_any (at q) xs)
          ∙ ap (λ b. at q k || (b || list_any (at q) xs)) (ap is_eq (alike_right o k x q e))
      by_order Greater e more = ap (λ b. at q x || b) more ∙ or_swap (at q x) (at q k) (list_any (at q) xs)

  pub count_put : (f : K → Bool) (k : K) (ks : List K) → list_any (at k) ks ≡ false → length (filter f (insert_key R ks k)) ≡ (if f k then suc (length (filter f ks)) else length (filter f ks))
  count_put f k [] none = by_test (f k)
    where
      by_test : (b : Bool) → length (if b then k ∷ [] else []) ≡ (if b then 1 else 0)
      by_test true = refl
      by_test false = refl
  count_put f k (x ∷ xs) none = by_order (R k x) refl none (count_put f k xs)
    where
      now : List K
      now = x ∷ xs

      by_here : (b : Bool) → length (if b then k ∷ filter f (x ∷ xs) else filter f (x ∷ xs)) ≡ (if b then suc (length (filter f (x ∷ xs))) else length (filter f (x ∷ xs)))
      by_here true = refl
      by_here false = refl

      by_there : (b c : Bool) → length (filter f (insert_key R xs k)) ≡ (if b then suc (length (filter f xs)) else length (filter f xs))
          → length (if c then x ∷ filter f (insert_key R xs k) else filter f (insert_key R xs k)) ≡ (if b then suc (length (if c then x ∷ filter f xs else filter f xs)) else length (if c then x ∷ filter f xs else filter f xs))
      by_there true true h = ap suc h
      by_there true false h = h
      by_there false true h = ap suc h
      by_there false false h = h

      by_order : (r : Ordering) → R k x ≡ r → (is_eq r || list_any (at k) xs) ≡ false
          → (list_any (at k) xs ≡ false → length (filter f (insert_key R xs k)) ≡ (if f k then suc (length (filter f xs)) else length (filter f xs)))
          → length (filter f (match_ordering r (k ∷ x ∷ xs) (x ∷ xs) (x ∷ insert_key R xs k))) ≡ (if f k then suc (length (filter f (x ∷ xs))) else length (filter f (x ∷ xs)))
      by_order Less e h more = by_here (f k)
      by_order Equal e h more = absurd cc
      by_order Greater e h more = by_there (f k) (f x) (more h)

  pub longer_put : (k : K) (ks : List K) → list_any (at k) ks ≡ false → length (insert_key R ks k) ≡ suc (length ks)
  longer_put k [] none = refl
  longer_put k (x ∷ xs) none = by_order (R k x) refl none (longer_put k xs)
    where
      by_order : (r : Ordering) → R k x ≡ r → (is_eq r || list_any (at k) xs) ≡ false → (list_any (at k) xs ≡ false → length (insert_key R xs k) ≡ suc (length xs))
          → length (match_ordering r (k ∷ x ∷ xs) (x ∷ xs) (x ∷ insert_key R xs k)) ≡ suc (length (x ∷ xs))
      by_order Less e h more = refl
      by_order Equal e h more = absurd cc
      by_order Greater e h more = ap suc (more h)

  pub all_put : (P : K → Type 0) (k : K) (ks : List K) → P k → AllByRecursion P ks → AllByRecursion P (insert_key R ks k)
  all_put P k [] p all = (p, tt)
  all_put P k (x ∷ xs) p all = by_order (R k x) (all_put P k xs p all.1)
    where
      by_order : (r : Ordering) → AllByRecursion P (insert_key R xs k) → AllByRecursion P (match_ordering r (k ∷ x ∷ xs) (x ∷ xs) (x ∷ insert_key R xs k))
      by_order Less rest = (p, all)
      by_order Equal rest = all
      by_order Greater rest = (all.0, rest)

  pub all_taken : (P : K → Type 0) (test : K → Bool) (ks : List K) → AllByRecursion P ks → AllByRecursion P (remove_key test ks)
  all_taken P test [] all = tt
  all_taken P test (x ∷ xs) all = by_test (test x) (all_taken P test xs all.1)
    where
      by_test : (b : Bool) → AllByRecursion P (remove_key test xs) → AllByRecursion P (cond b xs (x ∷ remove_key test xs))
      by_test true rest = all.1
      by_test false rest = (all.0, rest)

-- ---- at the end

greater : (n m : ℕ) → m < n → nat_cmp n m ≡ Greater
greater n m h = grind (arith, nat_tests)

pub key_last : (n : ℕ) (ns : List ℕ) → AllByRecursion (λ m. m < n) ns → insert_key nat_cmp ns n ≡ ns ++ n ∷ []
key_last n [] all = refl
key_last n (m ∷ ns) all = ap (λ r. match_ordering r (n ∷ m ∷ ns) (m ∷ ns) (m ∷ insert_key nat_cmp ns n)) (greater n m all.0) ∙ ap (λ l. m ∷ l) (key_last n ns all.1)

module _ {E : Type 0} where
  pub entry_last : (n : ℕ) (e : E) (es : List (ℕ × E)) → AllByRecursion (λ x. x.0 < n) es → insert_entry nat_cmp es n e ≡ es ++ (n, e) ∷ []
  entry_last n e [] all = refl
  entry_last n e (x ∷ es) all = ap (λ r. match_ordering r ((n, e) ∷ x ∷ es) ((x.0, e) ∷ es) (x ∷ insert_entry nat_cmp es n e)) (greater n x.0 all.0) ∙ ap (λ l. x ∷ l) (entry_last n e es all.1)

  pub rising_last : (low n : ℕ) (e : E) (es : List (ℕ × E)) → low ≤ n → Rising low es → AllByRecursion (λ x. x.0 < n) es → Rising low (es ++ (n, e) ∷ [])
  rising_last low n e [] h up all = (h, tt)
  rising_last low n e (x ∷ es) h up all = (up.0, rising_last (suc x.0) n e es (omega (arith, all.0)) up.1 all.1)

  pub below_last : (n : ℕ) (e : E) (es : List (ℕ × E)) → AllByRecursion (λ x. x.0 < n) es → AllByRecursion (λ x. x.0 < n + 1) (es ++ (n, e) ∷ [])
  below_last n e [] all = (omega arith, tt)
  below_last n e (x ∷ es) all = (omega (arith, all.0), below_last n e es all.1)
