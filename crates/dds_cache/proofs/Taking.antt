-- What is left of a cache once entries were taken, or read.
use Rattle.std.proofs.Common.{◌≡◌, ℕ, zero, suc, ◌<◌, ◌≤◌, Bool, true, false, List, [], ◌∷◌, ◌++◌, map, cond, Some, None, refl, sym, ap, ◌∙◌, arith, append_assoc}
use Rattle.std.specs.Prelude.{Option, filter, if◌then◌else◌, not, ◌&&◌, ◌||◌}
use Rattle.std.specs.List.{AllByRecursion, list_any}
use Rattle.std.specs.Map.{lookup, remove_entry}
use Rattle.std.specs.Set.{remove_key}
use Rattle.std.specs.Option.{option_map}
use Rattle.rtps_types.specs.declared.identity.KeyHash.{KeyHash}
use Rattle.dds_cache.specs.declared.choose.Chosen.{Chosen}
use Rattle.dds_cache.specs.declared.entry.Entry.{Entry}
use Rattle.dds_cache.specs.declared.entry.Sample.{Sample}
use Rattle.dds_cache.specs.Cache.{first_by, left_by}
use Rattle.dds_cache.specs.Effects.{chosen_by, each, shown_as, spend_each, spent, take_each, take_shown, with_shown}
use Rattle.dds_cache.specs.Standing.{InstanceView, Rising, is_key, is_number, new_in, numbers, numbers_in, of_key}
use Rattle.dds_cache.proofs.Choosing.{number_apart, number_itself}
use Rattle.dds_cache.proofs.Keys.{key_tie}

-- all of them are after this number
abbrev pub After : ℕ → List Chosen → Type 0
After n cs = AllByRecursion (λ c. n < c.number) cs

module _ {M : Type 0} (find : KeyHash → Option InstanceView) where
  abbrev pub chosen : (ℕ × Entry M → Bool) → ℕ → List (ℕ × Entry M) → List Chosen
  chosen p m es = map (chosen_by find) (first_by p m es)

  pub chosen_after : (p : ℕ × Entry M → Bool) (m n low : ℕ) (es : List (ℕ × Entry M)) → n < low → Rising low es → After n (chosen p m es)
  chosen_after p m n low [] h up = tt
  chosen_after p zero n low (e ∷ es) h up = tt
  chosen_after p (suc m) n low (e ∷ es) h up = by_test (p e) (chosen_after p m n (suc e.0) es (omega (arith, h, up.0)) up.1) (chosen_after p (suc m) n (suc e.0) es (omega (arith, h, up.0)) up.1)
    where
      by_test : (b : Bool) → After n (chosen p m es) → After n (chosen p (suc m) es) → After n (map (chosen_by find) (if b then e ∷ first_by p m es else first_by p (suc m) es))
      by_test true one rest = (omega (arith, h, up.0), one)
      by_test false one rest = rest

  -- ---- the entries

  take_past : (cs : List Chosen) (e : ℕ × Entry M) (es : List (ℕ × Entry M)) → After e.0 cs → take_each cs (e ∷ es) ≡ e ∷ take_each cs es
  take_past [] e es all = refl
  take_past (c ∷ cs) e es all = ap (λ b. take_each cs (cond b es (e ∷ remove_entry (is_number c.number) es))) (number_apart e.0 c.number all.0) ∙ take_past cs e (remove_entry (is_number c.number) es) all.1

  shown_past : (cs : List Chosen) (e : ℕ × Entry M) (es : List (ℕ × Entry M)) → After e.0 cs → take_shown cs (e ∷ es) ≡ take_shown cs es
  shown_past [] e es all = refl
  shown_past (c ∷ cs) e es all =
      ap (λ b. with_shown c (cond b (Some e.1) (lookup (is_number c.number) es)) (take_shown cs (cond b es (e ∷ remove_entry (is_number c.number) es)))) (number_apart e.0 c.number all.0)
      ∙ ap (with_shown c (lookup (is_number c.number) es)) (shown_past cs e (remove_entry (is_number c.number) es) all.1)

  pub takes : (p : ℕ × Entry M → Bool) (m low : ℕ) (es : List (ℕ × Entry M)) → Rising low es → take_each (chosen p m es) es ≡ left_by p m es
  takes p m low [] up = refl
  takes p zero low (e ∷ es) up = refl
  takes p (suc m) low (e ∷ es) up = by_test (p e) (takes p m (suc e.0) es up.1) (takes p (suc m) (suc e.0) es up.1)
    where
      by_test : (b : Bool) → take_each (chosen p m es) es ≡ left_by p m es → take_each (chosen p (suc m) es) es ≡ left_by p (suc m) es
          → take_each (map (chosen_by find) (if b then e ∷ first_by p m es else first_by p (suc m) es)) (e ∷ es) ≡ (if b then left_by p m es else e ∷ left_by p (suc m) es)
      by_test true one rest = ap (λ b. take_each (chosen p m es) (cond b es (e ∷ remove_entry (is_number e.0) es))) (number_itself e.0) ∙ one
      by_test false one rest = take_past (chosen p (suc m) es) e es (chosen_after p (suc m) e.0 (suc e.0) es (omega arith) up.1) ∙ ap (λ l. e ∷ l) rest

  abbrev show : ℕ × Entry M → Sample M
  show x = shown_as x.1 (chosen_by find x)

  pub takes_shown : (p : ℕ × Entry M → Bool) (m low : ℕ) (es : List (ℕ × Entry M)) → Rising low es → take_shown (chosen p m es) es ≡ map (λ e. shown_as e.1 (chosen_by find e)) (first_by p m es)
  takes_shown p m low [] up = refl
  takes_shown p zero low (e ∷ es) up = refl
  takes_shown p (suc m) low (e ∷ es) up = by_test (p e) (takes_shown p m (suc e.0) es up.1) (takes_shown p (suc m) (suc e.0) es up.1)
    where
      by_test : (b : Bool) → take_shown (chosen p m es) es ≡ map show (first_by p m es) → take_shown (chosen p (suc m) es) es ≡ map show (first_by p (suc m) es)
          → take_shown (map (chosen_by find) (if b then e ∷ first_by p m es else first_by p (suc m) es)) (e ∷ es) ≡ map show (if b then e ∷ first_by p m es else first_by p (suc m) es)
      by_test true one rest =
          ap (λ b. with_shown (chosen_by find e) (cond b (Some e.1) (lookup (is_number e.0) es)) (take_shown (chosen p m es) (cond b es (e ∷ remove_entry (is_number e.0) es)))) (number_itself e.0)
          ∙ ap (λ l. show e ∷ l) one
      by_test false one rest = shown_past (chosen p (suc m) es) e es (chosen_after p (suc m) e.0 (suc e.0) es (omega arith) up.1) ∙ rest

-- ---- what is known of an instance

module _ (f : Chosen → InstanceView → InstanceView) where
  pub each_none : (cs : List Chosen) (k : KeyHash) → each f cs k None ≡ None
  each_none [] k = refl
  each_none (c ∷ cs) k = by_test (is_key c.key k) (each_none cs k)
    where
      by_test : (b : Bool) → each f cs k None ≡ None → each f cs k (if b then None else None) ≡ None
      by_test true more = more
      by_test false more = more

  -- what no answer changes
  pub each_keeps : {X : Type 0} (g : Option InstanceView → X) → ((c : Chosen) (o : Option InstanceView) → g (option_map (f c) o) ≡ g o) → (cs : List Chosen) (k : KeyHash) (o : Option InstanceView) → g (each f cs k o) ≡ g o
  each_keeps g keeps [] k o = refl
  each_keeps g keeps (c ∷ cs) k o = by_test (is_key c.key k) (each_keeps g keeps cs k (option_map (f c) o)) (each_keeps g keeps cs k o)
    where
      by_test : (b : Bool) → g (each f cs k (option_map (f c) o)) ≡ g (option_map (f c) o) → g (each f cs k o) ≡ g o → g (each f cs k (if b then option_map (f c) o else o)) ≡ g o
      by_test true one rest = one ∙ keeps c o
      by_test false one rest = rest

  -- an instance isn't new once an entry of it was answered
  pub each_new : ((c : Chosen) (i : InstanceView) → (f c i).is_new ≡ false) → (cs : List Chosen) (k : KeyHash) (i : InstanceView) → new_in (each f cs k (Some i)) ≡ (i.is_new && not (list_any (λ c. is_key c.key k) cs))
  each_new old [] k i = and_true i.is_new
    where
      and_true : (b : Bool) → b ≡ (b && true)
      and_true true = refl
      and_true false = refl
  each_new old (c ∷ cs) k i = by_test (is_key c.key k) (each_new old cs k (f c i)) (each_new old cs k i)
    where
      never : (b : Bool) → false ≡ (b && false)
      never true = refl
      never false = refl

      by_test : (b : Bool) → new_in (each f cs k (Some (f c i))) ≡ ((f c i).is_new && not (list_any (λ c. is_key c.key k) cs)) → new_in (each f cs k (Some i)) ≡ (i.is_new && not (list_any (λ c. is_key c.key k) cs))
          → new_in (each f cs k (if b then Some (f c i) else Some i)) ≡ (i.is_new && not (b || list_any (λ c. is_key c.key k) cs))
      by_test true one rest = one ∙ ap (λ b. b && not (list_any (λ c. is_key c.key k) cs)) (old c i) ∙ never i.is_new
      by_test false one rest = rest

-- ---- the numbers of an instance's entries

spent_numbers : (n : ℕ) (o : Option InstanceView) → numbers_in (option_map (spent n) o) ≡ remove_key (is_number n) (numbers_in o)
spent_numbers n None = refl
spent_numbers n (Some i) = refl

without_last : (n : ℕ) (pre rest : List ℕ) → AllByRecursion (λ m. m < n) pre → remove_key (is_number n) (pre ++ n ∷ rest) ≡ pre ++ rest
without_last n [] rest all = ap (λ b. cond b rest (n ∷ remove_key (is_number n) rest)) (number_itself n)
without_last n (m ∷ pre) rest all = ap (λ b. cond b (pre ++ n ∷ rest) (m ∷ remove_key (is_number n) (pre ++ n ∷ rest))) (number_apart m n all.0) ∙ ap (λ l. m ∷ l) (without_last n pre rest all.1)

below_more : (low high : ℕ) (pre : List ℕ) → low ≤ high → AllByRecursion (λ m. m < low) pre → AllByRecursion (λ m. m < high) pre
below_more low high [] h all = tt
below_more low high (m ∷ pre) h all = (omega (arith, h, all.0), below_more low high pre h all.1)

below_and : (n : ℕ) (pre : List ℕ) → AllByRecursion (λ m. m < n) pre → AllByRecursion (λ m. m < suc n) (pre ++ n ∷ [])
below_and n [] all = (omega arith, tt)
below_and n (m ∷ pre) all = (omega (arith, all.0), below_and n pre all.1)

pub none_spent : (k : KeyHash) (cs : List Chosen) (o : Option InstanceView) → numbers_in o ≡ [] → numbers_in (each spend_each cs k o) ≡ []
none_spent k [] o none = none
none_spent k (c ∷ cs) o none = by_test (is_key c.key k) (none_spent k cs (option_map (spent c.number) o) (spent_numbers c.number o ∙ ap (remove_key (is_number c.number)) none)) (none_spent k cs o none)
  where
    by_test : (b : Bool) → numbers_in (each spend_each cs k (option_map (spent c.number) o)) ≡ [] → numbers_in (each spend_each cs k o) ≡ [] → numbers_in (each spend_each cs k (if b then option_map (spent c.number) o else o)) ≡ []
    by_test true one rest = one
    by_test false one rest = rest

module _ {M : Type 0} (find : KeyHash → Option InstanceView) (k : KeyHash) where
  abbrev mine : List (ℕ × Entry M) → List ℕ
  mine es = numbers (filter (of_key k) es)

  abbrev Spends : (ℕ × Entry M → Bool) → ℕ → List (ℕ × Entry M) → ℕ → Type 0
  Spends p low es m = (pre : List ℕ) (o : Option InstanceView) → AllByRecursion (λ n. n < low) pre → Rising low es → numbers_in o ≡ pre ++ mine es → numbers_in (each spend_each (chosen find p m es) k o) ≡ pre ++ mine (left_by p m es)

  pub spends : (p : ℕ × Entry M → Bool) (m low : ℕ) (es : List (ℕ × Entry M)) (pre : List ℕ) (o : Option InstanceView) → AllByRecursion (λ n. n < low) pre → Rising low es → numbers_in o ≡ pre ++ mine es
      → numbers_in (each spend_each (chosen find p m es) k o) ≡ pre ++ mine (left_by p m es)
  spends p m low [] pre o all up is = is
  spends p zero low (e ∷ es) pre o all up is = is
  spends p (suc m) low (e ∷ es) pre o all up is =
      by_tests (p e) (of_key k e) refl is (spends p m (suc e.0) es) (spends p (suc m) (suc e.0) es)
    where
      here : is_key e.1.key k ≡ of_key k e
      here = key_tie e.1.key k

      so : AllByRecursion (λ n. n < suc e.0) pre
      so = below_more low (suc e.0) pre (omega (arith, up.0)) all

      by_tests : (b u : Bool) → of_key k e ≡ u → numbers_in o ≡ pre ++ numbers (if u then e ∷ filter (of_key k) es else filter (of_key k) es) → Spends p (suc e.0) es m → Spends p (suc e.0) es (suc m)
          → numbers_in (each spend_each (map (chosen_by find) (if b then e ∷ first_by p m es else first_by p (suc m) es)) k o) ≡ pre ++ mine (if b then left_by p m es else e ∷ left_by p (suc m) es)
      by_tests true true h is one rest =
          let cut : numbers_in (option_map (spent e.0) o) ≡ pre ++ mine es = spent_numbers e.0 o ∙ ap (remove_key (is_number e.0)) is ∙ without_last e.0 pre (mine es) (below_more low e.0 pre up.0 all) in
          ap (λ b. numbers_in (each spend_each (chosen find p m es) k (if b then option_map (spent e.0) o else o))) (here ∙ h) ∙ one pre (option_map (spent e.0) o) so up.1 cut
      by_tests true false h is one rest =
          ap (λ b. numbers_in (each spend_each (chosen find p m es) k (if b then option_map (spent e.0) o else o))) (here ∙ h) ∙ one pre o so up.1 is
      by_tests false true h is one rest =
          rest (pre ++ e.0 ∷ []) o (below_and e.0 pre (below_more low e.0 pre up.0 all)) up.1 (is ∙ sym (append_assoc pre (e.0 ∷ []) (mine es)))
          ∙ append_assoc pre (e.0 ∷ []) (mine (left_by p (suc m) es))
          ∙ sym (ap (λ u. pre ++ numbers (if u then e ∷ filter (of_key k) (left_by p (suc m) es) else filter (of_key k) (left_by p (suc m) es))) h)
      by_tests false false h is one rest =
          rest pre o so up.1 is ∙ sym (ap (λ u. pre ++ numbers (if u then e ∷ filter (of_key k) (left_by p (suc m) es) else filter (of_key k) (left_by p (suc m) es))) h)
