-- How the entries of a cache change, and what stays true of them.
use Rattle.std.proofs.Common.{◌≡◌, ℕ, ◌+◌, ◌-◌, ◌<◌, ◌≤◌, ◌^◌, Bool, true, false, List, [], ◌∷◌, ◌++◌, length, Some, None, refl, sym, ap, ◌∙◌, subst, arith, append_assoc}
use Rattle.std.specs.Prelude.{Option, count_by, filter, if◌then◌else◌, is_some, not, position, slice_get, IfSome, IsSome, ◌↔◌, option_to_list}
use Rattle.std.specs.Borrow.{Bor}
use Rattle.std.specs.BTreeMap.{insert_entry}
use Rattle.std.specs.BTreeSet.{insert_key}
use Rattle.std.specs.List.{AllByRecursion}
use Rattle.std.specs.Map.{lookup, remove_entry}
use Rattle.std.specs.Option.{option_copied, option_map}
use Rattle.std.specs.Ordering.{nat_cmp}
use Rattle.std.specs.Set.{remove_key}
use Rattle.std.proofs.lemmas.List.{length-append}
use Rattle.std.proofs.lemmas.List.Elements.{filter-append}
use Rattle.dds_cache.specs.declared.entry.Entry.{Entry}
use Rattle.dds_cache.specs.Effects.{mark_one}
use Rattle.dds_cache.specs.Placed.{emptied_at, entry_at, is_unread, marked_at, placed, with_settled, with_unread}
use Rattle.dds_cache.specs.Shelved.{IsShelf}
use Rattle.dds_cache.specs.Standing.{is_number, not_yet, numbers}
use Rattle.dds_cache.proofs.Placing.{below_last, entry_last, key_last, rising_last}
use Rattle.dds_cache.proofs.Places.{emptied_length, marked_below, marked_length, marked_rising, marked_unread, old_found, old_marked, old_removed, placed_count, placed_found, placed_marked, placed_removed, placed_unread, removed_below, removed_rising, removed_unread, row_found, row_marked, row_removed}

numbers_append : {E : Type 0} (xs ys : List (ℕ × E)) → numbers (xs ++ ys) ≡ numbers xs ++ numbers ys
numbers_append [] ys = refl
numbers_append (x ∷ xs) ys = ap (λ l. x.0 ∷ l) (numbers_append xs ys)

first_of_both : (xs ys : List ℕ) (x : ℕ) → slice_get xs 0 ≡ Some x → slice_get (xs ++ ys) 0 ≡ Some x
first_of_both [] ys x h = absurd cc
first_of_both (z ∷ xs) ys x h = h

first_of_second : (xs ys : List ℕ) → length xs ≤ 0 → slice_get (xs ++ ys) 0 ≡ slice_get ys 0
first_of_second [] ys h = refl
first_of_second (z ∷ xs) ys h = absurd (omega (arith, h))

-- the first key of a set
pub first_is : (o : Option (Bor ℕ)) (r : Option ℕ) (keys : List ℕ) → r ≡ option_copied o → IsSome o ↔ (0 < length keys) → IfSome o (λ k. slice_get keys 0 ≡ Some k.now) → r ≡ slice_get keys 0
first_is None r [] is there first = is
first_is None r (x ∷ xs) is there first = let bad : false ≡ true = there.1 (omega arith) in absurd cc
first_is (Some k) r keys is there first = is ∙ sym first

pub none_there : (keys : List ℕ) → None ≡ slice_get keys 0 → length keys ≤ 0
none_there [] h = omega arith
none_there (x ∷ xs) h = absurd cc

back_to : (first n : ℕ) → first ≤ n → first + (n - first) ≡ n
back_to first n h = omega (arith, h)

module _ {M : Type 0} (first : ℕ) (tree : List (ℕ × Entry M)) (keys : List ℕ) (row : List (Option (Entry M))) (s : IsShelf first tree keys row) where
  abbrev all : List (ℕ × Entry M)
  all = tree ++ placed first row

  -- ---- what is found

  pub found_front : (n : ℕ) → n < first → lookup (is_number n) tree ≡ lookup (is_number n) all
  found_front n h = sym (old_found n first tree row h)

  pub found_back : (n : ℕ) → first ≤ n → entry_at (n - first) row ≡ lookup (is_number n) all
  found_back n h = sym (row_found n first tree (placed first row) h s.below ∙ ap (λ m. lookup (is_number m) (placed first row)) (sym (back_to first n h)) ∙ placed_found first (n - first) row)

  pub count_both : (a b : ℕ) → a ≡ length tree → b ≡ count_by is_some row → a + b ≡ length all
  count_both a b is so = let two = length-append tree (placed first row) in let more = placed_count first row in omega (arith, is, so, two, more)

  unread_both : numbers (filter not_yet all) ≡ numbers (filter not_yet tree) ++ numbers (filter not_yet (placed first row))
  unread_both = ap numbers (filter-append not_yet tree (placed first row)) ∙ numbers_append (filter not_yet tree) (filter not_yet (placed first row))

  pub first_front : (n : ℕ) → slice_get keys 0 ≡ Some n → Some n ≡ slice_get (numbers (filter not_yet all)) 0
  first_front n h = sym (ap (λ l. slice_get l 0) unread_both ∙ first_of_both (numbers (filter not_yet tree)) (numbers (filter not_yet (placed first row))) n (ap (λ l. slice_get l 0) (sym s.not_read) ∙ h))

  pub first_back : length keys ≤ 0 → option_map (λ i. first + i) (position is_unread row) ≡ slice_get (numbers (filter not_yet all)) 0
  first_back h = sym (ap (λ l. slice_get l 0) unread_both ∙ first_of_second (numbers (filter not_yet tree)) (numbers (filter not_yet (placed first row))) (subst (λ l. length l ≤ 0) s.not_read h) ∙ placed_unread first row)

  -- ---- an entry leaves

  pub left_front : (n : ℕ) → n < first → remove_entry (is_number n) tree ++ placed first row ≡ remove_entry (is_number n) all
  left_front n h = sym (old_removed n first tree row h)

  pub left_back : (n : ℕ) → first ≤ n → tree ++ placed first (emptied_at (n - first) row) ≡ remove_entry (is_number n) all
  left_back n h =
      sym (row_removed n first tree (placed first row) h s.below ∙ ap (λ m. tree ++ remove_entry (is_number m) (placed first row)) (sym (back_to first n h))
      ∙ ap (λ l. tree ++ l) (placed_removed first (n - first) row))

  pub shelf_left_front : (n : ℕ) (less : List (ℕ × Entry M)) (fewer : List ℕ) → less ≡ remove_entry (is_number n) tree → fewer ≡ remove_key (is_number n) keys → IsShelf first less fewer row
  shelf_left_front n less fewer is so =
      subst (λ l. IsShelf first l fewer row) (sym is)
      (record {
        rising = removed_rising n 0 tree s.rising;
        below = removed_below n first tree s.below;
        not_read = so ∙ ap (remove_key (is_number n)) s.not_read ∙ removed_unread n 0 tree s.rising;
        few = s.few;
        small = s.small;
      })

  same_shelf : (other : List (Option (Entry M))) → length other ≡ length row → IsShelf first tree keys other
  same_shelf other is = record {
    rising = s.rising;
    below = s.below;
    not_read = s.not_read;
    few = subst (λ n. n ≤ 64) (sym is) s.few;
    small = subst (λ n. first + n < 2 ^ 64) (sym is) s.small;
  }

  pub shelf_left_back : (i : ℕ) (other : List (Option (Entry M))) → other ≡ emptied_at i row → IsShelf first tree keys other
  shelf_left_back i other is = same_shelf other (ap length is ∙ emptied_length i row)

  -- ---- an entry is read

  pub marked_front : (n : ℕ) → n < first → mark_one n tree ++ placed first row ≡ mark_one n all
  marked_front n h = sym (old_marked n first tree row h)

  pub marked_back : (n : ℕ) → first ≤ n → tree ++ placed first (marked_at (n - first) row) ≡ mark_one n all
  marked_back n h =
      sym (row_marked n first tree (placed first row) h s.below ∙ ap (λ m. tree ++ mark_one m (placed first row)) (sym (back_to first n h))
      ∙ ap (λ l. tree ++ l) (placed_marked first (n - first) row))

  pub shelf_marked_front : (n : ℕ) (more : List (ℕ × Entry M)) (fewer : List ℕ) → more ≡ mark_one n tree → fewer ≡ remove_key (is_number n) keys → IsShelf first more fewer row
  shelf_marked_front n more fewer is so =
      subst (λ l. IsShelf first l fewer row) (sym is)
      (record {
        rising = marked_rising n 0 tree s.rising;
        below = marked_below n first tree s.below;
        not_read = so ∙ ap (remove_key (is_number n)) s.not_read ∙ marked_unread n 0 tree s.rising;
        few = s.few;
        small = s.small;
      })

  pub shelf_marked_back : (i : ℕ) (other : List (Option (Entry M))) → other ≡ marked_at i row → IsShelf first tree keys other
  shelf_marked_back i other is = same_shelf other (ap length is ∙ marked_length i row)

-- ---- the first place goes

below_on : {M : Type 0} (n : ℕ) (es : List (ℕ × Entry M)) → AllByRecursion (λ e. e.0 < n) es → AllByRecursion (λ e. e.0 < n + 1) es
below_on n [] all = tt
below_on n (e ∷ es) all = (omega (arith, all.0), below_on n es all.1)

pub shelf_aged : {M : Type 0} (first : ℕ) (tree : List (ℕ × Entry M)) (keys : List ℕ) (row : List (Option (Entry M))) → IsShelf first tree keys (None ∷ row) → IsShelf (first + 1) tree keys row
shelf_aged first tree keys row s = record {
  rising = s.rising;
  below = below_on first tree s.below;
  not_read = s.not_read;
  few = omega (arith, s.few);
  small = omega (arith, s.small);
}

below_keys : {M : Type 0} (n : ℕ) (es : List (ℕ × Entry M)) → AllByRecursion (λ e. e.0 < n) es → AllByRecursion (λ m. m < n) (numbers (filter not_yet es))
below_keys n [] below = tt
below_keys n (e ∷ es) below = by_test (not_yet e) (below_keys n es below.1)
  where
    by_test : (b : Bool) → AllByRecursion (λ m. m < n) (numbers (filter not_yet es)) → AllByRecursion (λ m. m < n) (numbers (if b then e ∷ filter not_yet es else filter not_yet es))
    by_test true more = (below.0, more)
    by_test false more = more

module _ {M : Type 0} (first : ℕ) (tree : List (ℕ × Entry M)) (keys : List ℕ) (row : List (Option (Entry M))) (e : Entry M) (s : IsShelf first tree keys (Some e ∷ row)) where
  settled : insert_entry nat_cmp tree first e ≡ tree ++ (first, e) ∷ []
  settled = entry_last first e tree s.below

  pub aged_entries : (more : List (ℕ × Entry M)) → more ≡ insert_entry nat_cmp tree first e → more ++ placed (first + 1) row ≡ tree ++ placed first (Some e ∷ row)
  aged_entries more is =
      ap (λ l. l ++ placed (first + 1) row) (is ∙ settled) ∙ append_assoc tree ((first, e) ∷ []) (placed (first + 1) row) ∙ ap (λ n. tree ++ (first, e) ∷ placed n row) (omega arith)

  unread_last : (b : Bool) → e.is_read ≡ b → (if b then keys else insert_key nat_cmp keys first) ≡ numbers (filter not_yet (tree ++ (first, e) ∷ []))
  unread_last true h =
      s.not_read ∙ sym (ap numbers (filter-append not_yet tree ((first, e) ∷ []) ∙ ap (λ b. filter not_yet tree ++ (if not b then (first, e) ∷ [] else [])) h) ∙ numbers_append (filter not_yet tree) [] ∙ nothing (numbers (filter not_yet tree)))
    where
      nothing : (l : List ℕ) → l ++ [] ≡ l
      nothing [] = refl
      nothing (x ∷ xs) = ap (λ l. x ∷ l) (nothing xs)
  unread_last false h =
      ap (λ l. insert_key nat_cmp l first) s.not_read ∙ key_last first (numbers (filter not_yet tree)) (below_keys first tree s.below)
      ∙ sym (ap numbers (filter-append not_yet tree ((first, e) ∷ []) ∙ ap (λ b. filter not_yet tree ++ (if not b then (first, e) ∷ [] else [])) h) ∙ numbers_append (filter not_yet tree) ((first, e) ∷ []))

  pub shelf_settled : (more : List (ℕ × Entry M)) (now : List ℕ) → more ≡ insert_entry nat_cmp tree first e → now ≡ (if e.is_read then keys else insert_key nat_cmp keys first) → IsShelf (first + 1) more now row
  shelf_settled more now is so =
      subst (λ l. IsShelf (first + 1) l now row) (sym (is ∙ settled))
      (record {
        rising = rising_last 0 first e tree (omega arith) s.rising s.below;
        below = below_last first e tree s.below;
        not_read = so ∙ unread_last e.is_read refl;
        few = omega (arith, s.few);
        small = omega (arith, s.small);
      })

pub shelf_on : {M : Type 0} (first : ℕ) (tree : List (ℕ × Entry M)) (keys : List ℕ) (row : List (Option (Entry M))) (o : Option (Entry M)) → IsShelf first tree keys (o ∷ row) → (more : List (ℕ × Entry M)) (now : List ℕ) → more ≡ with_settled first o tree → now ≡ with_unread first o keys
    → IsShelf (first + 1) more now row
shelf_on first tree keys row None s more now is so = subst (λ l. IsShelf (first + 1) l now row) (sym is) (subst (λ l. IsShelf (first + 1) tree l row) (sym so) (shelf_aged first tree keys row s))
shelf_on first tree keys row (Some e) s more now is so = shelf_settled first tree keys row e s more now is so

pub entries_on : {M : Type 0} (first : ℕ) (tree : List (ℕ × Entry M)) (keys : List ℕ) (row : List (Option (Entry M))) (o : Option (Entry M)) → IsShelf first tree keys (o ∷ row) → (more : List (ℕ × Entry M)) → more ≡ with_settled first o tree
    → more ++ placed (first + 1) row ≡ tree ++ placed first (o ∷ row)
entries_on first tree keys row None s more is = ap (λ l. l ++ placed (first + 1) row) is ∙ ap (λ n. tree ++ placed n row) (omega arith)
entries_on first tree keys row (Some e) s more is = aged_entries first tree keys row e s more is

module _ {M : Type 0} (first : ℕ) (tree : List (ℕ × Entry M)) (keys : List ℕ) (row rest : List (Option (Entry M))) (r : Option (Option (Entry M))) (o : Option (Entry M)) (s : IsShelf first tree keys row) (popped : row ≡ option_to_list r ++ rest) (is : r ≡ Some o) where
  cut : row ≡ o ∷ rest
  cut = popped ∙ ap (λ x. option_to_list x ++ rest) is

  before : IsShelf first tree keys (o ∷ rest)
  before = subst (IsShelf first tree keys) cut s

  pub shelf_popped : (more : List (ℕ × Entry M)) (now : List ℕ) → more ≡ with_settled first o tree → now ≡ with_unread first o keys → IsShelf (first + 1) more now rest
  shelf_popped more now so too = shelf_on first tree keys rest o before more now so too

  pub entries_popped : (more : List (ℕ × Entry M)) → more ≡ with_settled first o tree → more ++ placed (first + 1) rest ≡ tree ++ placed first row
  entries_popped more so = entries_on first tree keys rest o before more so ∙ ap (λ l. tree ++ placed first l) (sym cut)
