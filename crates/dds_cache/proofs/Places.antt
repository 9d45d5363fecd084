-- Entries at places, and the entries with lower numbers.
use Rattle.std.proofs.Common.{◌≡◌, ℕ, zero, suc, ◌+◌, ◌<◌, ◌≤◌, Bool, true, false, cond, List, [], ◌∷◌, ◌++◌, length, Some, None, refl, sym, ap, ◌∙◌, subst, arith}
use Rattle.std.specs.Prelude.{Option, count_by, filter, if◌then◌else◌, is_some, not, position, slice_get, slice_index_or, slice_set}
use Rattle.std.specs.List.{AllByRecursion, position_from}
use Rattle.std.specs.Map.{lookup, remove_entry}
use Rattle.std.specs.Option.{option_map}
use Rattle.std.specs.Set.{remove_key}
use Rattle.std.proofs.lemmas.Bool.Decides.{nat_tests}
use Rattle.std.proofs.lemmas.Iterator.Adapters.{position_from-zero}
use Rattle.std.proofs.lemmas.List.Sums.{length-filter}
use Rattle.dds_cache.specs.declared.entry.Entry.{Entry}
use Rattle.dds_cache.specs.Cache.{marked}
use Rattle.dds_cache.specs.Effects.{mark_one}
use Rattle.dds_cache.specs.Placed.{emptied_at, entry_at, is_unread, marked_at, placed}
use Rattle.dds_cache.specs.Standing.{Rising, is_number, not_yet, numbers}
use Rattle.dds_cache.proofs.Choosing.{above, number_apart, number_before, number_itself}

number_is : (m n : ℕ) → is_number m n ≡ true → n ≡ m
number_is m n h = grind (arith, nat_tests)

absent : (m : ℕ) (ns : List ℕ) → AllByRecursion (λ n. m < n) ns → remove_key (is_number m) ns ≡ ns
absent m [] all = refl
absent m (n ∷ ns) all = ap (λ b. cond b ns (n ∷ remove_key (is_number m) ns)) (number_before m n all.0) ∙ ap (λ l. n ∷ l) (absent m ns all.1)

one_on : (n i : ℕ) → suc n + i ≡ n + suc i
one_on n i = omega arith

nothing_on : (n : ℕ) → n + 0 ≡ n
nothing_on n = omega arith

later : (n i : ℕ) → n < n + suc i
later n i = omega arith

module _ {M : Type 0} where
  -- ---- the entries at places

  pub placed_last : (n : ℕ) (row : List (Option (Entry M))) (e : Entry M) → placed n (row ++ Some e ∷ []) ≡ placed n row ++ (n + length row, e) ∷ []
  placed_last n [] e = ap (λ m. (m, e) ∷ []) (sym (nothing_on n))
  placed_last n (None ∷ row) e = placed_last (suc n) row e ∙ ap (λ m. placed (suc n) row ++ (m, e) ∷ []) (one_on n (length row))
  placed_last n (Some x ∷ row) e = ap (λ l. (n, x) ∷ l) (placed_last (suc n) row e ∙ ap (λ m. placed (suc n) row ++ (m, e) ∷ []) (one_on n (length row)))

  -- no lower number is among them
  none_found : (m n : ℕ) (row : List (Option (Entry M))) → m < n → lookup (is_number m) (placed n row) ≡ None
  none_found m n [] h = refl
  none_found m n (None ∷ row) h = none_found m (suc n) row (omega (arith, h))
  none_found m n (Some e ∷ row) h = ap (λ b. cond b (Some e) (lookup (is_number m) (placed (suc n) row))) (number_before m n h) ∙ none_found m (suc n) row (omega (arith, h))

  none_removed : (m n : ℕ) (row : List (Option (Entry M))) → m < n → remove_entry (is_number m) (placed n row) ≡ placed n row
  none_removed m n [] h = refl
  none_removed m n (None ∷ row) h = none_removed m (suc n) row (omega (arith, h))
  none_removed m n (Some e ∷ row) h =
      ap (λ b. cond b (placed (suc n) row) ((n, e) ∷ remove_entry (is_number m) (placed (suc n) row))) (number_before m n h)
      ∙ ap (λ l. (n, e) ∷ l) (none_removed m (suc n) row (omega (arith, h)))

  none_marked : (m n : ℕ) (row : List (Option (Entry M))) → m < n → mark_one m (placed n row) ≡ placed n row
  none_marked m n [] h = refl
  none_marked m n (None ∷ row) h = none_marked m (suc n) row (omega (arith, h))
  none_marked m n (Some e ∷ row) h =
      ap (λ b. if b then (n, marked e) ∷ placed (suc n) row else (n, e) ∷ mark_one m (placed (suc n) row)) (number_before m n h)
      ∙ ap (λ l. (n, e) ∷ l) (none_marked m (suc n) row (omega (arith, h)))

  -- the number of a place finds its entry
  pub placed_found : (n i : ℕ) (row : List (Option (Entry M))) → lookup (is_number (n + i)) (placed n row) ≡ entry_at i row
  placed_found n i [] = refl
  placed_found n zero (None ∷ row) = none_found (n + 0) (suc n) row (omega arith)
  placed_found n zero (Some e ∷ row) = ap (λ m. cond (is_number m n) (Some e) (lookup (is_number m) (placed (suc n) row))) (nothing_on n) ∙ ap (λ b. cond b (Some e) (lookup (is_number n) (placed (suc n) row))) (number_itself n)
  placed_found n (suc i) (None ∷ row) = ap (λ m. lookup (is_number m) (placed (suc n) row)) (sym (one_on n i)) ∙ placed_found (suc n) i row
  placed_found n (suc i) (Some e ∷ row) =
      ap (λ b. cond b (Some e) (lookup (is_number (n + suc i)) (placed (suc n) row))) (number_apart n (n + suc i) (later n i))
      ∙ ap (λ m. lookup (is_number m) (placed (suc n) row)) (sym (one_on n i)) ∙ placed_found (suc n) i row

  pub placed_removed : (n i : ℕ) (row : List (Option (Entry M))) → remove_entry (is_number (n + i)) (placed n row) ≡ placed n (emptied_at i row)
  placed_removed n i [] = refl
  placed_removed n zero (None ∷ row) = none_removed (n + 0) (suc n) row (omega arith)
  placed_removed n zero (Some e ∷ row) =
      ap (λ m. cond (is_number m n) (placed (suc n) row) ((n, e) ∷ remove_entry (is_number m) (placed (suc n) row))) (nothing_on n)
      ∙ ap (λ b. cond b (placed (suc n) row) ((n, e) ∷ remove_entry (is_number n) (placed (suc n) row))) (number_itself n)
  placed_removed n (suc i) (None ∷ row) = ap (λ m. remove_entry (is_number m) (placed (suc n) row)) (sym (one_on n i)) ∙ placed_removed (suc n) i row
  placed_removed n (suc i) (Some e ∷ row) =
      ap (λ b. cond b (placed (suc n) row) ((n, e) ∷ remove_entry (is_number (n + suc i)) (placed (suc n) row))) (number_apart n (n + suc i) (later n i))
      ∙ ap (λ m. (n, e) ∷ remove_entry (is_number m) (placed (suc n) row)) (sym (one_on n i)) ∙ ap (λ l. (n, e) ∷ l) (placed_removed (suc n) i row)

  pub placed_marked : (n i : ℕ) (row : List (Option (Entry M))) → mark_one (n + i) (placed n row) ≡ placed n (marked_at i row)
  placed_marked n i [] = refl
  placed_marked n zero (None ∷ row) = none_marked (n + 0) (suc n) row (omega arith)
  placed_marked n zero (Some e ∷ row) =
      ap (λ m. if is_number m n then (n, marked e) ∷ placed (suc n) row else (n, e) ∷ mark_one m (placed (suc n) row)) (nothing_on n)
      ∙ ap (λ b. if b then (n, marked e) ∷ placed (suc n) row else (n, e) ∷ mark_one n (placed (suc n) row)) (number_itself n)
  placed_marked n (suc i) (None ∷ row) = ap (λ m. mark_one m (placed (suc n) row)) (sym (one_on n i)) ∙ placed_marked (suc n) i row
  placed_marked n (suc i) (Some e ∷ row) =
      ap (λ b. if b then (n, marked e) ∷ placed (suc n) row else (n, e) ∷ mark_one (n + suc i) (placed (suc n) row)) (number_apart n (n + suc i) (later n i))
      ∙ ap (λ m. (n, e) ∷ mark_one m (placed (suc n) row)) (sym (one_on n i)) ∙ ap (λ l. (n, e) ∷ l) (placed_marked (suc n) i row)

  pub emptied_length : (i : ℕ) (row : List (Option (Entry M))) → length (emptied_at i row) ≡ length row
  emptied_length i [] = refl
  emptied_length zero (o ∷ row) = refl
  emptied_length (suc i) (o ∷ row) = ap suc (emptied_length i row)

  pub marked_length : (i : ℕ) (row : List (Option (Entry M))) → length (marked_at i row) ≡ length row
  marked_length i [] = refl
  marked_length zero (o ∷ row) = refl
  marked_length (suc i) (o ∷ row) = ap suc (marked_length i row)

  -- ---- a number below all places: it is looked for among the others

  abbrev Below : ℕ → List (ℕ × Entry M) → Type 0
  Below n es = AllByRecursion (λ e. e.0 < n) es

  pub old_found : (m n : ℕ) (old : List (ℕ × Entry M)) (row : List (Option (Entry M))) → m < n → lookup (is_number m) (old ++ placed n row) ≡ lookup (is_number m) old
  old_found m n [] row h = none_found m n row h
  old_found m n (e ∷ old) row h = ap (cond (is_number m e.0) (Some e.1)) (old_found m n old row h)

  pub old_removed : (m n : ℕ) (old : List (ℕ × Entry M)) (row : List (Option (Entry M))) → m < n → remove_entry (is_number m) (old ++ placed n row) ≡ remove_entry (is_number m) old ++ placed n row
  old_removed m n [] row h = none_removed m n row h
  old_removed m n (e ∷ old) row h = by_test (is_number m e.0) (old_removed m n old row h)
    where
      by_test : (b : Bool) → remove_entry (is_number m) (old ++ placed n row) ≡ remove_entry (is_number m) old ++ placed n row
          → cond b (old ++ placed n row) (e ∷ remove_entry (is_number m) (old ++ placed n row)) ≡ cond b old (e ∷ remove_entry (is_number m) old) ++ placed n row
      by_test true more = refl
      by_test false more = ap (λ l. e ∷ l) more

  pub old_marked : (m n : ℕ) (old : List (ℕ × Entry M)) (row : List (Option (Entry M))) → m < n → mark_one m (old ++ placed n row) ≡ mark_one m old ++ placed n row
  old_marked m n [] row h = none_marked m n row h
  old_marked m n (e ∷ old) row h = by_test (is_number m e.0) (old_marked m n old row h)
    where
      by_test : (b : Bool) → mark_one m (old ++ placed n row) ≡ mark_one m old ++ placed n row
          → (if b then (e.0, marked e.1) ∷ (old ++ placed n row) else e ∷ mark_one m (old ++ placed n row)) ≡ (if b then (e.0, marked e.1) ∷ old else e ∷ mark_one m old) ++ placed n row
      by_test true more = refl
      by_test false more = ap (λ l. e ∷ l) more

  -- ---- another number: it is looked for among the places

  pub row_found : (m n : ℕ) (old rest : List (ℕ × Entry M)) → n ≤ m → Below n old → lookup (is_number m) (old ++ rest) ≡ lookup (is_number m) rest
  row_found m n [] rest h all = refl
  row_found m n (e ∷ old) rest h all = ap (λ b. cond b (Some e.1) (lookup (is_number m) (old ++ rest))) (number_apart e.0 m (omega (arith, h, all.0))) ∙ row_found m n old rest h all.1

  pub row_removed : (m n : ℕ) (old rest : List (ℕ × Entry M)) → n ≤ m → Below n old → remove_entry (is_number m) (old ++ rest) ≡ old ++ remove_entry (is_number m) rest
  row_removed m n [] rest h all = refl
  row_removed m n (e ∷ old) rest h all =
      ap (λ b. cond b (old ++ rest) (e ∷ remove_entry (is_number m) (old ++ rest))) (number_apart e.0 m (omega (arith, h, all.0)))
      ∙ ap (λ l. e ∷ l) (row_removed m n old rest h all.1)

  pub row_marked : (m n : ℕ) (old rest : List (ℕ × Entry M)) → n ≤ m → Below n old → mark_one m (old ++ rest) ≡ old ++ mark_one m rest
  row_marked m n [] rest h all = refl
  row_marked m n (e ∷ old) rest h all =
      ap (λ b. if b then (e.0, marked e.1) ∷ (old ++ rest) else e ∷ mark_one m (old ++ rest)) (number_apart e.0 m (omega (arith, h, all.0)))
      ∙ ap (λ l. e ∷ l) (row_marked m n old rest h all.1)

  -- ---- what stays true of the others

  pub removed_below : (m n : ℕ) (old : List (ℕ × Entry M)) → Below n old → Below n (remove_entry (is_number m) old)
  removed_below m n [] all = tt
  removed_below m n (e ∷ old) all = by_test (is_number m e.0) (removed_below m n old all.1)
    where
      by_test : (b : Bool) → Below n (remove_entry (is_number m) old) → Below n (cond b old (e ∷ remove_entry (is_number m) old))
      by_test true more = all.1
      by_test false more = (all.0, more)

  pub rises_on : (low high : ℕ) (es : List (ℕ × Entry M)) → low ≤ high → Rising high es → Rising low es
  rises_on low high [] h up = tt
  rises_on low high (e ∷ es) h up = (omega (arith, h, up.0), up.1)

  pub removed_rising : (m low : ℕ) (old : List (ℕ × Entry M)) → Rising low old → Rising low (remove_entry (is_number m) old)
  removed_rising m low [] up = tt
  removed_rising m low (e ∷ old) up = by_test (is_number m e.0) (removed_rising m (suc e.0) old up.1)
    where
      by_test : (b : Bool) → Rising (suc e.0) (remove_entry (is_number m) old) → Rising low (cond b old (e ∷ remove_entry (is_number m) old))
      by_test true more = rises_on low (suc e.0) old (omega (arith, up.0)) up.1
      by_test false more = (up.0, more)

  pub marked_below : (m n : ℕ) (old : List (ℕ × Entry M)) → Below n old → Below n (mark_one m old)
  marked_below m n [] all = tt
  marked_below m n (e ∷ old) all = by_test (is_number m e.0) (marked_below m n old all.1)
    where
      by_test : (b : Bool) → Below n (mark_one m old) → Below n (if b then (e.0, marked e.1) ∷ old else e ∷ mark_one m old)
      by_test true more = (all.0, all.1)
      by_test false more = (all.0, more)

  pub marked_rising : (m low : ℕ) (old : List (ℕ × Entry M)) → Rising low old → Rising low (mark_one m old)
  marked_rising m low [] up = tt
  marked_rising m low (e ∷ old) up = by_test (is_number m e.0) (marked_rising m (suc e.0) old up.1)
    where
      by_test : (b : Bool) → Rising (suc e.0) (mark_one m old) → Rising low (if b then (e.0, marked e.1) ∷ old else e ∷ mark_one m old)
      by_test true more = (up.0, up.1)
      by_test false more = (up.0, more)

  abbrev unread : List (ℕ × Entry M) → List ℕ
  unread es = numbers (filter not_yet es)

  -- which of the others no call answered, once one of them left or was read
  same_number : (m : ℕ) (e : ℕ × Entry M) → is_number m e.0 ≡ true → e.0 ≡ m
  same_number m e h = number_is m e.0 h

  pub removed_unread : (m low : ℕ) (old : List (ℕ × Entry M)) → Rising low old → remove_key (is_number m) (unread old) ≡ unread (remove_entry (is_number m) old)
  removed_unread m low [] up = refl
  removed_unread m low (e ∷ old) up = by_tests (is_number m e.0) refl (not_yet e) refl (removed_unread m (suc e.0) old up.1)
    where
      gone : is_number m e.0 ≡ true → remove_key (is_number m) (unread old) ≡ unread old
      gone h = absent m (unread old) (ap_above (same_number m e h))
        where
          ap_above : e.0 ≡ m → AllByRecursion (λ x. m < x) (unread old)
          ap_above is = subst (λ x. AllByRecursion (λ y. x < y) (unread old)) is (above not_yet (suc e.0) e.0 old (omega arith) up.1)

      by_tests : (b : Bool) → is_number m e.0 ≡ b → (u : Bool) → not_yet e ≡ u → remove_key (is_number m) (unread old) ≡ unread (remove_entry (is_number m) old)
          → remove_key (is_number m) (numbers (if u then e ∷ filter not_yet old else filter not_yet old)) ≡ unread (cond b old (e ∷ remove_entry (is_number m) old))
      by_tests true h true is more = ap (λ b. cond b (unread old) (e.0 ∷ remove_key (is_number m) (unread old))) h
      by_tests true h false is more = gone h
      by_tests false h true is more =
          ap (λ b. cond b (unread old) (e.0 ∷ remove_key (is_number m) (unread old))) h ∙ ap (λ l. e.0 ∷ l) more
          ∙ sym (ap (λ u. numbers (if u then e ∷ filter not_yet (remove_entry (is_number m) old) else filter not_yet (remove_entry (is_number m) old))) is)
      by_tests false h false is more = more ∙ sym (ap (λ u. numbers (if u then e ∷ filter not_yet (remove_entry (is_number m) old) else filter not_yet (remove_entry (is_number m) old))) is)

  pub marked_unread : (m low : ℕ) (old : List (ℕ × Entry M)) → Rising low old → remove_key (is_number m) (unread old) ≡ unread (mark_one m old)
  marked_unread m low [] up = refl
  marked_unread m low (e ∷ old) up = by_tests (is_number m e.0) refl (not_yet e) refl (marked_unread m (suc e.0) old up.1)
    where
      gone : is_number m e.0 ≡ true → remove_key (is_number m) (unread old) ≡ unread old
      gone h = absent m (unread old) (subst (λ x. AllByRecursion (λ y. x < y) (unread old)) (same_number m e h) (above not_yet (suc e.0) e.0 old (omega arith) up.1))

      by_tests : (b : Bool) → is_number m e.0 ≡ b → (u : Bool) → not_yet e ≡ u → remove_key (is_number m) (unread old) ≡ unread (mark_one m old)
          → remove_key (is_number m) (numbers (if u then e ∷ filter not_yet old else filter not_yet old)) ≡ unread (if b then (e.0, marked e.1) ∷ old else e ∷ mark_one m old)
      by_tests true h true is more = ap (λ b. cond b (unread old) (e.0 ∷ remove_key (is_number m) (unread old))) h
      by_tests true h false is more = gone h
      by_tests false h true is more =
          ap (λ b. cond b (unread old) (e.0 ∷ remove_key (is_number m) (unread old))) h ∙ ap (λ l. e.0 ∷ l) more
          ∙ sym (ap (λ u. numbers (if u then e ∷ filter not_yet (mark_one m old) else filter not_yet (mark_one m old))) is)
      by_tests false h false is more = more ∙ sym (ap (λ u. numbers (if u then e ∷ filter not_yet (mark_one m old) else filter not_yet (mark_one m old))) is)

  -- ---- one place of a row

  pub set_marked : (i : ℕ) (row : List (Option (Entry M))) (o : Option (Entry M)) → i < length row → o ≡ slice_index_or row i o → slice_set row i (option_map marked o) ≡ marked_at i row
  set_marked i [] o h is = absurd (omega (arith, h))
  set_marked zero (x ∷ row) o h is = ap (λ y. option_map marked y ∷ row) is
  set_marked (suc i) (x ∷ row) o h is = ap (λ l. x ∷ l) (set_marked i row o (omega (arith, h)) is)

  pub set_emptied : (i : ℕ) (row : List (Option (Entry M))) → i < length row → slice_set row i None ≡ emptied_at i row
  set_emptied i [] h = absurd (omega (arith, h))
  set_emptied zero (x ∷ row) h = refl
  set_emptied (suc i) (x ∷ row) h = ap (λ l. x ∷ l) (set_emptied i row (omega (arith, h)))

  pub entry_is : (i : ℕ) (row : List (Option (Entry M))) (o : Option (Entry M)) → i < length row → o ≡ slice_index_or row i o → o ≡ entry_at i row
  entry_is i [] o h is = absurd (omega (arith, h))
  entry_is zero (x ∷ row) o h is = is
  entry_is (suc i) (x ∷ row) o h is = entry_is i row o (omega (arith, h)) is

  pub marked_past : (i : ℕ) (row : List (Option (Entry M))) → length row ≤ i → marked_at i row ≡ row
  marked_past i [] h = refl
  marked_past zero (x ∷ row) h = absurd (omega (arith, h))
  marked_past (suc i) (x ∷ row) h = ap (λ l. x ∷ l) (marked_past i row (omega (arith, h)))

  pub emptied_past : (i : ℕ) (row : List (Option (Entry M))) → length row ≤ i → emptied_at i row ≡ row
  emptied_past i [] h = refl
  emptied_past zero (x ∷ row) h = absurd (omega (arith, h))
  emptied_past (suc i) (x ∷ row) h = ap (λ l. x ∷ l) (emptied_past i row (omega (arith, h)))

  pub none_past : (i : ℕ) (row : List (Option (Entry M))) → length row ≤ i → None ≡ entry_at i row
  none_past i [] h = refl
  none_past zero (x ∷ row) h = absurd (omega (arith, h))
  none_past (suc i) (x ∷ row) h = none_past i row (omega (arith, h))

  -- ---- the first that no call answered, and how many there are

  same_count : (n : ℕ) (row : List (Option (Entry M))) → length (filter is_some row) ≡ length (placed n row)
  same_count n [] = refl
  same_count n (None ∷ row) = same_count (suc n) row
  same_count n (Some e ∷ row) = ap suc (same_count (suc n) row)

  pub placed_count : (n : ℕ) (row : List (Option (Entry M))) → count_by is_some row ≡ length (placed n row)
  placed_count n row = sym (length-filter is_some row) ∙ same_count n row

  first_from : (n k : ℕ) (row : List (Option (Entry M))) → slice_get (unread (placed (n + k) row)) 0 ≡ option_map (λ i. n + i) (position_from is_unread k row)
  first_from n k [] = refl
  first_from n k (None ∷ row) = ap (λ m. slice_get (unread (placed m row)) 0) (omega arith) ∙ first_from n (k + 1) row
  first_from n k (Some e ∷ row) = by_flag e.is_read (ap (λ m. slice_get (unread (placed m row)) 0) (omega arith) ∙ first_from n (k + 1) row)
    where
      by_flag : (b : Bool) → slice_get (unread (placed (suc (n + k)) row)) 0 ≡ option_map (λ i. n + i) (position_from is_unread (k + 1) row)
          → slice_get (numbers (if not b then (n + k, e) ∷ filter not_yet (placed (suc (n + k)) row) else filter not_yet (placed (suc (n + k)) row))) 0 ≡ option_map (λ i. n + i) (cond (not b) (Some k) (position_from is_unread (k + 1) row))
      by_flag true more = more
      by_flag false more = refl

  pub placed_unread : (n : ℕ) (row : List (Option (Entry M))) → slice_get (unread (placed n row)) 0 ≡ option_map (λ i. n + i) (position is_unread row)
  placed_unread n row = ap (λ m. slice_get (unread (placed m row)) 0) (sym (nothing_on n)) ∙ first_from n 0 row ∙ ap (option_map (λ i. n + i)) (sym (position_from-zero is_unread row))
