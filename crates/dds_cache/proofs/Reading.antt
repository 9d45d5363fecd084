-- What a cache keeps after it answered entries that stay.
use Rattle.std.proofs.Common.{◌≡◌, ℕ, zero, suc, ◌<◌, Bool, true, false, List, [], ◌∷◌, map, cond, Some, None, refl, sym, ap, ◌∙◌, arith}
use Rattle.std.specs.Prelude.{Option, filter, if◌then◌else◌, is_some, ◌||◌}
use Rattle.std.specs.List.{AllByRecursion, list_any}
use Rattle.std.specs.Map.{lookup}
use Rattle.std.specs.Option.{option_map}
use Rattle.rtps_types.specs.declared.identity.KeyHash.{KeyHash}
use Rattle.dds_cache.specs.declared.choose.Chosen.{Chosen}
use Rattle.dds_cache.specs.declared.condition.Condition.{Condition}
use Rattle.dds_cache.specs.declared.entry.Entry.{Entry}
use Rattle.dds_cache.specs.declared.history.History.{History}
use Rattle.dds_cache.specs.declared.history.History.TheVariants.{KeepLast, KeepAll}
use Rattle.dds_cache.specs.Answered.{answered}
use Rattle.dds_cache.specs.Cache.{cached, first_by, marked, marked_by, meets}
use Rattle.dds_cache.specs.Calls.{Done, WasRead}
use Rattle.dds_cache.specs.Effects.{IsSame, Reads, chosen_by, each, mark_each, mark_one, passes, read_each, shown_as}
use Rattle.dds_cache.specs.Lent.{answer_at}
use Rattle.dds_cache.specs.Standing.{InstanceView, CacheIndex, Rising, StandsBy, count_in, disposed_in, is_number, numbers, numbers_in, numbers_kept, of_key}
use Rattle.dds_cache.proofs.Answering.{answers, new_after, parts_from, picked, stands_same, test}
use Rattle.dds_cache.proofs.Choosing.{number_apart, number_itself}
use Rattle.dds_cache.proofs.Taking.{After, chosen, chosen_after, each_keeps}

module _ {M : Type 0} where
  -- the first ones that pass are marked
  abbrev pub marks : (ℕ × Entry M → Bool) → ℕ → List (ℕ × Entry M) → List (ℕ × Entry M)
  marks p m [] = []
  marks p zero (e ∷ es) = e ∷ es
  marks p (suc m) (e ∷ es) = if p e then (e.0, marked e.1) ∷ marks p m es else e ∷ marks p (suc m) es

  pub marks_map : (p : Entry M → Bool) (m : ℕ) (es : List (ℕ × Entry M)) → map (λ e. e.1) (marks (λ e. p e.1) m es) ≡ marked_by p m (map (λ e. e.1) es)
  marks_map p m [] = refl
  marks_map p zero (e ∷ es) = refl
  marks_map p (suc m) (e ∷ es) = by_test (p e.1) (marks_map p m es) (marks_map p (suc m) es)
    where
      by_test : (b : Bool) → map (λ e. e.1) (marks (λ e. p e.1) m es) ≡ marked_by p m (map (λ e. e.1) es) → map (λ e. e.1) (marks (λ e. p e.1) (suc m) es) ≡ marked_by p (suc m) (map (λ e. e.1) es)
          → map (λ (e : ℕ × Entry M). e.1) (if b then (e.0, marked e.1) ∷ marks (λ e. p e.1) m es else e ∷ marks (λ e. p e.1) (suc m) es) ≡ (if b then marked e.1 ∷ marked_by p m (map (λ e. e.1) es) else e.1 ∷ marked_by p (suc m) (map (λ e. e.1) es))
      by_test true one rest = ap (λ l. marked e.1 ∷ l) one
      by_test false one rest = ap (λ l. e.1 ∷ l) rest

  pub marks_rising : (p : ℕ × Entry M → Bool) (m low : ℕ) (es : List (ℕ × Entry M)) → Rising low es → Rising low (marks p m es)
  marks_rising p m low [] up = tt
  marks_rising p zero low (e ∷ es) up = up
  marks_rising p (suc m) low (e ∷ es) up = by_test (p e) (marks_rising p m (suc e.0) es up.1) (marks_rising p (suc m) (suc e.0) es up.1)
    where
      by_test : (b : Bool) → Rising (suc e.0) (marks p m es) → Rising (suc e.0) (marks p (suc m) es) → Rising low (if b then (e.0, marked e.1) ∷ marks p m es else e ∷ marks p (suc m) es)
      by_test true one rest = (up.0, one)
      by_test false one rest = (up.0, rest)

  pub marks_below : (n : ℕ) (p : ℕ × Entry M → Bool) (m : ℕ) (es : List (ℕ × Entry M)) → AllByRecursion (λ e. e.0 < n) es → AllByRecursion (λ e. e.0 < n) (marks p m es)
  marks_below n p m [] all = tt
  marks_below n p zero (e ∷ es) all = all
  marks_below n p (suc m) (e ∷ es) all = by_test (p e) (marks_below n p m es all.1) (marks_below n p (suc m) es all.1)
    where
      by_test : (b : Bool) → AllByRecursion (λ e. e.0 < n) (marks p m es) → AllByRecursion (λ e. e.0 < n) (marks p (suc m) es) → AllByRecursion (λ (e : ℕ × Entry M). e.0 < n) (if b then (e.0, marked e.1) ∷ marks p m es else e ∷ marks p (suc m) es)
      by_test true one rest = (all.0, one)
      by_test false one rest = (all.0, rest)

  pub marks_any : (k : KeyHash) (p : ℕ × Entry M → Bool) (m : ℕ) (es : List (ℕ × Entry M)) → list_any (of_key k) (marks p m es) ≡ list_any (of_key k) es
  marks_any k p m [] = refl
  marks_any k p zero (e ∷ es) = refl
  marks_any k p (suc m) (e ∷ es) = by_test (p e) (marks_any k p m es) (marks_any k p (suc m) es)
    where
      by_test : (b : Bool) → list_any (of_key k) (marks p m es) ≡ list_any (of_key k) es → list_any (of_key k) (marks p (suc m) es) ≡ list_any (of_key k) es
          → list_any (of_key k) (if b then (e.0, marked e.1) ∷ marks p m es else e ∷ marks p (suc m) es) ≡ (of_key k e || list_any (of_key k) es)
      by_test true one rest = ap (λ b. of_key k e || b) one
      by_test false one rest = ap (λ b. of_key k e || b) rest

  pub marks_mine : (k : KeyHash) (p : ℕ × Entry M → Bool) (m : ℕ) (es : List (ℕ × Entry M)) → numbers (filter (of_key k) es) ≡ numbers (filter (of_key k) (marks p m es))
  marks_mine k p m [] = refl
  marks_mine k p zero (e ∷ es) = refl
  marks_mine k p (suc m) (e ∷ es) = by_test (p e) (of_key k e) refl (marks_mine k p m es) (marks_mine k p (suc m) es)
    where
      by_test : (b u : Bool) → of_key k e ≡ u → numbers (filter (of_key k) es) ≡ numbers (filter (of_key k) (marks p m es)) → numbers (filter (of_key k) es) ≡ numbers (filter (of_key k) (marks p (suc m) es))
          → numbers (if u then e ∷ filter (of_key k) es else filter (of_key k) es) ≡ numbers (filter (of_key k) (if b then (e.0, marked e.1) ∷ marks p m es else e ∷ marks p (suc m) es))
      by_test true true h one rest = ap (λ l. e.0 ∷ l) one ∙ sym (ap (λ u. numbers (if u then (e.0, marked e.1) ∷ filter (of_key k) (marks p m es) else filter (of_key k) (marks p m es))) h)
      by_test true false h one rest = one ∙ sym (ap (λ u. numbers (if u then (e.0, marked e.1) ∷ filter (of_key k) (marks p m es) else filter (of_key k) (marks p m es))) h)
      by_test false true h one rest = ap (λ l. e.0 ∷ l) rest ∙ sym (ap (λ u. numbers (if u then e ∷ filter (of_key k) (marks p (suc m) es) else filter (of_key k) (marks p (suc m) es))) h)
      by_test false false h one rest = rest ∙ sym (ap (λ u. numbers (if u then e ∷ filter (of_key k) (marks p (suc m) es) else filter (of_key k) (marks p (suc m) es))) h)

  -- what the marks of chosen entries come to
  mark_past : (cs : List Chosen) (e : ℕ × Entry M) (es : List (ℕ × Entry M)) → After e.0 cs → mark_each cs (e ∷ es) ≡ e ∷ mark_each cs es
  mark_past [] e es all = refl
  mark_past (c ∷ cs) e es all = ap (λ b. mark_each cs (if b then (e.0, marked e.1) ∷ es else e ∷ mark_one c.number es)) (number_apart e.0 c.number all.0) ∙ mark_past cs e (mark_one c.number es) all.1

  pub marks_each : (find : KeyHash → Option InstanceView) (p : ℕ × Entry M → Bool) (m low : ℕ) (es : List (ℕ × Entry M)) → Rising low es → mark_each (chosen find p m es) es ≡ marks p m es
  marks_each find p m low [] up = refl
  marks_each find p zero low (e ∷ es) up = refl
  marks_each find p (suc m) low (e ∷ es) up = by_test (p e) (marks_each find p m (suc e.0) es up.1) (marks_each find p (suc m) (suc e.0) es up.1)
    where
      by_test : (b : Bool) → mark_each (chosen find p m es) es ≡ marks p m es → mark_each (chosen find p (suc m) es) es ≡ marks p (suc m) es
          → mark_each (map (chosen_by find) (if b then e ∷ first_by p m es else first_by p (suc m) es)) (e ∷ es) ≡ (if b then (e.0, marked e.1) ∷ marks p m es else e ∷ marks p (suc m) es)
      by_test true one rest =
          ap (λ b. mark_each (chosen find p m es) (if b then (e.0, marked e.1) ∷ es else e ∷ mark_one e.0 es)) (number_itself e.0)
          ∙ mark_past (chosen find p m es) (e.0, marked e.1) es (chosen_after find p m e.0 (suc e.0) es (omega arith) up.1) ∙ ap (λ l. (e.0, marked e.1) ∷ l) one
      by_test false one rest = mark_past (chosen find p (suc m) es) e es (chosen_after find p (suc m) e.0 (suc e.0) es (omega arith) up.1) ∙ ap (λ l. e ∷ l) rest

  -- ---- what is answered

  one_mark : (n : ℕ) (c : Chosen) (es : List (ℕ × Entry M)) → answer_at (mark_one n es) c ≡ answer_at es c
  one_mark n c [] = refl
  one_mark n c (e ∷ es) = by_tests (is_number n e.0) (is_number c.number e.0) (one_mark n c es)
    where
      by_here : (v : Bool) → answer_at (mark_one n es) c ≡ answer_at es c → option_map (λ x. shown_as x c) (cond v (Some e.1) (lookup (is_number c.number) (mark_one n es))) ≡ option_map (λ x. shown_as x c) (cond v (Some e.1) (lookup (is_number c.number) es))
      by_here true more = refl
      by_here false more = more

      by_there : (v : Bool) → option_map (λ x. shown_as x c) (cond v (Some (marked e.1)) (lookup (is_number c.number) es)) ≡ option_map (λ x. shown_as x c) (cond v (Some e.1) (lookup (is_number c.number) es))
      by_there true = refl
      by_there false = refl

      by_tests : (u v : Bool) → answer_at (mark_one n es) c ≡ answer_at es c
          → option_map (λ x. shown_as x c) (lookup (is_number c.number) (if u then (e.0, marked e.1) ∷ es else e ∷ mark_one n es)) ≡ option_map (λ x. shown_as x c) (cond (is_number c.number e.0) (Some e.1) (lookup (is_number c.number) es))
      by_tests true v more = by_there (is_number c.number e.0)
      by_tests false v more = by_here (is_number c.number e.0) more

  all_marks : (cs : List Chosen) (c : Chosen) (es : List (ℕ × Entry M)) → answer_at (mark_each cs es) c ≡ answer_at es c
  all_marks [] c es = refl
  all_marks (d ∷ cs) c es = all_marks cs c (mark_one d.number es) ∙ one_mark d.number c es

  same_answers : (xs cs : List Chosen) (es : List (ℕ × Entry M)) → map (answer_at (mark_each cs es)) xs ≡ map (answer_at es) xs
  same_answers [] cs es = refl
  same_answers (a ∷ xs) cs es = ap (λ x. x ∷ map (answer_at (mark_each cs es)) xs) (all_marks cs a es) ∙ ap (λ l. answer_at es a ∷ l) (same_answers xs cs es)

  answers_past : (cs : List Chosen) (e : ℕ × Entry M) (es : List (ℕ × Entry M)) → After e.0 cs → map (answer_at (e ∷ es)) cs ≡ map (answer_at es) cs
  answers_past [] e es all = refl
  answers_past (c ∷ cs) e es all =
      ap (λ b. option_map (λ x. shown_as x c) (cond b (Some e.1) (lookup (is_number c.number) es)) ∷ map (answer_at (e ∷ es)) cs) (number_apart e.0 c.number all.0)
      ∙ ap (λ l. answer_at es c ∷ l) (answers_past cs e es all.1)

  pub found_answers : (find : KeyHash → Option InstanceView) (p : ℕ × Entry M → Bool) (m low : ℕ) (es : List (ℕ × Entry M)) → Rising low es
      → map (answer_at es) (chosen find p m es) ≡ map (λ s. Some s) (map (λ e. shown_as e.1 (chosen_by find e)) (first_by p m es))
  found_answers find p m low [] up = refl
  found_answers find p zero low (e ∷ es) up = refl
  found_answers find p (suc m) low (e ∷ es) up = by_test (p e) (found_answers find p m (suc e.0) es up.1) (found_answers find p (suc m) (suc e.0) es up.1)
    where
      by_test : (b : Bool) → map (answer_at es) (chosen find p m es) ≡ map (λ s. Some s) (map (λ e. shown_as e.1 (chosen_by find e)) (first_by p m es))
          → map (answer_at es) (chosen find p (suc m) es) ≡ map (λ s. Some s) (map (λ e. shown_as e.1 (chosen_by find e)) (first_by p (suc m) es))
          → map (answer_at (e ∷ es)) (map (chosen_by find) (if b then e ∷ first_by p m es else first_by p (suc m) es))
          ≡ map (λ s. Some s) (map (λ (e : ℕ × Entry M). shown_as e.1 (chosen_by find e)) (if b then e ∷ first_by p m es else first_by p (suc m) es))
      by_test true one rest =
          ap (λ b. option_map (λ x. shown_as x (chosen_by find e)) (cond b (Some e.1) (lookup (is_number e.0) es)) ∷ map (answer_at (e ∷ es)) (chosen find p m es)) (number_itself e.0)
          ∙ ap (λ l. Some (shown_as e.1 (chosen_by find e)) ∷ l) (answers_past (chosen find p m es) e es (chosen_after find p m e.0 (suc e.0) es (omega arith) up.1) ∙ one)
      by_test false one rest = answers_past (chosen find p (suc m) es) e es (chosen_after find p (suc m) e.0 (suc e.0) es (omega arith) up.1) ∙ rest

seen_some : (c : Chosen) (o : Option InstanceView) → is_some (option_map (read_each c) o) ≡ is_some o
seen_some c None = refl
seen_some c (Some i) = refl

seen_disposed : (c : Chosen) (o : Option InstanceView) → disposed_in (option_map (read_each c) o) ≡ disposed_in o
seen_disposed c None = refl
seen_disposed c (Some i) = refl

seen_count : (c : Chosen) (o : Option InstanceView) → count_in (option_map (read_each c) o) ≡ count_in o
seen_count c None = refl
seen_count c (Some i) = refl

seen_numbers : (c : Chosen) (o : Option InstanceView) → numbers_in (option_map (read_each c) o) ≡ numbers_in o
seen_numbers c None = refl
seen_numbers c (Some i) = refl

module _ {M : Type 0} (past : List (Done M)) (p : CacheIndex M) (s : StandsBy past p) (flags : Condition) where
  abbrev marked_parts : ℕ → CacheIndex M
  marked_parts max = parts_from p.keep p.accepted (marks (passes p.find flags) max p.entries) (λ k. each read_each (picked past p s flags max) k (p.find k)) p.live

  numbers_same : (max : ℕ) (k : KeyHash) (keep : History) → numbers_kept keep k p.entries ≡ numbers_kept keep k (marks (passes p.find flags) max p.entries)
  numbers_same max k (KeepLast n) = marks_mine k (passes p.find flags) max p.entries
  numbers_same max k KeepAll = refl

  read_stands : (max : ℕ) → StandsBy (WasRead max flags ∷ past) (marked_parts max)
  read_stands max = record {
    entries = ap (λ t. map (λ e. e.1) (marks t max p.entries)) (test past p s flags) ∙ marks_map (meets past (cached p.keep past) flags) max p.entries ∙ ap (marked_by (meets past (cached p.keep past) flags) max) s.entries;
    rising = marks_rising (passes p.find flags) max 0 p.entries s.rising;
    below = marks_below p.accepted (passes p.find flags) max p.entries s.below;
    there = λ k h. each_keeps read_each is_some seen_some (picked past p s flags max) k (p.find k) ∙ s.there k (sym (marks_any k (passes p.find flags) max p.entries) ∙ h);
    numbers = λ k. each_keeps read_each numbers_in seen_numbers (picked past p s flags max) k (p.find k) ∙ s.numbers k ∙ numbers_same max k p.keep;
    new = λ k. new_after past p s flags read_each (λ c i. refl) max k;
    disposed = λ k. each_keeps read_each disposed_in seen_disposed (picked past p s flags max) k (p.find k) ∙ s.disposed k;
    counts = λ k. each_keeps read_each count_in seen_count (picked past p s flags max) k (p.find k) ∙ s.counts k;
    live = s.live;
    sized = s.sized;
  }

  pub was_read : (max : ℕ) (cs : List Chosen) (q : CacheIndex M) → cs ≡ picked past p s flags max → Reads cs p q → StandsBy (WasRead max flags ∷ past) q
  was_read max cs q is h =
      let same : IsSame (marked_parts max) q = record {
        keep = h.keep;
        accepted = h.accepted;
        entries = h.entries ∙ ap (λ l. mark_each l p.entries) is ∙ marks_each p.find (passes p.find flags) max 0 p.entries s.rising;
        find = λ k. h.find k ∙ ap (λ l. each read_each l k (p.find k)) is;
        live = h.live;
      } in
      stands_same (WasRead max flags ∷ past) (marked_parts max) q same (read_stands max)

  pub read_answers : (max : ℕ) (cs : List Chosen) → cs ≡ picked past p s flags max → map (answer_at (mark_each cs p.entries)) cs ≡ map (λ s. Some s) (answered p.keep past max flags)
  read_answers max cs is =
      same_answers cs cs p.entries ∙ ap (map (answer_at p.entries)) is ∙ found_answers p.find (passes p.find flags) max 0 p.entries s.rising
      ∙ ap (map (λ s. Some s)) (answers past p s flags max)
