-- The ranks that are matched with a writer, once a reader came or went.
use Rattle.std.proofs.Common.{◌≡◌, ℕ, zero, suc, ◌+◌, ◌<◌, ◌≤◌, ◌==◌, List, [], ◌∷◌, ◌++◌, length, Bool, true, false, not, ◌&&◌, ◌||◌, if◌then◌else◌, Option, Some, None, refl, sym, ap, ◌∙◌, arith, eq-eqb, zero-add, append-nil}
use Rattle.std.specs.Prelude.{filter}
use Rattle.std.specs.List.{flat_map}
use Rattle.std.specs.Map.{keys_of}
use Rattle.std.proofs.lemmas.Bool.Decides.{nat_tests}
use Rattle.rtps_types.specs.declared.identity.Guid.{Guid}
use Rattle.rtps_proxy.specs.Matches.{same_guid}
use Rattle.rtps_discovery.specs.Announcement.{Offer}
use Rattle.rtps_discovery.specs.Joining.{joined, parted, vacated, without_fixed, without_reader}
use Rattle.rtps_discovery.specs.Known.{Known, Wish, Unmatched, is_fixed, is_joined, locators_at, reader_at, standing, writer_at}
use Rattle.rtps_discovery.specs.Changes.{ChangeAt, at_pair, both, changes, row, rows, told}
use Rattle.rtps_discovery.specs.OneWriter.{matched_from}
use Rattle.rtps_discovery.proofs.OneWriter.{at_pair_same}
use Rattle.rtps_discovery.proofs.SameKeys.{has_both, same_keys}
use Rattle.rtps_discovery.proofs.SortedKeys.{InOrder, has, sorted_both}

unlike : (m n : ℕ) → m < n → (m == n) ≡ false
unlike m n low = grind (arith, nat_tests)

pub fixed_without : (n rank : ℕ) (g : Guid) (fixed : List (ℕ × Guid)) → is_fixed (filter (λ (p : ℕ × Guid). not (p.0 == n)) fixed) rank g ≡ (not (rank == n) && is_fixed fixed rank g)
fixed_without n rank g [] = by_test (rank == n)
  where
    by_test : (b : Bool) → false ≡ (not b && false)
    by_test true = refl
    by_test false = refl
fixed_without n rank g (p ∷ ps) = by_tests (p.0 == n) refl (p.0 == rank) refl (fixed_without n rank g ps)
  where
    by_tests : (a : Bool) → (p.0 == n) ≡ a → (b : Bool) → (p.0 == rank) ≡ b → is_fixed (filter (λ (q : ℕ × Guid). not (q.0 == n)) ps) rank g ≡ (not (rank == n) && is_fixed ps rank g)
        → is_fixed (if not a then p ∷ filter (λ (q : ℕ × Guid). not (q.0 == n)) ps else filter (λ (q : ℕ × Guid). not (q.0 == n)) ps) rank g ≡ (not (rank == n) && ((b && same_guid p.1 g) || is_fixed ps rank g))
    by_tests true at true here more = let same : (rank == n) ≡ true = grind (arith, nat_tests) in rw same (more ∙ rw same refl)
    by_tests true at false here more = more
    by_tests false at true here more = let other : (rank == n) ≡ false = grind (arith, nat_tests) in rw (other, here) (ap (λ b. same_guid p.1 g || b) (more ∙ rw other refl))
    by_tests false at false here more = rw here more

module _ (w : Option Offer) where
  -- the same of all ranks that count
  matched_within : (f h : ℕ → Bool) (n : ℕ) (rs : List (Option Wish)) → ((i : ℕ) → n ≤ i → i < n + length rs → f i ≡ h i) → matched_from f w n rs ≡ matched_from h w n rs
  matched_within f h n [] same = refl
  matched_within f h n (r ∷ rs) same =
      let here : f n ≡ h n = same n (omega arith) (omega arith) in
      let rest : matched_from f w (n + 1) rs ≡ matched_from h w (n + 1) rs = matched_within f h (n + 1) rs (λ i low high. same i (omega arith) (omega arith)) in
      rw (here, rest) refl

  matched_append : (f : ℕ → Bool) (n : ℕ) (rs : List (Option Wish)) (r : Option Wish) → matched_from f w n (rs ++ r ∷ []) ≡ matched_from f w n rs ++ matched_from f w (n + length rs) (r ∷ [])
  matched_append f n [] r = let same : n ≡ n + 0 = omega arith in ap (λ m. matched_from f w m (r ∷ [])) same
  matched_append f n (x ∷ rs) r = by_test (f n || is_joined (standing x w)) (matched_append f (n + 1) rs r ∙ ap (λ m. matched_from f w (n + 1) rs ++ matched_from f w m (r ∷ [])) same)
    where
      same : (n + 1) + length rs ≡ n + suc (length rs)
      same = omega arith

      by_test : (b : Bool) → matched_from f w (n + 1) (rs ++ r ∷ []) ≡ matched_from f w (n + 1) rs ++ matched_from f w (n + suc (length rs)) (r ∷ [])
          → (if b then n ∷ matched_from f w (n + 1) (rs ++ r ∷ []) else matched_from f w (n + 1) (rs ++ r ∷ [])) ≡ (if b then n ∷ matched_from f w (n + 1) rs else matched_from f w (n + 1) rs) ++ matched_from f w (n + suc (length rs)) (r ∷ [])
      by_test true more = ap (λ l. n ∷ l) more
      by_test false more = more

  -- those above a rank stay where it goes
  above_stay : (f : ℕ → Bool) (m n : ℕ) (rs : List (Option Wish)) → m < n → filter (λ i. not (i == m)) (matched_from f w n rs) ≡ matched_from f w n rs
  above_stay f m n [] low = refl
  above_stay f m n (r ∷ rs) low = by_test (f n || is_joined (standing r w)) (above_stay f m (n + 1) rs (omega arith))
    where
      other : (n == m) ≡ false
      other = grind (arith, nat_tests)

      by_test : (b : Bool) → filter (λ i. not (i == m)) (matched_from f w (n + 1) rs) ≡ matched_from f w (n + 1) rs
          → filter (λ i. not (i == m)) (if b then n ∷ matched_from f w (n + 1) rs else matched_from f w (n + 1) rs) ≡ (if b then n ∷ matched_from f w (n + 1) rs else matched_from f w (n + 1) rs)
      by_test true more = rw other (ap (λ l. n ∷ l) more)
      by_test false more = more

  matched_vacated : (f h : ℕ → Bool) (m n gone : ℕ) (rs : List (Option Wish)) → m ≡ n + gone → ((i : ℕ) → h i ≡ (not (i == m) && f i)) → matched_from h w n (vacated gone rs) ≡ filter (λ i. not (i == m)) (matched_from f w n rs)
  matched_vacated f h m n gone [] at is = refl
  matched_vacated f h m n zero (r ∷ rs) at is = rw silent (rest ∙ by_test (f n || is_joined (standing r w)))
    where
      here : (n == m) ≡ true
      here = eq-eqb n m (omega (arith, at))

      none_joined : (o : Option Offer) → is_joined (standing None o) ≡ false
      none_joined None = refl
      none_joined (Some x) = refl

      silent : (h n || is_joined (standing None w)) ≡ false
      silent = rw (is n, here, none_joined w) refl

      other : (i : ℕ) → n + 1 ≤ i → (i == m) ≡ false
      other i low = grind (arith, nat_tests)

      rest : matched_from h w (n + 1) rs ≡ matched_from f w (n + 1) rs
      rest = matched_within h f (n + 1) rs (λ i low high. rw (is i, other i low) refl)

      stay : filter (λ i. not (i == m)) (matched_from f w (n + 1) rs) ≡ matched_from f w (n + 1) rs
      stay = above_stay f m (n + 1) rs (omega (arith, at))

      by_test : (b : Bool) → matched_from f w (n + 1) rs ≡ filter (λ i. not (i == m)) (if b then n ∷ matched_from f w (n + 1) rs else matched_from f w (n + 1) rs)
      by_test true = rw here (sym stay)
      by_test false = sym stay
  matched_vacated f h m n (suc gone) (r ∷ rs) at is = rw same (by_test (f n || is_joined (standing r w)) (matched_vacated f h m (n + 1) gone rs (omega (arith, at)) is))
    where
      other : (n == m) ≡ false
      other = grind (arith, nat_tests)

      same : h n ≡ f n
      same = rw (is n, other) refl

      by_test : (b : Bool) → matched_from h w (n + 1) (vacated gone rs) ≡ filter (λ i. not (i == m)) (matched_from f w (n + 1) rs)
          → (if b then n ∷ matched_from h w (n + 1) (vacated gone rs) else matched_from h w (n + 1) (vacated gone rs)) ≡ filter (λ i. not (i == m)) (if b then n ∷ matched_from f w (n + 1) rs else matched_from f w (n + 1) rs)
      by_test true more = rw other (ap (λ l. n ∷ l) more)
      by_test false more = more

-- the new rank goes last, where the reader is joined to a writer that offers this
pub joined_from : (k : Known) (r : Wish) (g : Guid) (w : Option Offer) → matched_from (λ rank. is_fixed (joined r k).fixed rank g) w 0 (joined r k).readers
    ≡ matched_from (λ rank. is_fixed k.fixed rank g) w 0 k.readers ++ (if is_joined (standing (Some r) w) then length k.readers ∷ [] else [])
joined_from k r g w =
    matched_append w h 0 k.readers (Some r)
    ∙ ap (λ m. matched_from h w 0 k.readers ++ matched_from h w m (Some r ∷ [])) (zero-add n)
    ∙ ap (λ l. l ++ matched_from h w n (Some r ∷ [])) (matched_within w h f 0 k.readers (λ i low high. fixed_without n i g k.fixed ∙ rw (unlike i n (omega (arith, high))) refl))
    ∙ ap (λ b. matched_from f w 0 k.readers ++ (if b || is_joined (standing (Some r) w) then n ∷ [] else [])) last
  where
    n : ℕ
    n = length k.readers

    f : ℕ → Bool
    f rank = is_fixed k.fixed rank g

    h : ℕ → Bool
    h rank = is_fixed (filter (λ (p : ℕ × Guid). not (p.0 == n)) k.fixed) rank g

    last : h n ≡ false
    last = fixed_without n n g k.fixed ∙ ap (λ b. not b && is_fixed k.fixed n g) (eq-eqb n n refl)

-- its rank goes, and the others stay
pub parted_from : (k : Known) (rank : ℕ) (g : Guid) (w : Option Offer) → matched_from (λ i. is_fixed (parted rank k).fixed i g) w 0 (parted rank k).readers
    ≡ filter (λ i. not (i == rank)) (matched_from (λ i. is_fixed k.fixed i g) w 0 k.readers)
parted_from k rank g w = matched_vacated w (λ i. is_fixed k.fixed i g) (λ i. is_fixed (filter (λ (p : ℕ × Guid). not (p.0 == rank)) k.fixed) i g) rank 0 rank k.readers (omega arith) (λ i. fixed_without rank i g k.fixed)

-- ---- what the readers hear then

none_heard : (f : Guid → List ChangeAt) → ((g : Guid) → f g ≡ []) → (gs : List Guid) → flat_map f gs ≡ []
none_heard f none [] = refl
none_heard f none (g ∷ gs) = rw (none g) (none_heard f none gs)

same_heard : (f h : Guid → List ChangeAt) → ((g : Guid) → f g ≡ h g) → (gs : List Guid) → flat_map f gs ≡ flat_map h gs
same_heard f h same [] = refl
same_heard f h same (g ∷ gs) = rw (same g) (ap (λ l. h g ++ l) (same_heard f h same gs))

or_same : (b : Bool) → (b || b) ≡ b
or_same true = refl
or_same false = refl

both_same : (gs : List Guid) → InOrder gs → both gs gs ≡ gs
both_same gs up = same_keys (both gs gs) gs (sorted_both gs gs up) up (λ q. has_both gs gs q ∙ or_same (has gs q))

module _ (before : Known) (readers : List (Option Wish)) (gs : List Guid) where
  abbrev after : Known
  after = record before { readers = readers }

  row_same : (rank : ℕ) (r : Option Wish) → row before after gs rank r r ≡ []
  row_same rank r = none_heard (λ g. at_pair before.fixed rank g (locators_at after g) (standing r (writer_at before g)) (standing r (writer_at before g))) (λ g. at_pair_same before.fixed rank g (locators_at after g) (standing r (writer_at before g))) gs

  rows_same : (rank : ℕ) (rs : List (Option Wish)) → rows before after gs rank rs rs ≡ []
  rows_same rank [] = refl
  rows_same rank (r ∷ rs) = rw (row_same rank r) (rows_same (rank + 1) rs)

  rows_joined : (rank : ℕ) (rs : List (Option Wish)) (r : Option Wish) → rows before after gs rank rs (rs ++ r ∷ []) ≡ row before after gs (rank + length rs) None r
  rows_joined rank [] r = let same : rank ≡ rank + 0 = omega arith in append-nil (row before after gs rank None r) ∙ ap (λ m. row before after gs m None r) same
  rows_joined rank (x ∷ rs) r =
      let same : (rank + 1) + length rs ≡ rank + suc (length rs) = omega arith in
      rw (row_same rank x) (rows_joined (rank + 1) rs r ∙ ap (λ m. row before after gs m None r) same)

  rows_parted : (rank gone : ℕ) (rs : List (Option Wish)) → rows before after gs rank rs (vacated gone rs) ≡ row before after gs (rank + gone) (reader_at rs gone) None
  rows_parted rank gone [] = sym (none_heard (λ g. at_pair before.fixed (rank + gone) g (locators_at after g) (standing None (writer_at before g)) (standing None (writer_at before g))) (λ g. at_pair_same before.fixed (rank + gone) g (locators_at after g) (standing None (writer_at before g))) gs)
  rows_parted rank zero (r ∷ rs) =
      let same : rank ≡ rank + 0 = omega arith in
      ap (λ l. row before after gs rank r None ++ l) (rows_same (rank + 1) rs) ∙ append-nil (row before after gs rank r None) ∙ ap (λ m. row before after gs m r None) same
  rows_parted rank (suc gone) (r ∷ rs) =
      let same : (rank + 1) + gone ≡ rank + suc gone = omega arith in
      rw (row_same rank r) (rows_parted (rank + 1) gone rs ∙ ap (λ m. row before after gs m (reader_at rs gone) None) same)

-- the new reader alone hears, of each known writer, by writer
pub joined_heard : (k : Known) (r : Wish) → InOrder (keys_of k.writers) → changes (without_fixed (length k.readers) k) (joined r k)
    ≡ flat_map (λ g. told (length k.readers) g (locators_at k g) Unmatched (standing (Some r) (writer_at k g))) (keys_of k.writers)
unfolding changes
joined_heard k r up =
    let n = length k.readers in
    let b = without_fixed n k in
    ap (λ gs. rows b (joined r k) gs 0 k.readers (k.readers ++ Some r ∷ [])) (both_same (keys_of k.writers) up)
    ∙ rows_joined b (k.readers ++ Some r ∷ []) (keys_of k.writers) 0 k.readers (Some r)
    ∙ ap (λ m. row b (joined r k) (keys_of k.writers) m None (Some r)) (zero-add n)
    ∙ same_heard (λ g. at_pair b.fixed n g (locators_at k g) (standing None (writer_at k g)) (standing (Some r) (writer_at k g))) (λ g. told n g (locators_at k g) Unmatched (standing (Some r) (writer_at k g)))
    (λ g. ap (λ t. if t then [] else told n g (locators_at k g) (standing None (writer_at k g)) (standing (Some r) (writer_at k g))) (unfixed g) ∙ ap (λ s. told n g (locators_at k g) s (standing (Some r) (writer_at k g))) (apart (writer_at k g)))
    (keys_of k.writers)
  where
    unfixed : (g : Guid) → is_fixed (filter (λ (p : ℕ × Guid). not (p.0 == length k.readers)) k.fixed) (length k.readers) g ≡ false
    unfixed g = fixed_without (length k.readers) (length k.readers) g k.fixed ∙ ap (λ b. not b && is_fixed k.fixed (length k.readers) g) (eq-eqb (length k.readers) (length k.readers) refl)

    apart : (o : Option Offer) → standing None o ≡ Unmatched
    apart None = refl
    apart (Some o) = refl

-- the reader that goes alone hears, of each known writer, by writer
pub parted_heard : (k : Known) (rank : ℕ) → InOrder (keys_of k.writers) → changes k (without_reader rank k) ≡ row k (without_reader rank k) (keys_of k.writers) rank (reader_at k.readers rank) None
unfolding changes
parted_heard k rank up =
    ap (λ gs. rows k (without_reader rank k) gs 0 k.readers (vacated rank k.readers)) (both_same (keys_of k.writers) up)
    ∙ rows_parted k (vacated rank k.readers) (keys_of k.writers) 0 rank k.readers
    ∙ ap (λ m. row k (without_reader rank k) (keys_of k.writers) m (reader_at k.readers rank) None) (zero-add rank)
