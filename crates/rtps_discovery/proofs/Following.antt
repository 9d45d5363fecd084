-- The changes are in order, where the writers are.
use Rattle.std.proofs.Common.{◌≡◌, ℕ, ◌+◌, ◌<◌, ◌≤◌, List, [], ◌∷◌, ◌++◌, Bool, true, false, if◌then◌else◌, nat_lt, Option, None, AllPairs, IsTrue, refl, arith, eq-eqb}
use Rattle.std.specs.List.{AllByRecursion, flat_map}
use Rattle.std.specs.List.Sorted.{IsStrictlySortedBy}
use Rattle.std.specs.Map.{keys_of}
use Rattle.std.specs.Ordering.{nat_cmp}
use Rattle.std.specs.declared.cmp.Ordering.TheVariants.{Less, Equal}
use Rattle.std.proofs.lemmas.Bool.Decides.{nat_tests}
use Rattle.std.proofs.lemmas.List.Elements.{All-from_recursion}
use Rattle.std.proofs.lemmas.List.Kept.{AllPairs-cons}
use Rattle.std.proofs.lemmas.Map.Keys.{sorted_head, sorted_tail}
use Rattle.rtps_types.specs.Policy.{same_policy}
use Rattle.rtps_types.specs.declared.identity.Guid.{Guid}
use Rattle.rtps_types.specs.declared.locator.Locator.{Locator}
use Rattle.rtps_types.specs.Order.{guid_order}
use Rattle.rtps_discovery.specs.Changes.{ChangeAt, at_pair, both, changes, row, rows, told}
use Rattle.rtps_discovery.specs.Differences.{comes_before, writer_in}
use Rattle.rtps_discovery.specs.Known.{Known, PairState, Unmatched, Joined, Refused, Wish, is_fixed, locators_at, standing, writer_at}
use Rattle.rtps_discovery.proofs.Guids.{itself}
use Rattle.rtps_discovery.proofs.SortedKeys.{InOrder, sorted_both}

-- ---- changes that follow one another

abbrev Later : ChangeAt → List ChangeAt → Type 0
Later c cs = AllByRecursion (λ d. comes_before c d ≡ true) cs

abbrev Follow : List ChangeAt → Type 0
Follow [] = Unit {0}
Follow (c ∷ cs) = Later c cs × Follow cs

all_append : (P : ChangeAt → Type 0) (xs ys : List ChangeAt) → AllByRecursion P xs → AllByRecursion P ys → AllByRecursion P (xs ++ ys)
all_append P [] ys a b = b
all_append P (x ∷ xs) ys a b = (a.0, all_append P xs ys a.1 b)

all_of : (P Q : ChangeAt → Type 0) → ((c : ChangeAt) → P c → Q c) → (xs : List ChangeAt) → AllByRecursion P xs → AllByRecursion Q xs
all_of P Q f [] a = tt
all_of P Q f (x ∷ xs) a = (f x a.0, all_of P Q f xs a.1)

follow_append : (xs ys : List ChangeAt) → Follow xs → Follow ys → AllByRecursion (λ c. Later c ys) xs → Follow (xs ++ ys)
follow_append [] ys a b l = b
follow_append (x ∷ xs) ys a b l = (all_append (λ d. comes_before x d ≡ true) xs ys a.0 l.0, follow_append xs ys a.1 b l.1)

pairs_of : (xs : List ChangeAt) → Follow xs → AllPairs (λ a b. IsTrue (comes_before a b)) xs
pairs_of [] a = λ i j d before within. absurd (omega arith)
pairs_of (x ∷ xs) a =
    AllPairs-cons (λ a b. IsTrue (comes_before a b)) x xs (All-from_recursion (λ d. IsTrue (comes_before x d)) xs a.0) (pairs_of xs a.1)

-- ---- of one reader and one writer

number_itself : (k : ℕ) → nat_cmp k k ≡ Equal
number_itself k = let no : nat_lt k k ≡ false = grind (arith, nat_tests) in rw (no, eq-eqb k k refl) refl

number_below : (m n : ℕ) → m < n → nat_cmp m n ≡ Less
number_below m n low = let yes : nat_lt m n ≡ true = grind (arith, nat_tests) in rw yes refl

record IsOf (k : ℕ) (g : Guid) (c : ChangeAt) : Type 0 where
  rank : c.rank ≡ k
  writer : writer_in c.what ≡ g

told_of : (k : ℕ) (g : Guid) (ls : List Locator) (s t : PairState) → AllByRecursion (IsOf k g) (told k g ls s t)
told_of k g ls Unmatched Unmatched = tt
told_of k g ls Unmatched Joined = (record { rank = refl; writer = refl }, tt)
told_of k g ls Unmatched (Refused p) = (record { rank = refl; writer = refl }, tt)
told_of k g ls Joined Unmatched = (record { rank = refl; writer = refl }, tt)
told_of k g ls Joined Joined = tt
told_of k g ls Joined (Refused p) = (record { rank = refl; writer = refl }, (record { rank = refl; writer = refl }, tt))
told_of k g ls (Refused q) Unmatched = tt
told_of k g ls (Refused q) Joined = (record { rank = refl; writer = refl }, tt)
told_of k g ls (Refused q) (Refused p) = by_test (same_policy q p)
  where
    by_test : (b : Bool) → AllByRecursion (IsOf k g) (if b then [] else told k g ls Unmatched (Refused p))
    by_test true = tt
    by_test false = (record { rank = refl; writer = refl }, tt)

told_follow : (k : ℕ) (g : Guid) (ls : List Locator) (s t : PairState) → Follow (told k g ls s t)
told_follow k g ls Unmatched Unmatched = tt
told_follow k g ls Unmatched Joined = (tt, tt)
told_follow k g ls Unmatched (Refused p) = (tt, tt)
told_follow k g ls Joined Unmatched = (tt, tt)
told_follow k g ls Joined Joined = tt
told_follow k g ls Joined (Refused p) = ((rw (number_itself k, itself g) refl, tt), (tt, tt))
told_follow k g ls (Refused q) Unmatched = tt
told_follow k g ls (Refused q) Joined = (tt, tt)
told_follow k g ls (Refused q) (Refused p) = by_test (same_policy q p)
  where
    by_test : (b : Bool) → Follow (if b then [] else told k g ls Unmatched (Refused p))
    by_test true = tt
    by_test false = (tt, tt)

pair_of : (fixed : List (ℕ × Guid)) (k : ℕ) (g : Guid) (ls : List Locator) (s t : PairState) → AllByRecursion (IsOf k g) (at_pair fixed k g ls s t)
pair_of fixed k g ls s t = by_test (is_fixed fixed k g)
  where
    by_test : (b : Bool) → AllByRecursion (IsOf k g) (if b then [] else told k g ls s t)
    by_test true = tt
    by_test false = told_of k g ls s t

pair_follow : (fixed : List (ℕ × Guid)) (k : ℕ) (g : Guid) (ls : List Locator) (s t : PairState) → Follow (at_pair fixed k g ls s t)
pair_follow fixed k g ls s t = by_test (is_fixed fixed k g)
  where
    by_test : (b : Bool) → Follow (if b then [] else told k g ls s t)
    by_test true = tt
    by_test false = told_follow k g ls s t

-- ---- of one reader, by writer

record IsAbove (k : ℕ) (g : Guid) (c : ChangeAt) : Type 0 where
  rank : c.rank ≡ k
  writer : guid_order g (writer_in c.what) ≡ Less

by_writer : (k : ℕ) (g : Guid) (c d : ChangeAt) → IsOf k g c → IsAbove k g d → comes_before c d ≡ true
by_writer k g c d a b = rw (a.rank, b.rank, number_itself k, a.writer, b.writer) refl

module _ (k : ℕ) (f : Guid → List ChangeAt) (of : (g : Guid) → AllByRecursion (IsOf k g) (f g)) (each : (g : Guid) → Follow (f g)) where
  above_all : (g : Guid) (gs : List Guid) → AllByRecursion (λ q. guid_order g q ≡ Less) gs → AllByRecursion (IsAbove k g) (flat_map f gs)
  above_all g [] a = tt
  above_all g (q ∷ gs) a =
      all_append (IsAbove k g) (f q) (flat_map f gs) (all_of (IsOf k q) (IsAbove k g) (λ c h. record { rank = h.rank; writer = rw h.writer a.0 }) (f q) (of q)) (above_all g gs a.1)

  row_follow : (gs : List Guid) → InOrder gs → Follow (flat_map f gs)
  row_follow [] up = tt
  row_follow (g ∷ gs) up =
      let later = above_all g gs (sorted_head guid_order g gs up) in
      follow_append (f g) (flat_map f gs) (each g) (row_follow gs (sorted_tail guid_order g gs up))
      (all_of (IsOf k g) (λ c. Later c (flat_map f gs)) (λ c h. all_of (IsAbove k g) (λ d. comes_before c d ≡ true) (λ d b. by_writer k g c d h b) (flat_map f gs) later) (f g) (of g))

  row_rank : (gs : List Guid) → AllByRecursion (λ c. c.rank ≡ k) (flat_map f gs)
  row_rank [] = tt
  row_rank (g ∷ gs) = all_append (λ c. c.rank ≡ k) (f g) (flat_map f gs) (all_of (IsOf k g) (λ c. c.rank ≡ k) (λ c h. h.rank) (f g) (of g)) (row_rank gs)

-- ---- of all readers, by rank

abbrev From : ℕ → ChangeAt → Type 0
From k c = k ≤ c.rank

by_rank : (k : ℕ) (c d : ChangeAt) → c.rank ≡ k → k + 1 ≤ d.rank → comes_before c d ≡ true
by_rank k c d is low = rw (number_below c.rank d.rank (omega arith)) refl

module _ (before after : Known) (gs : List Guid) (up : InOrder gs) where
  told_row : (k : ℕ) (q r : Option Wish) → Guid → List ChangeAt
  told_row k q r g = at_pair before.fixed k g (locators_at after g) (standing q (writer_at before g)) (standing r (writer_at after g))

  here : (k : ℕ) (q r : Option Wish) → Follow (row before after gs k q r)
  unfolding told_row
  here k q r =
      row_follow k (told_row k q r) (λ g. pair_of before.fixed k g (locators_at after g) (standing q (writer_at before g)) (standing r (writer_at after g)))
      (λ g. pair_follow before.fixed k g (locators_at after g) (standing q (writer_at before g)) (standing r (writer_at after g))) gs up

  ranked : (k : ℕ) (q r : Option Wish) → AllByRecursion (λ c. c.rank ≡ k) (row before after gs k q r)
  unfolding told_row
  ranked k q r =
      row_rank k (told_row k q r) (λ g. pair_of before.fixed k g (locators_at after g) (standing q (writer_at before g)) (standing r (writer_at after g)))
      (λ g. pair_follow before.fixed k g (locators_at after g) (standing q (writer_at before g)) (standing r (writer_at after g))) gs

  -- a row, and the rows after it
  from_next : (k : ℕ) (q r : Option Wish) (more : List ChangeAt) → AllByRecursion (From (k + 1)) more → AllByRecursion (From k) (row before after gs k q r ++ more)
  from_next k q r more a =
      all_append (From k) (row before after gs k q r) more (all_of (λ c. c.rank ≡ k) (From k) (λ c h. omega arith) (row before after gs k q r) (ranked k q r))
      (all_of (From (k + 1)) (From k) (λ c h. omega arith) more a)

  then_next : (k : ℕ) (q r : Option Wish) (more : List ChangeAt) → AllByRecursion (From (k + 1)) more → Follow more → Follow (row before after gs k q r ++ more)
  then_next k q r more a follow =
      follow_append (row before after gs k q r) more (here k q r) follow
      (all_of (λ c. c.rank ≡ k) (λ c. Later c more) (λ c h. all_of (From (k + 1)) (λ d. comes_before c d ≡ true) (λ d low. by_rank k c d h low) more a) (row before after gs k q r) (ranked k q r))

  rows_from : (k : ℕ) (qs rs : List (Option Wish)) → AllByRecursion (From k) (rows before after gs k qs rs)
  rows_from k [] [] = tt
  rows_from k [] (r ∷ rs) = from_next k None r (rows before after gs (k + 1) [] rs) (rows_from (k + 1) [] rs)
  rows_from k (q ∷ qs) [] = from_next k q None (rows before after gs (k + 1) qs []) (rows_from (k + 1) qs [])
  rows_from k (q ∷ qs) (r ∷ rs) = from_next k q r (rows before after gs (k + 1) qs rs) (rows_from (k + 1) qs rs)

  rows_follow : (k : ℕ) (qs rs : List (Option Wish)) → Follow (rows before after gs k qs rs)
  rows_follow k [] [] = tt
  rows_follow k [] (r ∷ rs) = then_next k None r (rows before after gs (k + 1) [] rs) (rows_from (k + 1) [] rs) (rows_follow (k + 1) [] rs)
  rows_follow k (q ∷ qs) [] = then_next k q None (rows before after gs (k + 1) qs []) (rows_from (k + 1) qs []) (rows_follow (k + 1) qs [])
  rows_follow k (q ∷ qs) (r ∷ rs) = then_next k q r (rows before after gs (k + 1) qs rs) (rows_from (k + 1) qs rs) (rows_follow (k + 1) qs rs)

pub in_order : (before after : Known) → IsStrictlySortedBy guid_order (keys_of after.writers) → AllPairs (λ a b. IsTrue (comes_before a b)) (changes before after)
unfolding changes
in_order before after up =
    let gs = both (keys_of before.writers) (keys_of after.writers) in
    pairs_of (changes before after) (rows_follow before after gs (sorted_both (keys_of before.writers) (keys_of after.writers) up) 0 before.readers after.readers)
