-- The matches of all our readers as a set of pairs: in order, and just those that there are.
use Rattle.std.proofs.Common.{◌≡◌, ℕ, ◌==◌, List, [], ◌∷◌, Bool, true, false, ◌&&◌, ◌||◌, cond, if◌then◌else◌, nat_lt, Some, Contains, ◌⊎◌, inl, inr, refl, sym, ap, ◌∙◌, subst, arith, eq-eqb}
use Rattle.std.specs.BTreeSet.{insert_key}
use Rattle.std.specs.Cmp.{IsTotalOrder}
use Rattle.std.specs.List.{AllByRecursion, list_any}
use Rattle.std.specs.List.Sorted.{IsStrictlySortedBy}
use Rattle.std.specs.Map.{keys_of, lookup}
use Rattle.std.specs.Option.{unwrap_or}
use Rattle.std.specs.Ordering.{match_ordering, nat_cmp, ordering_then}
use Rattle.std.specs.declared.cmp.Ordering.{Ordering}
use Rattle.std.specs.declared.cmp.Ordering.TheVariants.{Less, Equal, Greater}
use Rattle.std.proofs.lemmas.Bool.Decides.{nat_tests}
use Rattle.std.proofs.lemmas.Cmp.{nat_cmp_total, on_total, then_total}
use Rattle.std.proofs.lemmas.Map.Keys.{sorted_head, sorted_tail}
use Rattle.rtps_types.specs.declared.identity.Guid.{Guid}
use Rattle.rtps_types.specs.Order.{guid_order}
use Rattle.rtps_proxy.specs.Matches.{is_at}
use Rattle.rtps_proxy.proofs.Matching.{exact}
use Rattle.rtps_discovery.specs.Kept.{IsKnown, RegistryView, ranks_at}
use Rattle.rtps_discovery.specs.Known.{Known}
use Rattle.rtps_discovery.specs.OneWriter.{has_rank}
use Rattle.rtps_discovery.specs.Pairs.{AreKeptPairs, ArePairs, pair_order, with_entries, with_ranks}
use Rattle.rtps_discovery.proofs.Differences.{at_first, first_or, later_in, none_in}
use Rattle.rtps_discovery.proofs.Guids.{at_itself, equal_from, found_is, guid_total, tied}
use Rattle.rtps_discovery.proofs.Inserted.{inserted}
use Rattle.rtps_discovery.proofs.Ranked.{contained, found, ranks_are_matched, same}

pair_total : IsTotalOrder pair_order
pair_total = then_total (on_total (λ (m : ℕ × Guid). m.0) nat_cmp_total) (on_total (λ (m : ℕ × Guid). m.1) guid_total)

-- ---- the pairs are in order

sorted_ranks : (pairs : List (ℕ × Guid)) (g : Guid) (rs : List ℕ) → IsStrictlySortedBy pair_order pairs → IsStrictlySortedBy pair_order (with_ranks pairs g rs)
sorted_ranks pairs g [] up = up
sorted_ranks pairs g (r ∷ rs) up = sorted_ranks (insert_key pair_order pairs (r, g)) g rs (inserted pair_order pair_total pairs (r, g) up)

sorted_entries : (pairs : List (ℕ × Guid)) (es : List (Guid × List ℕ)) → IsStrictlySortedBy pair_order pairs → IsStrictlySortedBy pair_order (with_entries pairs es)
sorted_entries pairs [] up = up
sorted_entries pairs (e ∷ es) up = sorted_entries (with_ranks pairs e.0 e.1) es (sorted_ranks pairs e.0 e.1 up)

no_pair : IsStrictlySortedBy pair_order []
unfolding IsStrictlySortedBy
no_pair = tt

-- ---- whether a pair is among them

abbrev is_one : ℕ → Guid → ℕ × Guid → Bool
is_one rank g m = m.0 == rank && is_at m.1 g

abbrev has_pair : List (ℕ × Guid) → ℕ → Guid → Bool
has_pair pairs rank g = list_any (is_one rank g) pairs

is_itself : (rank : ℕ) (g : Guid) → is_one rank g (rank, g) ≡ true
is_itself rank g = rw (eq-eqb rank rank refl, at_itself g) refl

is_that : (rank : ℕ) (g : Guid) (m : ℕ × Guid) → is_one rank g m ≡ true → m ≡ (rank, g)
is_that rank g m h = by_tests (m.0 == rank) (is_at m.1 g) refl refl h
  where
    by_tests : (a b : Bool) → (m.0 == rank) ≡ a → is_at m.1 g ≡ b → (a && b) ≡ true → m ≡ (rank, g)
    by_tests true true e f h = ap (λ (n : ℕ). (n, m.1)) (same m.0 rank e) ∙ ap (λ (w : Guid). (rank, w)) (sym (found_is m.1 g f))
    by_tests true false e f h = absurd cc
    by_tests false b e f h = absurd cc

pair_found : (pairs : List (ℕ × Guid)) (rank : ℕ) (g : Guid) → has_pair pairs rank g ≡ true → Contains pairs (rank, g)
pair_found [] rank g h = absurd cc
pair_found (m ∷ ms) rank g h = by_test (is_one rank g m) refl h (pair_found ms rank g)
  where
    by_test : (b : Bool) → is_one rank g m ≡ b → (b || has_pair ms rank g) ≡ true → (has_pair ms rank g ≡ true → Contains ms (rank, g)) → Contains (m ∷ ms) (rank, g)
    by_test true e h more = subst (λ (x : ℕ × Guid). Contains (m ∷ ms) x) (is_that rank g m e) (at_first m ms)
    by_test false e h more = later_in m ms (rank, g) (more h)

or_later : (b c : Bool) → c ≡ true → (b || c) ≡ true
or_later true c h = refl
or_later false c h = h

pair_contained : (pairs : List (ℕ × Guid)) (rank : ℕ) (g : Guid) → Contains pairs (rank, g) → has_pair pairs rank g ≡ true
pair_contained [] rank g h = absurd (none_in (rank, g) h)
pair_contained (m ∷ ms) rank g h = by_part (first_or m ms (rank, g) h) (pair_contained ms rank g)
  where
    by_part : (m ≡ (rank, g)) ⊎ Contains ms (rank, g) → (Contains ms (rank, g) → has_pair ms rank g ≡ true) → (is_one rank g m || has_pair ms rank g) ≡ true
    by_part (inl e) more = ap (λ (x : ℕ × Guid). is_one rank g x || has_pair ms rank g) e ∙ ap (λ b. b || has_pair ms rank g) (is_itself rank g)
    by_part (inr later) more = or_later (is_one rank g m) (has_pair ms rank g) (more later)

-- what the order doesn't tell apart is the same pair
numbers_same : (a b : ℕ) → nat_cmp a b ≡ Equal → a ≡ b
numbers_same a b h = by_test (nat_lt a b) (a == b) refl refl h
  where
    by_test : (l e : Bool) → nat_lt a b ≡ l → (a == b) ≡ e → (if l then Less else (if e then Equal else Greater)) ≡ Equal → a ≡ b
    by_test true e i j h = absurd cc
    by_test false true i j h = grind (arith, nat_tests)
    by_test false false i j h = absurd cc

both_equal : (o p : Ordering) → ordering_then o p ≡ Equal → (o ≡ Equal) × (p ≡ Equal)
both_equal Less p h = absurd cc
both_equal Equal p h = (refl, h)
both_equal Greater p h = absurd cc

one_pair : (rank : ℕ) (g : Guid) (a b : ℕ × Guid) → pair_order a b ≡ Equal → is_one rank g a ≡ is_one rank g b
one_pair rank g a b h =
    let parts = both_equal (nat_cmp a.0 b.0) (guid_order a.1 b.1) h in
    let ranks : a.0 ≡ b.0 = numbers_same a.0 b.0 parts.0 in
    let writers : b.1 ≡ a.1 = exact a.1 b.1 parts.1 in
    rw (ranks, writers) refl

or_again : (p more : Bool) → (p || more) ≡ (p || (p || more))
or_again true more = refl
or_again false more = refl

or_swap : (p q more : Bool) → (q || (p || more)) ≡ (p || (q || more))
or_swap true true more = refl
or_swap true false more = refl
or_swap false true more = refl
or_swap false false more = refl

has_inserted : (rank : ℕ) (g : Guid) (ks : List (ℕ × Guid)) (k : ℕ × Guid) → has_pair (insert_key pair_order ks k) rank g ≡ (is_one rank g k || has_pair ks rank g)
has_inserted rank g [] k = refl
has_inserted rank g (x ∷ xs) k = by_order (pair_order k x) refl (has_inserted rank g xs k)
  where
    by_order : (r : Ordering) → pair_order k x ≡ r → has_pair (insert_key pair_order xs k) rank g ≡ (is_one rank g k || has_pair xs rank g)
        → has_pair (match_ordering r (k ∷ x ∷ xs) (x ∷ xs) (x ∷ insert_key pair_order xs k)) rank g ≡ (is_one rank g k || (is_one rank g x || has_pair xs rank g))
    by_order Less e rest = refl
    by_order Equal e rest = rw (one_pair rank g k x e) (or_again (is_one rank g x) (has_pair xs rank g))
    by_order Greater e rest = rw rest (or_swap (is_one rank g k) (is_one rank g x) (has_pair xs rank g))

-- ---- the pairs of an index

grouped : (here w more old : Bool) → ((w && more) || ((here && w) || old)) ≡ ((w && (here || more)) || old)
grouped true true true old = refl
grouped true true false old = refl
grouped false true more old = refl
grouped here false more old = by_test here
  where
    by_test : (h : Bool) → (h && false || old) ≡ old
    by_test true = refl
    by_test false = refl

has_ranks : (rank : ℕ) (q : Guid) (ks : List (ℕ × Guid)) (g : Guid) (rs : List ℕ) → has_pair (with_ranks ks g rs) rank q ≡ (is_at g q && has_rank rs rank || has_pair ks rank q)
has_ranks rank q ks g [] = by_test (is_at g q)
  where
    by_test : (w : Bool) → has_pair ks rank q ≡ (w && false || has_pair ks rank q)
    by_test true = refl
    by_test false = refl
has_ranks rank q ks g (r ∷ rs) =
    has_ranks rank q (insert_key pair_order ks (r, g)) g rs
    ∙ ap (λ b. is_at g q && has_rank rs rank || b) (has_inserted rank q ks (r, g))
    ∙ grouped (r == rank) (is_at g q) (has_rank rs rank) (has_pair ks rank q)

-- of all the entries
abbrev listed : ℕ → Guid → Guid × List ℕ → Bool
listed rank q e = is_at e.0 q && has_rank e.1 rank

has_entries : (rank : ℕ) (q : Guid) (ks : List (ℕ × Guid)) (es : List (Guid × List ℕ)) → has_pair (with_entries ks es) rank q ≡ (list_any (listed rank q) es || has_pair ks rank q)
has_entries rank q ks [] = refl
has_entries rank q ks (e ∷ es) =
    has_entries rank q (with_ranks ks e.0 e.1) es
    ∙ ap (λ b. list_any (listed rank q) es || b) (has_ranks rank q ks e.0 e.1)
    ∙ turned (listed rank q e) (list_any (listed rank q) es) (has_pair ks rank q)
  where
    turned : (a b c : Bool) → (b || (a || c)) ≡ ((a || b) || c)
    turned true true c = refl
    turned true false c = refl
    turned false true c = refl
    turned false false c = refl

-- no entry of a writer comes after one that is above it
none_later : (rank : ℕ) (q y : Guid) (es : List (Guid × List ℕ)) → guid_order y q ≡ Equal → AllByRecursion (λ z. guid_order y z ≡ Less) (keys_of es) → list_any (listed rank q) es ≡ false
none_later rank q y [] e above = refl
none_later rank q y (x ∷ es) e above =
    let apart : is_at x.0 q ≡ false = tied x.0 q ∙ rw (sym (guid_total.congr y q x.0 e) ∙ above.0) refl in
    rw apart (none_later rank q y es e above.1)

at_writer : (rank : ℕ) (q : Guid) (es : List (Guid × List ℕ)) → IsStrictlySortedBy guid_order (keys_of es) → list_any (listed rank q) es ≡ has_rank (ranks_at q es) rank
at_writer rank q [] up = refl
at_writer rank q (e ∷ es) up = by_test (is_at q e.0) refl (at_writer rank q es (sorted_tail guid_order e.0 (keys_of es) up))
  where
    or_none : (b : Bool) → (b || false) ≡ b
    or_none true = refl
    or_none false = refl

    by_test : (b : Bool) → is_at q e.0 ≡ b → list_any (listed rank q) es ≡ has_rank (ranks_at q es) rank
        → (is_at e.0 q && has_rank e.1 rank || list_any (listed rank q) es) ≡ has_rank (unwrap_or (cond b (Some e.1) (lookup (is_at q) es)) []) rank
    by_test true h more =
        let here : is_at e.0 q ≡ true = tied e.0 q ∙ h in
        rw (here, none_later rank q e.0 es (equal_from (guid_order e.0 q) here) (sorted_head guid_order e.0 (keys_of es) up)) (or_none (has_rank e.1 rank))
    by_test false h more = rw (tied e.0 q, h) more

-- ---- what is listed is what is kept, and what is known

pub are_kept : (d : RegistryView) (pairs : List (ℕ × Guid)) → pairs ≡ with_entries [] d.ranks → IsStrictlySortedBy guid_order (keys_of d.ranks) → AreKeptPairs d pairs
are_kept d pairs is up = record {
  exact = λ rank g. (λ h. found (ranks_at g d.ranks) rank (sym (tells rank g) ∙ pair_contained pairs rank g h), λ h. pair_found pairs rank g (tells rank g ∙ contained (ranks_at g d.ranks) rank h));
  ordered = subst (IsStrictlySortedBy pair_order) (sym is) (sorted_entries [] d.ranks no_pair);
}
  where
    or_none : (b : Bool) → (b || false) ≡ b
    or_none true = refl
    or_none false = refl

    tells : (rank : ℕ) (g : Guid) → has_pair pairs rank g ≡ has_rank (ranks_at g d.ranks) rank
    tells rank g =
        ap (λ ps. has_pair ps rank g) is ∙ has_entries rank g [] d.ranks ∙ or_none (list_any (listed rank g) d.ranks)
        ∙ at_writer rank g d.ranks up

pub are_known : (k : Known) (d : RegistryView) (pairs : List (ℕ × Guid)) → IsKnown k d → AreKeptPairs d pairs → ArePairs k pairs
are_known k d pairs is kept = record {
  exact = λ rank g.
      let law = (ranks_are_matched k g).exact rank in (
        λ h. law.0 (subst (λ l. Contains l rank) (is.ranks g) ((kept.exact rank g).0 h)),
        λ h. (kept.exact rank g).1 (subst (λ l. Contains l rank) (sym (is.ranks g)) (law.1 h)),
      );
  ordered = kept.ordered;
}
