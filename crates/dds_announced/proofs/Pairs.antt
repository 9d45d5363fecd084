-- Two lists of entries in the order of one kind of keys, of which the second has all keys of the
-- first.
use Rattle.std.proofs.Common.{◌≡◌, cond, Bool, true, false, not, List, Option, None, Some, refl, sym, ap, subst, ◌∙◌, map}
use Rattle.std.specs.Prelude.{filter, if◌then◌else◌}
use Rattle.std.specs.BTreeMap.{insert_entry}
use Rattle.std.specs.Cmp.{IsEquivalence, IsTotalOrder}
use Rattle.std.specs.List.Sorted.{IsStrictlySortedBy}
use Rattle.std.specs.Map.{keys_of, lookup, remove_entry, set_value}
use Rattle.std.specs.Option.{option_map}
use Rattle.std.specs.Ordering.{eq_by_cmp, is_eq}
use Rattle.std.specs.declared.cmp.Ordering.{Ordering}
use Rattle.std.proofs.lemmas.Map.{keys-set_value, lookup-remove_entry, lookup-set_value}
use Rattle.std.proofs.lemmas.Map.Entries.{lookup-filter-values, option_filter}
use Rattle.std.proofs.lemmas.Map.Keys.{IsDistinct-from_sorted}
use Rattle.std.specs.Cmp.{eq_by_cmp_equiv}
use Rattle.dds_announced.proofs.Keyed.{left_up, mapped_at, mapped_keys, put_at, put_keys, removed_up}
use Rattle.rtps_discovery.proofs.Inserted.{inserted}

-- what is at a key in each: in the second what fits that in the first, and nothing more if that is
-- owed
abbrev pub IsPair : {P Q : Type 0} → (P → Q → Type 0) → Bool → Option P → Option Q → Type 0
IsPair E owed None None = Unit {0}
IsPair E owed None (Some q) = owed ≡ false
IsPair E owed (Some p) None = ⊥
IsPair E owed (Some p) (Some q) = E p q

pub fewer : {P Q : Type 0} (E : P → Q → Type 0) (b c : Bool) → (c ≡ true → b ≡ true) → (x : Option P) (y : Option Q)
    → IsPair E b x y → IsPair E c x y
fewer E b c less None None pair = tt
fewer E b false less None (Some q) pair = refl
fewer E b true less None (Some q) pair = let bad : true ≡ false = sym (less refl) ∙ pair in absurd cc
fewer E b c less (Some p) None pair = absurd pair
fewer E b c less (Some p) (Some q) pair = pair

module _ {K P Q : Type 0} (R : K → K → Ordering) (o : IsTotalOrder R) (E : P → Q → Type 0) where
  abbrev pub at : K → K → Bool
  at k x = is_eq (R k x)

  pub record Pairs (owed : K → Bool) (ps : List (K × P)) (qs : List (K × Q)) : Type 0 where
    pub first : IsStrictlySortedBy R (keys_of ps)
    pub second : IsStrictlySortedBy R (keys_of qs)
    pub pairs : (k : K) → IsPair E (owed k) (lookup (at k) ps) (lookup (at k) qs)

  laws : IsEquivalence (eq_by_cmp R)
  laws = eq_by_cmp_equiv o

  one_key : (p x y : K) → at p x ≡ true → at p y ≡ at x y
  one_key p x y is = laws.congr p x y is

  -- without an entry
  pub without_at : {X : Type 0} (p k : K) (es : List (K × X)) → IsStrictlySortedBy R (keys_of es)
      → lookup (at k) (remove_entry (at p) es) ≡ cond (at p k) None (lookup (at k) es)
  without_at p k es up = lookup-remove_entry laws (at p) (one_key p) k es (IsDistinct-from_sorted R (keys_of es) up)

  -- with another value
  pub with_at : {X : Type 0} (p k : K) (v w : X) (es : List (K × X)) → lookup (at p) es ≡ Some v
      → lookup (at k) (set_value (at p) es w) ≡ cond (at p k) (Some w) (lookup (at k) es)
  with_at p k v w es found = lookup-set_value laws (at p) (one_key p) k w es (rw found refl)

  -- with an entry more, or another value
  pub put_here : {X : Type 0} (p k : K) (v : X) (es : List (K × X))
      → lookup (at k) (insert_entry R es p v) ≡ cond (at p k) (Some v) (lookup (at k) es)
  put_here p k v es = put_at R o es p v k ∙ ap (λ b. cond b (Some v) (lookup (at k) es)) (laws.symm k p)

  pub put_up : {X : Type 0} (p : K) (v : X) (es : List (K × X)) → IsStrictlySortedBy R (keys_of es)
      → IsStrictlySortedBy R (keys_of (insert_entry R es p v))
  put_up p v es up = subst (IsStrictlySortedBy R) (sym (put_keys R es p v)) (inserted R o (keys_of es) p up)

  -- the second gets an entry, and the first has that one, or another, or none there
  pub put_both : (owed next : K → Bool) (ps qs' : List (K × P)) (qs : List (K × Q)) (p : K) (new : Option P) (q : Q)
      → Pairs owed ps qs → IsStrictlySortedBy R (keys_of qs')
      → ((k : K) → lookup (at k) qs' ≡ cond (at p k) new (lookup (at k) ps))
      → ((k : K) → at p k ≡ true → IsPair E (next k) new (Some q))
      → ((k : K) → at p k ≡ false → next k ≡ true → owed k ≡ true)
      → Pairs next qs' (insert_entry R qs p q)
  put_both owed next ps ps' qs p new q before up is here others = record {
    first = up;
    second = put_up p q qs before.second;
    pairs = λ k. subst (λ (x : Option P). IsPair E (next k) x (lookup (at k) (insert_entry R qs p q))) (sym (is k))
        (subst (λ (y : Option Q). IsPair E (next k) (cond (at p k) new (lookup (at k) ps)) y) (sym (put_here p k q qs))
        (by_key k (at p k) refl));
  }
    where
      by_key : (k : K) (b : Bool) → at p k ≡ b → IsPair E (next k) (cond b new (lookup (at k) ps)) (cond b (Some q) (lookup (at k) qs))
      by_key k true same = here k same
      by_key k false same = fewer E (owed k) (next k) (others k same) (lookup (at k) ps) (lookup (at k) qs) (before.pairs k)

  -- the first loses an entry, and nothing is owed
  pub drop_one : (owed : K → Bool) (ps : List (K × P)) (qs : List (K × Q)) (p : K) → Pairs owed ps qs
      → Pairs (λ k. false) (remove_entry (at p) ps) qs
  drop_one owed ps qs p before = record {
    first = removed_up R (at p) ps before.first;
    second = before.second;
    pairs = λ k. subst (λ (x : Option P). IsPair E false x (lookup (at k) qs)) (sym (without_at p k ps before.first))
        (by_key k (at p k) (lookup (at k) qs)
        (fewer E (owed k) false (λ h. absurd (let bad : false ≡ true = h in cc)) (lookup (at k) ps) (lookup (at k) qs) (before.pairs k)));
  }
    where
      by_key : (k : K) (b : Bool) (y : Option Q) → IsPair E false (lookup (at k) ps) y → IsPair E false (cond b None (lookup (at k) ps)) y
      by_key k true None pair = tt
      by_key k true (Some q) pair = refl
      by_key k false y pair = pair

  -- both lose those that have ended
  pub end_both : (owed : K → Bool) (ps : List (K × P)) (qs left : List (K × Q)) (p_ends : P → Bool) (q_ends : Option Q → Bool)
      → Pairs owed ps qs → IsStrictlySortedBy R (keys_of left)
      → ((k : K) → lookup (at k) left ≡ (if q_ends (lookup (at k) qs) then None else lookup (at k) qs))
      → ((x : P) (y : Q) → E x y → p_ends x ≡ q_ends (Some y))
      → Pairs owed (filter (λ (e : K × P). not (p_ends e.1)) ps) left
  end_both owed ps qs left p_ends q_ends before up is same = record {
    first = left_up R (λ (e : K × P). not (p_ends e.1)) ps before.first;
    second = up;
    pairs = λ k. subst (λ (x : Option P). IsPair E (owed k) x (lookup (at k) left))
        (sym (lookup-filter-values laws (λ (x : P). not (p_ends x)) k ps (IsDistinct-from_sorted R (keys_of ps) before.first)))
        (subst (λ (y : Option Q). IsPair E (owed k) (option_filter (λ (x : P). not (p_ends x)) (lookup (at k) ps)) y) (sym (is k))
        (by_both (owed k) (lookup (at k) ps) (lookup (at k) qs) (before.pairs k)));
  }
    where
      none : (b t : Bool) (y : Q) → b ≡ false → IsPair E b None (if t then None else Some y)
      none b true y is = tt
      none b false y is = is

      some : (b t u : Bool) (x : P) (y : Q) → t ≡ u → E x y → IsPair E b (cond (not t) (Some x) None) (if u then None else Some y)
      some b true true x y is pair = tt
      some b true false x y is pair = absurd cc
      some b false true x y is pair = absurd cc
      some b false false x y is pair = pair

      nobody : (b t : Bool) → IsPair E b None (if t then None else None)
      nobody b true = tt
      nobody b false = tt

      by_both : (b : Bool) (x : Option P) (y : Option Q) → IsPair E b x y
          → IsPair E b (option_filter (λ (x : P). not (p_ends x)) x) (if q_ends y then None else y)
      by_both b None None pair = nobody b (q_ends None)
      by_both b None (Some y) pair = none b (q_ends (Some y)) y pair
      by_both b (Some x) None pair = absurd pair
      by_both b (Some x) (Some y) pair = some b (p_ends x) (q_ends (Some y)) x y (same x y pair) pair

  -- both lose one
  pub leave_both : (owed : K → Bool) (ps : List (K × P)) (qs left : List (K × Q)) (p : K) → Pairs owed ps qs
      → IsStrictlySortedBy R (keys_of left)
      → ((k : K) → lookup (at k) left ≡ cond (at p k) None (lookup (at k) qs))
      → Pairs owed (remove_entry (at p) ps) left
  leave_both owed ps qs left p before up is = record {
    first = removed_up R (at p) ps before.first;
    second = up;
    pairs = λ k. subst (λ (x : Option P). IsPair E (owed k) x (lookup (at k) left)) (sym (without_at p k ps before.first))
        (subst (λ (y : Option Q). IsPair E (owed k) (cond (at p k) None (lookup (at k) ps)) y) (sym (is k))
        (by_key k (at p k)));
  }
    where
      by_key : (k : K) (b : Bool) → IsPair E (owed k) (cond b None (lookup (at k) ps)) (cond b None (lookup (at k) qs))
      by_key k true = tt
      by_key k false = before.pairs k

  -- each value of the first is changed, and fits as before
  pub map_first : (owed : K → Bool) (ps : List (K × P)) (qs : List (K × Q)) (f : P → P) → Pairs owed ps qs
      → ((x : P) (y : Q) → E x y → E (f x) y) → Pairs owed (map (λ (e : K × P). (e.0, f e.1)) ps) qs
  map_first owed ps qs f before fits = record {
    first = subst (IsStrictlySortedBy R) (sym (mapped_keys f ps)) before.first;
    second = before.second;
    pairs = λ k. subst (λ (x : Option P). IsPair E (owed k) x (lookup (at k) qs)) (sym (mapped_at (at k) f ps))
        (by_both (owed k) (lookup (at k) ps) (lookup (at k) qs) (before.pairs k));
  }
    where
      by_both : (b : Bool) (x : Option P) (y : Option Q) → IsPair E b x y → IsPair E b (option_map f x) y
      by_both b None None pair = tt
      by_both b None (Some y) pair = pair
      by_both b (Some x) None pair = absurd pair
      by_both b (Some x) (Some y) pair = fits x y pair

  -- one value of the first is changed, and fits as before
  pub set_first : (owed : K → Bool) (ps : List (K × P)) (qs : List (K × Q)) (p : K) (old new : P) → Pairs owed ps qs
      → lookup (at p) ps ≡ Some old → ((y : Q) → E old y → E new y) → ((k : K) → at p k ≡ true → p ≡ k)
      → Pairs owed (set_value (at p) ps new) qs
  set_first owed ps qs p old new before found fits exact = record {
    first = subst (IsStrictlySortedBy R) (sym (keys-set_value (at p) ps new)) before.first;
    second = before.second;
    pairs = λ k. subst (λ (x : Option P). IsPair E (owed k) x (lookup (at k) qs)) (sym (with_at p k old new ps found))
        (by_key k (at p k) refl);
  }
    where
      here : (b : Bool) (y : Option Q) → IsPair E b (Some old) y → IsPair E b (Some new) y
      here b None pair = absurd pair
      here b (Some y) pair = fits y pair

      by_key : (k : K) (b : Bool) → at p k ≡ b → IsPair E (owed k) (cond b (Some new) (lookup (at k) ps)) (lookup (at k) qs)
      by_key k true same =
          here (owed k) (lookup (at k) qs)
          (subst (λ (x : Option P). IsPair E (owed k) x (lookup (at k) qs))
          (subst (λ (z : K). lookup (at z) ps ≡ Some old) (exact k same) found) (before.pairs k))
      by_key k false same = before.pairs k
