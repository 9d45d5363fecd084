-- Entries that are read stay in their places.
use Rattle.std.proofs.Common.{◌≡◌, ℕ, Bool, true, false, cond, List, [], ◌∷◌, Some, None, refl, sym, ap}
use Rattle.std.specs.Prelude.{if◌then◌else◌}
use Rattle.std.specs.Map.{lookup, set_value}
use Rattle.dds_cache.specs.declared.entry.Entry.{Entry}
use Rattle.dds_cache.specs.Cache.{marked}
use Rattle.dds_cache.specs.Effects.{mark_one}
use Rattle.dds_cache.specs.Standing.{is_number}

pub set_mark : {M : Type 0} (n : ℕ) (e : Entry M) (es : List (ℕ × Entry M)) → lookup (is_number n) es ≡ Some e → set_value (is_number n) es (marked e) ≡ mark_one n es
set_mark n e [] h = absurd cc
set_mark n e (x ∷ es) h = by_test (is_number n x.0) h (set_mark n e es)
  where
    by_test : (b : Bool) → cond b (Some x.1) (lookup (is_number n) es) ≡ Some e → (lookup (is_number n) es ≡ Some e → set_value (is_number n) es (marked e) ≡ mark_one n es)
        → cond b ((x.0, marked e) ∷ es) (x ∷ set_value (is_number n) es (marked e)) ≡ (if b then (x.0, marked x.1) ∷ es else x ∷ mark_one n es)
    by_test true h more = let same : x.1 ≡ e = cc in ap (λ y. (x.0, marked y) ∷ es) (sym same)
    by_test false h more = ap (λ l. x ∷ l) (more h)

pub no_mark : {M : Type 0} (n : ℕ) (es : List (ℕ × Entry M)) → lookup (is_number n) es ≡ None → mark_one n es ≡ es
no_mark n [] h = refl
no_mark n (x ∷ es) h = by_test (is_number n x.0) h (no_mark n es)
  where
    by_test : (b : Bool) → cond b (Some x.1) (lookup (is_number n) es) ≡ None → (lookup (is_number n) es ≡ None → mark_one n es ≡ es) → (if b then (x.0, marked x.1) ∷ es else x ∷ mark_one n es) ≡ x ∷ es
    by_test true h more = absurd cc
    by_test false h more = ap (λ l. x ∷ l) (more h)
