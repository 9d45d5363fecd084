-- A rank is removed from those that are listed for each writer.
use Rattle.std.proofs.Common.{◌≡◌, ℕ, List, [], ◌∷◌, Bool, true, false, cond, Some, None, refl, sym, ap, ◌∙◌, subst}
use Rattle.std.specs.Map.{keys_of, lookup}
use Rattle.std.specs.Map.Calls.{RetainsPairs}
use Rattle.std.specs.Option.{unwrap_or}
use Rattle.std.proofs.lemmas.Map.Keys.{sorted_head, sorted_tail}
use Rattle.rtps_types.specs.declared.identity.Guid.{Guid}
use Rattle.rtps_types.specs.Order.{guid_order}
use Rattle.rtps_proxy.specs.Matches.{is_at}
use Rattle.rtps_discovery.specs.Kept.{ranks_at}
use Rattle.rtps_discovery.specs.Moving.{without_rank}
use Rattle.rtps_discovery.proofs.Guids.{equal_from, tied}
use Rattle.rtps_discovery.proofs.OneWriter.{lookup_none}
use Rattle.rtps_discovery.proofs.SameKeys.{none_above}
use Rattle.rtps_discovery.proofs.SortedKeys.{InOrder, any_tied}

module _ {F : Type 0} (T : F → Guid → List ℕ → Bool → List ℕ → F → Type 0) (rank : ℕ) (f : F)
    (says : (k : Guid) (v : List ℕ) (b : Bool) (w : List ℕ) (f' : F) → T f k v b w f' → (b ≡ false → w ≡ []) × (w ≡ without_rank rank v) × (f' ≡ f)) where
  pub forgotten : (es kept : List (Guid × List ℕ)) → InOrder (keys_of es) → RetainsPairs T f es kept → (g : Guid) → ranks_at g kept ≡ without_rank rank (ranks_at g es)
  forgotten [] kept up r g = ap (ranks_at g) r
  forgotten (e ∷ es) kept up r g =
      let said = says e.0 e.1 r.0 r.1 r.2 r.4 in
      let more : ranks_at g r.3 ≡ without_rank rank (ranks_at g es) = forgotten es r.3 (sorted_tail guid_order e.0 (keys_of es) up) (subst (λ u. RetainsPairs T u es r.3) said.2 r.5) g in
      ap (ranks_at g) r.6 ∙ by_tests (is_at g e.0) refl r.0 r.1 r.3 said.0 said.1 more
    where
      by_tests : (t : Bool) → is_at g e.0 ≡ t → (b : Bool) (w : List ℕ) (rest : List (Guid × List ℕ)) → (b ≡ false → w ≡ []) → w ≡ without_rank rank e.1 → ranks_at g rest ≡ without_rank rank (ranks_at g es)
          → ranks_at g (cond b ((e.0, w) ∷ rest) rest) ≡ without_rank rank (unwrap_or (cond (is_at g e.0) (Some e.1) (lookup (is_at g) es)) [])
      by_tests true at true w rest empty left more = rw at left
      by_tests true at false w rest empty left more =
          let none : lookup (is_at g) es ≡ None = lookup_none (is_at g) es (any_tied g (keys_of es) ∙ none_above e.0 g (keys_of es) (equal_from (guid_order e.0 g) (tied e.0 g ∙ at)) (sorted_head guid_order e.0 (keys_of es) up)) in
          rw at (more ∙ ap (λ o. without_rank rank (unwrap_or o [])) none ∙ sym (empty refl) ∙ left)
      by_tests false at true w rest empty left more = rw at more
      by_tests false at false w rest empty left more = rw at more
