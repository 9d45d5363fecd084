-- What contracts see of a cache, and its parts.
use Rattle.std.proofs.Common.{◌≡◌, Bool, true, false, cond, Some, List, [], ◌∷◌, map, refl, sym}
use Rattle.std.specs.Map.{lookup}
use Rattle.std.specs.Option.{option_map}
use Rattle.rtps_types.specs.declared.identity.KeyHash.{KeyHash}
use Rattle.dds_cache.specs.declared.index.Index.{Index}
use Rattle.dds_cache.specs.declared.instance.Instance.{Instance}
use Rattle.dds_cache.specs.Calls.{Done}
use Rattle.dds_cache.specs.Effects.{IsSame}
use Rattle.dds_cache.specs.Placed.{ShelfView}
use Rattle.dds_cache.specs.Standing.{StandsAt, StandsBy, is_key, kept, known, known_at, parts, parts_in}
use Rattle.dds_cache.proofs.Answering.{stands_same}

seen_known : {A : Type 0} (k : KeyHash) (es : List (KeyHash × Instance A)) → lookup (is_key k) (map (λ p. (p.0, known p.1)) es) ≡ known_at es k
seen_known k [] = refl
seen_known k (e ∷ es) = by_test (is_key k e.0) (seen_known k es)
  where
    by_test : (b : Bool) → lookup (is_key k) (map (λ p. (p.0, known p.1)) es) ≡ known_at es k
        → cond b (Some (known e.1)) (lookup (is_key k) (map (λ p. (p.0, known p.1)) es)) ≡ option_map known (cond b (Some e.1) (lookup (is_key k) es))
    by_test true more = refl
    by_test false more = more

module _ {A M : Type 0} (past : List (Done M)) (index : Index A) (es : ShelfView M) where
  pub to_parts : StandsAt past (kept index es) → StandsBy past (parts index es)
  to_parts s =
      let same : IsSame (parts_in (kept index es)) (parts index es) = record { keep = refl; accepted = refl; entries = refl; find = λ k. sym (seen_known k index.instances.entries); live = refl } in
      stands_same past (parts_in (kept index es)) (parts index es) same s

  pub from_parts : StandsBy past (parts index es) → StandsAt past (kept index es)
  from_parts s =
      let same : IsSame (parts index es) (parts_in (kept index es)) = record { keep = refl; accepted = refl; entries = refl; find = λ k. seen_known k index.instances.entries; live = refl } in
      stands_same past (parts index es) (parts_in (kept index es)) same s
