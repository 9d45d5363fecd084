-- What is put in, and taken out again where a growth is refused.
use Rattle.std.proofs.Common.{◌≡◌, ℕ, Bool, true, false, List, refl, sym, ap, ◌∙◌}
use Rattle.std.specs.BTreeSet.{insert_key}
use Rattle.std.specs.Cmp.{IsTotalOrder}
use Rattle.std.specs.List.{list_any}
use Rattle.std.specs.Ordering.{is_eq}
use Rattle.std.specs.Prelude.{if◌then◌else◌, not, ◌&&◌}
use Rattle.std.specs.Set.{remove_key}
use Rattle.std.specs.declared.cmp.Ordering.{Ordering}
use Rattle.dds_cache.proofs.Placing.{taken_back}

-- a key that was put into a set and is taken out again
pub undone : {K : Type 0} (R : K → K → Ordering) (o : IsTotalOrder R) (k : K) (old mid new : List K) → mid ≡ insert_key R old k → list_any (λ q. is_eq (R k q)) old ≡ false → new ≡ remove_key (λ q. is_eq (R k q)) mid → new ≡ old
undone R o k old mid new put none taken = taken ∙ ap (remove_key (λ q. is_eq (R k q))) put ∙ taken_back R o k old none

-- a number that was put among those that no call answered wasn't there
pub not_before : (read there added : Bool) → added ≡ true → added ≡ (not read && not there) → there ≡ false
not_before true there added was is = let bad : false ≡ true = sym is ∙ was in absurd cc
not_before false true added was is = let bad : false ≡ true = sym is ∙ was in absurd cc
not_before false false added was is = refl

pub put_where : (read there added : Bool) → added ≡ true → added ≡ (not read && not there) → (new old put : List ℕ) → new ≡ (if read then old else put) → new ≡ put
put_where true there added was is new old put so = let bad : false ≡ true = sym is ∙ was in absurd cc
put_where false there added was is new old put so = so
