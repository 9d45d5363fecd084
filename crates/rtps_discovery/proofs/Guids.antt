-- The order of guids is total, and tells different ones apart.
use Rattle.std.proofs.Common.{◌≡◌, true, refl, ap, ◌∙◌}
use Rattle.std.specs.Cmp.{IsTotalOrder}
use Rattle.std.specs.Ordering.{is_eq, ordering_reverse}
use Rattle.std.specs.declared.cmp.Ordering.{Ordering}
use Rattle.std.specs.declared.cmp.Ordering.TheVariants.{Less, Equal, Greater}
use Rattle.std.proofs.lemmas.Cmp.{nat_list_cmp_total, on_total, then_total}
use Rattle.rtps_types.specs.declared.identity.GuidPrefix.{GuidPrefix}
use Rattle.rtps_types.specs.declared.identity.EntityId.{EntityId}
use Rattle.rtps_types.specs.declared.identity.Guid.{Guid}
use Rattle.rtps_types.specs.Order.{guid_order, octet_order}
use Rattle.rtps_proxy.specs.Matches.{is_at}
use Rattle.rtps_proxy.proofs.Matching.{exact}
use Rattle.rtps_discovery.specs.Known.{prefix_order}

pub prefix_total : IsTotalOrder prefix_order
prefix_total = on_total (λ (p : GuidPrefix). p.0) nat_list_cmp_total

abbrev entity_order : EntityId → EntityId → Ordering
entity_order a b = octet_order a.0 b.0

entity_total : IsTotalOrder entity_order
entity_total = on_total (λ (e : EntityId). e.0) nat_list_cmp_total

pub guid_total : IsTotalOrder guid_order
guid_total = then_total (on_total (λ (g : Guid). g.prefix) prefix_total) (on_total (λ (g : Guid). g.entity) entity_total)

pub flipped : (x y : Guid) (r : Ordering) → guid_order y x ≡ r → guid_order x y ≡ ordering_reverse r
flipped x y r e = guid_total.antisymm x y ∙ ap ordering_reverse e

pub itself : (g : Guid) → guid_order g g ≡ Equal
itself g = by_order (guid_order g g) refl (guid_total.antisymm g g)
  where
    by_order : (o : Ordering) → guid_order g g ≡ o → guid_order g g ≡ ordering_reverse (guid_order g g) → guid_order g g ≡ Equal
    by_order Less e f = let bad : Less ≡ Greater = rw e at f in absurd cc
    by_order Equal e f = e
    by_order Greater e f = let bad : Greater ≡ Less = rw e at f in absurd cc

pub equal_from : (o : Ordering) → is_eq o ≡ true → o ≡ Equal
equal_from Less h = absurd cc
equal_from Equal h = refl
equal_from Greater h = absurd cc

-- a key that is found is the one that is looked for
pub found_is : (g q : Guid) → is_at g q ≡ true → q ≡ g
found_is g q h = exact g q (equal_from (guid_order g q) h)

pub at_itself : (g : Guid) → is_at g g ≡ true
at_itself g = ap is_eq (itself g)

-- which of two is looked for doesn't matter
pub tied : (g q : Guid) → is_at g q ≡ is_at q g
tied g q = by_order (guid_order q g) refl
  where
    by_order : (r : Ordering) → guid_order q g ≡ r → is_at g q ≡ is_eq r
    by_order Less e = rw (flipped g q Less e) refl
    by_order Equal e = rw (flipped g q Equal e) refl
    by_order Greater e = rw (flipped g q Greater e) refl
