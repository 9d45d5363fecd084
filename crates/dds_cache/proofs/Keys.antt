-- The orders of keys, numbers and pairs tell different ones apart.
use Rattle.std.proofs.Common.{◌≡◌, ℕ, Bool, true, false, ◌&&◌, List, refl, sym, ap, ◌∙◌}
use Rattle.std.specs.Cmp.{IsTotalOrder, both_ways}
use Rattle.std.specs.Ordering.{is_eq, ordering_reverse, ordering_then}
use Rattle.std.specs.Str.{bytes_eq}
use Rattle.std.specs.declared.cmp.Ordering.{Ordering}
use Rattle.std.specs.declared.cmp.Ordering.TheVariants.{Less, Equal, Greater}
use Rattle.std.proofs.lemmas.Cmp.{nat_list_cmp_total, on_total, then_total}
use Rattle.std.proofs.lemmas.Map.Text.{is_eq-slice_cmp}
use Rattle.std.proofs.lemmas.Slice.Eq.{bytes_eq-Decides}
use Rattle.rtps_types.specs.declared.identity.GuidPrefix.{GuidPrefix}
use Rattle.rtps_types.specs.declared.identity.EntityId.{EntityId}
use Rattle.rtps_types.specs.declared.identity.Guid.{Guid}
use Rattle.rtps_types.specs.declared.identity.KeyHash.{KeyHash}
use Rattle.rtps_types.specs.Order.{guid_order, octet_order}
use Rattle.rtps_proxy.specs.Matches.{same_guid}
use Rattle.dds_cache.specs.Calls.{same_key}
use Rattle.dds_cache.specs.Standing.{Pair, is_key, is_pair, key_order, pair_order}

pub key_total : IsTotalOrder key_order
key_total = on_total (λ (k : KeyHash). k.0) nat_list_cmp_total

abbrev prefix_order : GuidPrefix → GuidPrefix → Ordering
prefix_order a b = octet_order a.0 b.0

abbrev entity_order : EntityId → EntityId → Ordering
entity_order a b = octet_order a.0 b.0

prefix_total : IsTotalOrder prefix_order
prefix_total = on_total (λ (p : GuidPrefix). p.0) nat_list_cmp_total

entity_total : IsTotalOrder entity_order
entity_total = on_total (λ (e : EntityId). e.0) nat_list_cmp_total

pub guid_total : IsTotalOrder guid_order
guid_total = then_total (on_total (λ (g : Guid). g.prefix) prefix_total) (on_total (λ (g : Guid). g.entity) entity_total)

pub pair_total : IsTotalOrder pair_order
pair_total = then_total (on_total (λ (p : Pair). p.0) guid_total) (on_total (λ (p : Pair). p.1) key_total)

-- in any total order an element is equal to itself
pub itself : {K : Type 0} (cmp : K → K → Ordering) (o : IsTotalOrder cmp) (k : K) → is_eq (cmp k k) ≡ true
itself cmp o k = by_order (cmp k k) refl (o.antisymm k k)
  where
    by_order : (r : Ordering) → cmp k k ≡ r → cmp k k ≡ ordering_reverse (cmp k k) → is_eq (cmp k k) ≡ true
    by_order Less e f = let bad : Less ≡ Greater = rw e at f in absurd cc
    by_order Equal e f = ap is_eq e
    by_order Greater e f = let bad : Greater ≡ Less = rw e at f in absurd cc

pub key_itself : (k : KeyHash) → is_key k k ≡ true
key_itself = itself key_order key_total

pub equal_from : (o : Ordering) → is_eq o ≡ true → o ≡ Equal
equal_from Less h = absurd cc
equal_from Equal h = refl
equal_from Greater h = absurd cc

-- the test of the order is that of the octets
pub key_tie : (k q : KeyHash) → is_key k q ≡ same_key k q
key_tie k q = is_eq-slice_cmp k.0 q.0

key_from : List ℕ → KeyHash
key_from octets = record { 0 = octets }

pub key_is : (k q : KeyHash) → is_key k q ≡ true → k ≡ q
unfolding key_from
key_is k q h = ap key_from ((bytes_eq-Decides k.0 q.0).0 (sym (key_tie k q) ∙ h))

pub turned : (xs ys : List ℕ) → bytes_eq xs ys ≡ bytes_eq ys xs
turned xs ys = both_ways (bytes_eq xs ys) (bytes_eq ys xs) (λ h. (bytes_eq-Decides ys xs).1 (sym ((bytes_eq-Decides xs ys).0 h))) (λ h. (bytes_eq-Decides xs ys).1 (sym ((bytes_eq-Decides ys xs).0 h)))

eq_then : (a b : Ordering) → is_eq (ordering_then a b) ≡ (is_eq a && is_eq b)
eq_then Less b = refl
eq_then Equal b = refl
eq_then Greater b = refl

pub guid_tie : (a b : Guid) → is_eq (guid_order a b) ≡ same_guid a b
guid_tie a b =
    eq_then (octet_order a.prefix.0 b.prefix.0) (octet_order a.entity.0 b.entity.0)
    ∙ ap (λ x. x && is_eq (octet_order a.entity.0 b.entity.0)) (is_eq-slice_cmp a.prefix.0 b.prefix.0)
    ∙ ap (λ x. bytes_eq a.prefix.0 b.prefix.0 && x) (is_eq-slice_cmp a.entity.0 b.entity.0)

pub pair_tie : (a b : Pair) → is_pair a b ≡ (same_guid a.0 b.0 && same_key a.1 b.1)
pair_tie a b =
    eq_then (guid_order a.0 b.0) (key_order a.1 b.1)
    ∙ ap (λ x. x && is_eq (key_order a.1 b.1)) (guid_tie a.0 b.0)
    ∙ ap (λ x. same_guid a.0 b.0 && x) (key_tie a.1 b.1)

abbrev guid_from : List ℕ → List ℕ → Guid
guid_from prefix entity = record { prefix = record { 0 = prefix }; entity = record { 0 = entity } }

pub and_left : (a b : Bool) → (a && b) ≡ true → a ≡ true
and_left true b h = refl
and_left false b h = absurd cc

pub and_right : (a b : Bool) → (a && b) ≡ true → b ≡ true
and_right true b h = h
and_right false b h = absurd cc

pub guid_is : (a b : Guid) → same_guid a b ≡ true → a ≡ b
guid_is a b h =
    let prefixes : a.prefix.0 ≡ b.prefix.0 = (bytes_eq-Decides a.prefix.0 b.prefix.0).0 (and_left _ _ h) in
    let entities : a.entity.0 ≡ b.entity.0 = (bytes_eq-Decides a.entity.0 b.entity.0).0 (and_right (bytes_eq a.prefix.0 b.prefix.0) _ h) in
    ap (λ p. guid_from p a.entity.0) prefixes ∙ ap (guid_from b.prefix.0) entities

pub same_turned : (a b : Guid) → same_guid a b ≡ same_guid b a
same_turned a b = both_ways (same_guid a b) (same_guid b a) (λ h. ap (λ x. same_guid x a) (sym (guid_is a b h)) ∙ itself_same a) (λ h. ap (λ x. same_guid x b) (sym (guid_is b a h)) ∙ itself_same b)
  where
    itself_same : (g : Guid) → same_guid g g ≡ true
    itself_same g = sym (guid_tie g g) ∙ itself guid_order guid_total g

pub key_turned : (a b : KeyHash) → same_key a b ≡ same_key b a
key_turned a b = turned a.0 b.0
