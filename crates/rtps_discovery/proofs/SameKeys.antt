-- Two lists in order that have the same guids are one.
use Rattle.std.proofs.Common.{◌≡◌, List, [], ◌∷◌, Bool, true, false, ◌||◌, refl, sym, ap, ◌∙◌}
use Rattle.std.specs.List.{AllByRecursion}
use Rattle.std.specs.Ordering.{is_eq}
use Rattle.std.specs.declared.cmp.Ordering.{Ordering}
use Rattle.std.specs.declared.cmp.Ordering.TheVariants.{Less, Equal, Greater}
use Rattle.std.proofs.lemmas.Map.Keys.{sorted_head, sorted_tail}
use Rattle.rtps_types.specs.declared.identity.Guid.{Guid}
use Rattle.rtps_types.specs.Order.{guid_order}
use Rattle.rtps_proxy.specs.Matches.{is_at}
use Rattle.rtps_proxy.proofs.Matching.{exact}
use Rattle.rtps_discovery.specs.Changes.{both}
use Rattle.rtps_discovery.proofs.Guids.{at_itself, flipped, guid_total}
use Rattle.rtps_discovery.proofs.SortedKeys.{InOrder, any_insert, below_less, has}

pub none_above : (y p : Guid) (zs : List Guid) → guid_order y p ≡ Equal → AllByRecursion (λ z. guid_order y z ≡ Less) zs → has zs p ≡ false
none_above y p [] e a = refl
none_above y p (z ∷ zs) e (b, a) = rw (flipped z p Less (sym (guid_total.congr y p z e) ∙ b)) (none_above y p zs e a)

first : (x : Guid) (xs : List Guid) → has (x ∷ xs) x ≡ true
first x xs = rw (at_itself x) refl

above : (x : Guid) (ys : List Guid) → AllByRecursion (λ y. guid_order x y ≡ Less) ys → has ys x ≡ false
above x [] a = refl
above x (y ∷ ys) (b, a) = rw (flipped y x Less b) (above x ys a)

rest_agrees : (x : Guid) (xs ys : List Guid) → InOrder (x ∷ xs) → InOrder (x ∷ ys) → ((q : Guid) → has (x ∷ xs) q ≡ has (x ∷ ys) q) → (q : Guid) → has xs q ≡ has ys q
rest_agrees x xs ys s t h q = by_order (guid_order x q) refl (h q)
  where
    by_order : (r : Ordering) → guid_order x q ≡ r → (is_eq (guid_order x q) || has xs q) ≡ (is_eq (guid_order x q) || has ys q) → has xs q ≡ has ys q
    by_order Equal e g = none_above x q xs e (sorted_head guid_order x xs s) ∙ sym (none_above x q ys e (sorted_head guid_order x ys t))
    by_order Less e g = rw e at g
    by_order Greater e g = rw e at g

pub same_keys : (xs ys : List Guid) → InOrder xs → InOrder ys → ((q : Guid) → has xs q ≡ has ys q) → xs ≡ ys
same_keys [] [] s t h = refl
same_keys [] (y ∷ ys) s t h = cc (h y, first y ys)
same_keys (x ∷ xs) [] s t h = cc (h x, first x xs)
same_keys (x ∷ xs) (y ∷ ys) s t h = by_order (guid_order x y) refl (same_keys xs ys (sorted_tail guid_order x xs s) (sorted_tail guid_order y ys t))
  where
    by_order : (r : Ordering) → guid_order x y ≡ r → (((q : Guid) → has xs q ≡ has ys q) → xs ≡ ys) → (x ∷ xs) ≡ (y ∷ ys)
    by_order Less e more =
        let missing : has (y ∷ ys) x ≡ false = rw (flipped y x Less e) (above x ys (below_less x y ys e (sorted_head guid_order y ys t))) in
        cc (h x, first x xs, missing)
    by_order Equal e more =
        let one : y ≡ x = exact x y e in
        let tails = more (rest_agrees x xs ys s (rw (sym one) t) (λ q. h q ∙ ap (λ z. has (z ∷ ys) q) one)) in
        cc (one, tails)
    by_order Greater e more =
        let back = flipped y x Greater e in
        let missing : has (x ∷ xs) y ≡ false = rw e (above y xs (below_less y x xs back (sorted_head guid_order x xs s))) in
        cc (h y, first y ys, missing)

or_assoc : (a b c : Bool) → (a || (b || c)) ≡ ((a || b) || c)
or_assoc true b c = refl
or_assoc false b c = refl

pub has_both : (xs ys : List Guid) (q : Guid) → has (both xs ys) q ≡ (has xs q || has ys q)
has_both [] ys q = refl
has_both (x ∷ xs) ys q = any_insert (both xs ys) x q ∙ ap (λ b. is_at x q || b) (has_both xs ys q) ∙ or_assoc (is_at x q) (has xs q) (has ys q)
