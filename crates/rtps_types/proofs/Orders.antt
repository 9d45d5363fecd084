-- The order of octets.
use Rattle.std.proofs.Common.{◌≡◌, ℕ, List, [], ◌∷◌, ◌++◌, length, refl, arith}
use Rattle.std.specs.declared.cmp.Ordering.{Ordering}
use Rattle.std.specs.declared.cmp.Ordering.TheVariants.{Less, Equal, Greater}
use Rattle.std.specs.Ordering.{nat_cmp, ordering_then}
use Rattle.rtps_types.specs.Order.{octet_order}

pub then_again : (o p q : Ordering) → ordering_then o (ordering_then p q) ≡ ordering_then (ordering_then o p) q
then_again Less p q = refl
then_again Equal p q = refl
then_again Greater p q = refl

-- where the fronts are as long as each other, they decide before what comes after them
pub octet_order_append : (a b c d : List ℕ) → length a ≡ length c → octet_order (a ++ b) (c ++ d) ≡ ordering_then (octet_order a c) (octet_order b d)
octet_order_append [] b [] d h = refl
octet_order_append [] b (y ∷ ys) d h = absurd (omega arith)
octet_order_append (x ∷ xs) b [] d h = absurd (omega arith)
octet_order_append (x ∷ xs) b (y ∷ ys) d h = rw (octet_order_append xs b ys d (omega (arith, h)), then_again (nat_cmp x y) (octet_order xs ys) (octet_order b d)) refl
