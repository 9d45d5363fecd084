-- Octets as numbers: lists of one length are ordered as the numbers that they encode, the highest octet first.
use Rattle.std.proofs.Common.{◌≡◌, ℕ, zero, suc, ◌+◌, ◌*◌, ◌^◌, ◌<◌, ◌≤◌, List, [], ◌∷◌, length, take, drop, refl, sym, ap, ◌∙◌, arith}
use Rattle.std.specs.Prelude.{◌≢◌, slice_index}
use Rattle.std.proofs.Math.Nat.{add-mul, mul-le-mul_right}
use Rattle.std.proofs.lemmas.List.{get_or-drop, length-drop, length-take-le, take-append-drop, take_all}
use Rattle.std.specs.Cmp.{nat_cmp_is, ranks}
use Rattle.std.specs.Ordering.{MatchOrdering, nat_cmp, ordering_then}
use Rattle.std.specs.declared.cmp.Ordering.{Ordering}
use Rattle.std.specs.declared.cmp.Ordering.TheVariants.{Less, Equal, Greater}
use Rattle.byteorder.specs.Endian.{big_number}
use Rattle.byteorder.specs.Numbers.{big_from-cons, big_from-lt}
use Rattle.rtps_types.specs.Order.{octet_order}
use Rattle.rtps_types.proofs.Orders.{octet_order_append, then_again}

abbrev AreOctets : List ℕ → Type 0
AreOctets xs = (k : ℕ) → slice_index xs k < 256

-- the same number before both changes nothing
shifted : (c a b : ℕ) → nat_cmp (c + a) (c + b) ≡ nat_cmp a b
shifted c a b = sym (nat_cmp_is (c + a) (c + b) (nat_cmp a b) (moved (nat_cmp a b) (ranks a b)))
  where
    moved : (o : Ordering) → MatchOrdering o (a < b) (a ≡ b) (b < a) → MatchOrdering o (c + a < c + b) (c + a ≡ c + b) (c + b < c + a)
    moved Less l = let h : a < b = l in let r : c + a < c + b = omega arith in r
    moved Equal e = ap (λ n. c + n) e
    moved Greater l = let h : b < a = l in let r : c + b < c + a = omega arith in r

-- a greater digit decides before all that comes after it
digit_below : (u v a b m : ℕ) → u < v → a < m → u * m + a < v * m + b
digit_below u v a b m l below =
    let step : (u + 1) * m ≤ v * m = mul-le-mul_right m (omega arith) in
    let split : (u + 1) * m ≡ u * m + 1 * m = add-mul u 1 m in
    omega arith

digits_order : (u v a b m : ℕ) → a < m → b < m → nat_cmp (u * m + a) (v * m + b) ≡ ordering_then (nat_cmp u v) (nat_cmp a b)
digits_order u v a b m low high = by_order (nat_cmp u v) (ranks u v)
  where
    by_order : (o : Ordering) → MatchOrdering o (u < v) (u ≡ v) (v < u) → nat_cmp (u * m + a) (v * m + b) ≡ ordering_then o (nat_cmp a b)
    by_order Less l = sym (nat_cmp_is (u * m + a) (v * m + b) Less (digit_below u v a b m l low))
    by_order Equal e = ap (λ w. nat_cmp (w * m + a) (v * m + b)) e ∙ shifted (v * m) a b
    by_order Greater l = sym (nat_cmp_is (u * m + a) (v * m + b) Greater (digit_below v u b a m l high))

numbers_order : (n : ℕ) (us vs : List ℕ) → n ≤ length us → n ≤ length vs → AreOctets us → AreOctets vs → nat_cmp (big_number n us) (big_number n vs) ≡ octet_order (take n us) (take n vs)
numbers_order zero us vs p q g h = refl
numbers_order (suc n) [] vs p q g h = absurd (omega arith)
numbers_order (suc n) (u ∷ us) [] p q g h = absurd (omega arith)
numbers_order (suc n) (u ∷ us) (v ∷ vs) p q g h =
    let rest = numbers_order n us vs (omega arith) (omega arith) (λ k. g (suc k)) (λ k. h (suc k)) in
    let low = big_from-lt 0 n us (λ k. g (suc k)) in
    let high = big_from-lt 0 n vs (λ k. h (suc k)) in
    (λ i. nat_cmp (u * 256 ^ n + big_from-cons 0 n u us i) (v * 256 ^ n + big_from-cons 0 n v vs i))
    ∙ digits_order u v (big_number n us) (big_number n vs) (256 ^ n) low high
    ∙ ap (ordering_then (nat_cmp u v)) rest

-- all the octets of one number
pub number_order : (n : ℕ) (us vs : List ℕ) → length us ≡ n → length vs ≡ n → AreOctets us → AreOctets vs → nat_cmp (big_number n us) (big_number n vs) ≡ octet_order us vs
number_order n us vs p q g h =
    numbers_order n us vs (omega arith) (omega arith) g h
    ∙ (λ i. octet_order (take_all n us (omega arith) i) (take_all n vs (omega arith) i))

dropped : (n : ℕ) (xs : List ℕ) → AreOctets xs → AreOctets (drop n xs)
dropped n xs h k = rw (get_or-drop n xs k 0) (h (n + k))

-- those of two numbers, one after the other
two_numbers_order : (n m : ℕ) (us vs : List ℕ) → length us ≡ n + m → length vs ≡ n + m → AreOctets us → AreOctets vs
    → ordering_then (nat_cmp (big_number n us) (big_number n vs)) (nat_cmp (big_number m (drop n us)) (big_number m (drop n vs))) ≡ octet_order us vs
two_numbers_order n m us vs p q g h =
    let fronts = numbers_order n us vs (omega arith) (omega arith) g h in
    let left : length (drop n us) ≡ m = omega (arith, length-drop n us) in
    let right : length (drop n vs) ≡ m = omega (arith, length-drop n vs) in
    let backs = number_order m (drop n us) (drop n vs) left right (dropped n us g) (dropped n vs h) in
    let long : length (take n us) ≡ length (take n vs) = length-take-le n us (omega arith) ∙ sym (length-take-le n vs (omega arith)) in
    (λ i. ordering_then (fronts i) (backs i))
    ∙ sym (octet_order_append (take n us) (drop n us) (take n vs) (drop n vs) long)
    ∙ (λ i. octet_order (take-append-drop n us i) (take-append-drop n vs i))

-- the same by what was read of them
pub decided_by : (n m : ℕ) (us vs : List ℕ) → length us ≡ n + m → length vs ≡ n + m → AreOctets us → AreOctets vs
    → {x y z w : ℕ} → x ≡ big_number n us → y ≡ big_number n vs → z ≡ big_number m (drop n us) → w ≡ big_number m (drop n vs)
    → ordering_then (nat_cmp x y) (nat_cmp z w) ≡ octet_order us vs
decided_by n m us vs p q g h a b c d = (λ i. ordering_then (nat_cmp (a i) (b i)) (nat_cmp (c i) (d i))) ∙ two_numbers_order n m us vs p q g h

-- twelve octets and then four, by the first eight and the last eight of them
pub sixteen_order : (us vs ws zs : List ℕ) → length us ≡ 12 → length vs ≡ 12 → length ws ≡ 4 → length zs ≡ 4 → AreOctets us → AreOctets vs → AreOctets ws → AreOctets zs
    → {x y z w : ℕ} → x ≡ big_number 8 us → y ≡ big_number 8 vs
    → z ≡ big_number 4 (drop 8 us) * 2 ^ 32 + big_number 4 ws → w ≡ big_number 4 (drop 8 vs) * 2 ^ 32 + big_number 4 zs
    → ordering_then (nat_cmp x y) (nat_cmp z w) ≡ ordering_then (octet_order us vs) (octet_order ws zs)
sixteen_order us vs ws zs p q r s g h k l a b c d =
    let fronts = nat_cmp (big_number 8 us) (big_number 8 vs) in
    let middles = nat_cmp (big_number 4 (drop 8 us)) (big_number 4 (drop 8 vs)) in
    let low = big_from-lt 0 4 ws k in
    let high = big_from-lt 0 4 zs l in
    (λ i. ordering_then (nat_cmp (a i) (b i)) (nat_cmp (c i) (d i)))
    ∙ ap (ordering_then fronts) (digits_order (big_number 4 (drop 8 us)) (big_number 4 (drop 8 vs)) (big_number 4 ws) (big_number 4 zs) (2 ^ 32) (omega (arith, low)) (omega (arith, high)))
    ∙ then_again fronts middles (nat_cmp (big_number 4 ws) (big_number 4 zs))
    ∙ (λ i. ordering_then (two_numbers_order 8 4 us vs p q g h i) (number_order 4 ws zs r s k l i))

-- what differs decides, and where nothing does the rest
pub then_apart : (x y : ℕ) (o : Ordering) → (x ≢ y) → ordering_then (nat_cmp x y) o ≡ nat_cmp x y
then_apart x y o apart = by_order (nat_cmp x y) (ranks x y)
  where
    by_order : (r : Ordering) → MatchOrdering r (x < y) (x ≡ y) (y < x) → ordering_then r o ≡ r
    by_order Less l = refl
    by_order Equal e = absurd (apart e)
    by_order Greater l = refl

pub then_alike : (x y : ℕ) (o : Ordering) → x ≡ y → ordering_then (nat_cmp x y) o ≡ o
then_alike x y o same = ap (λ r. ordering_then r o) (sym (nat_cmp_is x y Equal same))
