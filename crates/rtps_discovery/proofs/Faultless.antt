-- A configuration is taken exactly where each of its parts is good.
use Rattle.std.proofs.Common.{◌≡◌, ℕ, zero, suc, ◌≤◌, ◌==◌, nat_lt, List, [], ◌∷◌, length, Bool, true, false, ◌||◌, if◌then◌else◌, Result, Ok, Err, All, AllPairs, IsFalse, refl, arith}
use Rattle.std.specs.List.{list_any}
use Rattle.std.proofs.lemmas.Bool.{ltb-false, le-ltb}
use Rattle.std.proofs.lemmas.Bool.Decides.{nat_tests}
use Rattle.std.proofs.lemmas.List.Elements.{All-cons}
use Rattle.std.proofs.lemmas.List.Folds.{list_any_none}
use Rattle.std.proofs.lemmas.List.Kept.{AllPairs-cons}
use Rattle.rtps_discovery.specs.declared.faults.ConfigFault.{ConfigFault}
use Rattle.rtps_discovery.specs.declared.faults.ConfigFault.TheVariants.{Readers, BadReader, BadFixed}
use Rattle.rtps_discovery.specs.Config.{check_of, TakenIsFaultless, has_fault, has_twice, is_bad_fixed, is_bad_reader, is_same_entity, is_same_pair}

neither : (a b : Bool) → (a || b) ≡ false → IsFalse a × IsFalse b
neither false false h = (refl, refl)
neither false true h = cc
neither true b h = cc

not_either : (a b : Bool) → IsFalse a → IsFalse b → (a || b) ≡ false
not_either false false f g = refl
not_either false true f g = cc
not_either true b f g = cc

none_any : {X : Type 0} (p : X → Bool) (xs : List X) → list_any p xs ≡ false → All (λ x. IsFalse (p x)) xs
none_any p [] h = λ k d within. absurd (omega arith)
none_any p (x ∷ xs) h =
    let parts = neither (p x) (list_any p xs) h in
    All-cons (λ y. IsFalse (p y)) x xs parts.0 (none_any p xs parts.1)

differ : {X : Type 0} (same : X → X → Bool) (xs : List X) → has_twice same xs ≡ false → AllPairs (λ a b. IsFalse (same a b)) xs
differ same [] h = λ i j d before within. absurd (omega arith)
differ same (x ∷ xs) h =
    let parts = neither (list_any (same x) xs) (has_twice same xs) h in
    AllPairs-cons (λ a b. IsFalse (same a b)) x xs (none_any (same x) xs parts.0) (differ same xs parts.1)

not_twice : {X : Type 0} (same : X → X → Bool) (xs : List X) → AllPairs (λ a b. IsFalse (same a b)) xs → has_twice same xs ≡ false
not_twice same [] h = refl
not_twice same (x ∷ xs) h =
    not_either (list_any (same x) xs) (has_twice same xs)
    (list_any_none (same x) xs (λ k d within. h zero (suc k) d (omega arith) (omega arith)))
    (not_twice same xs (λ i j d before within. h (suc i) (suc j) d (omega arith) (omega arith)))

answer : Bool → Bool → Bool → Result (Unit {0}) ConfigFault
answer a b c = if a then Err Readers else if b then Err BadReader else if c then Err BadFixed else Ok tt

no_fault : (a b c : Bool) → answer a b c ≡ Ok tt → IsFalse a × IsFalse b × IsFalse c
unfolding answer
no_fault false false false h = (refl, refl, refl)
no_fault false false true h = cc
no_fault false true c h = cc
no_fault true b c h = cc

faultless : (a b c : Bool) → IsFalse a → IsFalse b → IsFalse c → answer a b c ≡ Ok tt
unfolding answer
faultless false false false f g h = refl
faultless false false true f g h = cc
faultless false true c f g h = cc
faultless true b c f g h = cc

counted : (n : ℕ) → (n == 0 || nat_lt 256 n) ≡ false → (1 ≤ n) × (n ≤ 256)
counted zero h = cc
counted (suc n) h = (omega arith, ltb-false 256 (suc n) (neither (suc n == 0) (nat_lt 256 (suc n)) h).1)

within_count : (n : ℕ) → 1 ≤ n → n ≤ 256 → (n == 0 || nat_lt 256 n) ≡ false
within_count zero low high = absurd (omega arith)
within_count (suc n) low high = not_either (suc n == 0) (nat_lt 256 (suc n)) (grind (arith, nat_tests)) (le-ltb 256 (suc n) high)

pub taken_is_faultless : TakenIsFaultless
unfolding answer check_of
taken_is_faultless c = (
  λ h. let none = no_fault (has_fault Readers c) (has_fault BadReader c) (has_fault BadFixed c) h in
      let count = counted (length c.readers.items) none.0 in
      let readers = neither (list_any is_bad_reader c.readers.items) (has_twice is_same_entity c.readers.items) none.1 in
      let fixed = neither (list_any (is_bad_fixed c.own (length c.readers.items)) c.fixed.items) (has_twice is_same_pair c.fixed.items) none.2 in
      record {
        some_reader = count.0;
        readers_at_most = count.1;
        good_readers = none_any is_bad_reader c.readers.items readers.0;
        entities_differ = differ is_same_entity c.readers.items readers.1;
        good_fixed = none_any (is_bad_fixed c.own (length c.readers.items)) c.fixed.items fixed.0;
        pairs_differ = differ is_same_pair c.fixed.items fixed.1;
      },
  λ f. faultless (has_fault Readers c) (has_fault BadReader c) (has_fault BadFixed c)
      (within_count (length c.readers.items) f.some_reader f.readers_at_most)
      (not_either (list_any is_bad_reader c.readers.items) (has_twice is_same_entity c.readers.items)
      (list_any_none is_bad_reader c.readers.items f.good_readers)
      (not_twice is_same_entity c.readers.items f.entities_differ))
      (not_either (list_any (is_bad_fixed c.own (length c.readers.items)) c.fixed.items) (has_twice is_same_pair c.fixed.items)
      (list_any_none (is_bad_fixed c.own (length c.readers.items)) c.fixed.items f.good_fixed)
      (not_twice is_same_pair c.fixed.items f.pairs_differ)),
)
