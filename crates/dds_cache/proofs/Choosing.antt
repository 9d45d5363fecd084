-- The first entries that pass a test.
use Rattle.std.proofs.Common.{◌≡◌, ℕ, zero, suc, ◌-◌, ◌<◌, ◌≤◌, Bool, true, false, List, [], ◌∷◌, ◌++◌, map, cond, Some, None, refl, sym, ap, ◌∙◌, arith, append_assoc, append-nil, length, ◌+◌, subst}
use Rattle.std.specs.Prelude.{Option, filter, if◌then◌else◌, not, ◌&&◌, ◌||◌, IfOk, Result}
use Rattle.std.specs.declared.alloc.AllocError.{AllocError}
use Rattle.std.specs.List.{AllByRecursion}
use Rattle.std.specs.Map.{lookup}
use Rattle.std.proofs.lemmas.Bool.Decides.{nat_tests}
use Rattle.std.proofs.lemmas.List.{length-append, length-map}
use Rattle.rtps_types.specs.declared.identity.KeyHash.{KeyHash}
use Rattle.dds_cache.specs.declared.condition.Condition.{Condition}
use Rattle.dds_cache.specs.declared.entry.Entry.{Entry}
use Rattle.dds_cache.specs.Cache.{first_by}
use Rattle.dds_cache.specs.Effects.{AddsFirst, chosen_by, judged_at, looked, passes, with_found}
use Rattle.dds_cache.specs.declared.choose.Chosen.{Chosen}
use Rattle.dds_cache.specs.Placed.{placed}
use Rattle.dds_cache.specs.Standing.{InstanceView, Rising, alive_in, is_number, new_in, not_yet, numbers}

pub first_zero : {E : Type 0} (p : E → Bool) (es : List E) → first_by p 0 es ≡ []
first_zero p [] = refl
first_zero p (e ∷ es) = refl

some_left : {E : Type 0} (p : E → Bool) (m : ℕ) (e : E) (es : List E) → 0 < m → first_by p m (e ∷ es) ≡ (if p e then e ∷ first_by p (m - 1) es else first_by p m es)
some_left p zero e es h = absurd (omega (arith, h))
some_left p (suc m) e es h = ap (λ k. if p e then e ∷ first_by p k es else first_by p (suc m) es) (omega arith)

module _ {C E : Type 0} (p : E → Bool) (f : E → C) where
  -- one more is chosen
  pub one_more : (cs all : List C) (m : ℕ) (e : E) (es : List E) (c : C) → 0 < m → p e ≡ true → f e ≡ c → cs ++ map f (first_by p m (e ∷ es)) ≡ all → (cs ++ c ∷ []) ++ map f (first_by p (m - 1) es) ≡ all
  one_more cs all m e es c left h is so =
      append_assoc cs (c ∷ []) (map f (first_by p (m - 1) es)) ∙ ap (λ x. cs ++ x ∷ map f (first_by p (m - 1) es)) (sym is)
      ∙ ap (λ l. cs ++ map f l) (sym (some_left p m e es left ∙ ap (λ b. if b then e ∷ first_by p (m - 1) es else first_by p m es) h)) ∙ so

  -- this one isn't
  pub not_this : (cs all : List C) (m : ℕ) (e : E) (es : List E) → 0 < m → p e ≡ false → cs ++ map f (first_by p m (e ∷ es)) ≡ all → cs ++ map f (first_by p m es) ≡ all
  not_this cs all m e es left h so =
      ap (λ l. cs ++ map f l) (sym (some_left p m e es left ∙ ap (λ b. if b then e ∷ first_by p (m - 1) es else first_by p m es) h)) ∙ so

  -- no more is wanted
  pub enough : (cs all : List C) (m : ℕ) (es : List E) → m ≤ 0 → cs ++ map f (first_by p m es) ≡ all → cs ≡ all
  enough cs all zero es h so = sym (append-nil cs) ∙ ap (λ l. cs ++ map f l) (sym (first_zero p es)) ∙ so
  enough cs all (suc m) es h so = absurd (omega (arith, h))

-- n more are wanted
pub more_wanted : {C E : Type 0} (f : E → C) (cs old : List C) (fs : List E) (left max : ℕ) → length cs + left ≡ length old + max → cs ≡ old ++ map f fs → left ≡ max - length fs
more_wanted f cs old fs left max sum is =
    let both = length-append old (map f fs) in let same = length-map fs f in let whole : length cs ≡ length (old ++ map f fs) = ap length is in omega (arith, sum, both, same, whole)

pub none_left : {C E : Type 0} (p : E → Bool) (f : E → C) (cs all : List C) (m : ℕ) → cs ++ map f (first_by p m []) ≡ all → cs ≡ all
none_left p f cs all m so = sym (append-nil cs) ∙ so

pub one_less : {C : Type 0} (cs now : List C) (c : C) (left sum : ℕ) → 0 < left → now ≡ cs ++ c ∷ [] → length cs + left ≡ sum → length now + (left - 1) ≡ sum
one_less cs now c left sum some is before = let more = length-append cs (c ∷ []) in let whole : length now ≡ length (cs ++ c ∷ []) = ap length is in omega (arith, some, more, whole, before)

-- the first of two lists, and then what is still wanted of the second
pub first_both : {E : Type 0} (p : E → Bool) (m : ℕ) (xs ys : List E) → first_by p m (xs ++ ys) ≡ first_by p m xs ++ first_by p (m - length (first_by p m xs)) ys
first_both p m [] ys = ap (λ n. first_by p n ys) (omega arith)
first_both p zero (x ∷ xs) ys = sym (first_zero p ys) ∙ ap (λ n. first_by p n ys) (omega arith)
first_both p (suc m) (x ∷ xs) ys = by_test (p x) (first_both p m xs ys) (first_both p (suc m) xs ys)
  where
    by_test : (b : Bool) → first_by p m (xs ++ ys) ≡ first_by p m xs ++ first_by p (m - length (first_by p m xs)) ys → first_by p (suc m) (xs ++ ys) ≡ first_by p (suc m) xs ++ first_by p (suc m - length (first_by p (suc m) xs)) ys
        → (if b then x ∷ first_by p m (xs ++ ys) else first_by p (suc m) (xs ++ ys))
        ≡ (if b then x ∷ first_by p m xs else first_by p (suc m) xs) ++ first_by p (suc m - length (if b then x ∷ first_by p m xs else first_by p (suc m) xs)) ys
    by_test true one rest = ap (λ l. x ∷ l) one ∙ ap (λ n. x ∷ (first_by p m xs ++ first_by p n ys)) (omega arith)
    by_test false one rest = rest

-- a test that asks for another as well
pub among_those : {E : Type 0} (p q : E → Bool) → ((e : E) → p e ≡ true → q e ≡ true) → (m : ℕ) (es : List E) → first_by p m (filter q es) ≡ first_by p m es
among_those p q asks m [] = refl
among_those p q asks zero (e ∷ es) = first_zero p (filter q (e ∷ es))
among_those p q asks (suc m) (e ∷ es) = by_tests (q e) refl (p e) refl (among_those p q asks m es) (among_those p q asks (suc m) es)
  where
    by_tests : (a : Bool) → q e ≡ a → (b : Bool) → p e ≡ b → first_by p m (filter q es) ≡ first_by p m es → first_by p (suc m) (filter q es) ≡ first_by p (suc m) es
        → first_by p (suc m) (if a then e ∷ filter q es else filter q es) ≡ (if b then e ∷ first_by p m es else first_by p (suc m) es)
    by_tests true is true so more rest = rw so (ap (λ l. e ∷ l) more)
    by_tests true is false so more rest = rw so rest
    by_tests false is true so more rest = let bad : true ≡ false = sym (asks e so) ∙ is in absurd cc
    by_tests false is false so more rest = rest

pub number_itself : (n : ℕ) → is_number n n ≡ true
number_itself n = grind (arith, nat_tests)

pub number_apart : (n m : ℕ) → n < m → is_number m n ≡ false
number_apart n m h = grind (arith, nat_tests)

pub number_before : (n m : ℕ) → n < m → is_number n m ≡ false
number_before n m h = grind (arith, nat_tests)

-- an entry before these numbers isn't among theirs
pub looked_past : {M : Type 0} (e : ℕ × Entry M) (es : List (ℕ × Entry M)) (ns : List ℕ) → AllByRecursion (λ n. e.0 < n) ns → looked (e ∷ es) ns ≡ looked es ns
looked_past e es [] all = refl
looked_past e es (n ∷ ns) all =
    let apart : is_number n e.0 ≡ false = number_apart e.0 n all.0 in
    ap (λ b. with_found n (cond b (Some e.1) (lookup (is_number n) es)) (looked (e ∷ es) ns)) apart ∙ ap (with_found n (lookup (is_number n) es)) (looked_past e es ns all.1)

pub above : {M : Type 0} (q : ℕ × Entry M → Bool) (low n : ℕ) (es : List (ℕ × Entry M)) → n < low → Rising low es → AllByRecursion (λ m. n < m) (numbers (filter q es))
above q low n [] h up = tt
above q low n (e ∷ es) h up = by_test (q e) (above q (suc e.0) n es (omega (arith, h, up.0)) up.1)
  where
    by_test : (b : Bool) → AllByRecursion (λ m. n < m) (numbers (filter q es)) → AllByRecursion (λ m. n < m) (numbers (if b then e ∷ filter q es else filter q es))
    by_test true more = (omega (arith, h, up.0), more)
    by_test false more = more

-- the numbers of some entries name them
pub looked_all : {M : Type 0} (q : ℕ × Entry M → Bool) (low : ℕ) (es : List (ℕ × Entry M)) → Rising low es → looked es (numbers (filter q es)) ≡ filter q es
looked_all q low [] up = refl
looked_all q low (e ∷ es) up = by_test (q e) (looked_all q (suc e.0) es up.1)
  where
    rest : looked es (numbers (filter q es)) ≡ filter q es → looked (e ∷ es) (numbers (filter q es)) ≡ filter q es
    rest more = looked_past e es (numbers (filter q es)) (above q (suc e.0) e.0 es (omega arith) up.1) ∙ more

    by_test : (b : Bool) → looked es (numbers (filter q es)) ≡ filter q es → looked (e ∷ es) (numbers (if b then e ∷ filter q es else filter q es)) ≡ (if b then e ∷ filter q es else filter q es)
    by_test true more =
        ap (λ b. with_found e.0 (cond b (Some e.1) (lookup (is_number e.0) es)) (looked (e ∷ es) (numbers (filter q es)))) (number_itself e.0)
        ∙ ap (λ l. e ∷ l) (rest more)
    by_test false more = rest more

asks_for : {M : Type 0} (find : KeyHash → Option InstanceView) (flags : Condition) → flags.not_read ≡ true → (e : ℕ × Entry M) → passes find flags e ≡ true → not_yet e ≡ true
asks_for find flags set e h = by_tests flags.not_read e.1.is_read ((not flags.new || new_in (find e.1.key)) && (not flags.alive || alive_in (find e.1.key))) set h
  where
    by_tests : (a b r : Bool) → a ≡ true → ((not a || not b) && r) ≡ true → not b ≡ true
    by_tests true true r s h = absurd cc
    by_tests true false r s h = refl
    by_tests false b r s h = absurd cc

-- where only those are asked for that no call answered, their numbers are enough
pub from_numbers : {M : Type 0} (find : KeyHash → Option InstanceView) (flags : Condition) (max : ℕ) (es : List (ℕ × Entry M)) (ns : List ℕ) → flags.not_read ≡ true → ns ≡ numbers (filter not_yet es) → Rising 0 es
    → first_by (passes find flags) max (looked es ns) ≡ first_by (passes find flags) max es
from_numbers find flags max es ns set is up =
    ap (λ l. first_by (passes find flags) max (looked es l)) is
    ∙ ap (first_by (passes find flags) max) (looked_all not_yet 0 es up)
    ∙ among_those (passes find flags) not_yet (asks_for find flags set) max es

pub among_same : {M C : Type 0} (find : KeyHash → Option InstanceView) (flags : Condition) (f : ℕ × Entry M → C) (max : ℕ) (es : List (ℕ × Entry M)) (ns : List ℕ) (old new : List C) (r : Result ℕ AllocError) → flags.not_read ≡ true → ns ≡ numbers (filter not_yet es) → Rising 0 es
    → IfOk r (AddsFirst (passes find flags) f max (looked es ns) old new) → IfOk r (AddsFirst (passes find flags) f max es old new)
among_same find flags f max es ns old new r set is up so =
    subst (λ l. IfOk r (λ left. (new ≡ old ++ map f l) × (left ≡ max - length l))) (from_numbers find flags max es ns set is up) so

pub judged : {C : Type 0} (b : Bool) (x y : C) → Some y ≡ (if b then Some x else None) → (b ≡ true) × (x ≡ y)
judged true x y h = (refl, cc)
judged false x y h = absurd cc

pub refused : {C : Type 0} (b : Bool) (x : C) → None ≡ (if b then Some x else None) → b ≡ false
refused true x h = absurd cc
refused false x h = refl

-- ---- at a place

on : (n : ℕ) → suc n ≡ n + 1
on n = omega arith

module _ {M : Type 0} (find : KeyHash → Option InstanceView) (flags : Condition) where
  abbrev p : ℕ × Entry M → Bool
  p = passes find flags

  abbrev f : ℕ × Entry M → Chosen
  f = chosen_by find

  pub place_more : (cs all now : List Chosen) (m n : ℕ) (o : Option (Entry M)) (row rest : List (Option (Entry M))) (c : Chosen) → 0 < m → Some c ≡ judged_at find flags n o → row ≡ o ∷ rest → now ≡ cs ++ c ∷ [] → cs ++ map f (first_by p m (placed n row)) ≡ all
      → now ++ map f (first_by p (m - 1) (placed (n + 1) rest)) ≡ all
  place_more cs all now m n None row rest c left is cut more so = absurd cc
  place_more cs all now m n (Some e) row rest c left is cut more so =
      let j = judged (p (n, e)) (f (n, e)) c is in
      ap (λ l. l ++ map f (first_by p (m - 1) (placed (n + 1) rest))) more ∙ ap (λ k. (cs ++ c ∷ []) ++ map f (first_by p (m - 1) (placed k rest))) (sym (on n))
      ∙ one_more p f cs all m (n, e) (placed (suc n) rest) c left j.0 j.1 (ap (λ l. cs ++ map f (first_by p m (placed n l))) (sym cut) ∙ so)

  -- of two parts of a list the first n of the one, and then of the other
  pub both_chosen : (old new : List (ℕ × Entry M)) (start mid now : List Chosen) (max left : ℕ) → start ≡ [] → (mid ≡ start ++ map f (first_by p max old)) × (left ≡ max - length (first_by p max old)) → now ≡ mid ++ map f (first_by p left new) → now ≡ map f (first_by p max (old ++ new))
  both_chosen old new start mid now max left none one is =
      is ∙ ap (λ l. l ++ map f (first_by p left new)) (one.0 ∙ ap (λ l. l ++ map f (first_by p max old)) none) ∙ ap (λ m. map f (first_by p max old) ++ map f (first_by p m new)) one.1
      ∙ sym (map_append (first_by p max old) (first_by p (max - length (first_by p max old)) new)) ∙ ap (map f) (sym (first_both p max old new))
    where
      map_append : (xs ys : List (ℕ × Entry M)) → map f (xs ++ ys) ≡ map f xs ++ map f ys
      map_append [] ys = refl
      map_append (x ∷ xs) ys = ap (λ l. f x ∷ l) (map_append xs ys)
