-- Leases in order: the first one says whether one has ended; and one is renewed.
use Rattle.std.proofs.Common.{◌≡◌, ℕ, ◌<◌, ◌≤◌, ◌^◌, ◌==◌, min, nat_lt, Bool, true, false, ◌&&◌, ◌||◌, cond, if◌then◌else◌, Option, Some, None, List, [], ◌∷◌, refl, sym, ap, ◌∙◌, arith}
use Rattle.std.specs.List.{AllByRecursion}
use Rattle.std.specs.List.Sorted.{IsStrictlySortedBy}
use Rattle.std.specs.BTreeSet.{insert_key}
use Rattle.std.specs.Set.{remove_key}
use Rattle.std.specs.Ordering.{is_eq, match_ordering, nat_cmp, ordering_then}
use Rattle.std.specs.declared.cmp.Ordering.{Ordering}
use Rattle.std.specs.declared.cmp.Ordering.TheVariants.{Less, Equal, Greater}
use Rattle.std.proofs.lemmas.Bool.Decides.{nat_tests}
use Rattle.std.proofs.lemmas.Map.Keys.{sorted_head}
use Rattle.std.proofs.lemmas.Map.Text.{is_eq-slice_cmp}
use Rattle.std.proofs.lemmas.Slice.Eq.{bytes_eq-Decides}
use Rattle.rtps_types.specs.declared.identity.GuidPrefix.{GuidPrefix}
use Rattle.rtps_types.specs.Order.{octet_order}
use Rattle.std.specs.Map.{lookup}
use Rattle.rtps_discovery.specs.Known.{RemoteParticipant, prefix_order}
use Rattle.rtps_discovery.proofs.Taking.{turned}
use Rattle.rtps_discovery.specs.Ends.{Covers, EndsAt, Renews, end_of, end_order, has_due, has_end, is_due, is_last, soonest_of}

pub none_sorted : IsStrictlySortedBy end_order []
unfolding IsStrictlySortedBy
none_sorted = tt

not_less : (a b : ℕ) (o : Ordering) → ordering_then (nat_cmp a b) o ≡ Less → a ≤ b
not_less a b o h = by_test (nat_lt b a) refl
  where
    by_test : (t : Bool) → nat_lt b a ≡ t → a ≤ b
    by_test false e = grind (arith, nat_tests)
    by_test true e =
        let bad : nat_cmp a b ≡ Greater = greater a b e in
        let worse : Greater ≡ Less = sym (ap (λ r. ordering_then r o) bad) ∙ h in absurd cc
      where
        greater : (a b : ℕ) → nat_lt b a ≡ true → nat_cmp a b ≡ Greater
        greater a b e = grind (arith, nat_tests)

later_not : (moment : ℕ) (e : ℕ × GuidPrefix) (es : List (ℕ × GuidPrefix)) → AllByRecursion (λ y. end_order e y ≡ Less) es → nat_lt e.0 moment ≡ false → is_due es moment ≡ false
later_not moment e [] above h = refl
later_not moment e (x ∷ es) above h =
    let le : e.0 ≤ x.0 = not_less e.0 x.0 (octet_order e.1.0 x.1.0) above.0 in
    let here : nat_lt x.0 moment ≡ false = grind (arith, nat_tests) in
    ap (λ b. b || is_due es moment) here ∙ later_not moment e es above.1 h

pub first_tells : (es : List (ℕ × GuidPrefix)) (moment : ℕ) → moment < 2 ^ 64 → IsStrictlySortedBy end_order es → nat_lt (soonest_of es) moment ≡ is_due es moment
first_tells [] moment fits up = grind (arith, nat_tests)
first_tells (e ∷ es) moment fits up = by_test (nat_lt e.0 moment) refl
  where
    by_test : (t : Bool) → nat_lt e.0 moment ≡ t → t ≡ (t || is_due es moment)
    by_test true h = refl
    by_test false h = sym (later_not moment e es (sorted_head end_order e es up) h)

-- ---- one is renewed

pub prefix_is : (p q : GuidPrefix) → is_eq (prefix_order p q) ≡ true → p ≡ q
prefix_is p q h =
    let one : p.0 ≡ q.0 = (bytes_eq-Decides p.0 q.0).0 (sym (is_eq-slice_cmp p.0 q.0) ∙ h) in
    let f : List ℕ → GuidPrefix = λ l. record { 0 = l } in ap f one

pub prefix_itself : (p : GuidPrefix) → is_eq (prefix_order p p) ≡ true
prefix_itself p = is_eq-slice_cmp p.0 p.0 ∙ (bytes_eq-Decides p.0 p.0).1 refl

pub both_equal : (l m : ℕ) (q p : GuidPrefix) → is_eq (end_order (l, q) (m, p)) ≡ ((l == m) && is_eq (prefix_order q p))
both_equal l m q p = by_order (nat_cmp l m) refl
  where
    by_order : (o : Ordering) → nat_cmp l m ≡ o → is_eq (ordering_then o (octet_order q.0 p.0)) ≡ ((l == m) && is_eq (prefix_order q p))
    by_order Less e = let apart : (l == m) ≡ false = grind (arith, nat_tests) in rw apart refl
    by_order Greater e = let apart : (l == m) ≡ false = grind (arith, nat_tests) in rw apart refl
    by_order Equal e = let same : (l == m) ≡ true = grind (arith, nat_tests) in rw same refl

at_same : (prefix p : GuidPrefix) (o : Option ℕ) (ends : List (ℕ × GuidPrefix)) (m : ℕ) → EndsAt prefix o ends → is_eq (prefix_order prefix p) ≡ true → has_end ends m p ≡ is_last m o
at_same prefix p o ends m at h = ap (has_end ends m) (sym (prefix_is prefix p h)) ∙ at m

pub stays : (prefix : GuidPrefix) (o : Option ℕ) (ends : List (ℕ × GuidPrefix)) → EndsAt prefix o ends → Renews prefix o ends ends
stays prefix o ends at = λ m p. by_test m p (is_eq (prefix_order prefix p)) refl
  where
    by_test : (m : ℕ) (p : GuidPrefix) (t : Bool) → is_eq (prefix_order prefix p) ≡ t → has_end ends m p ≡ (if t then is_last m o else has_end ends m p)
    by_test m p true h = at_same prefix p o ends m at h
    by_test m p false h = refl

pub stays_ended : (prefix : GuidPrefix) (ends : List (ℕ × GuidPrefix)) → EndsAt prefix None ends → Renews prefix None ends ends
stays_ended prefix ends at = stays prefix None ends at

pub begun : (prefix : GuidPrefix) (last : ℕ) (old new : List (ℕ × GuidPrefix)) → ((m : ℕ) (p : GuidPrefix) → has_end new m p ≡ cond (is_eq (end_order (last, prefix) (m, p))) true (has_end old m p)) → EndsAt prefix None old → Renews prefix (Some last) old new
begun prefix last old new is at = λ m p. is m p ∙ ap (λ b. cond b true (has_end old m p)) (both_equal last m prefix p) ∙ by_test m p (is_eq (prefix_order prefix p)) refl
  where
    by_moment : (b : Bool) → cond (b && true) true false ≡ b
    by_moment true = refl
    by_moment false = refl

    by_other : (b x : Bool) → cond (b && false) true x ≡ x
    by_other true x = refl
    by_other false x = refl

    by_test : (m : ℕ) (p : GuidPrefix) (t : Bool) → is_eq (prefix_order prefix p) ≡ t → cond ((last == m) && t) true (has_end old m p) ≡ (if t then last == m else has_end old m p)
    by_test m p true h = ap (λ x. cond ((last == m) && true) true x) (at_same prefix p None old m at h) ∙ by_moment (last == m)
    by_test m p false h = by_other (last == m) (has_end old m p)

pub ended : (prefix : GuidPrefix) (last : ℕ) (old new : List (ℕ × GuidPrefix)) → ((m : ℕ) (p : GuidPrefix) → has_end new m p ≡ cond (is_eq (end_order (last, prefix) (m, p))) false (has_end old m p)) → EndsAt prefix (Some last) old → Renews prefix None old new
ended prefix last old new is at = λ m p. is m p ∙ ap (λ b. cond b false (has_end old m p)) (both_equal last m prefix p) ∙ by_test m p (is_eq (prefix_order prefix p)) refl
  where
    by_moment : (b : Bool) → cond (b && true) false b ≡ false
    by_moment true = refl
    by_moment false = refl

    by_other : (b x : Bool) → cond (b && false) false x ≡ x
    by_other true x = refl
    by_other false x = refl

    by_test : (m : ℕ) (p : GuidPrefix) (t : Bool) → is_eq (prefix_order prefix p) ≡ t → cond ((last == m) && t) false (has_end old m p) ≡ (if t then false else has_end old m p)
    by_test m p true h = ap (λ x. cond ((last == m) && true) false x) (at_same prefix p (Some last) old m at h) ∙ by_moment (last == m)
    by_test m p false h = by_other (last == m) (has_end old m p)

pub ends_then : (prefix : GuidPrefix) (last : Option ℕ) (old new : List (ℕ × GuidPrefix)) → Renews prefix last old new → EndsAt prefix last new
ends_then prefix last old new renews = λ m. renews m prefix ∙ ap (λ b. if b then is_last m last else has_end old m prefix) (prefix_itself prefix)

pub renewed : (prefix : GuidPrefix) (last : Option ℕ) (old mid new : List (ℕ × GuidPrefix)) → Renews prefix None old mid → Renews prefix last mid new → Renews prefix last old new
renewed prefix last old mid new first next = λ m p. next m p ∙ by_test m p (is_eq (prefix_order prefix p)) refl
  where
    by_test : (m : ℕ) (p : GuidPrefix) (t : Bool) → is_eq (prefix_order prefix p) ≡ t → (if t then is_last m last else has_end mid m p) ≡ (if t then is_last m last else has_end old m p)
    by_test m p true h = refl
    by_test m p false h = first m p ∙ ap (λ b. if b then false else has_end old m p) h

-- so the index has the last moments of the participants that are there then
pub covers_then : (prefix : GuidPrefix) (o : Option RemoteParticipant) (old new : List (ℕ × GuidPrefix)) (ps qs : List (GuidPrefix × RemoteParticipant)) → Renews prefix (end_of o) old new
    → ((p : GuidPrefix) → lookup (λ q. is_eq (prefix_order p q)) qs ≡ cond (is_eq (prefix_order prefix p)) o (lookup (λ q. is_eq (prefix_order p q)) ps)) → Covers old ps → Covers new qs
covers_then prefix o old new ps qs renews is covers = λ p m. renews m p ∙ by_test p m (is_eq (prefix_order prefix p)) ∙ ap (λ x. is_last m (end_of x)) (sym (is p))
  where
    by_test : (p : GuidPrefix) (m : ℕ) (t : Bool) → (if t then is_last m (end_of o) else has_end old m p) ≡ is_last m (end_of (cond t o (lookup (λ q. is_eq (prefix_order p q)) ps)))
    by_test p m true = refl
    by_test p m false = covers p m

-- ---- who is due

flip : (p q : GuidPrefix) → is_eq (prefix_order p q) ≡ is_eq (prefix_order q p)
flip p q = is_eq-slice_cmp p.0 q.0 ∙ turned p.0 q.0 ∙ sym (is_eq-slice_cmp q.0 p.0)

pub none_sooner : (moment : ℕ) (e : ℕ × GuidPrefix) (es : List (ℕ × GuidPrefix)) → IsStrictlySortedBy end_order (e ∷ es) → moment ≤ e.0 → (q : GuidPrefix) → has_due (e ∷ es) moment q ≡ false
none_sooner moment e es up le q = ap (λ b. (b && is_eq (prefix_order q e.1)) || has_due es moment q) here ∙ later es (sorted_head end_order e es up)
  where
    here : nat_lt e.0 moment ≡ false
    here = grind (arith, nat_tests)

    later : (xs : List (ℕ × GuidPrefix)) → AllByRecursion (λ y. end_order e y ≡ Less) xs → has_due xs moment q ≡ false
    later [] above = refl
    later (x ∷ xs) above =
        let more : e.0 ≤ x.0 = not_less e.0 x.0 (octet_order e.1.0 x.1.0) above.0 in
        let there : nat_lt x.0 moment ≡ false = grind (arith, nat_tests) in
        ap (λ b. (b && is_eq (prefix_order q x.1)) || has_due xs moment q) there ∙ later xs above.1

pub one_sooner : (moment : ℕ) (e : ℕ × GuidPrefix) (es : List (ℕ × GuidPrefix)) → e.0 < moment → (q : GuidPrefix) → has_due (e ∷ es) moment q ≡ (is_eq (prefix_order q e.1) || has_due es moment q)
one_sooner moment e es less q = let here : nat_lt e.0 moment ≡ true = grind (arith, nat_tests) in ap (λ b. (b && is_eq (prefix_order q e.1)) || has_due es moment q) here

pub one_found : (p q : GuidPrefix) (f g o n all : Bool) → g ≡ cond (is_eq (prefix_order p q)) true f → o ≡ (is_eq (prefix_order q p) || n) → (f || o) ≡ all → (g || n) ≡ all
one_found p q f g o n all put first was = ap (λ b. b || n) (put ∙ ap (λ t. cond t true f) (flip p q)) ∙ by_test (is_eq (prefix_order q p)) f ∙ ap (λ b. f || b) (sym first) ∙ was
  where
    by_test : (t f : Bool) → (cond t true f || n) ≡ (f || (t || n))
    by_test true true = refl
    by_test true false = refl
    by_test false f = refl

-- ---- the first one as one is removed or added

pub first_stays : (ends : List (ℕ × GuidPrefix)) (last : ℕ) (p : GuidPrefix) → (last == soonest_of ends) ≡ false → soonest_of (remove_key (λ e. is_eq (end_order (last, p) e)) ends) ≡ soonest_of ends
first_stays [] last p apart = refl
first_stays (e ∷ es) last p apart = by_test (is_eq (end_order (last, p) e)) refl
  where
    by_test : (t : Bool) → is_eq (end_order (last, p) e) ≡ t → soonest_of (cond t es (e ∷ remove_key (λ x. is_eq (end_order (last, p) x)) es)) ≡ e.0
    by_test false h = refl
    by_test true h = let bad : ((last == e.0) && is_eq (prefix_order p e.1)) ≡ true = sym (both_equal last e.0 p e.1) ∙ h in let worse : (false && is_eq (prefix_order p e.1)) ≡ true = rw apart at bad in absurd cc

not_greater : (a b : ℕ) (o : Ordering) → ordering_then (nat_cmp a b) o ≡ Greater → b ≤ a
not_greater a b o h = by_order (nat_cmp a b) refl h
  where
    by_order : (r : Ordering) → nat_cmp a b ≡ r → ordering_then r o ≡ Greater → b ≤ a
    by_order Less e f = absurd cc
    by_order Equal e f = grind (arith, nat_tests)
    by_order Greater e f = grind (arith, nat_tests)

same_moment : (a b : ℕ) (o : Ordering) → ordering_then (nat_cmp a b) o ≡ Equal → a ≡ b
same_moment a b o h = by_order (nat_cmp a b) refl h
  where
    by_order : (r : Ordering) → nat_cmp a b ≡ r → ordering_then r o ≡ Equal → a ≡ b
    by_order Less e f = absurd cc
    by_order Equal e f = grind (arith, nat_tests)
    by_order Greater e f = absurd cc

pub first_then : (ends : List (ℕ × GuidPrefix)) (last : ℕ) (p : GuidPrefix) → last < 2 ^ 64 → soonest_of (insert_key end_order ends (last, p)) ≡ min (soonest_of ends) last
first_then [] last p fits = omega arith
first_then (e ∷ es) last p fits = by_order (end_order (last, p) e) refl
  where
    by_order : (r : Ordering) → end_order (last, p) e ≡ r → soonest_of (match_ordering r ((last, p) ∷ e ∷ es) (e ∷ es) (e ∷ insert_key end_order es (last, p))) ≡ min e.0 last
    by_order Less h = let le : last ≤ e.0 = not_less last e.0 (octet_order p.0 e.1.0) h in omega arith
    by_order Equal h = let same : last ≡ e.0 = same_moment last e.0 (octet_order p.0 e.1.0) h in omega arith
    by_order Greater h = let le : e.0 ≤ last = not_greater last e.0 (octet_order p.0 e.1.0) h in omega arith
