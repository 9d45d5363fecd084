-- Participants that leave together: what is gone of lists in order, participant by participant.
use Rattle.std.proofs.Common.{◌≡◌, List, [], ◌∷◌, ◌++◌, Bool, true, false, not, ◌&&◌, ◌||◌, if◌then◌else◌, refl, sym, ap, ◌∙◌}
use Rattle.std.specs.Prelude.{filter}
use Rattle.std.specs.List.{AllByRecursion}
use Rattle.std.specs.List.Sorted.{IsStrictlySortedBy}
use Rattle.std.specs.Map.{keys_of}
use Rattle.std.specs.Ordering.{is_eq, ordering_reverse}
use Rattle.std.specs.Str.{bytes_eq}
use Rattle.std.specs.declared.cmp.Ordering.{Ordering}
use Rattle.std.specs.declared.cmp.Ordering.TheVariants.{Less, Equal, Greater}
use Rattle.std.proofs.lemmas.Map.Keys.{sorted_head, sorted_tail}
use Rattle.rtps_types.specs.declared.identity.Guid.{Guid}
use Rattle.rtps_types.specs.declared.identity.GuidPrefix.{GuidPrefix}
use Rattle.rtps_types.specs.Order.{guid_order}
use Rattle.rtps_discovery.specs.Known.{RemoteParticipant, is_of, prefix_order}
use Rattle.rtps_discovery.specs.Leave.{gone_by}
use Rattle.rtps_discovery.proofs.Guids.{equal_from, flipped, prefix_total}
use Rattle.rtps_discovery.proofs.Taking.{of, of_equal, others, sorted_filter}

filter_none : {X : Type 0} (p : X → Bool) (xs : List X) → AllByRecursion (λ x. p x ≡ false) xs → filter p xs ≡ []
filter_none p [] none = refl
filter_none p (x ∷ xs) none = rw none.0 (filter_none p xs none.1)

pub same_filter : {X : Type 0} (f h : X → Bool) → ((x : X) → f x ≡ h x) → (xs : List X) → filter f xs ≡ filter h xs
same_filter f h same [] = refl
same_filter f h same (x ∷ xs) = rw (same x, same_filter f h same xs) refl

pub filter_both : {X : Type 0} (f h : X → Bool) (xs : List X) → filter f (filter h xs) ≡ filter (λ x. h x && f x) xs
filter_both f h [] = refl
filter_both f h (x ∷ xs) = by_test (h x) (filter_both f h xs)
  where
    by_test : (b : Bool) → filter f (filter h xs) ≡ filter (λ y. h y && f y) xs → filter f (if b then x ∷ filter h xs else filter h xs) ≡ (if b && f x then x ∷ filter (λ y. h y && f y) xs else filter (λ y. h y && f y) xs)
    by_test true more = ap (λ l. if f x then x ∷ l else l) more
    by_test false more = more

pub filter_every : {X : Type 0} (xs : List X) → filter (λ x. true) xs ≡ xs
filter_every [] = refl
filter_every (x ∷ xs) = ap (λ l. x ∷ l) (filter_every xs)

-- participants that are left are in order
module _ (f : GuidPrefix × RemoteParticipant → Bool) where
  below_left : (p : GuidPrefix) (es : List (GuidPrefix × RemoteParticipant)) → AllByRecursion (λ q. prefix_order p q ≡ Less) (keys_of es) → AllByRecursion (λ q. prefix_order p q ≡ Less) (keys_of (filter f es))
  below_left p [] all = tt
  below_left p (e ∷ es) (here, more) = by_test (f e) (below_left p es more)
    where
      by_test : (t : Bool) → AllByRecursion (λ q. prefix_order p q ≡ Less) (keys_of (filter f es)) → AllByRecursion (λ q. prefix_order p q ≡ Less) (keys_of (if t then e ∷ filter f es else filter f es))
      by_test true rest = (here, rest)
      by_test false rest = rest

  pub sorted_left : (es : List (GuidPrefix × RemoteParticipant)) → IsStrictlySortedBy prefix_order (keys_of es) → IsStrictlySortedBy prefix_order (keys_of (filter f es))
  unfolding IsStrictlySortedBy
  sorted_left [] up = tt
  sorted_left (e ∷ es) (here, up) = by_test (f e) (sorted_left es up)
    where
      by_test : (t : Bool) → IsStrictlySortedBy prefix_order (keys_of (filter f es)) → IsStrictlySortedBy prefix_order (keys_of (if t then e ∷ filter f es else filter f es))
      by_test true rest = (below_left e.0 es here, rest)
      by_test false rest = rest

-- ---- two tests of which no item of the second comes before one of the first

abbrev Unmatched : {E : Type 0} → (E → Bool) → (E → Bool) → List E → Type 0
Unmatched f g [] = Unit {0}
Unmatched f g (x ∷ xs) = (f x ≡ true → g x ≡ false) × ((g x ≡ true → AllByRecursion (λ y. f y ≡ false) xs) × Unmatched f g xs)

apart_filter : {E : Type 0} (f g : E → Bool) (xs : List E) → Unmatched f g xs → filter f xs ++ filter g xs ≡ filter (λ x. f x || g x) xs
apart_filter f g [] h = refl
apart_filter {E} f g (x ∷ xs) h = by_tests (f x) (g x) refl refl (apart_filter f g xs h.1.1)
  where
    by_tests : (a b : Bool) → f x ≡ a → g x ≡ b → filter f xs ++ filter g xs ≡ filter (λ y. f y || g y) xs
        → (if a then x ∷ filter f xs else filter f xs) ++ (if b then x ∷ filter g xs else filter g xs)
        ≡ (if a || b then x ∷ filter (λ y. f y || g y) xs else filter (λ y. f y || g y) xs)
    by_tests true true i j more = let bad : true ≡ false = sym j ∙ h.0 i in absurd cc
    by_tests true false i j more = ap (λ l. x ∷ l) more
    by_tests false true i j more =
        let none : filter f xs ≡ [] = filter_none f xs (h.1.0 j) in
        ap (λ l. l ++ (x ∷ filter g xs)) none ∙ ap (λ l. x ∷ l) (sym (ap (λ l. l ++ filter g xs) none) ∙ more)
    by_tests false false i j more = more

-- ---- guids in order

-- a participant before all of these isn't among them
abbrev Before : GuidPrefix → List GuidPrefix → Type 0
Before p qs = AllByRecursion (λ q. prefix_order p q ≡ Less) qs

less_other : (p q : GuidPrefix) (g : Guid) → prefix_order p q ≡ Less → of q g ≡ true → of p g ≡ false
less_other p q g less is = of_equal p g ∙ by_order (prefix_order p g.prefix) refl
  where
    at_q : prefix_order q g.prefix ≡ Equal
    at_q = equal_from (prefix_order q g.prefix) (sym (of_equal q g) ∙ is)

    by_order : (o : Ordering) → prefix_order p g.prefix ≡ o → is_eq o ≡ false
    by_order Less e = refl
    by_order Greater e = refl
    by_order Equal e =
        let same : prefix_order p q ≡ prefix_order g.prefix q = prefix_total.congr p g.prefix q e in
        let back : prefix_order g.prefix q ≡ Equal = prefix_total.antisymm g.prefix q ∙ ap ordering_reverse at_q in
        let bad : Less ≡ Equal = sym less ∙ same ∙ back in absurd cc

-- a guid of one of these
abbrev pub of_any : List GuidPrefix → Guid → Bool
of_any ps g = is_of ps g.prefix

pub any_more : (p : GuidPrefix) (ps : List GuidPrefix) (g : Guid) → of_any (p ∷ ps) g ≡ (of p g || of_any ps g)
any_more p ps g = by_test (bytes_eq p.0 g.prefix.0) (of_any ps g)
  where
    by_test : (a b : Bool) → (a || b) ≡ ((a || false) || b)
    by_test true b = refl
    by_test false b = refl

-- one of these that has it
pub record Has (ps : List GuidPrefix) (p : GuidPrefix) (g : Guid) : Type 0 where
  pub q : GuidPrefix
  pub less : prefix_order p q ≡ Less
  pub is : of q g ≡ true

found : (p : GuidPrefix) (qs : List GuidPrefix) (g : Guid) → Before p qs → of_any qs g ≡ true → Has qs p g
found p [] g before h = absurd cc
found p (q ∷ qs) g before h = by_test (of q g) refl (sym (any_more q qs g) ∙ h) (λ k. found p qs g before.1 k)
  where
    by_test : (b : Bool) → of q g ≡ b → (b || of_any qs g) ≡ true → (of_any qs g ≡ true → Has qs p g) → Has (q ∷ qs) p g
    by_test true e k more = record { q = q; less = before.0; is = e }
    by_test false e k more = let rest = more k in record { q = rest.q; less = rest.less; is = rest.is }

-- a guid of a later participant comes before none of an earlier one
later_none : (p : GuidPrefix) (qs : List GuidPrefix) (g h : Guid) → Before p qs → of_any qs g ≡ true → guid_order g h ≡ Less → of p h ≡ false
later_none p qs g h before is less = of_equal p h ∙ by_order (prefix_order p h.prefix) refl
  where
    there : Has qs p g
    there = found p qs g before is

    by_order : (o : Ordering) → prefix_order p h.prefix ≡ o → is_eq o ≡ false
    by_order Less e = refl
    by_order Greater e = refl
    by_order Equal e =
        let own : prefix_order there.q g.prefix ≡ Equal = equal_from (prefix_order there.q g.prefix) (sym (of_equal there.q g) ∙ there.is) in
        let p_g : prefix_order p g.prefix ≡ Less = less_at there.q own in
        let h_g : prefix_order h.prefix g.prefix ≡ Less = sym (prefix_total.congr p h.prefix g.prefix e) ∙ p_g in
        let first : guid_order h g ≡ Less = front h_g in
        let bad : Less ≡ Greater = sym less ∙ flipped g h Less first in absurd cc
      where
        front : prefix_order h.prefix g.prefix ≡ Less → guid_order h g ≡ Less
        front e = rw e refl

        less_at : (q : GuidPrefix) → prefix_order q g.prefix ≡ Equal → prefix_order p g.prefix ≡ Less
        less_at q own = by_back (prefix_order p g.prefix) refl
          where
            by_back : (o : Ordering) → prefix_order p g.prefix ≡ o → o ≡ Less
            by_back Less i = refl
            by_back Equal i =
                let same : prefix_order p there.q ≡ prefix_order g.prefix there.q = prefix_total.congr p g.prefix there.q i in
                let back : prefix_order g.prefix there.q ≡ Equal = prefix_total.antisymm g.prefix there.q ∙ ap ordering_reverse (equal_from (prefix_order there.q g.prefix) (sym (of_equal there.q g) ∙ there.is)) in
                let bad : Less ≡ Equal = sym there.less ∙ same ∙ back in absurd cc
            by_back Greater i =
                let g_p : prefix_order g.prefix p ≡ Less = prefix_total.antisymm g.prefix p ∙ ap ordering_reverse i in
                let g_q : prefix_order g.prefix there.q ≡ Less = prefix_total.trans g.prefix p there.q g_p there.less in
                let back : prefix_order g.prefix there.q ≡ Equal = prefix_total.antisymm g.prefix there.q ∙ ap ordering_reverse (equal_from (prefix_order there.q g.prefix) (sym (of_equal there.q g) ∙ there.is)) in
                let bad : Less ≡ Equal = sym g_q ∙ back in absurd cc

-- ---- entries by guid

module _ {X : Type 0} where
  abbrev own : GuidPrefix → Guid × X → Bool
  own p e = of p e.0

  abbrev pub any : List GuidPrefix → Guid × X → Bool
  any ps e = of_any ps e.0

  abbrev pub stay : List GuidPrefix → Guid × X → Bool
  stay ps e = not (of_any ps e.0)

  apart : (p : GuidPrefix) (ps : List GuidPrefix) (es : List (Guid × X)) → Before p ps → IsStrictlySortedBy guid_order (keys_of es) → Unmatched (own p) (any ps) es
  apart p ps [] before up = tt
  apart p ps (e ∷ es) before up = (
    λ is. by_other is (of_any ps e.0) refl,
    (λ is. none es (sorted_head guid_order e.0 (keys_of es) up) is, apart p ps es before (sorted_tail guid_order e.0 (keys_of es) up)),
  )
    where
      by_other : of p e.0 ≡ true → (b : Bool) → of_any ps e.0 ≡ b → b ≡ false
      by_other is false k = refl
      by_other is true k =
          let there = found p ps e.0 before k in
          let bad : true ≡ false = sym is ∙ less_other p there.q e.0 there.less there.is in absurd cc

      none : (xs : List (Guid × X)) → AllByRecursion (λ y. guid_order e.0 y ≡ Less) (keys_of xs) → of_any ps e.0 ≡ true → AllByRecursion (λ (x : Guid × X). of p x.0 ≡ false) xs
      none [] below is = tt
      none (x ∷ xs) below is = (later_none p ps e.0 x.0 before is below.0, none xs below.1 is)

  not_both : (p : GuidPrefix) (ps : List GuidPrefix) (e : Guid × X) → Before p ps → (not (of p e.0) && of_any ps e.0) ≡ of_any ps e.0
  not_both p ps e before = by_own (of p e.0) refl (of_any ps e.0) refl
    where
      by_own : (a : Bool) → of p e.0 ≡ a → (b : Bool) → of_any ps e.0 ≡ b → (not a && b) ≡ b
      by_own true is true k =
          let there = found p ps e.0 before k in
          let bad : true ≡ false = sym is ∙ less_other p there.q e.0 there.less there.is in absurd cc
      by_own true is false k = refl
      by_own false is b k = refl

  -- what is taken out participant by participant, in their order, is what is of any of them, in order
  pub together : (ps : List GuidPrefix) (es : List (Guid × X)) → IsStrictlySortedBy prefix_order ps → IsStrictlySortedBy guid_order (keys_of es) → gone_by ps es ≡ filter (any ps) es
  together [] es up sorted = sym (filter_none (λ (e : Guid × X). false) es (all_false es))
    where
      all_false : (xs : List (Guid × X)) → AllByRecursion (λ (x : Guid × X). false ≡ false) xs
      all_false [] = tt
      all_false (x ∷ xs) = (refl, all_false xs)
  together (p ∷ ps) es up sorted =
      let before : Before p ps = sorted_head prefix_order p ps up in
      ap (λ l. filter (own p) es ++ l) (together ps (filter (others p) es) (sorted_tail prefix_order p ps up) (sorted_filter (others p) es sorted)
      ∙ filter_both (any ps) (others p) es
      ∙ same_filter (λ e. others p e && any ps e) (any ps) (λ e. not_both p ps e before) es)
      ∙ apart_filter (own p) (any ps) es (apart p ps es before sorted)
      ∙ same_filter (λ (e : Guid × X). of p e.0 || of_any ps e.0) (any (p ∷ ps)) (λ e. sym (any_more p ps e.0)) es
