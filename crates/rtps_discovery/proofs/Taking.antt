-- The first key of a participant, in order.
use Rattle.std.proofs.Common.{◌≡◌, ℕ, List, [], ◌∷◌, length, Bool, true, false, ◌&&◌, ◌||◌, not, if◌then◌else◌, cond, refl, sym, ap, ◌∙◌, arith, subst}
use Rattle.std.specs.Prelude.{Option, Some, None, IfSome, filter}
use Rattle.std.specs.Option.{option_map}
use Rattle.std.specs.List.{AllByRecursion}
use Rattle.std.specs.List.Sorted.{IsStrictlySortedBy}
use Rattle.std.specs.Map.{keys_of, remove_entry}
use Rattle.std.specs.Str.{bytes_eq}
use Rattle.std.specs.Ordering.{is_eq, is_gt, is_le, nat_cmp, ordering_then}
use Rattle.std.specs.declared.cmp.Ordering.{Ordering}
use Rattle.std.specs.declared.cmp.Ordering.TheVariants.{Less, Equal, Greater}
use Rattle.std.proofs.lemmas.Bool.Decides.{nat_tests}
use Rattle.std.proofs.lemmas.Cmp.{alike_right}
use Rattle.std.proofs.lemmas.Map.Keys.{sorted_head}
use Rattle.std.specs.Cmp.{both_ways}
use Rattle.std.proofs.lemmas.Slice.Eq.{bytes_eq-Decides}
use Rattle.std.proofs.lemmas.Map.Text.{is_eq-slice_cmp}
use Rattle.rtps_types.specs.declared.identity.Guid.{Guid}
use Rattle.rtps_types.specs.declared.identity.GuidPrefix.{GuidPrefix}
use Rattle.rtps_types.specs.Order.{guid_order, octet_order}
use Rattle.rtps_proxy.specs.Matches.{is_at}
use Rattle.rtps_proxy.proofs.Matching.{exact}
use Rattle.rtps_discovery.specs.Addressed.{unknown_entity}
use Rattle.rtps_discovery.specs.Known.{is_of, prefix_order}
use Rattle.rtps_discovery.proofs.Guids.{at_itself, equal_from, found_is, prefix_total}
use Rattle.rtps_discovery.proofs.SortedKeys.{InOrder}

-- the least guid of a participant
abbrev pub first_of : GuidPrefix → Guid
first_of p = record { prefix = p; entity = unknown_entity }

abbrev pub of : GuidPrefix → Guid → Bool
of p g = is_of (p ∷ []) g.prefix

abbrev pub from : GuidPrefix → Guid → Bool
from p g = is_le (guid_order (first_of p) g)

at_zero : (n : ℕ) (o : Ordering) → is_le o ≡ true → is_le (ordering_then (nat_cmp 0 n) o) ≡ true
at_zero n o h = by_order (nat_cmp 0 n) refl
  where
    by_order : (r : Ordering) → nat_cmp 0 n ≡ r → is_le (ordering_then r o) ≡ true
    by_order Less e = refl
    by_order Equal e = h
    by_order Greater e = let bad : is_gt (nat_cmp 0 n) ≡ false = grind (arith, nat_tests) in let worse : true ≡ false = sym (ap is_gt e) ∙ bad in absurd cc

above_zeros : (ys : List ℕ) → length ys ≡ 4 → is_le (octet_order unknown_entity.0 ys) ≡ true
above_zeros [] h = absurd (omega (arith, h))
above_zeros (a ∷ []) h = absurd (omega (arith, h))
above_zeros (a ∷ b ∷ []) h = absurd (omega (arith, h))
above_zeros (a ∷ b ∷ c ∷ []) h = absurd (omega (arith, h))
above_zeros (a ∷ b ∷ c ∷ d ∷ []) h =
    at_zero a _ (at_zero b _ (at_zero c _ (at_zero d Equal refl)))
above_zeros (a ∷ b ∷ c ∷ d ∷ e ∷ ys) h = absurd (omega (arith, h))

pub or_false : (b : Bool) → (b || false) ≡ b
or_false true = refl
or_false false = refl

pub turned : (xs ys : List ℕ) → bytes_eq xs ys ≡ bytes_eq ys xs
turned xs ys = both_ways (bytes_eq xs ys) (bytes_eq ys xs) (λ h. (bytes_eq-Decides ys xs).1 (sym ((bytes_eq-Decides xs ys).0 h))) (λ h. (bytes_eq-Decides xs ys).1 (sym ((bytes_eq-Decides ys xs).0 h)))

-- the prefix is the same in order too
pub of_equal : (p : GuidPrefix) (g : Guid) → of p g ≡ is_eq (prefix_order p g.prefix)
of_equal p g = or_false (bytes_eq p.0 g.prefix.0) ∙ sym (is_eq-slice_cmp p.0 g.prefix.0)

of_from : (p : GuidPrefix) (g : Guid) → length g.entity.0 ≡ 4 → of p g ≡ true → from p g ≡ true
of_from p g sized is =
    let same : prefix_order p g.prefix ≡ Equal = equal_from (prefix_order p g.prefix) (sym (of_equal p g) ∙ is) in
    rw same (above_zeros g.entity.0 sized)

-- a guid after this one, whose participant is another, isn't of the participant either
after_other : (p : GuidPrefix) (g h : Guid) → from p g ≡ true → of p g ≡ false → guid_order g h ≡ Less → of p h ≡ false
after_other p g h above other less = of_equal p h ∙ by_order (prefix_order p g.prefix) refl (prefix_order g.prefix h.prefix) refl
  where
    further : prefix_order p g.prefix ≡ Less → prefix_order p h.prefix ≡ Less → is_eq (prefix_order p h.prefix) ≡ false
    further e f = ap is_eq f

    by_order : (a : Ordering) → prefix_order p g.prefix ≡ a → (b : Ordering) → prefix_order g.prefix h.prefix ≡ b → is_eq (prefix_order p h.prefix) ≡ false
    by_order Equal e b f = let bad : of p g ≡ true = of_equal p g ∙ ap is_eq e in absurd (cc (bad, other))
    by_order Greater e b f = let bad : false ≡ true = rw e at above in absurd cc
    by_order Less e Less f = further e (prefix_total.trans p g.prefix h.prefix e f)
    by_order Less e Equal f = further e (sym (alike_right prefix_total g.prefix h.prefix p f) ∙ e)
    by_order Less e Greater f = let bad : Greater ≡ Less = rw f at less in absurd cc

module _ {X : Type 0} where
  below_filter : (f : Guid × X → Bool) (x : Guid) (es : List (Guid × X)) → AllByRecursion (λ y. guid_order x y ≡ Less) (keys_of es) → AllByRecursion (λ y. guid_order x y ≡ Less) (keys_of (filter f es))
  below_filter f x [] all = tt
  below_filter f x (e ∷ es) (here, rest) = by_test (f e) (below_filter f x es rest)
    where
      by_test : (t : Bool) → AllByRecursion (λ y. guid_order x y ≡ Less) (keys_of (filter f es)) → AllByRecursion (λ y. guid_order x y ≡ Less) (keys_of (if t then e ∷ filter f es else filter f es))
      by_test true more = (here, more)
      by_test false more = more

  -- what is left out leaves the others in order
  pub sorted_filter : (f : Guid × X → Bool) (es : List (Guid × X)) → InOrder (keys_of es) → InOrder (keys_of (filter f es))
  unfolding IsStrictlySortedBy
  sorted_filter f [] s = tt
  sorted_filter f (e ∷ es) (here, s) = by_test (f e) (sorted_filter f es s)
    where
      by_test : (t : Bool) → InOrder (keys_of (filter f es)) → InOrder (keys_of (if t then e ∷ filter f es else filter f es))
      by_test true more = (below_filter f e.0 es here, more)
      by_test false more = more

module _ {X : Type 0} (p : GuidPrefix) where
  abbrev pub mine : Guid × X → Bool
  mine e = of p e.0

  abbrev pub others : Guid × X → Bool
  others e = not (of p e.0)

  abbrev pub later : Guid × X → Bool
  later e = from p e.0 && true

  abbrev pub Sized : List (Guid × X) → Type 0
  Sized es = AllByRecursion (λ (e : Guid × X). length e.0.entity.0 ≡ 4) es

  -- what is of the participant is among the later ones
  among_later : (es : List (Guid × X)) → Sized es → filter mine es ≡ filter mine (filter later es)
  among_later [] sized = refl
  among_later (e ∷ es) (here, rest) = by_tests (of p e.0) refl (from p e.0) refl (among_later es rest)
    where
      by_tests : (t : Bool) → of p e.0 ≡ t → (u : Bool) → from p e.0 ≡ u → filter mine es ≡ filter mine (filter later es)
          → (if t then e ∷ filter mine es else filter mine es) ≡ filter mine (if u && true then e ∷ filter later es else filter later es)
      by_tests true is true after more = rw is (ap (λ l. e ∷ l) more)
      by_tests true is false after more = let bad : true ≡ false = sym (of_from p e.0 here is) ∙ after in absurd cc
      by_tests false is true after more = rw is more
      by_tests false is false after more = more

  none_after : (g : Guid) (es : List (Guid × X)) → from p g ≡ true → of p g ≡ false → AllByRecursion (λ y. guid_order g y ≡ Less) (keys_of es) → filter mine es ≡ []
  none_after g [] above other all = refl
  none_after g (e ∷ es) above other (less, rest) = rw (after_other p g e.0 above other less) (none_after g es above other rest)

  -- nothing is later
  pub none_later : (es : List (Guid × X)) → Sized es → filter later es ≡ [] → filter mine es ≡ []
  none_later es sized none = among_later es sized ∙ ap (filter mine) none

  first_is_later : (es : List (Guid × X)) (e : Guid × X) (rest : List (Guid × X)) → filter later es ≡ e ∷ rest → from p e.0 ≡ true
  first_is_later [] e rest is = absurd cc
  first_is_later (x ∷ es) e rest is = by_test (from p x.0) refl is (first_is_later es e rest)
    where
      by_test : (t : Bool) → from p x.0 ≡ t → (if t && true then x ∷ filter later es else filter later es) ≡ e ∷ rest → (filter later es ≡ e ∷ rest → from p e.0 ≡ true) → from p e.0 ≡ true
      by_test true after is more = let same : x ≡ e = cc in subst (λ (y : Guid × X). from p y.0 ≡ true) same after
      by_test false after is more = more is

  -- the first that is later is of another participant
  pub other_first : (es : List (Guid × X)) (e : Guid × X) (rest : List (Guid × X)) → InOrder (keys_of es) → Sized es → filter later es ≡ e ∷ rest → of p e.0 ≡ false → filter mine es ≡ []
  other_first es e rest sorted sized is other =
      let ordered : InOrder (keys_of (e ∷ rest)) = subst (λ (l : List (Guid × X)). InOrder (keys_of l)) is (sorted_filter later es sorted) in
      among_later es sized ∙ ap (filter mine) is
      ∙ rw other (none_after e.0 rest (first_is_later es e rest is) other (sorted_head guid_order e.0 (keys_of rest) ordered))

  others_stay : (g : Guid) → of p g ≡ true → (es : List (Guid × X)) → filter others (remove_entry (is_at g) es) ≡ filter others es
  others_stay g is [] = refl
  others_stay g is (e ∷ es) = by_test (is_at g e.0) refl (others_stay g is es)
    where
      by_test : (t : Bool) → is_at g e.0 ≡ t → filter others (remove_entry (is_at g) es) ≡ filter others es → filter others (cond t es (e ∷ remove_entry (is_at g) es)) ≡ (if not (of p e.0) then e ∷ filter others es else filter others es)
      by_test true at more = let same : of p e.0 ≡ true = ap (of p) (found_is g e.0 at) ∙ is in rw same refl
      by_test false at more = by_own (of p e.0)
        where
          by_own : (u : Bool) → (if not u then e ∷ filter others (remove_entry (is_at g) es) else filter others (remove_entry (is_at g) es)) ≡ (if not u then e ∷ filter others es else filter others es)
          by_own true = more
          by_own false = ap (λ l. e ∷ l) more

  mine_without : (g : Guid) → of p g ≡ true → (es : List (Guid × X)) → filter mine (remove_entry (is_at g) es) ≡ remove_entry (is_at g) (filter mine es)
  mine_without g is [] = refl
  mine_without g is (e ∷ es) = by_tests (is_at g e.0) refl (of p e.0) refl (mine_without g is es)
    where
      by_tests : (t : Bool) → is_at g e.0 ≡ t → (u : Bool) → of p e.0 ≡ u → filter mine (remove_entry (is_at g) es) ≡ remove_entry (is_at g) (filter mine es)
          → filter mine (cond t es (e ∷ remove_entry (is_at g) es)) ≡ remove_entry (is_at g) (if u then e ∷ filter mine es else filter mine es)
      by_tests true at true own more = rw at refl
      by_tests true at false own more = let bad : true ≡ false = sym (ap (of p) (found_is g e.0 at) ∙ is) ∙ own in absurd cc
      by_tests false at true own more = rw (own, at) (ap (λ l. e ∷ l) more)
      by_tests false at false own more = rw own more

  -- the first that is later is of the participant: taken out, the others stay in order
  pub record Taken (es fs : List (Guid × X)) (e : Guid × X) : Type 0 where
    pub mine : filter mine es ≡ e ∷ filter mine fs
    pub others : filter others fs ≡ filter others es

  pub own_first : (es : List (Guid × X)) (e : Guid × X) (rest : List (Guid × X)) → Sized es → filter later es ≡ e ∷ rest → of p e.0 ≡ true → Taken es (remove_entry (is_at e.0) es) e
  own_first es e rest sized is own =
      let all : filter mine es ≡ e ∷ filter mine rest = among_later es sized ∙ ap (filter mine) is ∙ rw own refl in
      let left : filter mine (remove_entry (is_at e.0) es) ≡ filter mine rest = mine_without e.0 own es ∙ ap (remove_entry (is_at e.0)) all ∙ rw (at_itself e.0) refl in
      record { mine = all ∙ ap (λ l. e ∷ l) (sym left); others = others_stay e.0 own es }

  same_pair : (e q : Guid × X) → q.0 ≡ e.0 → q.1 ≡ e.1 → e ≡ q
  same_pair e q k v = let one : (e.0, e.1) ≡ (q.0, e.1) = ap (λ g. (g, e.1)) (sym k) in let two : (q.0, e.1) ≡ (q.0, q.1) = ap (λ x. (q.0, x)) (sym v) in one ∙ two

  -- what is found at the key that is taken out
  pub taken_is : (es fs : List (Guid × X)) (e : Guid × X) (r : Option (Guid × X)) → Taken es fs e → IfSome r (λ q. guid_order e.0 q.0 ≡ Equal) → option_map (λ (q : Guid × X). q.1) r ≡ Some e.1
      → IfSome r (λ q. filter mine es ≡ q ∷ filter mine fs)
  taken_is es fs e None taken key value = tt
  taken_is es fs e (Some q) taken key value =
      let v : q.1 ≡ e.1 = cc in
      taken.mine ∙ ap (λ (x : Guid × X). x ∷ filter mine fs) (same_pair e q (exact e.0 q.0 key) v)

  -- where none is of the participant, all are others
  pub all_others : (es : List (Guid × X)) → filter mine es ≡ [] → filter others es ≡ es
  all_others [] none = refl
  all_others (e ∷ es) none = by_test (of p e.0) none (all_others es)
    where
      by_test : (t : Bool) → (if t then e ∷ filter mine es else filter mine es) ≡ [] → (filter mine es ≡ [] → filter others es ≡ es) → (if not t then e ∷ filter others es else filter others es) ≡ e ∷ es
      by_test true is more = absurd cc
      by_test false is more = ap (λ l. e ∷ l) (more is)
