-- Lemmas on samples in order.
use Rattle.std.proofs.Common.{◌≡◌, ℕ, suc, ◌≤◌, Bool, true, false, ◌&&◌, cond, List, [], ◌∷◌, refl, sym, ◌∙◌, ap, arith, ltb, inl, inr}
use Rattle.std.specs.List.{filter, AllByRecursion}
use Rattle.std.proofs.lemmas.Bool.Decides.{nat_tests, leb_tells}
use Rattle.rtps_proxy.specs.Change.{ChangeView}
use Rattle.rtps_proxy.specs.Received.{in_order, put}
use Rattle.rtps_proxy.specs.Held.{IsRising, behind_front, front_below, is_below, not_below}

abbrev pub AtLeast : ℕ → List ChangeView → Type 0
AtLeast n ss = AllByRecursion (λ t. n ≤ t.number) ss

pub none_below : (f n : ℕ) (ss : List ChangeView) → f ≤ n → AtLeast n ss → filter (is_below f) ss ≡ []
none_below f n [] le h = refl
none_below f n (s ∷ ss) le h =
    let rest : filter (is_below f) ss ≡ [] = none_below f n ss le h.1 in
    let here : n ≤ s.number = h.0 in
    let fails : ltb s.number f ≡ false = grind (arith, nat_tests) in
    rw (fails, rest) refl

pub all_behind : (f n : ℕ) (ss : List ChangeView) → f ≤ n → AtLeast n ss → filter (not_below f) ss ≡ ss
all_behind f n [] le h = refl
all_behind f n (s ∷ ss) le h =
    let rest : filter (not_below f) ss ≡ ss = all_behind f n ss le h.1 in
    let here : n ≤ s.number = h.0 in
    let fails : ltb s.number f ≡ false = grind (arith, nat_tests) in
    rw (fails, rest) refl

-- of a list that rises, the front below f is all that is below f
pub front_is : (f : ℕ) (ss : List ChangeView) → IsRising ss → front_below f ss ≡ filter (is_below f) ss
front_is f [] h = refl
front_is f (s ∷ ss) h =
    let rest : front_below f ss ≡ filter (is_below f) ss = front_is f ss h.1 in
    elim (leb_tells (suc s.number) f) [
      | inl w ↦ rw w.0 (ap (λ (ts : List ChangeView). s ∷ ts) rest)
      | inr w ↦ rw w.0 (sym (none_below f s.number ss (omega arith) h.0))
    ]

pub behind_is : (f : ℕ) (ss : List ChangeView) → IsRising ss → behind_front f ss ≡ filter (not_below f) ss
behind_is f [] h = refl
behind_is f (s ∷ ss) h =
    let rest : behind_front f ss ≡ filter (not_below f) ss = behind_is f ss h.1 in
    elim (leb_tells (suc s.number) f) [
      | inl w ↦ rw w.0 rest
      | inr w ↦ rw w.0 (ap (λ (ts : List ChangeView). s ∷ ts) (sym (all_behind f s.number ss (omega arith) h.0)))
    ]

pub put_at_least : (n : ℕ) (s : ChangeView) (ts : List ChangeView) → n ≤ s.number → AtLeast n ts → AtLeast n (put s ts)
put_at_least n s [] le h = (le, tt)
put_at_least n s (t ∷ ts) le h =
    let rest : AtLeast n (put s ts) = put_at_least n s ts le h.1 in
    elim (leb_tells (suc t.number) s.number) [
      | inl w ↦ rw w.0 (h.0, rest)
      | inr w ↦ rw w.0 (le, h)
    ]

at_least_less : (m n : ℕ) (ts : List ChangeView) → m ≤ n → AtLeast n ts → AtLeast m ts
at_least_less m n [] le h = tt
at_least_less m n (t ∷ ts) le h =
    let here : n ≤ t.number = h.0 in
    (omega arith, at_least_less m n ts le h.1)

pub put_rises : (s : ChangeView) (ts : List ChangeView) → IsRising ts → IsRising (put s ts)
put_rises s [] h = (tt, tt)
put_rises s (t ∷ ts) h =
    let rest : IsRising (put s ts) = put_rises s ts h.1 in
    elim (leb_tells (suc t.number) s.number) [
      | inl w ↦ rw w.0 (put_at_least t.number s ts (omega arith) h.0, rest)
      | inr w ↦ rw w.0 ((omega arith, at_least_less s.number t.number ts (omega arith) h.0), h)
    ]

pub in_order_rises : (ss : List ChangeView) → IsRising (in_order ss)
in_order_rises [] = tt
in_order_rises (s ∷ ss) = put_rises s (in_order ss) (in_order_rises ss)

pub put_front : (s : ChangeView) (ts : List ChangeView) → AtLeast s.number ts → put s ts ≡ s ∷ ts
put_front s [] h = refl
put_front s (t ∷ ts) h =
    let here : s.number ≤ t.number = h.0 in
    let fails : ltb t.number s.number ≡ false = grind (arith, nat_tests) in
    rw fails refl

filter_at_least : (p : ChangeView → Bool) (n : ℕ) (ts : List ChangeView) → AtLeast n ts → AtLeast n (filter p ts)
filter_at_least p n [] h = tt
filter_at_least p n (t ∷ ts) h = by_test (p t) (filter_at_least p n ts h.1)
  where
    by_test : (b : Bool) → AtLeast n (filter p ts) → AtLeast n (cond b (t ∷ filter p ts) (filter p ts))
    by_test true rest = (h.0, rest)
    by_test false rest = rest

filter_put : (p : ChangeView → Bool) (s : ChangeView) (ts : List ChangeView) → IsRising ts → filter p (put s ts) ≡ cond (p s) (put s (filter p ts)) (filter p ts)
filter_put p s [] h = elim (p s) as (λ b. cond b (s ∷ []) [] ≡ cond b (s ∷ []) []) [ true ↦ refl | false ↦ refl ]
filter_put p s (t ∷ ts) h =
    let rest : filter p (put s ts) ≡ cond (p s) (put s (filter p ts)) (filter p ts) = filter_put p s ts h.1 in
    elim (leb_tells (suc t.number) s.number) [
      | inl w ↦ rw w.0 (before w.0 (p t) (p s) rest)
      | inr w ↦ rw w.0 (behind (p s) (filter_at_least p s.number (t ∷ ts) (omega arith, at_least_less s.number t.number ts (omega arith) h.0)))
    ]
  where
    before : ltb t.number s.number ≡ true → (b d : Bool) → filter p (put s ts) ≡ cond d (put s (filter p ts)) (filter p ts) → cond b (t ∷ filter p (put s ts)) (filter p (put s ts)) ≡ cond d (put s (cond b (t ∷ filter p ts) (filter p ts))) (cond b (t ∷ filter p ts) (filter p ts))
    before e true true rest = rw (e, rest) refl
    before e true false rest = rw rest refl
    before e false true rest = rest
    before e false false rest = rest

    behind : (d : Bool) → AtLeast s.number (filter p (t ∷ ts)) → cond d (s ∷ filter p (t ∷ ts)) (filter p (t ∷ ts)) ≡ cond d (put s (filter p (t ∷ ts))) (filter p (t ∷ ts))
    behind true k = sym (put_front s (filter p (t ∷ ts)) k)
    behind false k = refl

-- a filter before or after putting in order
pub filter-in_order : (p : ChangeView → Bool) (ss : List ChangeView) → filter p (in_order ss) ≡ in_order (filter p ss)
filter-in_order p [] = refl
filter-in_order p (s ∷ ss) =
    filter_put p s (in_order ss) (in_order_rises ss) ∙ by_test (p s) (filter-in_order p ss)
  where
    by_test : (b : Bool) → filter p (in_order ss) ≡ in_order (filter p ss) → cond b (put s (filter p (in_order ss))) (filter p (in_order ss)) ≡ in_order (cond b (s ∷ filter p ss) (filter p ss))
    by_test true rest = ap (put s) rest
    by_test false rest = rest

-- one filter after another
pub filter-filter : (p q : ChangeView → Bool) (ss : List ChangeView) → filter p (filter q ss) ≡ filter (λ s. p s && q s) ss
filter-filter p q [] = refl
filter-filter p q (s ∷ ss) = by_test (p s) (q s) refl refl (filter-filter p q ss)
  where
    by_test : (a b : Bool) → p s ≡ a → q s ≡ b → filter p (filter q ss) ≡ filter (λ s. p s && q s) ss → filter p (cond (q s) (s ∷ filter q ss) (filter q ss)) ≡ cond (p s && q s) (s ∷ filter (λ s. p s && q s) ss) (filter (λ s. p s && q s) ss)
    by_test true true e f rest = rw (f, e) (rw rest refl)
    by_test true false e f rest = rw (f, e) rest
    by_test false true e f rest = rw (f, e) rest
    by_test false false e f rest = rw (f, e) rest
