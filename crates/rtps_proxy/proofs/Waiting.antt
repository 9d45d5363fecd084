-- Lemmas on changes that wait.
use Rattle.std.proofs.Common.{◌≡◌, All, ℕ, zero, suc, ◌-◌, ◌<◌, ◌≤◌, true, false, List, [], ◌∷◌, ◌++◌, refl, ap, arith, ltb, map, take, drop, length, get_or}
use Rattle.std.proofs.lemmas.List.{get_or_default}
use Rattle.std.specs.List.{AllByRecursion}
use Rattle.std.specs.List.Sorted.{IsPartitionedBy}
use Rattle.std.proofs.lemmas.Bool.Decides.{nat_tests}
use Rattle.rtps_types.specs.Number.{value_of}
use Rattle.rtps_proxy.specs.Change.{change_view, ChangeView}
use Rattle.rtps_proxy.specs.declared.change.Change.{Change}
use Rattle.rtps_proxy.specs.Held.{IsPlace, IsRising, behind_front, front_below}
use Rattle.rtps_proxy.specs.Received.{put}

module _ {A : Type 0} where
  rising_behind : (n : ℕ) (hs : List (Change A)) → AllByRecursion (λ t. n ≤ t.number) (map change_view hs) → (k : ℕ) (d : Change A) → k < length hs → n ≤ value_of (get_or hs k d).number
  rising_behind n [] h k d l = absurd (omega arith)
  rising_behind n (t ∷ ts) h zero d l = h.0
  rising_behind n (t ∷ ts) h (suc k) d l = rising_behind n ts h.1 k d (omega arith)

  rising_at : (hs : List (Change A)) → IsRising (map change_view hs) → (i j : ℕ) (d : Change A) → i ≤ j → j < length hs → value_of (get_or hs i d).number ≤ value_of (get_or hs j d).number
  rising_at [] h i j d le l = absurd (omega arith)
  rising_at (t ∷ ts) h zero zero d le l = omega arith
  rising_at (t ∷ ts) h zero (suc j) d le l = rising_behind (value_of t.number) ts h.0 j d (omega arith)
  rising_at (t ∷ ts) h (suc i) zero d le l = absurd (omega arith)
  rising_at (t ∷ ts) h (suc i) (suc j) d le l = rising_at ts h.1 i j d (omega arith) (omega arith)

  pub rising_parts : (number : ℕ) (hs : List (Change A)) → IsRising (map change_view hs) → IsPartitionedBy (λ t. ltb (value_of t.number) number) hs
  rising_parts number hs h i j d le l e =
      let rise : value_of (get_or hs i d).number ≤ value_of (get_or hs j d).number = rising_at hs h i j d le l in
      grind (arith, nat_tests)

  -- where those before a place have lesser numbers, and the others have not
  pub place_from : (n : ℕ) (hs : List (Change A)) (at : ℕ) → ((k : ℕ) (d : Change A) → k < at → ltb (value_of (get_or hs k d).number) n ≡ true) → ((k : ℕ) (d : Change A) → at ≤ k → k < length hs → ltb (value_of (get_or hs k d).number) n ≡ false) → at ≤ length hs → IsPlace n at (map change_view hs)
  place_from n [] zero before behind le = (tt, tt)
  place_from n [] (suc at) before behind le = (tt, tt)
  place_from n (t ∷ ts) zero before behind le =
      let fails : ltb (value_of t.number) n ≡ false = behind zero t (omega arith) (omega arith) in
      let rest : IsPlace n zero (map change_view ts) = place_from n ts zero (λ k d l. absurd (omega arith)) (λ k d le l. behind (suc k) d (omega arith) (omega arith)) (omega arith) in
      let least : n ≤ value_of t.number = grind (arith, nat_tests) in
      (tt, (least, rest.1))
  place_from n (t ∷ ts) (suc at) before behind le =
      let passes : ltb (value_of t.number) n ≡ true = before zero t (omega arith) in
      let lesser : value_of t.number < n = grind (arith, nat_tests) in
      let rest : IsPlace n at (map change_view ts) = place_from n ts at (λ k d l. before (suc k) d (omega arith)) (λ k d le l. behind (suc k) d (omega arith) (omega arith)) (omega arith) in
      ((lesser, rest.0), rest.1)

  -- after all, where the last one has a lesser number
  pub place_behind : (n : ℕ) (hs : List (Change A)) (d : Change A) → IsRising (map change_view hs) → (1 ≤ length hs → value_of (get_or hs (length hs - 1) d).number < n) → IsPlace n (length hs) (map change_view hs)
  place_behind n hs d rising last =
      place_from n hs (length hs) (λ k e l.
      let rise : value_of (get_or hs k e).number ≤ value_of (get_or hs (length hs - 1) e).number = rising_at hs rising k (length hs - 1) e (omega arith) (omega arith) in
      let same : get_or hs (length hs - 1) e ≡ get_or hs (length hs - 1) d = get_or_default hs (length hs - 1) e d (omega arith) in
      let below : value_of (get_or hs (length hs - 1) e).number < n = rw same (last (omega arith)) in
      grind (arith, nat_tests)) (λ k e le l. absurd (omega arith)) (omega arith)

  -- before all, where the first one has no lesser number
  pub place_before : (n : ℕ) (hs : List (Change A)) (d : Change A) → IsRising (map change_view hs) → n ≤ value_of (get_or hs 0 d).number → 1 ≤ length hs → IsPlace n 0 (map change_view hs)
  place_before n hs d rising first some =
      place_from n hs 0 (λ k e l. absurd (omega arith)) (λ k e le l.
      let rise : value_of (get_or hs 0 e).number ≤ value_of (get_or hs k e).number = rising_at hs rising 0 k e (omega arith) l in
      let same : get_or hs 0 e ≡ get_or hs 0 d = get_or_default hs 0 e d (omega arith) in
      let least : n ≤ value_of (get_or hs 0 e).number = rw same first in
      grind (arith, nat_tests)) (omega arith)

  -- a change put after those with a lesser number
  pub put_at : (hs : List (Change A)) (c : Change A) (at : ℕ) → IsPlace (value_of c.number) at (map change_view hs) → map change_view (take at hs ++ c ∷ drop at hs) ≡ put (change_view c) (map change_view hs)
  put_at [] c zero place = refl
  put_at [] c (suc at) place = refl
  put_at (t ∷ ts) c zero place =
      let least : value_of c.number ≤ value_of t.number = place.1.0 in
      let fails : ltb (value_of t.number) (value_of c.number) ≡ false = grind (arith, nat_tests) in
      rw fails refl
  put_at (t ∷ ts) c (suc at) place =
      let lesser : value_of t.number < value_of c.number = place.0.0 in
      let passes : ltb (value_of t.number) (value_of c.number) ≡ true = grind (arith, nat_tests) in
      let rest : map change_view (take at ts ++ c ∷ drop at ts) ≡ put (change_view c) (map change_view ts) = put_at ts c at (place.0.1, place.1) in
      rw passes (ap (λ (us : List ChangeView). change_view t ∷ us) rest)

  -- what holds for the changes of two lists holds for those of both
  pub all_both : (P : Change A → Type 0) (hs ts : List (Change A)) → All P hs → All P ts → All P (hs ++ ts)
  all_both P [] ts all rest k d l = rest k d l
  all_both P (h ∷ hs) ts all rest zero d l = all zero d (omega arith)
  all_both P (h ∷ hs) ts all rest (suc k) d l = all_both P hs ts (λ k d l. all (suc k) d (omega arith)) rest k d (omega arith)

  -- where all have numbers below n, the leading ones below n are all
  pub front_whole : (n : ℕ) (hs : List (Change A)) → All (λ (t : Change A). value_of t.number < n) hs → front_below n (map change_view hs) ≡ map change_view hs
  front_whole n [] all = refl
  front_whole n (t ∷ ts) all =
      let lesser : value_of t.number < n = all zero t (omega arith) in
      let passes : ltb (value_of t.number) n ≡ true = grind (arith, nat_tests) in
      rw passes (ap (λ (us : List ChangeView). change_view t ∷ us) (front_whole n ts (λ k d l. all (suc k) d (omega arith))))

  -- and none is behind them
  pub behind_none : (n : ℕ) (hs : List (Change A)) → All (λ (t : Change A). value_of t.number < n) hs → behind_front n (map change_view hs) ≡ []
  behind_none n [] all = refl
  behind_none n (t ∷ ts) all =
      let lesser : value_of t.number < n = all zero t (omega arith) in
      let passes : ltb (value_of t.number) n ≡ true = grind (arith, nat_tests) in
      rw passes (behind_none n ts (λ k d l. all (suc k) d (omega arith)))
