-- Each kind of step keeps the rule.
use Rattle.std.proofs.Common.{◌≡◌, ℕ, zero, suc, ◌+◌, ◌-◌, ◌<◌, ◌≤◌, arith, List, [], ◌∷◌, ◌++◌, length, set, sym, refl, ap, ◌∙◌, subst, append_assoc, ⊎_elim}
use mathlib.Core.Option.{some, some-ne-none}
use lib.ListN.{get_elem?}
use Rattle.std.specs.List.{flat_map}
use Rattle.std.proofs.lemmas.List.{append-nil, set_comm, length-append}
use Rattle.std.proofs.lemmas.List.Concat.{flat_map-append}
use Rattle.crossbeam_deque.proofs.Lists.{at_set}
use Rattle.std.specs.List.Sorted.{IsPermutation}
use Rattle.std.proofs.lemmas.List.Sorted.{IsPermutation-trans, IsPermutation-sym, IsPermutation-append_left, IsPermutation-append_right, IsPermutation-append_comm, length_permutation}
use Rattle.crossbeam_deque.specs.Tasks.{Pushes, Takes, Forks, Merges, Finds}
use Rattle.rtps_shards.specs.declared.board.Hand.{Hand}
use Rattle.rtps_shards.specs.Board.{hand, put_by, taken_by, total, IsIdle, AllIdle, Balanced, HasTakenMore, Settles}

module _ {V A : Type 0} (f : V → List A) where
  -- a change of one view that f doesn't see
  pub flat_set_same : (views : List V) (port : ℕ) (v w : V) → get_elem? views port ≡ some v → f w ≡ f v → flat_map f (set views port w) ≡ flat_map f views
  flat_set_same [] port v w at e = refl
  flat_set_same (x ∷ xs) zero v w at e = ap (λ l. l ++ flat_map f xs) (e ∙ ap f (sym (some_is x v at)))
    where
      some_is : (a b : V) → some a ≡ some b → a ≡ b
      some_is a b h = cc
  flat_set_same (x ∷ xs) (suc port) v w at e = ap (λ l. f x ++ l) (flat_set_same xs port v w at e)

  -- a view to which f has more
  pub flat_set_more : (views : List V) (port : ℕ) (v w : V) (more : List A) → get_elem? views port ≡ some v → f w ≡ f v ++ more → IsPermutation (more ++ flat_map f views) (flat_map f (set views port w))
  flat_set_more [] port v w more at e = absurd (some-ne-none v (sym at))
  flat_set_more (x ∷ xs) zero v w more at e =
      let same : f w ≡ f x ++ more = e ∙ ap (λ y. f y ++ more) (sym (some_is x v at)) in
      let moved : IsPermutation ((more ++ f x) ++ flat_map f xs) ((f x ++ more) ++ flat_map f xs) = IsPermutation-append_left _ _ _ (IsPermutation-append_comm more (f x)) in
      rw same (subst (λ l. IsPermutation l ((f x ++ more) ++ flat_map f xs)) (append_assoc more (f x) (flat_map f xs)) moved)
    where
      some_is : (a b : V) → some a ≡ some b → a ≡ b
      some_is a b h = cc
  flat_set_more (x ∷ xs) (suc port) v w more at e =
      let rest = flat_set_more xs port v w more at e in
      let moved : IsPermutation ((more ++ f x) ++ flat_map f xs) ((f x ++ more) ++ flat_map f xs) = IsPermutation-append_left _ _ _ (IsPermutation-append_comm more (f x)) in
      IsPermutation-trans _ (f x ++ (more ++ flat_map f xs)) _
      (subst (λ l. IsPermutation l (f x ++ (more ++ flat_map f xs))) (append_assoc more (f x) (flat_map f xs)) (subst (λ l. IsPermutation ((more ++ f x) ++ flat_map f xs) l) (append_assoc (f x) more (flat_map f xs)) moved))
      (IsPermutation-append_right (f x) _ _ rest)

module _ {V A : Type 0} (f : V → List A) where
  at_still : (views : List V) (i j : ℕ) (w u : V) → ¬ (j ≡ i) → get_elem? (set views i w) j ≡ some u → get_elem? views j ≡ some u
  at_still views i j w u apart e = ⊎_elim (λ x. absurd (apart x.0)) (λ x. x.1) (at_set views i j w u e)

  at_other : (views : List V) (i j : ℕ) (w v : V) → ¬ (j ≡ i) → get_elem? views i ≡ some v → get_elem? (set views j w) i ≡ some v
  at_other [] i j w v apart e = absurd (some-ne-none v (sym e))
  at_other (x ∷ xs) zero zero w v apart e = absurd (apart refl)
  at_other (x ∷ xs) zero (suc j) w v apart e = e
  at_other (x ∷ xs) (suc i) zero w v apart e = e
  at_other (x ∷ xs) (suc i) (suc j) w v apart e = at_other xs i j w v (λ p. apart (ap suc p)) e

  -- what one view had goes to another
  pub flat_set_both : (views : List V) (port other : ℕ) (v u both spent : V) → get_elem? views port ≡ some v → get_elem? views other ≡ some u → ¬ (other ≡ port)
      → f both ≡ f v ++ f u → f spent ≡ [] → IsPermutation (flat_map f views) (flat_map f (set (set views port both) other spent))
  flat_set_both views port other v u both spent at at' apart e none =
      let R : List V = set views other spent in
      -- the list without the other's part
      let back : get_elem? R other ≡ some spent = at_here views other u spent at' in
      let again : set R other u ≡ views = set_back views other u spent at' in
      let whole : IsPermutation (f u ++ flat_map f R) (flat_map f (set R other u)) = flat_set_more f R other spent u (f u) back (ap (λ l. l ++ f u) (sym none)) in
      let whole' : IsPermutation (f u ++ flat_map f R) (flat_map f views) = subst (λ l. IsPermutation (f u ++ flat_map f R) (flat_map f l)) again whole in
      let more : IsPermutation (f u ++ flat_map f R) (flat_map f (set R port both)) = flat_set_more f R port v both (f u) (at_other views port other spent v apart at) e in
      let turned : set R port both ≡ set (set views port both) other spent = set_comm views other port spent both apart in
      IsPermutation-trans _ _ _ (IsPermutation-sym _ _ whole') (subst (λ l. IsPermutation (f u ++ flat_map f R) (flat_map f l)) turned more)
    where
      some_is : (a b : V) → some a ≡ some b → a ≡ b
      some_is a b h = cc

      at_here : (l : List V) (k : ℕ) (a b : V) → get_elem? l k ≡ some a → get_elem? (set l k b) k ≡ some b
      at_here [] k a b h = absurd (some-ne-none a (sym h))
      at_here (x ∷ xs) zero a b h = refl
      at_here (x ∷ xs) (suc k) a b h = at_here xs k a b h

      set_back : (l : List V) (k : ℕ) (a b : V) → get_elem? l k ≡ some a → set (set l k b) k a ≡ l
      set_back [] k a b h = absurd (some-ne-none a (sym h))
      set_back (x ∷ xs) zero a b h = ap (λ y. y ∷ xs) (sym (some_is x a h))
      set_back (x ∷ xs) (suc k) a b h = ap (λ l. x ∷ l) (set_back xs k a b h)

some_eq : {A : Type 0} (a b : A) → some a ≡ some b → a ≡ b
some_eq a b h = cc

module _ {T : Type 0} where
  total_set : (views : List (Hand T)) (port : ℕ) (v w : Hand T) → get_elem? views port ≡ some v → total (set views port w) + v.parts ≡ total views + w.parts
  total_set [] port v w at = absurd (some-ne-none v (sym at))
  total_set (x ∷ xs) zero v w at = let e : x.parts ≡ v.parts = ap (λ (h : Hand T). h.parts) (some_eq x v at) in omega arith
  total_set (x ∷ xs) (suc port) v w at = let e = total_set xs port v w at in omega arith

  total_snoc : (views : List (Hand T)) (w : Hand T) → total (views ++ w ∷ []) ≡ total views + w.parts
  total_snoc [] w = omega arith
  total_snoc (x ∷ xs) w = let e = total_snoc xs w in omega arith

  idle_set : (views : List (Hand T)) (port : ℕ) (w : Hand T) → AllIdle views → IsIdle w → AllIdle (set views port w)
  idle_set [] port w h i = tt
  idle_set (x ∷ xs) zero w h i = (i, h.1)
  idle_set (x ∷ xs) (suc port) w h i = (h.0, idle_set xs port w h.1 i)

  idle_snoc : (views : List (Hand T)) (w : Hand T) → AllIdle views → IsIdle w → AllIdle (views ++ w ∷ [])
  idle_snoc [] w h i = (i, tt)
  idle_snoc (x ∷ xs) w h i = (h.0, idle_snoc xs w h.1 i)

  busy : (w : Hand T) → 0 < w.parts → IsIdle w
  busy w some_part none = absurd (omega arith)

  part_le : (views : List (Hand T)) (port : ℕ) (v : Hand T) → get_elem? views port ≡ some v → v.parts ≤ total views
  part_le [] port v at = absurd (some-ne-none v (sym at))
  part_le (x ∷ xs) zero v at = let e : x.parts ≡ v.parts = ap (λ (h : Hand T). h.parts) (some_eq x v at) in omega arith
  part_le (x ∷ xs) (suc port) v at = let e = part_le xs port v at in omega arith

  -- where one pass has every part, the others have put and taken nothing
  all_none : (views : List (Hand T)) → total views ≡ 0 → AllIdle views → (flat_map put_by views ≡ []) × (flat_map taken_by views ≡ [])
  all_none [] e h = (refl, refl)
  all_none (x ∷ xs) e h =
      let mine = h.0 (omega arith) in let rest = all_none xs (omega arith) h.1 in
      (rw (mine.0, rest.0) refl, rw (mine.1, rest.1) refl)

  sole : (views : List (Hand T)) (port : ℕ) (v : Hand T) → get_elem? views port ≡ some v → total views ≡ v.parts → AllIdle views → (flat_map put_by views ≡ v.put) × (flat_map taken_by views ≡ v.taken)
  sole [] port v at e h = absurd (some-ne-none v (sym at))
  sole (x ∷ xs) zero v at e h =
      let is = some_eq x v at in let same : x.parts ≡ v.parts = ap (λ (h : Hand T). h.parts) is in
      let rest = all_none xs (omega arith) h.1 in
      (rw rest.0 (append-nil x.put ∙ ap put_by is), rw rest.1 (append-nil x.taken ∙ ap taken_by is))
  sole (x ∷ xs) (suc port) v at e h =
      let few = part_le xs port v at in
      let mine = h.0 (omega arith) in let rest = sole xs port v at (omega arith) h.1 in
      (rw (mine.0, rest.0) refl, rw (mine.1, rest.1) refl)

  pub settles : (port : ℕ) (v : Hand T) → Finds Balanced port v (Settles v)
  settles port v views h at whole =
      let s = sole views port v at (h.parts ∙ sym whole) h.idle in
      subst (λ (l : List T). IsPermutation v.put l) (append-nil v.taken) (subst (λ (z : List T × List T). IsPermutation z.0 (z.1 ++ [])) (λ i. (s.0 i, s.1 i)) h.same)

  pub sends : (port : ℕ) (v : Hand T) (xs : List T) → 0 < v.parts → Pushes Balanced port v xs (λ w. w ≡ hand v.parts (v.put ++ xs) v.taken)
  sends port v xs has items views h at =
      let w : Hand T = hand v.parts (v.put ++ xs) v.taken in
      let taken : flat_map taken_by (set views port w) ≡ flat_map taken_by views = flat_set_same taken_by views port v w at refl in
      let put : IsPermutation (xs ++ flat_map put_by views) (flat_map put_by (set views port w)) = flat_set_more put_by views port v w xs at refl in
      let held = flat_map taken_by views in
      let more : IsPermutation (xs ++ flat_map put_by views) (xs ++ (held ++ items)) = IsPermutation-append_right xs _ _ h.same in
      let turned : IsPermutation (xs ++ (held ++ items)) (held ++ (items ++ xs)) = subst (λ l. IsPermutation (xs ++ (held ++ items)) l) (append_assoc held items xs) (IsPermutation-append_comm xs (held ++ items)) in
      let t = total_set views port v w at in let p = h.parts in
      (w, record { parts = omega arith; same = rw taken (IsPermutation-trans _ _ _ (IsPermutation-sym _ _ put) (IsPermutation-trans _ _ _ more turned)); idle = idle_set views port w h.idle (busy w has) }, refl)

  pub gets : (port : ℕ) (v : Hand T) → 0 < v.parts → Takes Balanced port v 1 (λ xs w. w ≡ hand v.parts v.put (v.taken ++ xs))
  gets port v has xs items views least most h at =
      let w : Hand T = hand v.parts v.put (v.taken ++ xs) in
      let put : flat_map put_by (set views port w) ≡ flat_map put_by views = flat_set_same put_by views port v w at refl in
      let taken : IsPermutation (xs ++ flat_map taken_by views) (flat_map taken_by (set views port w)) = flat_set_more taken_by views port v w xs at refl in
      let held = flat_map taken_by views in
      let turned : IsPermutation (held ++ (xs ++ items)) ((xs ++ held) ++ items) = subst (λ l. IsPermutation l ((xs ++ held) ++ items)) (append_assoc held xs items) (IsPermutation-append_left items _ _ (IsPermutation-append_comm held xs)) in
      let t = total_set views port v w at in let p = h.parts in
      (w, record { parts = omega arith; same = rw put (IsPermutation-trans _ _ _ h.same (IsPermutation-trans _ _ _ turned (IsPermutation-append_left items _ _ taken))); idle = idle_set views port w h.idle (busy w has) }, refl)

  pub gets_few : (port : ℕ) (v : Hand T) → 0 < v.parts → Takes Balanced port v 1 (HasTakenMore v)
  gets_few port v has xs items views least most h at =
      let g = gets port v has xs items views least most h at in
      let few : v.parts ≡ 1024 → length (v.taken ++ xs) ≤ length v.put = λ whole.
      let s = sole views port v at (h.parts ∙ sym whole) h.idle in
      let all : IsPermutation v.put (v.taken ++ (xs ++ items)) = subst (λ (z : List T × List T). IsPermutation z.0 (z.1 ++ (xs ++ items))) (λ i. (s.0 i, s.1 i)) h.same in
      let n = length_permutation v.put (v.taken ++ (xs ++ items)) all in
      omega (arith, n, length-append v.taken (xs ++ items), length-append xs items, length-append v.taken xs) in
      (g.0, g.1, (g.2, few))

  -- a pass that has nothing comes beside
  beside : (f : Hand T → List T) (views : List (Hand T)) (w : Hand T) → f w ≡ [] → flat_map f (views ++ w ∷ []) ≡ flat_map f views
  beside f views w none = flat_map-append f views (w ∷ []) ∙ ap (λ l. flat_map f views ++ l) (append-nil (f w) ∙ none) ∙ append-nil (flat_map f views)

  pub forks : (port : ℕ) (v : Hand T) → 1 < v.parts → Forks Balanced port v (hand (v.parts - 1) v.put v.taken) (hand 1 [] [])
  forks port v has items views h at =
      let l : Hand T = hand (v.parts - 1) v.put v.taken in let r : Hand T = hand 1 [] [] in
      let t = total_set views port v l at in let u = total_snoc (set views port l) r in let p = h.parts in
      let put : flat_map put_by (set views port l ++ r ∷ []) ≡ flat_map put_by views = beside put_by (set views port l) r refl ∙ flat_set_same put_by views port v l at refl in
      let taken : flat_map taken_by (set views port l ++ r ∷ []) ≡ flat_map taken_by views = beside taken_by (set views port l) r refl ∙ flat_set_same taken_by views port v l at refl in
      record { parts = omega arith; same = rw (put, taken) h.same; idle = idle_snoc (set views port l) r (idle_set views port l h.idle (busy l (omega arith))) (busy r (omega arith)) }

  pub merges : (port : ℕ) (v : Hand T) (other : ℕ) (u : Hand T) → 0 < v.parts → Merges Balanced port v other u (hand (v.parts + u.parts) (v.put ++ u.put) (v.taken ++ u.taken)) (hand 0 [] [])
  merges port v other u has items views h at apart there =
      let both : Hand T = hand (v.parts + u.parts) (v.put ++ u.put) (v.taken ++ u.taken) in let spent : Hand T = hand 0 [] [] in
      let was : get_elem? views other ≡ some u = at_still put_by views port other both u apart there in
      let put = flat_set_both put_by views port other v u both spent at was apart refl refl in
      let taken = flat_set_both taken_by views port other v u both spent at was apart refl refl in
      let t = total_set views port v both at in let s = total_set (set views port both) other u spent there in let p = h.parts in
      record {
        parts = omega arith;
        same = IsPermutation-trans _ _ _ (IsPermutation-sym _ _ put) (IsPermutation-trans _ _ _ h.same (IsPermutation-append_left items _ _ taken));
        idle = idle_set (set views port both) other spent (idle_set views port both h.idle (busy both (omega arith))) (λ none. (refl, refl));
      }
