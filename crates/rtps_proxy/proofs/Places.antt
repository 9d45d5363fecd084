-- The place of a number among samples whose fragments are awaited.
use Rattle.std.proofs.Common.{◌≡◌, ℕ, zero, suc, ◌<◌, ◌≤◌, Bool, true, false, not, ◌&&◌, cond, List, [], ◌∷◌, ◌++◌, length, take, drop, get_or, set, refl, sym, ◌∙◌, ap, arith, ltb, eqb, inl, inr, Option, Some, None}
use Rattle.std.specs.Prelude.{is_some}
use Rattle.std.specs.List.{filter}
use Rattle.std.proofs.lemmas.Bool.Decides.{nat_tests, leb_tells, eqb_tells}
use Rattle.rtps_types.specs.declared.time.Timestamp.{Timestamp}
use Rattle.rtps_types.specs.Number.{value_of}
use Rattle.rtps_receiver.specs.EventBody.{FragmentView}
use Rattle.rtps_proxy.specs.declared.pending.Pending.{Pending}
use Rattle.rtps_proxy.specs.Fragments.{Begun, grown, opened, with_fragments_of}
use Rattle.rtps_proxy.specs.Pending.{are_sound, found_at, pending_view, pending_views, place_in}

module _ {A : Type 0} (n : ℕ) where
  -- what is at the place
  abbrev at_place : Pending A → Option Begun
  at_place p = cond (eqb (value_of p.number) n) (Some (pending_view p)) None

  pub found_inside : (ps : List (Pending A)) (d : Pending A) → place_in n (pending_views ps) < length ps → found_at n (pending_views ps) ≡ at_place (get_or ps (place_in n (pending_views ps)) d)
  found_inside [] d l = absurd (omega arith)
  found_inside (p ∷ ps) d l = by_test (ltb (value_of p.number) n) (found_inside ps d) l
    where
      by_test : (b : Bool) → (place_in n (pending_views ps) < length ps → found_at n (pending_views ps) ≡ at_place (get_or ps (place_in n (pending_views ps)) d))
          → cond b (suc (place_in n (pending_views ps))) 0 < suc (length ps)
          → cond b (found_at n (pending_views ps)) (at_place p) ≡ at_place (get_or (p ∷ ps) (cond b (suc (place_in n (pending_views ps))) 0) d)
      by_test true rest l = rest (omega arith)
      by_test false rest l = refl

  pub found_behind : (ps : List (Pending A)) → length ps ≤ place_in n (pending_views ps) → found_at n (pending_views ps) ≡ None
  found_behind [] le = refl
  found_behind (p ∷ ps) le = by_test (ltb (value_of p.number) n) (found_behind ps) le
    where
      by_test : (b : Bool) → (length ps ≤ place_in n (pending_views ps) → found_at n (pending_views ps) ≡ None) → suc (length ps) ≤ cond b (suc (place_in n (pending_views ps))) 0 → cond b (found_at n (pending_views ps)) (at_place p) ≡ None
      by_test true rest le = rest (omega arith)
      by_test false rest le = absurd (omega arith)

  pub place_bound : (ps : List (Pending A)) → place_in n (pending_views ps) ≤ length ps
  place_bound [] = omega arith
  place_bound (p ∷ ps) = by_test (ltb (value_of p.number) n) (place_bound ps)
    where
      by_test : (b : Bool) → place_in n (pending_views ps) ≤ length ps → cond b (suc (place_in n (pending_views ps))) 0 ≤ suc (length ps)
      by_test true rest = omega arith
      by_test false rest = omega arith

  pub found_within : (ps : List (Pending A)) → is_some (found_at n (pending_views ps)) ≡ true → place_in n (pending_views ps) < length ps
  found_within ps h =
      elim (leb_tells (length ps) (place_in n (pending_views ps))) [
        | inl w ↦ (
            let none : is_some (found_at n (pending_views ps)) ≡ false = ap is_some (found_behind ps w.1) in
            let both : true ≡ false = sym h ∙ none in
            absurd cc
            )
        | inr w ↦ w.1
      ]

module _ {A : Type 0} (time : Option Timestamp) (f : FragmentView) (q : Pending A) where
  -- fragments of a sample that is there
  pub put_there : (ps : List (Pending A)) (d : Pending A) → is_some (found_at f.number (pending_views ps)) ≡ true → pending_view q ≡ grown (pending_view (get_or ps (place_in f.number (pending_views ps)) d)) f
      → pending_views (set ps (place_in f.number (pending_views ps)) q) ≡ with_fragments_of time f (pending_views ps)
  put_there [] d some is = absurd cc
  put_there (p ∷ ps) d some is = by_test (ltb (value_of p.number) f.number) (put_there ps d) some is
    where
      by_same : (b : Bool) → is_some (cond b (Some (pending_view p)) None) ≡ true → pending_view q ≡ grown (pending_view p) f
          → pending_view q ∷ pending_views ps ≡ cond b (grown (pending_view p) f ∷ pending_views ps) (grown (opened time f) f ∷ pending_view p ∷ pending_views ps)
      by_same true some is = ap (λ (b : Begun). b ∷ pending_views ps) is
      by_same false some is = absurd cc

      by_test : (b : Bool)
          → (is_some (found_at f.number (pending_views ps)) ≡ true → pending_view q ≡ grown (pending_view (get_or ps (place_in f.number (pending_views ps)) d)) f → pending_views (set ps (place_in f.number (pending_views ps)) q) ≡ with_fragments_of time f (pending_views ps))
          → is_some (cond b (found_at f.number (pending_views ps)) (cond (eqb (value_of p.number) f.number) (Some (pending_view p)) None)) ≡ true
          → pending_view q ≡ grown (pending_view (get_or (p ∷ ps) (cond b (suc (place_in f.number (pending_views ps))) 0) d)) f
          → pending_views (set (p ∷ ps) (cond b (suc (place_in f.number (pending_views ps))) 0) q) ≡ cond b (pending_view p ∷ with_fragments_of time f (pending_views ps)) (cond (eqb (value_of p.number) f.number) (grown (pending_view p) f ∷ pending_views ps) (grown (opened time f) f ∷ pending_view p ∷ pending_views ps))
      by_test true rest some is = ap (λ (bs : List Begun). pending_view p ∷ bs) (rest some is)
      by_test false rest some is = by_same (eqb (value_of p.number) f.number) some is

  -- and of one that isn't
  pub put_new : (ps : List (Pending A)) → is_some (found_at f.number (pending_views ps)) ≡ false → pending_view q ≡ grown (opened time f) f
      → pending_views (take (place_in f.number (pending_views ps)) ps ++ q ∷ drop (place_in f.number (pending_views ps)) ps) ≡ with_fragments_of time f (pending_views ps)
  put_new [] none is = ap (λ (b : Begun). b ∷ []) is
  put_new (p ∷ ps) none is = by_test (ltb (value_of p.number) f.number) (λ n. put_new ps n is) none
    where
      by_same : (b : Bool) → is_some (cond b (Some (pending_view p)) None) ≡ false
          → pending_view q ∷ pending_view p ∷ pending_views ps ≡ cond b (grown (pending_view p) f ∷ pending_views ps) (grown (opened time f) f ∷ pending_view p ∷ pending_views ps)
      by_same true none = absurd cc
      by_same false none = ap (λ (b : Begun). b ∷ pending_view p ∷ pending_views ps) is

      by_test : (b : Bool)
          → (is_some (found_at f.number (pending_views ps)) ≡ false → pending_views (take (place_in f.number (pending_views ps)) ps ++ q ∷ drop (place_in f.number (pending_views ps)) ps) ≡ with_fragments_of time f (pending_views ps))
          → is_some (cond b (found_at f.number (pending_views ps)) (cond (eqb (value_of p.number) f.number) (Some (pending_view p)) None)) ≡ false
          → pending_views (take (cond b (suc (place_in f.number (pending_views ps))) 0) (p ∷ ps) ++ q ∷ drop (cond b (suc (place_in f.number (pending_views ps))) 0) (p ∷ ps))
          ≡ cond b (pending_view p ∷ with_fragments_of time f (pending_views ps)) (cond (eqb (value_of p.number) f.number) (grown (pending_view p) f ∷ pending_views ps) (grown (opened time f) f ∷ pending_view p ∷ pending_views ps))
      by_test true rest none = ap (λ (bs : List Begun). pending_view p ∷ bs) (rest none)
      by_test false rest none = by_same (eqb (value_of p.number) f.number) none

-- the place stays, and the sample is there then
module _ (time : Option Timestamp) (f : FragmentView) where
  pub place_stays : (bs : List Begun) → place_in f.number (with_fragments_of time f bs) ≡ place_in f.number bs
  place_stays [] = let e : ltb f.number f.number ≡ false = grind (arith, nat_tests) in rw e refl
  place_stays (b ∷ bs) =
      let rest : place_in f.number (with_fragments_of time f bs) ≡ place_in f.number bs = place_stays bs in
      let itself : ltb f.number f.number ≡ false = grind (arith, nat_tests) in
      elim (leb_tells (suc b.number) f.number) [
        | inl w ↦ rw (w.0, w.0) (ap suc rest)
        | inr w ↦ elim (eqb_tells b.number f.number) [
          | inl v ↦ rw (w.0, v.0) (let e : ltb b.number f.number ≡ false = w.0 in rw e refl)
          | inr v ↦ rw (w.0, v.0) (rw itself refl)
        ]
      ]

  pub found_then : (bs : List Begun) → is_some (found_at f.number (with_fragments_of time f bs)) ≡ true
  found_then [] =
      let itself : ltb f.number f.number ≡ false = grind (arith, nat_tests) in
      let same : eqb f.number f.number ≡ true = grind (arith, nat_tests) in
      rw (itself, same) refl
  found_then (b ∷ bs) =
      let rest : is_some (found_at f.number (with_fragments_of time f bs)) ≡ true = found_then bs in
      let itself : ltb f.number f.number ≡ false = grind (arith, nat_tests) in
      let same : eqb f.number f.number ≡ true = grind (arith, nat_tests) in
      elim (leb_tells (suc b.number) f.number) [
        | inl w ↦ rw (w.0, w.0) rest
        | inr w ↦ elim (eqb_tells b.number f.number) [
          | inl v ↦ rw (w.0, v.0) (let e : ltb b.number f.number ≡ false = w.0 in let d : eqb b.number f.number ≡ true = v.0 in rw (e, d) refl)
          | inr v ↦ rw (w.0, v.0) (rw (itself, same) refl)
        ]
      ]

-- one that leaves
pub left_filtered : {A : Type 0} (p : ℕ → Bool) (ps : List (Pending A)) (at : ℕ) (d : Pending A) → at < length ps → p (value_of (get_or ps at d).number) ≡ false
    → filter (λ b. p b.number) (pending_views (take at ps ++ drop (suc at) ps)) ≡ filter (λ b. p b.number) (pending_views ps)
left_filtered p [] at d l out = absurd (omega arith)
left_filtered p (q ∷ ps) zero d l out = rw out refl
left_filtered p (q ∷ ps) (suc at) d l out = by_test (p (value_of q.number)) (left_filtered p ps at d (omega arith) out)
  where
    by_test : (b : Bool) → filter (λ c. p c.number) (pending_views (take at ps ++ drop (suc at) ps)) ≡ filter (λ c. p c.number) (pending_views ps)
        → cond b (pending_view q ∷ filter (λ c. p c.number) (pending_views (take at ps ++ drop (suc at) ps))) (filter (λ c. p c.number) (pending_views (take at ps ++ drop (suc at) ps))) ≡ cond b (pending_view q ∷ filter (λ c. p c.number) (pending_views ps)) (filter (λ c. p c.number) (pending_views ps))
    by_test true rest = ap (λ (bs : List Begun). pending_view q ∷ bs) rest
    by_test false rest = rest

-- whether all are sound
pub and_both : (a b : Bool) → (a && b) ≡ true → (a ≡ true) × (b ≡ true)
and_both true b h = (refl, h)
and_both false b h = absurd cc

pub sound_set : {A : Type 0} (ps : List (Pending A)) (at : ℕ) (q : Pending A) → are_sound ps ≡ true → q.sample.spent ≡ false → are_sound (set ps at q) ≡ true
sound_set [] at q h s = refl
sound_set (p ∷ ps) zero q h s = rw s (and_both (not p.sample.spent) (are_sound ps) h).1
sound_set (p ∷ ps) (suc at) q h s = let both = and_both (not p.sample.spent) (are_sound ps) h in rw both.0 (sound_set ps at q both.1 s)

pub sound_insert : {A : Type 0} (ps : List (Pending A)) (at : ℕ) (q : Pending A) → are_sound ps ≡ true → q.sample.spent ≡ false → are_sound (take at ps ++ q ∷ drop at ps) ≡ true
sound_insert ps zero q h s = rw s h
sound_insert [] (suc at) q h s = rw s refl
sound_insert (p ∷ ps) (suc at) q h s = let both = and_both (not p.sample.spent) (are_sound ps) h in rw both.0 (sound_insert ps at q both.1 s)

pub sound_removed : {A : Type 0} (ps : List (Pending A)) (at : ℕ) → are_sound ps ≡ true → are_sound (take at ps ++ drop (suc at) ps) ≡ true
sound_removed [] zero h = refl
sound_removed [] (suc at) h = refl
sound_removed (p ∷ ps) zero h = (and_both (not p.sample.spent) (are_sound ps) h).1
sound_removed (p ∷ ps) (suc at) h = let both = and_both (not p.sample.spent) (are_sound ps) h in rw both.0 (sound_removed ps at both.1)

pub sound_at : {A : Type 0} (ps : List (Pending A)) (at : ℕ) (d : Pending A) → are_sound ps ≡ true → at < length ps → (get_or ps at d).sample.spent ≡ false
sound_at [] at d h l = absurd (omega arith)
sound_at (p ∷ ps) zero d h l = not_true p.sample.spent (and_both (not p.sample.spent) (are_sound ps) h).0
  where
    not_true : (b : Bool) → not b ≡ true → b ≡ false
    not_true true h = absurd cc
    not_true false h = refl
sound_at (p ∷ ps) (suc at) d h l = sound_at ps at d (and_both (not p.sample.spent) (are_sound ps) h).1 (omega arith)

-- those that pass a test of their numbers
pub views_filtered : {A : Type 0} (p : ℕ → Bool) (ps : List (Pending A)) → pending_views (filter (λ s. p (value_of s.number)) ps) ≡ filter (λ b. p b.number) (pending_views ps)
views_filtered p [] = refl
views_filtered p (s ∷ ps) = by_test (p (value_of s.number)) (views_filtered p ps)
  where
    by_test : (b : Bool) → pending_views (filter (λ t. p (value_of t.number)) ps) ≡ filter (λ t. p t.number) (pending_views ps)
        → pending_views (cond b (s ∷ filter (λ t. p (value_of t.number)) ps) (filter (λ t. p (value_of t.number)) ps)) ≡ cond b (pending_view s ∷ filter (λ t. p t.number) (pending_views ps)) (filter (λ t. p t.number) (pending_views ps))
    by_test true rest = ap (λ (bs : List Begun). pending_view s ∷ bs) rest
    by_test false rest = rest

pub sound_filtered : {A : Type 0} (p : Pending A → Bool) (ps : List (Pending A)) → are_sound ps ≡ true → are_sound (filter p ps) ≡ true
sound_filtered p [] h = refl
sound_filtered p (s ∷ ps) h = by_test (p s) (and_both (not s.sample.spent) (are_sound ps) h) (λ rest. sound_filtered p ps rest)
  where
    by_test : (b : Bool) → (not s.sample.spent ≡ true) × (are_sound ps ≡ true) → (are_sound ps ≡ true → are_sound (filter p ps) ≡ true) → are_sound (cond b (s ∷ filter p ps) (filter p ps)) ≡ true
    by_test true both rest = rw both.0 (rest both.1)
    by_test false both rest = rest both.1
