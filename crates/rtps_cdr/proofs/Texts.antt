-- Texts one after the other: what is left when one of them is read.
use Rattle.std.proofs.Common.{◌≡◌, ℕ, zero, suc, ◌+◌, ◌-◌, ◌<◌, ◌≤◌, true, is_ok, List, [], ◌∷◌, Ok, Err, refl, sym, ◌∙◌, ap, arith}
use Rattle.std.specs.Borrow.{Bor}
use Rattle.rtps_cdr.specs.declared.fault.CdrFault.{CdrFault}
use Rattle.rtps_cdr.specs.Reading.{Cursor, placed, Read, place_of, followed_by, items_in, text_in, texts_left, list_of}

pub texts_none : (n : ℕ) (c : Cursor) → n ≡ 0 → texts_left n c ≡ []
unfolding items_in
texts_none n c e = rw e refl

-- the items of one text and of those after it
texts_step : (n : ℕ) (c : Cursor) (t : List ℕ) (after : ℕ) → ¬ (n ≡ 0) → Ok (t, after) ≡ text_in c →
    items_in text_in n c ≡ followed_by (items_in text_in (n - 1) (placed c after)) (λ ts behind. Ok (t ∷ ts, behind))
unfolding items_in
texts_step zero c t after some e = absurd (some refl)
texts_step (suc n) c t after some e =
    let less : suc n - 1 ≡ n = omega arith in
    rw (less, ← e) refl

pub texts_first : (n : ℕ) (c : Cursor) (t : Bor (List ℕ)) (after : ℕ) → ¬ (n ≡ 0) → is_ok (items_in text_in n c) ≡ true → Ok (t.now, after) ≡ text_in c →
    texts_left n c ≡ t.now ∷ texts_left (n - 1) (placed c after)
texts_first n c t after some good e = by_rest t.now (items_in text_in n c) (items_in text_in (n - 1) (placed c after)) (texts_step n c t.now after some e) good where
  by_rest : (t : List ℕ) (r s : Read (List (List ℕ))) → r ≡ followed_by s (λ ts behind. Ok (t ∷ ts, behind)) → is_ok r ≡ true → list_of r ≡ t ∷ list_of s
  by_rest t r (Ok y) e good = rw e refl
  by_rest t r (Err f) e good = absurd (cc (good, ap is_ok e))

pub texts_others : (n : ℕ) (c : Cursor) (t : Bor (List ℕ)) (after : ℕ) → ¬ (n ≡ 0) → is_ok (items_in text_in n c) ≡ true → Ok (t.now, after) ≡ text_in c →
    is_ok (items_in text_in (n - 1) (placed c after)) ≡ true
texts_others n c t after some good e = by_rest t.now (items_in text_in n c) (items_in text_in (n - 1) (placed c after)) (texts_step n c t.now after some e) good where
  by_rest : (t : List ℕ) (r s : Read (List (List ℕ))) → r ≡ followed_by s (λ ts behind. Ok (t ∷ ts, behind)) → is_ok r ≡ true → is_ok s ≡ true
  by_rest t r (Ok y) e good = refl
  by_rest t r (Err f) e good = absurd (cc (good, ap is_ok e))

-- a faulty text makes all of them faulty
pub texts_fault : (n : ℕ) (c : Cursor) (f : CdrFault) → ¬ (n ≡ 0) → Err f ≡ text_in c → items_in text_in n c ≡ Err f
unfolding items_in
texts_fault zero c f some e = absurd (some refl)
texts_fault (suc n) c f some e = rw (← e) refl

pub texts_sound : (n : ℕ) (c : Cursor) (f : CdrFault) → ¬ (n ≡ 0) → is_ok (items_in text_in n c) ≡ true → Err f ≡ text_in c → ⊥
texts_sound n c f some good e = cc (good, ap is_ok (texts_fault n c f some e))

-- ---- the places after them

pub places_step : (n i : ℕ) (c : Cursor) (t : Bor (List ℕ)) (after : ℕ) → i < n → Ok (t.now, after) ≡ text_in c →
    place_of (items_in text_in (n - (i + 1)) (placed c after)) ≡ place_of (items_in text_in (n - i) c)
places_step n i c t after l e =
    let less : n - i - 1 ≡ n - (i + 1) = omega arith in
    let step = texts_step (n - i) c t.now after (λ z. omega (arith, z)) e in
    sym (ap place_of step ∙ by_rest t.now (items_in text_in (n - i - 1) (placed c after)) ∙ ap (λ (k : ℕ). place_of (items_in text_in k (placed c after))) less) where
      by_rest : (t : List ℕ) (s : Read (List (List ℕ))) → place_of {A = List (List ℕ)} (followed_by s (λ ts behind. Ok (t ∷ ts, behind))) ≡ place_of s
      by_rest t (Ok y) = refl
      by_rest t (Err f) = refl

pub places_fault : (n i : ℕ) (c : Cursor) (f : CdrFault) → i < n → Err f ≡ text_in c → place_of (items_in text_in (n - i) c) ≡ Err f
places_fault n i c f l e = ap place_of (texts_fault (n - i) c f (λ z. omega (arith, z)) e)

pub places_end : (n i : ℕ) (c : Cursor) → n ≤ i → place_of (items_in text_in (n - i) c) ≡ Ok c.position
unfolding items_in
places_end n i c l = let none : n - i ≡ zero = omega arith in rw none refl
