-- Runs of fragments.
use Rattle.std.proofs.Common.{◌≡◌, ℕ, suc, ◌+◌, ◌<◌, ◌≤◌, ◌⊎◌, Bool, true, false, ◌&&◌, ◌||◌, cond, List, [], ◌∷◌, ◌++◌, refl, sym, ◌∙◌, subst, arith, ltb, leb, eqb, inl, inr, max, Some}
use Rattle.std.specs.Prelude.{is_some}
use Rattle.std.specs.List.{filter, AllByRecursion}
use Rattle.std.specs.BTreeMap.{insert_entry}
use Rattle.std.specs.Ordering.{nat_cmp}
use Rattle.std.proofs.lemmas.Bool.Decides.{nat_tests, leb_tells, eqb_tells}
use Rattle.rtps_frags.specs.declared.sizes.Sizes.{Sizes}
use Rattle.rtps_frags.specs.Fragments.{fragment_in}
use Rattle.rtps_frags.specs.Runs.{AreApart, Run, Runs, covers, end_of, in_runs, kept_at, within}

pub or_none : (a b : Bool) → (a || b) ≡ false → (a ≡ false) × (b ≡ false)
or_none true b h = absurd cc
or_none false b h = (refl, h)

pub or_true : (a : Bool) → (a || true) ≡ true
or_true true = refl
or_true false = refl

-- a fragment is in the runs where one of them has it
pub some_is : (z : Sizes) (rs : Runs) (k : ℕ) → is_some (in_runs z rs k) ≡ covers rs k
some_is z [] k = refl
some_is z (r ∷ rs) k = by_test (within k r) (some_is z rs k)
  where
    by_test : (b : Bool) → is_some (in_runs z rs k) ≡ covers rs k → is_some (cond b (Some (fragment_in z r.0 r.1.octets k)) (in_runs z rs k)) ≡ (b || covers rs k)
    by_test true h = refl
    by_test false h = h

pub kept_is : (z : Sizes) (next : ℕ) (front : List ℕ) (rs : Runs) (k : ℕ) → is_some (kept_at z next front rs k) ≡ ((leb 1 k && ltb k next) || covers rs k)
kept_is z next front rs k = by_test (leb 1 k && ltb k next) (some_is z rs k)
  where
    by_test : (b : Bool) → is_some (in_runs z rs k) ≡ covers rs k → is_some (cond b (Some (fragment_in z 1 front k)) (in_runs z rs k)) ≡ (b || covers rs k)
    by_test true h = refl
    by_test false h = h

pub weaken : (rs : Runs) (low low' : ℕ) → AreApart low rs → low' ≤ low → AreApart low' rs
weaken [] low low' h le = tt
weaken (r ∷ rs) low low' h le = let first : low ≤ r.0 = h.0 in (omega arith, h.1, h.2)

-- none is below the first
pub none_below : (rs : Runs) (low k : ℕ) → AreApart low rs → k < low → covers rs k ≡ false
none_below [] low k h l = refl
none_below (r ∷ rs) low k h l =
    let first : low ≤ r.0 = h.0 in
    let some : 0 < r.1.count = h.1 in
    let out : within k r ≡ false = grind (arith, nat_tests) in
    let rest : covers rs k ≡ false = none_below rs (end_of r) k h.2 (omega arith) in
    rw (out, rest) refl

-- a run that a filter leaves was there
pub last_covers : (p : ℕ × Run → Bool) (rs t : Runs) (r : ℕ × Run) (k : ℕ) → filter p rs ≡ t ++ r ∷ [] → within k r ≡ true → covers rs k ≡ true
last_covers p [] [] r k e i = absurd cc
last_covers p [] (y ∷ t) r k e i = absurd cc
last_covers p (x ∷ rs) t r k e i = by_test (p x) (λ u f. rw (last_covers p rs u r k f i) (or_true (within k x))) e
  where
    by_front : (u : Runs) → ((v : Runs) → filter p rs ≡ v ++ r ∷ [] → covers (x ∷ rs) k ≡ true) → x ∷ filter p rs ≡ u ++ r ∷ [] → covers (x ∷ rs) k ≡ true
    by_front [] rest f =
        let same : x ≡ r = cc in
        let here : within k x ≡ true = rw same i in
        rw here refl
    by_front (y ∷ u) rest f = let tail : filter p rs ≡ u ++ r ∷ [] = cc in rest u tail

    by_test : (b : Bool) → ((v : Runs) → filter p rs ≡ v ++ r ∷ [] → covers (x ∷ rs) k ≡ true) → cond b (x ∷ filter p rs) (filter p rs) ≡ t ++ r ∷ [] → covers (x ∷ rs) k ≡ true
    by_test true rest f = by_front t rest f
    by_test false rest f = rest t f

-- what neither of two filters leaves isn't there, where each run passes one
pub neither : (p q : ℕ × Run → Bool) → ((x : ℕ × Run) → (p x || q x) ≡ true) → (rs : Runs) (k : ℕ) → covers (filter p rs) k ≡ false → covers (filter q rs) k ≡ false → covers rs k ≡ false
neither p q all [] k hp hq = refl
neither p q all (x ∷ rs) k hp hq = by_tests (p x) (q x) (λ a b. neither p q all rs k a b) (all x) hp hq
  where
    by_tests : (b c : Bool) → (covers (filter p rs) k ≡ false → covers (filter q rs) k ≡ false → covers rs k ≡ false) → (b || c) ≡ true → covers (cond b (x ∷ filter p rs) (filter p rs)) k ≡ false → covers (cond c (x ∷ filter q rs) (filter q rs)) k ≡ false → (within k x || covers rs k) ≡ false
    by_tests true true rest h a b =
        let here = or_none (within k x) (covers (filter p rs) k) a in
        let there = or_none (within k x) (covers (filter q rs) k) b in
        rw (here.0, rest here.1 there.1) refl
    by_tests true false rest h a b = let here = or_none (within k x) (covers (filter p rs) k) a in rw (here.0, rest here.1 b) refl
    by_tests false true rest h a b = let there = or_none (within k x) (covers (filter q rs) k) b in rw (there.0, rest a there.1) refl
    by_tests false false rest h a b = absurd cc

pub apart_filter : (p : ℕ × Run → Bool) (rs : Runs) (low : ℕ) → AreApart low rs → AreApart low (filter p rs)
apart_filter p [] low h = tt
apart_filter p (x ∷ rs) low h = by_test (p x) (apart_filter p rs (end_of x) h.2)
  where
    by_test : (b : Bool) → AreApart (end_of x) (filter p rs) → AreApart low (cond b (x ∷ filter p rs) (filter p rs))
    by_test true rest = (h.0, h.1, rest)
    by_test false rest = let first : low ≤ x.0 = h.0 in weaken (filter p rs) (end_of x) low rest (omega arith)

-- none is after the end of the last
pub none_behind : (t : Runs) (r : ℕ × Run) (low k : ℕ) → AreApart low (t ++ r ∷ []) → end_of r ≤ k → (low ≤ r.0) × (covers (t ++ r ∷ []) k ≡ false)
none_behind [] r low k h le =
    let out : within k r ≡ false = grind (arith, nat_tests) in
    (h.0, rw out refl)
none_behind (x ∷ t) r low k h le =
    let rest = none_behind t r (end_of x) k h.2 le in
    let first : low ≤ x.0 = h.0 in
    let order : end_of x ≤ r.0 = rest.0 in
    let out : within k x ≡ false = grind (arith, nat_tests) in
    (omega arith, rw (out, rest.1) refl)

-- a run more, where none has one of its fragments
module _ (k : ℕ) (run : Run) (some : 0 < run.count) where
  abbrev pub IsFree : Runs → Type 0
  IsFree rs = (j : ℕ) → k ≤ j → j < k + run.count → covers rs j ≡ false

  pub free_behind : (x : ℕ × Run) (rs : Runs) → IsFree (x ∷ rs) → IsFree rs
  free_behind x rs h j le l = (or_none (within j x) (covers rs j) (h j le l)).1

  -- it is before a run, or after
  pub clear : (x : ℕ × Run) (rs : Runs) → 0 < x.1.count → IsFree (x ∷ rs) → (k + run.count ≤ x.0) ⊎ (end_of x ≤ k)
  clear x rs more h =
      elim (leb_tells (k + run.count) x.0) [
        | inl w ↦ inl w.1
        | inr w ↦ elim (leb_tells (end_of x) k) [
          | inl v ↦ inr v.1
          | inr v ↦ (
              let low : x.0 < k + run.count = w.1 in
              let high : k < end_of x = v.1 in
              let inside : within (max k x.0) x ≡ true = grind (arith, nat_tests) in
              let not_inside : within (max k x.0) x ≡ false = (or_none (within (max k x.0) x) (covers rs (max k x.0)) (h (max k x.0) (omega arith) (omega arith))).0 in
              let both : true ≡ false = sym inside ∙ not_inside in
              absurd cc
              )
        ]
      ]

  pub insert_apart : (rs : Runs) (low : ℕ) → AreApart low rs → low ≤ k → IsFree rs → AreApart low (insert_entry nat_cmp rs k run)
  insert_apart [] low h le free = (le, some, tt)
  insert_apart (x ∷ rs) low h le free =
      let rest = λ (after : end_of x ≤ k). insert_apart rs (end_of x) h.2 after (free_behind x rs free) in
      elim (clear x rs h.1 free) [
        | inl before ↦ (
            let less : ltb k x.0 ≡ true = grind (arith, nat_tests) in
            rw less (le, some, (before, h.1, h.2))
            )
        | inr after ↦ (
            let more : 0 < x.1.count = h.1 in
            let not_less : ltb k x.0 ≡ false = grind (arith, nat_tests) in
            let not_same : eqb k x.0 ≡ false = grind (arith, nat_tests) in
            rw (not_less, not_same) (h.0, h.1, rest after)
            )
      ]

  -- what is found then
  pub insert_finds : (z : Sizes) (rs : Runs) (low : ℕ) → AreApart low rs → IsFree rs → (j : ℕ) → in_runs z (insert_entry nat_cmp rs k run) j ≡ cond (leb k j && ltb j (k + run.count)) (Some (fragment_in z k run.octets j)) (in_runs z rs j)
  insert_finds z [] low h free j = refl
  insert_finds z (x ∷ rs) low h free j =
      let rest = λ (after : end_of x ≤ k). insert_finds z rs (end_of x) h.2 (free_behind x rs free) j in
      elim (clear x rs h.1 free) [
        | inl before ↦ (
            let less : ltb k x.0 ≡ true = grind (arith, nat_tests) in
            rw less refl
            )
        | inr after ↦ (
            let more : 0 < x.1.count = h.1 in
            let not_less : ltb k x.0 ≡ false = grind (arith, nat_tests) in
            let not_same : eqb k x.0 ≡ false = grind (arith, nat_tests) in
            let apart : (within j x && (leb k j && ltb j (k + run.count))) ≡ false = grind (arith, nat_tests) in
            rw (not_less, not_same) (swapped (within j x) (leb k j && ltb j (k + run.count)) apart (rest after))
            )
      ]
    where
      swapped : (b c : Bool) → (b && c) ≡ false → in_runs z (insert_entry nat_cmp rs k run) j ≡ cond c (Some (fragment_in z k run.octets j)) (in_runs z rs j)
          → cond b (Some (fragment_in z x.0 x.1.octets j)) (in_runs z (insert_entry nat_cmp rs k run) j) ≡ cond c (Some (fragment_in z k run.octets j)) (cond b (Some (fragment_in z x.0 x.1.octets j)) (in_runs z rs j))
      swapped true true h e = absurd cc
      swapped true false h e = refl
      swapped false c h e = e

pub insert_all : (P : ℕ × Run → Type 0) (rs : Runs) (k : ℕ) (run : Run) → P (k, run) → AllByRecursion P rs → AllByRecursion P (insert_entry nat_cmp rs k run)
insert_all P [] k run here all = (here, tt)
insert_all P (x ∷ rs) k run here all =
    let rest : AllByRecursion P (insert_entry nat_cmp rs k run) = insert_all P rs k run here all.1 in
    elim (leb_tells (suc k) x.0) [
      | inl w ↦ rw w.0 (here, all)
      | inr w ↦ elim (eqb_tells k x.0) [
        | inl v ↦ (let same : P (x.0, run) = subst (λ n. P (n, run)) v.1 here in rw (w.0, v.0) (same, all.1))
        | inr v ↦ rw (w.0, v.0) (all.0, rest)
      ]
    ]

pub filter_same : (p q : ℕ × Run → Bool) → ((x : ℕ × Run) → p x ≡ q x) → (rs : Runs) → filter p rs ≡ filter q rs
filter_same p q same [] = refl
filter_same p q same (x ∷ rs) =
    let rest : filter p rs ≡ filter q rs = filter_same p q same rs in
    rw (same x, rest) refl
