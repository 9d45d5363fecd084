-- Runs of which some lie at their places in a buffer.
use Rattle.std.proofs.Common.{◌≡◌, ℕ, suc, ◌+◌, ◌-◌, ◌<◌, ◌≤◌, ◌⊎◌, true, false, ◌||◌, ◌==◌, List, [], ◌∷◌, length, refl, sym, ◌∙◌, ap, arith, ltb, eqb, inl, inr, Some}
use Rattle.std.specs.BTreeMap.{insert_entry}
use Rattle.std.specs.List.{AllByRecursion}
use Rattle.std.specs.Map.{lookup, set_value}
use Rattle.std.specs.Ordering.{nat_cmp}
use Rattle.std.proofs.lemmas.Bool.Decides.{nat_tests, leb_tells, eqb_tells}
use Rattle.rtps_frags.specs.declared.sizes.Sizes.{Sizes}
use Rattle.rtps_frags.specs.Buffer.{IsPutAt, if_none, octets_in, own_or, placed, runs_in, stretch}
use Rattle.rtps_frags.specs.Fragments.{before, last_of, length_of, upto}
use Rattle.rtps_frags.specs.Runs.{AreApart, Fits, Run, Runs, covers, end_of, starts_at, within}
use Rattle.rtps_frags.proofs.Cuts.{before_rises, goes_on, upto_rises}
use Rattle.rtps_frags.proofs.Longer.{same_some, starts, starts_tells}
use Rattle.rtps_frags.proofs.Runs.{IsFree, clear, free_behind}

-- a fragment ends where a later one begins, or before
pub upto_low : (z : Sizes) (j k : ℕ) → j < k → upto z j ≤ before z k
upto_low z j k l = let rises : before z (suc j) ≤ before z k = before_rises z (suc j) k l in omega (arith, rises)

-- and so do fragments
pub place_ends : (z : Sizes) (start count k : ℕ) → 1 ≤ count → start + count ≤ k → before z start + length_of z start count ≤ before z k
place_ends z start count k some le =
    let end : upto z (start + count - 1) ≤ before z k = upto_low z (start + count - 1) k (omega arith) in
    let begin : before z start ≤ before z k = before_rises z start k (omega arith) in
    omega (arith, end, begin)

module _ (z : Sizes) (buffer : List ℕ) where
  -- where they are, and which fragments they have
  pub covers_in : (rs : Runs) (k : ℕ) → covers (runs_in z buffer rs) k ≡ covers rs k
  covers_in [] k = refl
  covers_in (r ∷ rs) k = ap (λ b. within k r || b) (covers_in rs k)

  pub apart_in : (rs : Runs) (low : ℕ) → AreApart low (runs_in z buffer rs) → AreApart low rs
  apart_in [] low h = tt
  apart_in (r ∷ rs) low h = (h.0, h.1, apart_in rs (end_of r) h.2)

  pub starts_in : (rs : Runs) (k : ℕ) → starts_at k (runs_in z buffer rs) ≡ starts_at k rs
  starts_in [] k = refl
  starts_in (r ∷ rs) k = refl

  -- one with its octets
  abbrev pub run_in : ℕ → Run → Run
  run_in k run = record { count = run.count; octets = octets_in z buffer (k, run) }

  -- one more, or another in the place of one
  pub runs_insert : (rs : Runs) (k : ℕ) (run : Run) → runs_in z buffer (insert_entry nat_cmp rs k run) ≡ insert_entry nat_cmp (runs_in z buffer rs) k (run_in k run)
  runs_insert [] k run = refl
  runs_insert (x ∷ rs) k run =
      elim (leb_tells (suc k) x.0) [
        | inl w ↦ rw w.0 refl
        | inr w ↦ elim (eqb_tells k x.0) [
          | inl v ↦ rw (w.0, v.0) (ap (λ n. (x.0, run_in n run) ∷ runs_in z buffer rs) (sym v.1))
          | inr v ↦ rw (w.0, v.0) (ap (λ (l : Runs). (x.0, run_in x.0 x.1) ∷ l) (runs_insert rs k run))
        ]
      ]

  pub runs_set : (rs : Runs) (k : ℕ) (run : Run) → runs_in z buffer (set_value (starts k) rs run) ≡ set_value (starts k) (runs_in z buffer rs) (run_in k run)
  runs_set [] k run = refl
  runs_set (x ∷ rs) k run =
      elim (starts_tells k x.0) [
        | inl w ↦ rw w.0 (ap (λ n. (x.0, run_in n run) ∷ runs_in z buffer rs) (sym w.1))
        | inr w ↦ rw w.0 (ap (λ (l : Runs). (x.0, run_in x.0 x.1) ∷ l) (runs_set rs k run))
      ]

  pub lookup_in : (rs : Runs) (k : ℕ) (run : Run) → lookup (starts k) rs ≡ Some run → lookup (starts k) (runs_in z buffer rs) ≡ Some (run_in k run)
  lookup_in [] k run found = absurd cc
  lookup_in (x ∷ rs) k run found =
      elim (starts_tells k x.0) [
        | inl w ↦ (
            let same : x.1 ≡ run = same_some x.1 run (rw w.0 at found) in
            rw w.0 (ap (λ n. Some (run_in n x.1)) (sym w.1) ∙ ap (λ (r : Run). Some (run_in k r)) same)
            )
        | inr w ↦ rw w.0 (lookup_in rs k run (rw w.0 at found))
      ]

-- what is put elsewhere leaves runs as they were
module _ (z : Sizes) (start count : ℕ) (octets old new : List ℕ) (some : 1 ≤ count) (fits : length octets ≡ length_of z start count) (put : IsPutAt (before z start) octets old new) where
  run_same : (r : ℕ × Run) → 0 < r.1.count → length (octets_in z old r) ≡ length_of z r.0 r.1.count → (start + count ≤ r.0) ⊎ (end_of r ≤ start) → octets_in z new r ≡ octets_in z old r
  run_same r more full side = by_own r.1.octets full
    where
      apart : (start + count ≤ r.0) ⊎ (end_of r ≤ start) → (before z r.0 + length_of z r.0 r.1.count ≤ before z start) ⊎ (before z start + length octets ≤ before z r.0)
      apart (inl le) = inr (rw fits (place_ends z start count r.0 some le))
      apart (inr le) = inl (place_ends z r.0 r.1.count start more le)

      by_own : (own : List ℕ) → length (own_or own (stretch (before z r.0) (length_of z r.0 r.1.count) old)) ≡ length_of z r.0 r.1.count
          → own_or own (stretch (before z r.0) (length_of z r.0 r.1.count) new) ≡ own_or own (stretch (before z r.0) (length_of z r.0 r.1.count) old)
      by_own [] h = put.others (before z r.0) (length_of z r.0 r.1.count) h (apart side)
      by_own (x ∷ xs) h = refl

  pub runs_same : (rs : Runs) (low : ℕ) → AreApart low (runs_in z old rs) → AllByRecursion (Fits z) (runs_in z old rs) → ((k : ℕ) → start ≤ k → k < start + count → covers (runs_in z old rs) k ≡ false) → runs_in z new rs ≡ runs_in z old rs
  runs_same [] low apart all free = refl
  runs_same (r ∷ rs) low apart all free =
      let piece : Run = record { count = count; octets = octets } in
      let here : octets_in z new r ≡ octets_in z old r = run_same r apart.1 all.0.1 (clear start piece some (r.0, run_in z old r.0 r.1) (runs_in z old rs) apart.1 free) in
      let rest : runs_in z new rs ≡ runs_in z old rs = runs_same rs (end_of r) apart.2 all.1 (free_behind start piece some (r.0, run_in z old r.0 r.1) (runs_in z old rs) free) in
      rw (here, rest) refl

-- how many octets lie in the buffer
module _ (z : Sizes) where
  pub placed_insert : (k : ℕ) (run : Run) (some : 0 < run.count) (rs : Runs) (low : ℕ) → AreApart low rs → IsFree k run some rs → placed z (insert_entry nat_cmp rs k run) ≡ if_none run.octets (length_of z k run.count) + placed z rs
  placed_insert k run some [] low h free = refl
  placed_insert k run some (x ∷ rs) low h free =
      elim (clear k run some x rs h.1 free) [
        | inl before ↦ (
            let less : ltb k x.0 ≡ true = grind (arith, nat_tests) in
            rw less refl
            )
        | inr after ↦ (
            let more : 0 < x.1.count = h.1 in
            let not_less : ltb k x.0 ≡ false = grind (arith, nat_tests) in
            let not_same : eqb k x.0 ≡ false = grind (arith, nat_tests) in
            let rest = placed_insert k run some rs (end_of x) h.2 (free_behind k run some x rs free) in
            rw (not_less, not_same, rest) (omega arith)
            )
      ]

  pub placed_set : (k : ℕ) (was run : Run) (rs : Runs) → lookup (starts k) rs ≡ Some was → placed z (set_value (starts k) rs run) + if_none was.octets (length_of z k was.count) ≡ placed z rs + if_none run.octets (length_of z k run.count)
  placed_set k was run [] found = absurd cc
  placed_set k was run (x ∷ rs) found =
      elim (starts_tells k x.0) [
        | inl w ↦ (
            let same : x.1 ≡ was = same_some x.1 was (rw w.0 at found) in
            rw w.0 (here x.0 x.1 w.1 same)
            )
        | inr w ↦ (
            let rest = placed_set k was run rs (rw w.0 at found) in
            rw w.0 (omega (arith, rest))
            )
      ]
    where
      here : (n : ℕ) (r : Run) → k ≡ n → r ≡ was → if_none run.octets (length_of z n run.count) + placed z rs + if_none was.octets (length_of z k was.count) ≡ if_none r.octets (length_of z n r.count) + placed z rs + if_none run.octets (length_of z k run.count)
      here n r e f =
          let own = if_none run.octets (length_of z k run.count) in
          let old = if_none was.octets (length_of z k was.count) in
          let new_is : if_none run.octets (length_of z n run.count) ≡ own = ap (λ m. if_none run.octets (length_of z m run.count)) (sym e) in
          let old_is : if_none r.octets (length_of z n r.count) ≡ old = ap (λ m. if_none r.octets (length_of z m r.count)) (sym e) ∙ ap (λ (q : Run). if_none q.octets (length_of z k q.count)) f in
          omega (arith, new_is, old_is)

  if_none_le : (octets : List ℕ) (n : ℕ) → if_none octets n ≤ n
  if_none_le [] n = omega arith
  if_none_le (x ∷ xs) n = omega arith

  -- no more than the sample has after the fragments before them
  pub placed_within : (cut : 0 < z.fragment) (buffer : List ℕ) (rs : Runs) (low : ℕ) → 1 ≤ low → AreApart low (runs_in z buffer rs) → AllByRecursion (Fits z) (runs_in z buffer rs) → placed z rs + upto z (low - 1) ≤ z.sample
  placed_within cut buffer [] low one h all = omega arith
  placed_within cut buffer (r ∷ rs) low one h all =
      let first : low ≤ r.0 = h.0 in
      let some : 0 < r.1.count = h.1 in
      let last : end_of r ≤ suc (last_of z) = all.0.0 in
      let rest : placed z rs + upto z (end_of r - 1) ≤ z.sample = placed_within cut buffer rs (end_of r) (omega (arith, first, one)) h.2 all.1 in
      let here : if_none r.1.octets (length_of z r.0 r.1.count) ≤ length_of z r.0 r.1.count = if_none_le r.1.octets (length_of z r.0 r.1.count) in
      let begin : upto z (low - 1) ≤ before z r.0 = upto_low z (low - 1) r.0 (omega (arith, first, one)) in
      let goes : before z r.0 ≤ upto z r.0 = goes_on z cut r.0 (omega (arith, last, some)) in
      let end : upto z r.0 ≤ upto z (end_of r - 1) = upto_rises z r.0 (end_of r - 1) (omega (arith, some)) in
      omega (arith, rest, here, begin, goes, end)

-- octets of a run that are its own
pub own_is : (octets buffer : List ℕ) (at n : ℕ) → length octets ≡ n → own_or octets (stretch at n buffer) ≡ octets
own_is [] buffer at n e = ap (λ m. stretch at m buffer) (sym e)
own_is (x ∷ xs) buffer at n e = refl

pub own_none : (octets : List ℕ) (n : ℕ) → length octets ≡ n → if_none octets n ≡ 0
own_none [] n e = sym e
own_none (x ∷ xs) n e = refl

-- whether a list is empty goes by its length
pub none_by : (xs : List ℕ) (n : ℕ) → n ≡ length xs → (n == 0) ≡ true → xs ≡ []
none_by [] n e h = refl
none_by (x ∷ xs) n e h = let none : n ≡ 0 = grind (arith, nat_tests) in absurd (omega (arith, none, e))

pub some_by : (xs : List ℕ) (n : ℕ) → n ≡ length xs → (n == 0) ≡ false → xs ≡ [] → ⊥
some_by xs n e h f = let none : n ≡ 0 = e ∙ ap length f in let both : true ≡ false = sym (ap (λ m. m == 0) none) ∙ h in absurd cc
