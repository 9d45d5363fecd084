-- A run that is made longer by the fragments after it.
use Rattle.std.proofs.Common.{◌≡◌, ℕ, suc, ◌+◌, ◌-◌, ◌<◌, ◌≤◌, ◌⊎◌, Bool, true, false, ◌&&◌, cond, eqb, List, [], ◌∷◌, ◌++◌, length, take, drop, refl, sym, ◌∙◌, ap, subst, arith, ltb, leb, inl, inr, Option, Some, None}
use Rattle.std.specs.BTreeMap.{insert_entry}
use Rattle.std.specs.List.{AllByRecursion}
use Rattle.std.specs.Map.{lookup, remove_entry, set_value}
use Rattle.std.specs.Ordering.{is_eq, nat_cmp}
use Rattle.std.proofs.lemmas.Bool.Decides.{nat_tests, leb_tells, eqb_tells}
use Rattle.std.proofs.lemmas.List.{drop-append-le, length-append, length-drop, take-append-le}
use Rattle.std.proofs.Math.Seq.{drop-append-add}
use Rattle.rtps_frags.specs.declared.sizes.Sizes.{Sizes}
use Rattle.rtps_frags.specs.Fragments.{before, fragment_in, last_of, length_of, upto}
use Rattle.rtps_frags.specs.Longer.{longer_by}
use Rattle.rtps_frags.specs.Runs.{AreApart, AreKept, Fits, Run, Runs, covers, end_of, in_runs, kept_at, within}
use Rattle.rtps_frags.proofs.Cuts.{before_rises, goes_on, low_end, upto_rises}
use Rattle.rtps_frags.proofs.Fronts.{later_finds, later_put, none_from}
use Rattle.rtps_frags.proofs.Runs.{none_below, some_is, weaken}

-- a run starts with a fragment
abbrev pub starts : ℕ → ℕ → Bool
starts k start = is_eq (nat_cmp k start)

pub starts_tells : (s x : ℕ) → ((starts s x ≡ true) × (s ≡ x)) ⊎ ((starts s x ≡ false) × (s ≡ x → ⊥))
starts_tells s x =
    elim (leb_tells (suc s) x) [
      | inl w ↦ inr (rw w.0 refl, λ e. absurd (omega (arith, w.1, e)))
      | inr w ↦ elim (eqb_tells s x) [
        | inl v ↦ inl (rw (w.0, v.0) refl, v.1)
        | inr v ↦ inr (rw (w.0, v.0) refl, v.1)
      ]
    ]

pub same_some : {X : Type 0} (x y : X) → Some x ≡ Some y → x ≡ y
same_some x y e = cc

-- a run that is taken out
module _ (s : ℕ) (run : Run) where
  abbrev pub IsIn : Runs → Type 0
  IsIn rs = lookup (starts s) rs ≡ Some run

  abbrev pub left : Runs → Runs
  left rs = remove_entry (starts s) rs

  pub left_apart : (rs : Runs) (low : ℕ) → AreApart low rs → AreApart low (left rs)
  left_apart [] low h = tt
  left_apart (x ∷ rs) low h =
      let first : low ≤ x.0 = h.0 in
      elim (starts_tells s x.0) [
        | inl w ↦ rw w.0 (weaken rs (end_of x) low h.2 (omega arith))
        | inr w ↦ rw w.0 (h.0, h.1, left_apart rs (end_of x) h.2)
      ]

  pub left_all : (P : ℕ × Run → Type 0) (rs : Runs) → AllByRecursion P rs → AllByRecursion P (left rs)
  left_all P [] all = tt
  left_all P (x ∷ rs) all =
      elim (starts_tells s x.0) [
        | inl w ↦ rw w.0 all.1
        | inr w ↦ rw w.0 (all.0, left_all P rs all.1)
      ]

  -- what the run is in all runs
  pub is_one : (P : ℕ × Run → Type 0) (rs : Runs) → IsIn rs → AllByRecursion P rs → P (s, run)
  is_one P [] found all = absurd cc
  is_one P (x ∷ rs) found all =
      elim (starts_tells s x.0) [
        | inl w ↦ (
            let same : x.1 ≡ run = same_some x.1 run (rw w.0 at found) in
            subst (λ n. P (n, run)) (sym w.1) (subst (λ (r : Run). P (x.0, r)) same all.0)
            )
        | inr w ↦ is_one P rs (rw w.0 at found) all.1
      ]

  pub low_one : (rs : Runs) (low : ℕ) → IsIn rs → AreApart low rs → (low ≤ s) × (0 < run.count)
  low_one [] low found h = absurd cc
  low_one (x ∷ rs) low found h =
      elim (starts_tells s x.0) [
        | inl w ↦ (
            let same : x.1 ≡ run = same_some x.1 run (rw w.0 at found) in
            let first : low ≤ x.0 = h.0 in
            (omega (arith, w.1), subst (λ (r : Run). 0 < r.count) same h.1)
            )
        | inr w ↦ (
            let first : low ≤ x.0 = h.0 in
            let rest = low_one rs (end_of x) (rw w.0 at found) h.2 in
            let after : end_of x ≤ s = rest.0 in
            (omega arith, rest.1)
            )
      ]

  pub left_free : (rs : Runs) (low : ℕ) → IsIn rs → AreApart low rs → (k : ℕ) → s ≤ k → k < s + run.count → covers (left rs) k ≡ false
  left_free [] low found h k le l = absurd cc
  left_free (x ∷ rs) low found h k le l =
      elim (starts_tells s x.0) [
        | inl w ↦ (
            let same : x.1 ≡ run = same_some x.1 run (rw w.0 at found) in
            let count : x.1.count ≡ run.count = ap (λ (r : Run). r.count) same in
            rw w.0 (none_below rs (end_of x) k h.2 (omega (arith, w.1, count)))
            )
        | inr w ↦ (
            let rest = low_one rs (end_of x) (rw w.0 at found) h.2 in
            let after : end_of x ≤ s = rest.0 in
            let out : within k x ≡ false = grind (arith, nat_tests) in
            rw (w.0, out) (left_free rs (end_of x) (rw w.0 at found) h.2 k le l)
            )
      ]

  pub left_finds : (z : Sizes) (rs : Runs) (low : ℕ) → IsIn rs → AreApart low rs → (k : ℕ) → in_runs z rs k ≡ cond (within k (s, run)) (Some (fragment_in z s run.octets k)) (in_runs z (left rs) k)
  left_finds z [] low found h k = absurd cc
  left_finds z (x ∷ rs) low found h k =
      elim (starts_tells s x.0) [
        | inl w ↦ (
            let same : x.1 ≡ run = same_some x.1 run (rw w.0 at found) in
            rw w.0 (here x.0 x.1 w.1 same)
            )
        | inr w ↦ (
            let rest = low_one rs (end_of x) (rw w.0 at found) h.2 in
            let after : end_of x ≤ s = rest.0 in
            let apart : (within k x && within k (s, run)) ≡ false = grind (arith, nat_tests) in
            rw w.0 (swapped (within k x) (within k (s, run)) apart (left_finds z rs (end_of x) (rw w.0 at found) h.2 k))
            )
      ]
    where
      here : (n : ℕ) (r : Run) → s ≡ n → r ≡ run → in_runs z ((n, r) ∷ rs) k ≡ cond (within k (s, run)) (Some (fragment_in z s run.octets k)) (in_runs z rs k)
      here n r e f = subst (λ m. in_runs z ((m, r) ∷ rs) k ≡ cond (within k (s, run)) (Some (fragment_in z s run.octets k)) (in_runs z rs k)) e (subst (λ (q : Run). in_runs z ((s, q) ∷ rs) k ≡ cond (within k (s, run)) (Some (fragment_in z s run.octets k)) (in_runs z rs k)) (sym f) refl)

      swapped : (b c : Bool) → (b && c) ≡ false → in_runs z rs k ≡ cond c (Some (fragment_in z s run.octets k)) (in_runs z (left rs) k)
          → cond b (Some (fragment_in z x.0 x.1.octets k)) (in_runs z rs k) ≡ cond c (Some (fragment_in z s run.octets k)) (cond b (Some (fragment_in z x.0 x.1.octets k)) (in_runs z (left rs) k))
      swapped true true a e = absurd cc
      swapped true false a e = refl
      swapped false c a e = e

-- the octets of the longer run
module _ (z : Sizes) (cut : 0 < z.fragment) (s : ℕ) (run : Run) (count : ℕ) (octets : List ℕ) (first : 1 ≤ s) (some : 1 ≤ count) (within_it : s + run.count + count ≤ suc (last_of z))
    (fits : length run.octets ≡ length_of z s run.count) (fit : length octets ≡ length_of z (s + run.count) count) where
  ends : length run.octets ≡ before z (s + run.count) - before z s
  ends =
      let end : upto z (s + run.count - 1) ≡ before z (s + run.count) = low_end z cut (s + run.count) (omega arith) (omega arith) in
      fits ∙ ap (λ n. n - before z s) end

  rises : before z s ≤ before z (s + run.count)
  rises = before_rises z s (s + run.count) (omega arith)

  pub fits_longer : length (run.octets ++ octets) ≡ length_of z s (run.count + count)
  fits_longer =
      let here : before z (s + run.count) ≤ upto z (s + run.count) = goes_on z cut (s + run.count) (omega arith) in
      let there : upto z (s + run.count) ≤ upto z (s + run.count + count - 1) = upto_rises z (s + run.count) (s + run.count + count - 1) (omega arith) in
      let all : upto z (s + (run.count + count) - 1) ≡ upto z (s + run.count + count - 1) = (let e : s + (run.count + count) - 1 ≡ s + run.count + count - 1 = omega arith in ap (λ n. upto z n) e) in
      length-append run.octets octets ∙ omega (arith, ends, fit, here, there, all, rises)

  in_old : (k : ℕ) → s ≤ k → k < s + run.count → fragment_in z s (run.octets ++ octets) k ≡ fragment_in z s run.octets k
  in_old k le l =
      let low : before z s ≤ before z k = before_rises z s k le in
      let here : before z k ≤ upto z k = goes_on z cut k (omega arith) in
      let there : upto z k ≤ upto z (s + run.count - 1) = upto_rises z k (s + run.count - 1) (omega arith) in
      let near : before z k - before z s ≤ length run.octets = omega (arith, low, here, there, fits) in
      let far : upto z k - before z k ≤ length (drop (before z k - before z s) run.octets) = rw (length-drop (before z k - before z s) run.octets) (omega (arith, low, here, there, fits)) in
      ap (λ (xs : List ℕ). take (upto z k - before z k) xs) (drop-append-le (before z k - before z s) run.octets octets near)
      ∙ take-append-le (upto z k - before z k) (drop (before z k - before z s) run.octets) octets far

  in_new : (k : ℕ) → s + run.count ≤ k → fragment_in z s (run.octets ++ octets) k ≡ fragment_in z (s + run.count) octets k
  in_new k le =
      let low : before z (s + run.count) ≤ before z k = before_rises z (s + run.count) k le in
      let split : before z k - before z s ≡ length run.octets + (before z k - before z (s + run.count)) = omega (arith, low, ends, rises) in
      ap (λ j. take (upto z k - before z k) (drop j (run.octets ++ octets))) split
      ∙ ap (λ (xs : List ℕ). take (upto z k - before z k) xs) (drop-append-add run.octets octets (before z k - before z (s + run.count)))

  -- what the longer run has is what both have
  pub in_both : (k : ℕ) (o : Option (List ℕ)) → cond (leb s k && ltb k (s + (run.count + count))) (Some (fragment_in z s (run.octets ++ octets) k)) o
      ≡ cond (leb (s + run.count) k && ltb k (s + run.count + count)) (Some (fragment_in z (s + run.count) octets k)) (cond (within k (s, run)) (Some (fragment_in z s run.octets k)) o)
  in_both k o =
      elim (leb_tells s k) [
        | inl w ↦ elim (leb_tells (suc k) (s + run.count)) [
          | inl v ↦ (
              let all : (leb s k && ltb k (s + (run.count + count))) ≡ true = grind (arith, nat_tests) in
              let new : (leb (s + run.count) k && ltb k (s + run.count + count)) ≡ false = grind (arith, nat_tests) in
              let old : (leb s k && ltb k (s + run.count)) ≡ true = grind (arith, nat_tests) in
              rw (all, new, old) (ap (λ (xs : List ℕ). Some xs) (in_old k w.1 v.1))
              )
          | inr v ↦ elim (leb_tells (suc k) (s + run.count + count)) [
            | inl u ↦ (
                let all : (leb s k && ltb k (s + (run.count + count))) ≡ true = grind (arith, nat_tests) in
                let new : (leb (s + run.count) k && ltb k (s + run.count + count)) ≡ true = grind (arith, nat_tests) in
                rw (all, new) (ap (λ (xs : List ℕ). Some xs) (in_new k (omega (arith, v.1))))
                )
            | inr u ↦ (
                let all : (leb s k && ltb k (s + (run.count + count))) ≡ false = grind (arith, nat_tests) in
                let new : (leb (s + run.count) k && ltb k (s + run.count + count)) ≡ false = grind (arith, nat_tests) in
                let old : (leb s k && ltb k (s + run.count)) ≡ false = grind (arith, nat_tests) in
                rw (all, new, old) refl
                )
          ]
        ]
        | inr w ↦ (
            let all : (leb s k && ltb k (s + (run.count + count))) ≡ false = grind (arith, nat_tests) in
            let new : (leb (s + run.count) k && ltb k (s + run.count + count)) ≡ false = grind (arith, nat_tests) in
            let old : (leb s k && ltb k (s + run.count)) ≡ false = grind (arith, nat_tests) in
            rw (all, new, old) refl
            )
      ]

-- fragments of which none is there, after a run
module _ (z : Sizes) (cut : 0 < z.fragment) (next : ℕ) (front : List ℕ) (rs : Runs) (kept : AreKept z (suc next) next front rs) (s : ℕ) (run : Run) (found : lookup (starts s) rs ≡ Some run) (count : ℕ) (octets : List ℕ)
    (some : 1 ≤ count) (within_it : s + run.count + count ≤ last_of z + 1) (fit : length octets ≡ length_of z (s + run.count) count)
    (none : (k : ℕ) → s + run.count ≤ k → k < s + run.count + count → kept_at z next front rs k ≡ None) where
  low : (suc next ≤ s) × (0 < run.count)
  low = low_one s run rs (suc next) found kept.apart

  above : suc next ≤ s
  above = low.0

  fits : Fits z (s, run)
  fits = is_one s run (Fits z) rs found kept.fits

  pub others : AreKept z (suc next) next front (left s run rs)
  others = record {
    begun = kept.begun;
    reached = kept.reached;
    full = kept.full;
    apart = left_apart s run rs (suc next) kept.apart;
    fits = left_all s run (Fits z) rs kept.fits;
  }

  one : 1 ≤ s
  one = omega (arith, above)

  longer_fits : length (run.octets ++ octets) ≡ length_of z s (run.count + count)
  longer_fits = fits_longer z cut s run count octets one some (omega (arith, within_it)) fits.1 fit

  not_in : (k : ℕ) → s ≤ k → k < s + (run.count + count) → in_runs z (left s run rs) k ≡ None
  not_in k le l =
      elim (leb_tells (suc k) (s + run.count)) [
        | inl w ↦ none_from (in_runs z (left s run rs) k) (some_is z (left s run rs) k ∙ left_free s run rs (suc next) found kept.apart k le w.1)
        | inr w ↦ (
            let far : (leb 1 k && ltb k next) ≡ false = grind (arith, nat_tests, above) in
            let out : within k (s, run) ≡ false = grind (arith, nat_tests) in
            let at_all : in_runs z rs k ≡ None = rw far at (none k (omega (arith, w.1)) (omega (arith, l))) in
            let same : in_runs z rs k ≡ in_runs z (left s run rs) k = rw out at (left_finds s run z rs (suc next) found kept.apart k) in
            sym same ∙ at_all
            )
      ]

  none_there : (k : ℕ) → s ≤ k → k < s + (run.count + count) → kept_at z next front (left s run rs) k ≡ None
  none_there k le l =
      let far : (leb 1 k && ltb k next) ≡ false = grind (arith, nat_tests, above) in
      rw far (not_in k le l)

  differ : s ≡ next → ⊥
  differ e = absurd (omega (arith, above, e))

  pub longer_put : AreKept z (suc next) next front (insert_entry nat_cmp (left s run rs) s (longer_by run count octets))
  longer_put = later_put z cut next front (left s run rs) others s (run.count + count) (run.octets ++ octets) one (omega (arith, some)) (omega (arith, within_it)) longer_fits none_there differ

  pub longer_finds : (k : ℕ) → kept_at z next front (insert_entry nat_cmp (left s run rs) s (longer_by run count octets)) k
      ≡ cond (leb (s + run.count) k && ltb k (s + run.count + count)) (Some (fragment_in z (s + run.count) octets k)) (kept_at z next front rs k)
  longer_finds k =
      let apart : ((leb 1 k && ltb k next) && within k (s, run)) ≡ false = grind (arith, nat_tests, above) in
      later_finds z cut next front (left s run rs) others s (run.count + count) (run.octets ++ octets) one (omega (arith, some)) (omega (arith, within_it)) longer_fits none_there differ k
      ∙ in_both z cut s run count octets one some (omega (arith, within_it)) fits.1 fit k (kept_at z next front (left s run rs) k)
      ∙ ap (λ (o : Option (List ℕ)). cond (leb (s + run.count) k && ltb k (s + run.count + count)) (Some (fragment_in z (s + run.count) octets k)) o) (swapped (leb 1 k && ltb k next) (within k (s, run)) apart (left_finds s run z rs (suc next) found kept.apart k))
    where
      swapped : (b c : Bool) → (b && c) ≡ false → in_runs z rs k ≡ cond c (Some (fragment_in z s run.octets k)) (in_runs z (left s run rs) k)
          → cond c (Some (fragment_in z s run.octets k)) (cond b (Some (fragment_in z 1 front k)) (in_runs z (left s run rs) k)) ≡ cond b (Some (fragment_in z 1 front k)) (in_runs z rs k)
      swapped true true h e = absurd cc
      swapped true false h e = refl
      swapped false c h e = sym e

-- a value that is put in its own place changes nothing
pub set_same : (k : ℕ) (rs : Runs) (run : Run) → lookup (starts k) rs ≡ Some run → set_value (starts k) rs run ≡ rs
set_same k [] run found = refl
set_same k (r ∷ rs) run found =
    elim (starts_tells k r.0) [
      | inl w ↦ (
          let same : r.1 ≡ run = same_some r.1 run (rw w.0 at found) in
          rw w.0 (ap (λ (x : Run). (r.0, x) ∷ rs) (sym same))
          )
      | inr w ↦ rw w.0 (ap (λ (l : Runs). r ∷ l) (set_same k rs run (rw w.0 at found)))
    ]

-- a run before all others is put in front of them
put_first : (k : ℕ) (low : ℕ) (rs : Runs) (run : Run) → AreApart low rs → k < low → insert_entry nat_cmp rs k run ≡ (k, run) ∷ rs
put_first k low [] run h l = refl
put_first k low (r ∷ rs) run h l =
    let first : low ≤ r.0 = h.0 in
    let before : leb (suc k) r.0 ≡ true = grind (arith, nat_tests) in
    rw before refl

-- a run that is taken out and put again has its place
pub set_is : (k : ℕ) (low : ℕ) (rs : Runs) (was run : Run) → AreApart low rs → lookup (starts k) rs ≡ Some was → insert_entry nat_cmp (remove_entry (starts k) rs) k run ≡ set_value (starts k) rs run
set_is k low [] was run h found = absurd cc
set_is k low (r ∷ rs) was run h found =
    elim (starts_tells k r.0) [
      | inl w ↦ (
          let some : 0 < r.1.count = h.1 in
          rw w.0 (put_first k (end_of r) rs run h.2 (omega (arith, w.1, some)) ∙ ap (λ n. (n, run) ∷ rs) w.1)
          )
      | inr w ↦ (
          let rest = low_one k was rs (end_of r) (rw w.0 at found) h.2 in
          let after : end_of r ≤ k = rest.0 in
          let some : 0 < r.1.count = h.1 in
          let late : leb (suc k) r.0 ≡ false = grind (arith, nat_tests) in
          let apart : eqb k r.0 ≡ false = grind (arith, nat_tests) in
          rw (w.0, late, apart) (ap (λ (l : Runs). r ∷ l) (set_is k (end_of r) rs was run h.2 (rw w.0 at found)))
          )
    ]

-- the run that starts with a fragment ends before others, and is made longer by them
pub record IsExtended (first start count : ℕ) (octets : List ℕ) (old new : Runs) : Type 0 where
  pub run : Run
  pub found : lookup (starts first) old ≡ Some run
  pub ends : first + run.count ≡ start
  pub put : new ≡ set_value (starts first) old (longer_by run count octets)

-- what is there where the last run is made longer
module _ (z : Sizes) (cut : 0 < z.fragment) (next : ℕ) (front : List ℕ) (old new : Runs) (kept : AreKept z (suc next) next front old) (latest start count : ℕ) (octets : List ℕ)
    (some : 1 ≤ count) (within_it : start + count ≤ last_of z + 1) (fits : length octets ≡ length_of z start count)
    (none : (k : ℕ) → start ≤ k → k < start + count → kept_at z next front old k ≡ None) (e : IsExtended latest start count octets old new) where
  put : new ≡ insert_entry nat_cmp (left latest e.run old) latest (longer_by e.run count octets)
  put = e.put ∙ sym (set_is latest (suc next) old e.run (longer_by e.run count octets) kept.apart e.found)

  fit : length octets ≡ length_of z (latest + e.run.count) count
  fit = subst (λ n. length octets ≡ length_of z n count) (sym e.ends) fits

  none_after : (k : ℕ) → latest + e.run.count ≤ k → k < latest + e.run.count + count → kept_at z next front old k ≡ None
  none_after k le l = let ends : latest + e.run.count ≡ start = e.ends in none k (omega (arith, ends, le)) (omega (arith, ends, l))

  reaches : latest + e.run.count + count ≤ last_of z + 1
  reaches = let ends : latest + e.run.count ≡ start = e.ends in omega (arith, ends, within_it)

  pub extended_kept : AreKept z (suc next) next front new
  extended_kept = subst (λ (rs : Runs). AreKept z (suc next) next front rs) (sym put) (longer_put z cut next front old kept latest e.run e.found count octets some reaches fit none_after)

  pub extended_finds : (k : ℕ) → kept_at z next front new k ≡ cond (leb start k && ltb k (start + count)) (Some (fragment_in z start octets k)) (kept_at z next front old k)
  extended_finds k =
      ap (λ (rs : Runs). kept_at z next front rs k) put
      ∙ subst (λ n. kept_at z next front (insert_entry nat_cmp (left latest e.run old) latest (longer_by e.run count octets)) k ≡ cond (leb n k && ltb k (n + count)) (Some (fragment_in z n octets k)) (kept_at z next front old k)) e.ends
      (longer_finds z cut next front old kept latest e.run e.found count octets some reaches fit none_after k)
