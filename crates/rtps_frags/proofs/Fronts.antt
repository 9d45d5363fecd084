-- Fragments after those at the front.
use Rattle.std.proofs.Common.{◌≡◌, ℕ, suc, ◌+◌, ◌-◌, ◌<◌, ◌≤◌, Bool, true, false, ◌&&◌, cond, List, [], ◌∷◌, ◌++◌, length, take, drop, refl, sym, ◌∙◌, ap, arith, ltb, leb, inl, inr, Option, Some, None}
use Rattle.std.specs.Prelude.{is_some}
use Rattle.std.specs.BTreeMap.{insert_entry}
use Rattle.std.specs.Ordering.{nat_cmp}
use Rattle.std.proofs.lemmas.Bool.Decides.{nat_tests, leb_tells}
use Rattle.std.proofs.lemmas.List.{drop-append-le, length-append, length-drop, take-append-le}
use Rattle.std.proofs.Math.Seq.{drop-append-add}
use Rattle.rtps_frags.specs.declared.sizes.Sizes.{Sizes}
use Rattle.rtps_frags.specs.Fragments.{before, fragment_in, last_of, length_of, upto}
use Rattle.rtps_frags.specs.Runs.{AreApart, AreKept, Fits, Runs, covers, in_runs, kept_at, starts_at, within}
use Rattle.rtps_frags.proofs.Cuts.{before_first, before_rises, goes_on, low_end, upto_rises}
use Rattle.rtps_frags.proofs.Runs.{IsFree, insert_all, insert_apart, insert_finds, kept_is, or_none}

-- runs of which none begins with a fragment, or has one of some, are after these
pub behind_one : (rs : Runs) (low : ℕ) → AreApart low rs → starts_at low rs ≡ false → AreApart (suc low) rs
behind_one [] low h none = tt
behind_one (r ∷ rs) low h none =
    let first : low ≤ r.0 = h.0 in
    let above : suc low ≤ r.0 = grind (arith, nat_tests) in
    (above, h.1, h.2)

pub behind_free : (rs : Runs) (low high : ℕ) → AreApart low rs → ((k : ℕ) → low ≤ k → k < high → covers rs k ≡ false) → AreApart high rs
behind_free [] low high h none = tt
behind_free (r ∷ rs) low high h none =
    elim (leb_tells high r.0) [
      | inl w ↦ (w.1, h.1, h.2)
      | inr w ↦ (
          let first : low ≤ r.0 = h.0 in
          let some : 0 < r.1.count = h.1 in
          let inside : within r.0 r ≡ true = grind (arith, nat_tests) in
          let not_inside : within r.0 r ≡ false = (or_none (within r.0 r) (covers rs r.0) (none r.0 first w.1)).0 in
          let both : true ≡ false = sym inside ∙ not_inside in
          absurd cc
          )
    ]

pub none_from : {X : Type 0} (o : Option X) → is_some o ≡ false → o ≡ None
none_from None h = refl
none_from (Some x) h = absurd cc

pub not_covered : (z : Sizes) (next : ℕ) (front : List ℕ) (rs : Runs) (k : ℕ) → kept_at z next front rs k ≡ None → ((leb 1 k && ltb k next) ≡ false) × (covers rs k ≡ false)
not_covered z next front rs k none =
    let is : is_some (kept_at z next front rs k) ≡ false = ap is_some none in
    or_none (leb 1 k && ltb k next) (covers rs k) (sym (kept_is z next front rs k) ∙ is)

module _ (z : Sizes) (cut : 0 < z.fragment) (next count : ℕ) (front octets : List ℕ) (begun : 1 ≤ next) (some : 0 < count) (within_it : next + count ≤ suc (last_of z))
    (full : length front ≡ upto z (next - 1)) (fits : length octets ≡ length_of z next count) where
  ends : length front ≡ before z next
  ends = full ∙ low_end z cut next begun (omega arith)

  pub longer : length (front ++ octets) ≡ upto z (next + count - 1)
  longer =
      let here : before z next ≤ upto z next = goes_on z cut next (omega arith) in
      let there : upto z next ≤ upto z (next + count - 1) = upto_rises z next (next + count - 1) (omega arith) in
      length-append front octets ∙ omega (arith, ends, fits, here, there)

  in_front : (k : ℕ) → 1 ≤ k → k < next → fragment_in z 1 (front ++ octets) k ≡ fragment_in z 1 front k
  in_front k one l =
      let start : before z 1 ≡ 0 = before_first z in
      let here : before z k ≤ upto z k = goes_on z cut k (omega arith) in
      let there : upto z k ≤ upto z (next - 1) = upto_rises z k (next - 1) (omega arith) in
      let low : before z k - before z 1 ≤ length front = omega (arith, start, here, there, full) in
      let high : upto z k - before z k ≤ length (drop (before z k - before z 1) front) = rw (length-drop (before z k - before z 1) front) (omega (arith, start, here, there, full)) in
      ap (λ (xs : List ℕ). take (upto z k - before z k) xs) (drop-append-le (before z k - before z 1) front octets low)
      ∙ take-append-le (upto z k - before z k) (drop (before z k - before z 1) front) octets high

  in_rest : (k : ℕ) → next ≤ k → k < next + count → fragment_in z 1 (front ++ octets) k ≡ fragment_in z next octets k
  in_rest k le l =
      let start : before z 1 ≡ 0 = before_first z in
      let first : before z next ≤ before z k = before_rises z next k le in
      let split : before z k - before z 1 ≡ length front + (before z k - before z next) = omega (arith, start, first, ends) in
      ap (λ j. take (upto z k - before z k) (drop j (front ++ octets))) split
      ∙ ap (λ (xs : List ℕ). take (upto z k - before z k) xs) (drop-append-add front octets (before z k - before z next))

  -- what is found then
  pub front_finds : (rs : Runs) (k : ℕ) → kept_at z (next + count) (front ++ octets) rs k ≡ cond (leb next k && ltb k (next + count)) (Some (fragment_in z next octets k)) (kept_at z next front rs k)
  front_finds rs k =
      elim (leb_tells next k) [
        | inl w ↦ (
            let le : next ≤ k = w.1 in
            let far : (leb 1 k && ltb k next) ≡ false = grind (arith, nat_tests) in
            elim (leb_tells (suc k) (next + count)) [
              | inl v ↦ (
                  let l : k < next + count = v.1 in
                  let inside : (leb 1 k && ltb k (next + count)) ≡ true = grind (arith, nat_tests) in
                  let here : (leb next k && ltb k (next + count)) ≡ true = grind (arith, nat_tests) in
                  rw (inside, here) (ap (λ (xs : List ℕ). Some xs) (in_rest k le l))
                  )
              | inr v ↦ (
                  let beyond : next + count ≤ k = omega (arith, v.1) in
                  let outside : (leb 1 k && ltb k (next + count)) ≡ false = grind (arith, nat_tests) in
                  let there : (leb next k && ltb k (next + count)) ≡ false = grind (arith, nat_tests) in
                  rw (outside, there, far) refl
                  )
            ]
            )
        | inr w ↦ (
            let l : k < next = w.1 in
            let there : (leb next k && ltb k (next + count)) ≡ false = grind (arith, nat_tests) in
            elim (leb_tells 1 k) [
              | inl v ↦ (
                  let one : 1 ≤ k = v.1 in
                  let inside : (leb 1 k && ltb k (next + count)) ≡ true = grind (arith, nat_tests) in
                  let here : (leb 1 k && ltb k next) ≡ true = grind (arith, nat_tests) in
                  rw (inside, there, here) (ap (λ (xs : List ℕ). Some xs) (in_front k one l))
                  )
              | inr v ↦ (
                  let none : k < 1 = v.1 in
                  let outside : (leb 1 k && ltb k (next + count)) ≡ false = grind (arith, nat_tests) in
                  let here : (leb 1 k && ltb k next) ≡ false = grind (arith, nat_tests) in
                  rw (outside, there, here) refl
                  )
            ]
            )
      ]

-- a run that begins with the least missing fragment
pub first_of : (z : Sizes) (next count : ℕ) (front octets : List ℕ) (rs : Runs) (k : ℕ)
    → cond (leb next k && ltb k (next + count)) (Some (fragment_in z next octets k)) (kept_at z next front rs k) ≡ kept_at z next front ((next, record { count = count; octets = octets }) ∷ rs) k
first_of z next count front octets rs k = swapped (leb next k && ltb k (next + count)) (leb 1 k && ltb k next) (let both : ((leb next k && ltb k (next + count)) && (leb 1 k && ltb k next)) ≡ false = grind (arith, nat_tests) in both)
  where
    swapped : (b c : Bool) → (b && c) ≡ false
        → cond b (Some (fragment_in z next octets k)) (cond c (Some (fragment_in z 1 front k)) (in_runs z rs k)) ≡ cond c (Some (fragment_in z 1 front k)) (cond b (Some (fragment_in z next octets k)) (in_runs z rs k))
    swapped true true h = absurd cc
    swapped true false h = refl
    swapped false c h = refl

-- fragments of which none is there
module _ (z : Sizes) (cut : 0 < z.fragment) (next : ℕ) (front : List ℕ) (rs : Runs) (kept : AreKept z (suc next) next front rs) (start count : ℕ) (octets : List ℕ)
    (first : 1 ≤ start) (some : 1 ≤ count) (within_it : start + count ≤ last_of z + 1) (fit : length octets ≡ length_of z start count)
    (none : (k : ℕ) → start ≤ k → k < start + count → kept_at z next front rs k ≡ None) where
  pub free : IsFree start (record { count = count; octets = octets }) some rs
  free k le l = (not_covered z next front rs k (none k le l)).1

  pub later : (start ≡ next → ⊥) → suc next ≤ start
  later differ =
      let out : (leb 1 start && ltb start next) ≡ false = (not_covered z next front rs start (none start (omega arith) (omega arith))).0 in
      elim (leb_tells (suc start) next) [
        | inl w ↦ (
            let below : start < next = w.1 in
            let inside : (leb 1 start && ltb start next) ≡ true = grind (arith, nat_tests) in
            let both : true ≡ false = sym inside ∙ out in
            absurd cc
            )
        | inr w ↦ omega (arith, w.1, differ)
      ]

  pub later_put : (start ≡ next → ⊥) → AreKept z (suc next) next front (insert_entry nat_cmp rs start (record { count = count; octets = octets }))
  later_put differ = record {
    begun = kept.begun;
    reached = kept.reached;
    full = kept.full;
    apart = insert_apart start (record { count = count; octets = octets }) some rs (suc next) kept.apart (later differ) free;
    fits = insert_all (Fits z) rs start (record { count = count; octets = octets }) (omega (arith, within_it), fit) kept.fits;
  }

  pub later_finds : (start ≡ next → ⊥) → (k : ℕ) → kept_at z next front (insert_entry nat_cmp rs start (record { count = count; octets = octets })) k ≡ cond (leb start k && ltb k (start + count)) (Some (fragment_in z start octets k)) (kept_at z next front rs k)
  later_finds differ k =
      let above : suc next ≤ start = later differ in
      let apart : ((leb 1 k && ltb k next) && (leb start k && ltb k (start + count))) ≡ false = grind (arith, nat_tests) in
      swapped (leb 1 k && ltb k next) (leb start k && ltb k (start + count)) apart (insert_finds start (record { count = count; octets = octets }) some z rs (suc next) kept.apart free k)
    where
      swapped : (b c : Bool) → (b && c) ≡ false → in_runs z (insert_entry nat_cmp rs start (record { count = count; octets = octets })) k ≡ cond c (Some (fragment_in z start octets k)) (in_runs z rs k)
          → cond b (Some (fragment_in z 1 front k)) (in_runs z (insert_entry nat_cmp rs start (record { count = count; octets = octets })) k) ≡ cond c (Some (fragment_in z start octets k)) (cond b (Some (fragment_in z 1 front k)) (in_runs z rs k))
      swapped true true h e = absurd cc
      swapped true false h e = refl
      swapped false c h e = e
