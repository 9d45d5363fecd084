-- Fragments that are put stay in order, and what holds of each holds of all.
use Rattle.std.proofs.Common.{◌≡◌, ℕ, zero, suc, ◌+◌, ◌-◌, ◌<◌, ◌≤◌, List, [], ◌∷◌, arith, inl, inr, length}
use Rattle.std.specs.List.{AllByRecursion}
use Rattle.std.proofs.lemmas.Bool.Decides.{leb_tells, eqb_tells}
use Rattle.rtps_frags.specs.declared.sizes.Sizes.{Sizes}
use Rattle.rtps_frags.specs.Fragments.{There, before, fragment_in, last_of, upto, with_fragment, with_fragments}
use Rattle.rtps_frags.specs.Payload.{AreFragments}

-- a fragment more
pub put_stays : (z : Sizes) (low : ℕ) (there : There) (k : ℕ) (octets : List ℕ) → AreFragments z low there → low < k → k ≤ last_of z → length octets ≡ upto z k - before z k → AreFragments z low (with_fragment there k octets)
put_stays z low [] k octets h above within fits = (above, within, fits, tt)
put_stays z low (f ∷ fs) k octets h above within fits =
    elim (leb_tells (suc f.0) k) [
      | inl w ↦ (
          let rest : AreFragments z f.0 (with_fragment fs k octets) = put_stays z f.0 fs k octets h.3 w.1 within fits in
          rw w.0 (h.0, h.1, h.2, rest)
          )
      | inr w ↦ elim (eqb_tells f.0 k) [
        | inl v ↦ rw (w.0, v.0) h
        | inr v ↦ (
            let differ = v.1 in
            let more : k < f.0 = omega (arith, w.1, differ) in
            rw (w.0, v.0) (above, within, fits, (more, h.1, h.2, h.3))
            )
      ]
    ]

pub put_holds : (P : ℕ → List ℕ → Type 0) (there : There) (k : ℕ) (octets : List ℕ) → P k octets → AllByRecursion (λ f. P f.0 f.1) there → AllByRecursion (λ f. P f.0 f.1) (with_fragment there k octets)
put_holds P [] k octets here all = (here, tt)
put_holds P (f ∷ fs) k octets here all =
    let rest : AllByRecursion (λ f. P f.0 f.1) (with_fragment fs k octets) = put_holds P fs k octets here all.1 in
    elim (leb_tells (suc f.0) k) [
      | inl w ↦ rw w.0 (all.0, rest)
      | inr w ↦ elim (eqb_tells f.0 k) [ inl v ↦ rw (w.0, v.0) all | inr v ↦ rw (w.0, v.0) (here, all) ]
    ]

-- n more
pub puts_stay : (z : Sizes) (start : ℕ) (octets : List ℕ) (there : There) (k count : ℕ) → 1 ≤ k → k + count ≤ suc (last_of z)
    → ((j : ℕ) → k ≤ j → j < k + count → length (fragment_in z start octets j) ≡ upto z j - before z j) → AreFragments z 0 there → AreFragments z 0 (with_fragments z start octets there k count)
puts_stay z start octets there k zero one within fits h = h
puts_stay z start octets there k (suc count) one within fits h =
    puts_stay z start octets (with_fragment there k (fragment_in z start octets k)) (suc k) count (omega arith) (omega arith) (λ j le l. fits j (omega arith) (omega arith))
    (put_stays z 0 there k (fragment_in z start octets k) h (omega arith) (omega arith) (fits k (omega arith) (omega arith)))

pub puts_hold : (P : ℕ → List ℕ → Type 0) (z : Sizes) (start : ℕ) (octets : List ℕ) (there : There) (k count : ℕ)
    → ((j : ℕ) → k ≤ j → j < k + count → P j (fragment_in z start octets j)) → AllByRecursion (λ f. P f.0 f.1) there → AllByRecursion (λ f. P f.0 f.1) (with_fragments z start octets there k count)
puts_hold P z start octets there k zero each all = all
puts_hold P z start octets there k (suc count) each all =
    puts_hold P z start octets (with_fragment there k (fragment_in z start octets k)) (suc k) count (λ j le l. each j (omega arith) (omega arith))
    (put_holds P there k (fragment_in z start octets k) (each k (omega arith) (omega arith)) all)
