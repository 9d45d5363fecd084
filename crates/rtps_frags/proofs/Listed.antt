-- Fragments that are listed by what is found of each.
use Rattle.std.proofs.Common.{◌≡◌, ℕ, zero, suc, ◌+◌, ◌-◌, ◌<◌, ◌≤◌, Bool, true, false, ◌&&◌, cond, List, [], ◌∷◌, ◌++◌, length, drop, refl, sym, ◌∙◌, ap, arith, ltb, leb, eqb, inl, inr, Option, Some, None}
use Rattle.std.specs.Prelude.{is_some}
use Rattle.std.specs.Option.{option_or}
use Rattle.std.proofs.lemmas.Bool.Decides.{nat_tests, leb_tells, eqb_tells}
use Rattle.std.proofs.lemmas.List.{drop-drop, drop_all, length-drop, take-append-drop}
use Rattle.rtps_frags.specs.declared.sizes.Sizes.{Sizes}
use Rattle.rtps_frags.specs.Fragments.{There, before, fragment_in, has, has_all, last_of, payload_of, upto, with_fragment, with_fragments}
use Rattle.rtps_frags.specs.Runs.{listed, listed_by}
use Rattle.rtps_frags.proofs.Adding.{or_right}
use Rattle.rtps_frags.proofs.Cuts.{before_first, ends_at, ends_last, goes_on, reaches}

module _ (f g : ℕ → Option (List ℕ)) where
  pub listed_same : (k n : ℕ) → ((j : ℕ) → k ≤ j → j < k + n → f j ≡ g j) → listed f k n ≡ listed g k n
  listed_same k zero h = refl
  listed_same k (suc n) h =
      let rest : listed f (suc k) n ≡ listed g (suc k) n = listed_same (suc k) n (λ j le l. h j (omega arith) (omega arith)) in
      let here : f k ≡ g k = h k (omega arith) (omega arith) in
      rw (here, rest) refl

module _ (f : ℕ → Option (List ℕ)) where
  pub none_listed : (k n : ℕ) → ((j : ℕ) → f j ≡ None) → listed f k n ≡ []
  none_listed k zero h = refl
  none_listed k (suc n) h = rw (h k) (none_listed (suc k) n h)

  -- one before all that are listed
  put_front : (k m n : ℕ) (octets : List ℕ) → k < m → with_fragment (listed f m n) k octets ≡ (k, octets) ∷ listed f m n
  put_front k m zero octets l = refl
  put_front k m (suc n) octets l = by_found (f m) (put_front k (suc m) n octets (omega arith))
    where
      by_found : (o : Option (List ℕ)) → with_fragment (listed f (suc m) n) k octets ≡ (k, octets) ∷ listed f (suc m) n → with_fragment (listed_by o m (listed f (suc m) n)) k octets ≡ (k, octets) ∷ listed_by o m (listed f (suc m) n)
      by_found None rest = rest
      by_found (Some x) rest =
          let not_less : ltb m k ≡ false = grind (arith, nat_tests) in
          let not_same : eqb m k ≡ false = grind (arith, nat_tests) in
          rw (not_less, not_same) refl

  -- one more is found
  abbrev pub also : ℕ → List ℕ → ℕ → Option (List ℕ)
  also k octets j = option_or (f j) (cond (eqb j k) (Some octets) None)

  not_also : (k : ℕ) (octets : List ℕ) (j : ℕ) → eqb j k ≡ false → also k octets j ≡ f j
  not_also k octets j e = rw e (or_right (f j))

  put_listed : (k : ℕ) (octets : List ℕ) (m n : ℕ) → m ≤ k → k < m + n → with_fragment (listed f m n) k octets ≡ listed (also k octets) m n
  put_listed k octets m zero low high = absurd (omega arith)
  put_listed k octets m (suc n) low high =
      elim (eqb_tells m k) [
        | inl w ↦ (
            let same : m ≡ k = w.1 in
            let rest : listed (also k octets) (suc m) n ≡ listed f (suc m) n = listed_same (also k octets) f (suc m) n (λ j le l. not_also k octets j (grind (arith, nat_tests))) in
            let not_less : ltb m k ≡ false = grind (arith, nat_tests) in
            let front : with_fragment (listed f (suc m) n) k octets ≡ (k, octets) ∷ listed f (suc m) n = put_front k (suc m) n octets (omega arith) in
            rw (w.0, rest) (here (f m) same not_less w.0 front)
            )
        | inr w ↦ (
            let differ = w.1 in
            let less : ltb m k ≡ true = grind (arith, nat_tests) in
            rw w.0 (there (f m) less (put_listed k octets (suc m) n (omega (arith, differ)) (omega arith)))
            )
      ]
    where
      here : (o : Option (List ℕ)) → m ≡ k → ltb m k ≡ false → eqb m k ≡ true → with_fragment (listed f (suc m) n) k octets ≡ (k, octets) ∷ listed f (suc m) n
          → with_fragment (listed_by o m (listed f (suc m) n)) k octets ≡ listed_by (option_or o (Some octets)) m (listed f (suc m) n)
      here None same not_less is front = front ∙ ap (λ i. (i, octets) ∷ listed f (suc m) n) (sym same)
      here (Some x) same not_less is front = rw (not_less, is) refl

      there : (o : Option (List ℕ)) → ltb m k ≡ true → with_fragment (listed f (suc m) n) k octets ≡ listed (also k octets) (suc m) n
          → with_fragment (listed_by o m (listed f (suc m) n)) k octets ≡ listed_by (option_or o None) m (listed (also k octets) (suc m) n)
      there None less rest = rest
      there (Some x) less rest = rw less (ap (λ (fs : There). (m, x) ∷ fs) rest)

-- some more are
pub puts_listed : (z : Sizes) (start : ℕ) (octets : List ℕ) (last : ℕ) (f : ℕ → Option (List ℕ)) (k count : ℕ) → 1 ≤ k → k + count ≤ suc last
    → with_fragments z start octets (listed f 1 last) k count ≡ listed (λ j. option_or (f j) (cond (leb k j && ltb j (k + count)) (Some (fragment_in z start octets j)) None)) 1 last
puts_listed z start octets last f k zero one le =
    listed_same f (λ j. option_or (f j) (cond (leb k j && ltb j (k + 0)) (Some (fragment_in z start octets j)) None)) 1 last
    (λ j _ _. let out : (leb k j && ltb j (k + 0)) ≡ false = grind (arith, nat_tests) in rw out (sym (or_right (f j))))
puts_listed z start octets last f k (suc count) one le =
    ap (λ (there : There). with_fragments z start octets there (suc k) count) (put_listed f k (fragment_in z start octets k) 1 last one (omega arith))
    ∙ puts_listed z start octets last (also f k (fragment_in z start octets k)) (suc k) count (omega arith) (omega arith)
    ∙ listed_same (λ j. option_or (also f k (fragment_in z start octets k) j) (cond (leb (suc k) j && ltb j (suc k + count)) (Some (fragment_in z start octets j)) None)) (λ j. option_or (f j) (cond (leb k j && ltb j (k + suc count)) (Some (fragment_in z start octets j)) None)) 1 last
    (λ j _ _. each j)
  where
    joined : (o p q r : Option (List ℕ)) → option_or p q ≡ r → option_or (option_or o p) q ≡ option_or o r
    joined None p q r e = e
    joined (Some x) p q r e = refl

    each : (j : ℕ) → option_or (also f k (fragment_in z start octets k) j) (cond (leb (suc k) j && ltb j (suc k + count)) (Some (fragment_in z start octets j)) None) ≡ option_or (f j) (cond (leb k j && ltb j (k + suc count)) (Some (fragment_in z start octets j)) None)
    each j =
        joined (f j) (cond (eqb j k) (Some (fragment_in z start octets k)) None) (cond (leb (suc k) j && ltb j (suc k + count)) (Some (fragment_in z start octets j)) None) (cond (leb k j && ltb j (k + suc count)) (Some (fragment_in z start octets j)) None)
        (elim (eqb_tells j k) [
          | inl w ↦ (
              let same : j ≡ k = w.1 in
              let inside : (leb k j && ltb j (k + suc count)) ≡ true = grind (arith, nat_tests) in
              rw (w.0, inside) (ap (λ i. Some (fragment_in z start octets i)) (sym same))
              )
          | inr w ↦ (
              let differ = w.1 in
              let same : (leb (suc k) j && ltb j (suc k + count)) ≡ (leb k j && ltb j (k + suc count)) = grind (arith, nat_tests) in
              rw (w.0, same) refl
              )
        ])

-- a fragment is listed where it is found
pub has_listed : (f : ℕ → Option (List ℕ)) (m n j : ℕ) → has (listed f m n) j ≡ ((leb m j && ltb j (m + n)) && is_some (f j))
has_listed f m zero j = let out : (leb m j && ltb j (m + 0)) ≡ false = grind (arith, nat_tests) in rw out refl
has_listed f m (suc n) j =
    let rest : has (listed f (suc m) n) j ≡ ((leb (suc m) j && ltb j (suc m + n)) && is_some (f j)) = has_listed f (suc m) n j in
    elim (eqb_tells m j) [
      | inl w ↦ (
          let same : m ≡ j = w.1 in
          let out : (leb (suc m) j && ltb j (suc m + n)) ≡ false = grind (arith, nat_tests) in
          let inside : (leb m j && ltb j (m + suc n)) ≡ true = grind (arith, nat_tests) in
          let none : has (listed f (suc m) n) j ≡ false = rw out at rest in
          let is : is_some (f j) ≡ is_some (f m) = ap (λ i. is_some (f i)) (sym same) in
          rw (inside, is) (here (f m) w.0 none)
          )
      | inr w ↦ (
          let differ = w.1 in
          let same : (leb (suc m) j && ltb j (suc m + n)) ≡ (leb m j && ltb j (m + suc n)) = grind (arith, nat_tests) in
          there (f m) w.0 ∙ rest ∙ ap (λ b. b && is_some (f j)) same
          )
    ]
  where
    here : (o : Option (List ℕ)) → eqb m j ≡ true → has (listed f (suc m) n) j ≡ false → has (listed_by o m (listed f (suc m) n)) j ≡ is_some o
    here None is none = none
    here (Some x) is none = rw is refl

    there : (o : Option (List ℕ)) → eqb m j ≡ false → has (listed_by o m (listed f (suc m) n)) j ≡ has (listed f (suc m) n) j
    there None is = refl
    there (Some x) is = rw is refl

-- all of them, or not
pub all_there : (there : There) (k n : ℕ) → ((j : ℕ) → k ≤ j → j < k + n → has there j ≡ true) → has_all there k n ≡ true
all_there there k zero h = refl
all_there there k (suc n) h = rw (h k (omega arith) (omega arith), all_there there (suc k) n (λ j le l. h j (omega arith) (omega arith))) refl

pub one_missing : (there : There) (k n j : ℕ) → k ≤ j → j < k + n → has there j ≡ false → has_all there k n ≡ false
one_missing there k zero j le l none = absurd (omega arith)
one_missing there k (suc n) j le l none =
    elim (eqb_tells k j) [
      | inl w ↦ (let here : has there k ≡ false = ap (has there) w.1 ∙ none in rw here refl)
      | inr w ↦ (
          let differ = w.1 in
          rw (one_missing there (suc k) n j (omega (arith, differ)) (omega arith) none) (and_false (has there k))
          )
    ]
  where
    and_false : (b : Bool) → (b && false) ≡ false
    and_false true = refl
    and_false false = refl

-- a payload from fragment k on is that fragment and what follows
pub piece_then : (z : Sizes) (cut : 0 < z.fragment) (payload : List ℕ) → length payload ≡ z.sample → (k : ℕ) → 1 ≤ k → k ≤ last_of z
    → fragment_in z 1 payload k ++ drop (before z (suc k)) payload ≡ drop (before z k) payload
piece_then z cut payload size k one le =
    let first : before z k - before z 1 ≡ before z k = (let zero : before z 1 ≡ 0 = before_first z in omega (arith, zero)) in
    rw (first, tail) (take-append-drop (upto z k - before z k) (drop (before z k) payload))
  where
    tail : drop (before z (suc k)) payload ≡ drop (upto z k - before z k) (drop (before z k) payload)
    tail =
        elim (leb_tells (suc k) (last_of z)) [
          | inl w ↦ (
              let end : upto z k ≡ before z (suc k) = ends_at z cut k w.1 in
              let grows : before z k ≤ upto z k = goes_on z cut k le in
              let split : before z (suc k) ≡ before z k + (upto z k - before z k) = omega (arith, end, grows) in
              ap (λ m. drop m payload) split ∙ sym (drop-drop (upto z k - before z k) (before z k) payload)
              )
          | inr w ↦ (
              let last : k ≡ last_of z = omega (arith, w.1, le) in
              let end : upto z k ≡ z.sample = ap (λ m. upto z m) last ∙ ends_last z cut in
              let reach : z.sample ≤ before z (suc k) = (let r : z.sample ≤ before z (suc (last_of z)) = reaches z cut in subst_le r last) in
              let grows : before z k ≤ upto z k = goes_on z cut k le in
              let rest : length (drop (before z k) payload) ≤ upto z k - before z k = rw (length-drop (before z k) payload) (omega (arith, end, size)) in
              drop_all (before z (suc k)) payload (omega (arith, reach, size)) ∙ sym (drop_all (upto z k - before z k) (drop (before z k) payload) rest)
              )
        ]
      where
        subst_le : z.sample ≤ before z (suc (last_of z)) → k ≡ last_of z → z.sample ≤ before z (suc k)
        subst_le r e = rw e r

-- the fragments of a payload, one after the other, from fragment k on
pub payload_listed : (z : Sizes) (cut : 0 < z.fragment) (payload : List ℕ) (f : ℕ → Option (List ℕ)) → length payload ≡ z.sample → ((j : ℕ) → 1 ≤ j → j ≤ last_of z → f j ≡ Some (fragment_in z 1 payload j))
    → (k n : ℕ) → 1 ≤ k → k + n ≡ suc (last_of z) → payload_of (listed f k n) ≡ drop (before z k) payload
payload_listed z cut payload f size found k zero one e =
    let reach : z.sample ≤ before z (suc (last_of z)) = reaches z cut in
    let end : before z k ≡ before z (suc (last_of z)) = (let is : k ≡ suc (last_of z) = omega arith in ap (before z) is) in
    sym (drop_all (before z k) payload (omega (arith, reach, end, size)))
payload_listed z cut payload f size found k (suc n) one e =
    let rest : payload_of (listed f (suc k) n) ≡ drop (before z (suc k)) payload = payload_listed z cut payload f size found (suc k) n (omega arith) (omega arith) in
    let here : f k ≡ Some (fragment_in z 1 payload k) = found k one (omega arith) in
    rw (here, rest) (piece_then z cut payload size k one (omega arith))
