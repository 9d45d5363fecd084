-- A buffer in which octets lie at their places.
use Rattle.std.proofs.Common.{◌≡◌, ℕ, zero, suc, ◌+◌, ◌-◌, ◌≤◌, ◌⊎◌, List, ◌++◌, length, take, drop, refl, sym, ◌∙◌, ap, subst, arith, inl, inr, max}
use Rattle.std.proofs.lemmas.List.{append-nil, drop-append-le, drop-take, drop_all, length-append, length-drop, length-take, take-append-le, take_all}
use Rattle.std.proofs.lemmas.Slice.{between-put_mid, drop-put_mid, take-put_mid_below}
use borrow.Rule.Slice.PartMut.{put_mid}
use Rattle.rtps_frags.specs.Buffer.{IsPutAt, stretch}

-- a stretch that is there is before what is put at the end
stretch_before : (k n : ℕ) (old more : List ℕ) → length (stretch k n old) ≡ n → stretch k n (old ++ more) ≡ stretch k n old
stretch_before k zero old more e = refl
stretch_before k (suc n) old more e =
    let some : suc n ≤ length (drop k old) = omega (arith, length-take (suc n) (drop k old), e) in
    let rest : length (drop k old) ≡ length old - k = length-drop k old in
    ap (λ (xs : List ℕ). take (suc n) xs) (drop-append-le k old more (omega (arith, some, rest))) ∙ take-append-le (suc n) (drop k old) more some

-- a stretch is the end of a front
stretch_is : (k n : ℕ) (xs : List ℕ) → stretch k n xs ≡ drop k (take (k + n) xs)
stretch_is k n xs = sym (drop-take k n xs)

pub length_within : (at : ℕ) (octets old : List ℕ) → at + length octets ≤ length old → length (put_mid at (length octets) old octets) ≡ length old
length_within at octets old fits =
    simp (length-append, length-take, length-drop) (omega (arith, fits))

put_within : (at : ℕ) (octets old : List ℕ) → at + length octets ≤ length old → IsPutAt at octets old (put_mid at (length octets) old octets)
put_within at octets old fits = record {
  there =
      let n : at + length octets - at ≡ length octets = omega arith in
      let is : take (at + length octets - at) (drop at (put_mid at (length octets) old octets)) ≡ octets = between-put_mid at (length octets) old octets (at + length octets) (omega (arith, fits)) (omega arith) in
      rw n at is;
  others = λ k n e apart. others k n apart;
  size = length_within at octets old fits ∙ omega (arith, fits);
}
  where
    others : (k n : ℕ) → (k + n ≤ at) ⊎ (at + length octets ≤ k) → stretch k n (put_mid at (length octets) old octets) ≡ stretch k n old
    others k n (inl le) =
        stretch_is k n (put_mid at (length octets) old octets)
        ∙ ap (λ (xs : List ℕ). drop k xs) (take-put_mid_below at (length octets) old octets (k + n) le (omega (arith, fits)))
        ∙ sym (stretch_is k n old)
    others k n (inr le) = ap (λ (xs : List ℕ). take n xs) (drop-put_mid at (length octets) old octets k le (omega (arith, fits)) refl)

-- what was put past the end, after zeros
put_behind : (at : ℕ) (octets old zeros new : List ℕ) → length (old ++ zeros) ≡ max (length old) (at + length octets) → IsPutAt at octets (old ++ zeros) new → IsPutAt at octets old new
put_behind at octets old zeros new size put = record {
  there = put.there;
  others = λ k n e apart.
      let same : stretch k n (old ++ zeros) ≡ stretch k n old = stretch_before k n old zeros e in
      put.others k n (ap length same ∙ e) apart ∙ same;
  size = omega (arith, put.size, size);
}

-- a part of a list was written, which the list then is
pub part_written : (at n size : ℕ) (octets all slice part : List ℕ) → n ≡ length octets → slice ≡ all → part ≡ octets → size ≡ length all → at + length octets ≤ length all
    → take size (put_mid at n slice part ++ drop (length (put_mid at n slice part)) all) ≡ put_mid at (length octets) all octets
part_written at n size octets all slice part count same copied is fits =
    rw (count, same, copied, is) (let long : length (put_mid at (length octets) all octets) ≡ length all = length_within at octets all fits in
    ap (λ (ys : List ℕ). take (length all) (put_mid at (length octets) all octets ++ ys)) (drop_all (length (put_mid at (length octets) all octets)) all (omega (arith, long)))
    ∙ ap (λ (ys : List ℕ). take (length all) ys) (append-nil (put_mid at (length octets) all octets))
    ∙ take_all (length all) (put_mid at (length octets) all octets) (omega (arith, long)))

-- octets that are written into a buffer that was filled up with zeros
pub put_filled : (at : ℕ) (octets old zeros filled new : List ℕ) → filled ≡ old ++ zeros → length (old ++ zeros) ≡ max (length old) (at + length octets) → new ≡ put_mid at (length octets) filled octets → IsPutAt at octets old new
put_filled at octets old zeros filled new is size written =
    let fits : at + length octets ≤ length filled = omega (arith, ap length is, size) in
    let put : IsPutAt at octets filled new = subst (λ (xs : List ℕ). IsPutAt at octets filled xs) (sym written) (put_within at octets filled fits) in
    put_behind at octets old zeros new size (subst (λ (xs : List ℕ). IsPutAt at octets xs new) is put)
