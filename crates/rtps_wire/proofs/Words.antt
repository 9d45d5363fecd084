-- Words of a set, one after the other.
use Rattle.std.proofs.Common.{◌≡◌, ℕ, zero, suc, ◌+◌, ◌-◌, ◌*◌, ◌<◌, ◌≤◌, Bool, true, false, cond, List, [], ◌∷◌, ◌++◌, length, drop, slice_set, Some, None, leb, refl, sym, arith}
use Rattle.std.specs.Prelude.{replicate}
use Rattle.std.proofs.lemmas.Bool.{le-leb, leb-true, lt-leb}
use Rattle.std.proofs.lemmas.List.{append_assoc, drop-drop}
use Rattle.std.proofs.Math.Seq.{set-append_seam}
use Rattle.rtps_types.specs.declared.field.Endian.{Endian}
use Rattle.rtps_types.specs.Field.{number, number_at}
use Rattle.rtps_wire.specs.NumberSet.{words_at, words_in}

words_more : (n : ℕ) (e : Endian) (octets : List ℕ) → words_in e (n + 1) octets ≡ words_in e n octets ++ number e 4 (drop (4 * n) octets) ∷ []
words_more zero e octets = refl
words_more (suc n) e octets =
    let count : suc n + 1 ≡ suc (n + 1) = omega arith in
    let place : 4 * suc n ≡ 4 + 4 * n = omega arith in
    rw (count, words_more n e (drop 4 octets), drop-drop (4 * n) 4 octets, place) refl

length-words_in : (n : ℕ) (e : Endian) (octets : List ℕ) → length (words_in e n octets) ≡ n
length-words_in zero e octets = refl
length-words_in (suc n) e octets = let l = length-words_in n e (drop 4 octets) in omega (arith, l)

set-seam : (front behind : List ℕ) (k x y : ℕ) → length front ≡ k → slice_set (front ++ y ∷ behind) k x ≡ (front ++ x ∷ []) ++ behind
set-seam front behind k x y h = rw (← h, set-append_seam) (simp append_assoc)

there : (b : Bool) (bound len x field : ℕ) → leb bound len ≡ b → cond b (Some x) None ≡ Some field → (bound ≤ len) × (field ≡ x)
there true bound len x field test h = (leb-true bound len test, cc)
there false bound len x field test h = absurd cc

-- one more word was read
pub words_next : (e : Endian) (octets words : List ℕ) (at k n field : ℕ) → k < n → n ≤ 8 → Some field ≡ number_at e 4 octets (at + 4 * k) → words ≡ words_in e k (drop at octets) ++ replicate (8 - k) 0 → (at + 4 * (k + 1) ≤ length octets) × (slice_set words k field ≡ words_in e (k + 1) (drop at octets) ++ replicate (8 - (k + 1)) 0)
words_next e octets words at k n field before few read so_far =
    let is = there (leb (at + 4 * k + 4) (length octets)) (at + 4 * k + 4) (length octets) (number e 4 (drop (at + 4 * k) octets)) field refl (sym read) in
    let left : 8 - k ≡ suc (8 - (k + 1)) = omega arith in
    (omega (arith, is.0), rw (so_far, left, set-seam (words_in e k (drop at octets)) (replicate (8 - (k + 1)) 0) k field 0 (length-words_in k e (drop at octets)), words_more k e (drop at octets), drop-drop (4 * k) at octets, is.1) refl)

-- all words were read
pub words_there : (e : Endian) (octets words : List ℕ) (at n : ℕ) → at + 4 * n ≤ length octets → words ≡ words_in e n (drop at octets) ++ replicate (8 - n) 0 → Some words ≡ words_at e n octets at
words_there e octets words at n room is =
    let test : leb (at + 4 * n) (length octets) ≡ true = le-leb _ _ room in
    rw (test, is) refl

-- a word is missing
pub words_short : (e : Endian) (octets : List ℕ) (at n : ℕ) → length octets < at + 4 * n → words_at e n octets at ≡ None
words_short e octets at n room =
    let test : leb (at + 4 * n) (length octets) ≡ false = lt-leb _ _ room in
    rw test refl
