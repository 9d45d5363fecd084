-- Moments in hex.
use Rattle.std.proofs.Common.{◌≡◌, ℕ, ◌<◌, ◌^◌, ◌/◌, ◌%◌, ◌==◌, not, true, false, List, [], ◌∷◌, slice_index, Ok, suc, refl, ap, ◌∙◌, rules, arith}
use Rattle.std.proofs.lemmas.Nat.{from_be_bytes-to_be_bytes_4}
use Rattle.std.specs.Int.{w32, from_be_bytes, to_be_bytes}
use Rattle.std.specs.List.{list_all}
use Rattle.hex.specs.Hex.{IsBytes, encode_lower, encode_with, lower_digits}
use Rattle.rtps_types.specs.Text.{made_of}
use Rattle.rtps_types.specs.TimeText.{ShownMomentsAreRead, word_in, word_text}
use Rattle.rtps_types.proofs.Texts.{halves_shown, octets_shown}

-- a word that is shown is read again
pub word_shown : (n : ℕ) → n < 2 ^ 32 → word_in (word_text n) ≡ Ok n
word_shown n small =
    ap (made_of (from_be_bytes w32)) (octets_shown 4 (to_be_bytes w32 n) (search rules) (search rules))
    ∙ ap Ok (from_be_bytes-to_be_bytes_4 n small)

-- no digit of the table is a dot
no_dot_at : (k : ℕ) → k < 16 → (slice_index lower_digits k == 46) ≡ false
no_dot_at k less = grind (arith, less)

-- nor is one of octets in hex
no_dot : (octets : List ℕ) → IsBytes octets → list_all (λ b. not (b == 46)) (encode_lower octets) ≡ true
unfolding encode_with
no_dot [] fits = refl
no_dot (b ∷ octets) fits =
    let small : b < 256 = fits 0 in
    rw (no_dot_at (b / 16) (omega (arith, small)), no_dot_at (b % 16) (omega arith), no_dot octets (λ k. fits (suc k))) refl

-- what is shown of a moment is read again
pub moment_shown : ShownMomentsAreRead
unfolding encode_with
moment_shown t seconds fraction =
    let cut = halves_shown 46 (word_text t.seconds) (word_text t.fraction) (no_dot (to_be_bytes w32 t.seconds) (search rules)) in
    rw (cut.0, cut.1, cut.2, word_shown t.seconds seconds, word_shown t.fraction fraction) refl
