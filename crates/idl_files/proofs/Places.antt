use Rattle.std.proofs.Common.{◌≡◌, ◌<◌, ◌∙◌, [], ◌∷◌, length, Option, None, Some, MatchOption, Bor, eqb, ap₂, arith, sym}
use Rattle.std.specs.List.{after_first, before_first, position_or_len}
use Rattle.std.proofs.lemmas.List.Splits.{length-slice_split, slice_split_first, slice_split_none}
use Rattle.std.proofs.lemmas.List.Sums.{fails_before_first}
use Rattle.std.proofs.lemmas.Str.Pattern.{IsSplitOnceResult, split_once_first}
use Rattle.idl_files.specs.Parts.{Text}
use Rattle.idl_files.specs.Parts.{parts_of}

parts_cases : (text : Text) (found : Option (Bor Text × Bor Text))
    → MatchOption found (position_or_len (λ b. eqb b 44) text ≡ length text)
    (λ x. (position_or_len (λ b. eqb b 44) text < length text) × (x.0.now ≡ before_first (λ b. eqb b 44) text) × (x.1.now ≡ after_first (λ b. eqb b 44) text))
    → MatchOption found (parts_of text ≡ text ∷ []) (λ x. parts_of text ≡ x.0.now ∷ parts_of x.1.now)
parts_cases text None h = slice_split_none (λ b. eqb b 44) text (λ k d lt. fails_before_first (λ b. eqb b 44) text k d (rw h lt))
parts_cases text (Some x) h = slice_split_first (λ b. eqb b 44) text 0 h.0 ∙ ap₂ (λ a b. a ∷ parts_of b) (sym h.1) (sym h.2)

pub parts_found : (text : Text) (found : Option (Bor Text × Bor Text)) → IsSplitOnceResult 44 text found
    → MatchOption found (parts_of text ≡ text ∷ []) (λ x. parts_of text ≡ x.0.now ∷ parts_of x.1.now)
parts_found text found h = parts_cases text found (split_once_first 44 text found h (omega arith))

-- there is one part at least
pub some_part : (text : Text) → 0 < length (parts_of text)
some_part text = omega (arith, length-slice_split (λ b. eqb b 44) text)
