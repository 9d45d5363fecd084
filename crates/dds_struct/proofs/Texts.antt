-- Texts and lists as they are.
use Rattle.std.proofs.Common.{◌≡◌, ℕ, List, true, IsUtf8, map, [], ◌∷◌, refl, ap}
use Rattle.std.specs.Str.{is_utf8}
use Rattle.std.proofs.lemmas.Str.{is_utf8-from_IsUtf8}

pub utf8_test : (bs : List ℕ) → IsUtf8 bs → is_utf8 bs ≡ true
utf8_test bs h = is_utf8-from_IsUtf8 bs h

-- items that are seen as they are
pub same_items : {A : Type 0} (xs : List A) → map (λ x. x) xs ≡ xs
same_items [] = refl
same_items (x ∷ xs) = ap (λ ys. x ∷ ys) (same_items xs)
