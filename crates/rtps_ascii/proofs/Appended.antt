-- Pieces of text one after the other.
use Rattle.std.proofs.Common.{◌≡◌, ℕ, List, [], ◌∷◌, ◌++◌, refl, ◌∙◌, append_assoc}

-- a text to which each piece is added in turn
abbrev pub added : List ℕ → List (List ℕ) → List ℕ
added text [] = text
added text (piece ∷ pieces) = added (text ++ piece) pieces

abbrev pub joined : List ℕ → List (List ℕ) → List ℕ
joined first [] = first
joined first (second ∷ pieces) = first ++ joined second pieces

pub added_is_joined : (text first : List ℕ) (pieces : List (List ℕ)) → added text (first ∷ pieces) ≡ text ++ joined first pieces
added_is_joined text first [] = refl
added_is_joined text first (second ∷ pieces) = added_is_joined (text ++ first) second pieces ∙ append_assoc text first (joined second pieces)
