-- Names with commas between them.
use Rattle.std.specs.Prelude.{◌==◌, List, ◌∷◌, [], Option, None, Some, ℕ}
use Rattle.std.specs.List.{slice_split}

-- a text, by its octets
abbrev pub Text : Type 0
Text = List ℕ

-- the parts of a text, which has commas between them
abbrev pub parts_of : Text → List Text
parts_of text = slice_split (λ octet. octet == 44) text

-- the parts of a text by its first one, and the rest after the next comma
abbrev pub parts_with : Text → Option Text → List Text
parts_with first None = first ∷ []
parts_with first (Some rest) = first ∷ parts_of rest
