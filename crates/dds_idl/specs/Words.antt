-- The words of a text (IDL 4.2, 7.2).
use Rattle.std.specs.Prelude.{◌≡◌, ◌≢◌, ◌<◌, ℕ, suc, ◌+◌, List, [], ◌∷◌, length, take, drop, Bool, true, false, not, ◌==◌, if◌then◌else◌, nat_le, Option, Some, None, slice_index}
use Rattle.std.specs.Option.{option_map}
use Rattle.std.specs.List.{take_while}
use Rattle.std.specs.Char.{is_ascii_alphabetic, is_ascii_digit}
use Rattle.dds_idl.specs.Gap.{gap}
use Rattle.dds_idl.specs.declared.gap.Within.TheVariants.{Code}
use Rattle.dds_idl.specs.declared.word.Kind.{Kind}
use Rattle.dds_idl.specs.declared.word.Kind.TheVariants.{Name, Number, Text, Character, Scope, Mark, End}
use Rattle.dds_idl.specs.declared.word.Word.{Word}
use Rattle.dds_idl.specs.declared.words.Front.{Front}

-- what a name begins with: a letter, or 95, '_'
abbrev pub begins_name : ℕ → Bool
begins_name octet = if is_ascii_alphabetic octet then true else octet == 95

-- what may stand in a name
abbrev pub is_wordy : ℕ → Bool
is_wordy octet = if begins_name octet then true else is_ascii_digit octet

-- what may stand in a number; 46 is '.'
abbrev pub is_numeric : ℕ → Bool
is_numeric octet = if is_wordy octet then true else octet == 46

-- how many octets at the front pass a test
abbrev pub run : (ℕ → Bool) → List ℕ → ℕ
run test text = length (take_while test text)

-- where a literal ends whose octets from `at` on are these, if it does so on its line: after a
-- quote that no backslash, 92, is before
abbrev pub literal_end : (quote : ℕ) → (is_escaped : Bool) → (at : ℕ) → List ℕ → Option ℕ
literal_end quote is_escaped at [] = None
literal_end quote is_escaped at (octet ∷ rest) =
    if octet == 10 then None
    else if octet == quote then
    (if is_escaped then literal_end quote false (suc at) rest else Some (suc at))
    else literal_end quote (if octet == 92 then not is_escaped else false) (suc at) rest

-- a word of a kind
abbrev pub front_of : Kind → ℕ → Front
front_of kind len = record { kind = kind; len = len }

-- the word at the front of a text: 34 is a double quote, 39 a single one, 58 ':'
abbrev pub front : List ℕ → Option Front
front [] = Some (front_of End 0)
front (octet ∷ rest) =
    if begins_name octet then Some (front_of Name (run is_wordy (octet ∷ rest)))
    else if is_ascii_digit octet then Some (front_of Number (run is_numeric (octet ∷ rest)))
    else if octet == 34 then option_map (front_of Text) (literal_end 34 false 1 rest)
    else if octet == 39 then option_map (front_of Character) (literal_end 39 false 1 rest)
    else if octet == 58 then
    (if slice_index rest 0 == 58 then Some (front_of Scope 2) else Some (front_of Mark 1))
    else if nat_le 33 octet then (if nat_le octet 126 then Some (front_of Mark 1) else None)
    else None

-- a word is the next one of a text: it comes after the gap
pub record IsNext (at : ℕ) (rest : List ℕ) (w : Word) : Type 0 where
  pub behind_gap : w.gap.now ≡ take (gap Code rest) rest
  pub place : w.at ≡ at + gap Code rest
  pub whole : front (drop (gap Code rest) rest) ≡ Some (front_of w.kind (length w.text.now))
  pub text : w.text.now ≡ take (length w.text.now) (drop (gap Code rest) rest)

-- what is left after the next word
abbrev pub behind_word : Word → List ℕ → List ℕ
behind_word w rest = drop (length w.text.now) (drop (gap Code rest) rest)

-- the next word of a text, and what is left after it
pub record Found (at : ℕ) (rest : List ℕ) (w : Word) (left : List ℕ) : Type 0 where
  pub is : IsNext at rest w
  pub behind : left ≡ behind_word w rest
  pub ends : w.at + length w.text.now + length left ≡ at + length rest
  pub moves : w.kind ≢ End → length left < length rest

-- the words of what is left of a text from an offset on, to its end
pub data AreWords : ℕ → List ℕ → List Word → Type 0 where
  last : {at : ℕ} {rest : List ℕ} {w : Word} → IsNext at rest w → w.kind ≡ End
      → AreWords at rest (w ∷ [])
  next : {at : ℕ} {rest : List ℕ} {w : Word} {ws : List Word} → IsNext at rest w
      → AreWords (w.at + length w.text.now) (behind_word w rest) ws → AreWords at rest (w ∷ ws)
