-- Blanks and comments (IDL 4.2, 7.2.1).
use Rattle.std.specs.Prelude.{ℕ, suc, List, [], ◌∷◌, Bool, true, ◌==◌, if◌then◌else◌, slice_index}
use Rattle.std.specs.Char.{is_ascii_whitespace}
use Rattle.dds_idl.specs.declared.gap.Within.{Within}
use Rattle.dds_idl.specs.declared.gap.Within.TheVariants.{Code, Line, Opening, Block, Closing}

-- whether an octet belongs to a gap, with the octet after it: 47 is '/', 42 '*'
abbrev pub is_gap : Within → ℕ → ℕ → Bool
is_gap Code octet next =
    if octet == 47 then (if next == 47 then true else next == 42) else is_ascii_whitespace octet
is_gap other octet next = true

-- what comes after such an octet; 10 is a line feed
abbrev pub behind : Within → ℕ → ℕ → Within
behind Code octet next =
    if octet == 47 then (if next == 47 then Line else Opening) else Code
behind Line octet next = if octet == 10 then Code else Line
behind Opening octet next = Block
behind Block octet next =
    if octet == 42 then (if next == 47 then Closing else Block) else Block
behind Closing octet next = Code

-- how many octets at the front of a text are blanks and comments
abbrev pub gap : Within → List ℕ → ℕ
gap within [] = 0
gap within (octet ∷ rest) =
    if is_gap within octet (slice_index rest 0)
    then suc (gap (behind within octet (slice_index rest 0)) rest) else 0
