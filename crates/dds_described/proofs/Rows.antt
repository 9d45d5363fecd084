-- Which keys are short, worked by hand.
use Rattle.std.proofs.Common.{◌≡◌, [], ◌∷◌, true, false, refl}
use Rattle.std.specs.Int.{w16}
use Rattle.dds_xcdr.specs.Xtype.{Xtype, Digits, Number, Signed, Truth, Enum, Text, Sequence, Array, Struct, none, field}
use Rattle.dds_xcdr.specs.PlainCdr.{unnamed}
use Rattle.dds_described.specs.Hash.{end_of_all, is_short}

abbrev both : Xtype → Xtype → Xtype
both s t = Struct (field unnamed s (field unnamed t none))

-- an octet, a gap of 7 and 8 octets
pub sixteen_with_a_gap : is_short (both Truth (Number Digits 8)) ≡ true
sixteen_with_a_gap = refl

-- one more after them
pub seventeen : is_short (both (both Truth (Number Digits 8)) Truth) ≡ false
seventeen = refl

pub no_octets : is_short (Struct none) ≡ true
no_octets = refl

-- a length of 4 octets, 11 letters and a NUL
pub eleven_letters : is_short (Text 11) ≡ true
eleven_letters = refl

pub twelve_letters : is_short (Text 12) ≡ false
twelve_letters = refl

pub texts_are_long : is_short (Text 0) ≡ false
texts_are_long = refl

pub sequences_are_long : is_short (Sequence Truth 0) ≡ false
sequences_are_long = refl

-- a count of 4 octets and three numbers of 4
pub three_items : is_short (Sequence (Enum []) 3) ≡ true
unfolding end_of_all
three_items = refl

pub four_items : is_short (Sequence (Enum []) 4) ≡ false
unfolding end_of_all
four_items = refl

-- eight numbers of 2 octets in two dimensions, and nine
pub eight_items : is_short (Array (Signed w16) (2 ∷ 4 ∷ [])) ≡ true
unfolding end_of_all
eight_items = refl

pub nine_items : is_short (Array (Signed w16) (9 ∷ [])) ≡ false
unfolding end_of_all
nine_items = refl
