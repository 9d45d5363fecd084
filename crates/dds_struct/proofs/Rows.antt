-- Which keys are short, worked by hand.
use Rattle.std.proofs.Common.{◌≡◌, true, false, refl}
use Rattle.std.specs.Int.{w16}
use Rattle.rtps_cdr.specs.Cdr.{Unsigned, Signed, Boolean, Text, Octets, Both, Sequence}
use Rattle.dds_struct.specs.Key.{is_short}

-- an octet, a gap of 7 and 8 octets
pub sixteen_with_a_gap : is_short (Both Boolean (Unsigned 8)) ≡ true
sixteen_with_a_gap = refl

-- one more after them
pub seventeen : is_short (Both Boolean (Both (Unsigned 8) (Octets 1))) ≡ false
seventeen = refl

pub sixteen_octets : is_short (Octets 16) ≡ true
sixteen_octets = refl

pub a_short_after_a_gap : is_short (Both (Octets 13) (Signed w16)) ≡ true
a_short_after_a_gap = refl

pub texts_are_long : is_short Text ≡ false
texts_are_long = refl

pub sequences_are_long : is_short (Sequence Boolean) ≡ false
sequences_are_long = refl
