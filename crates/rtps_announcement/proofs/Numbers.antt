-- Numbers that are written are read again.
use Rattle.std.proofs.Common.{◌≡◌, ℕ, zero, suc, ◌+◌, ◌^◌, ◌≤◌, ◌<◌, pos, List, length, Some, refl, sym, ap, ◌∙◌, arith}
use Rattle.std.specs.Prelude.{FitsSigned, option_and_then}
use Rattle.std.specs.Int.{w64}
use Rattle.rtps_types.specs.declared.field.Endian.TheVariants.{Little}
use Rattle.rtps_types.specs.Field.{encoded_sn, put_at, sequence_number_at}
use Rattle.rtps_types.proofs.Puts.{put_sn_reads}
use Rattle.rtps_wire.specs.Fields.{natural, natural_at, positive, positive_at}

-- a sequence number that is there already is read
sn_there : (at n : ℕ) (octets : List ℕ) → n < 2 ^ 63 → put_at at (encoded_sn Little (pos n)) octets ≡ octets → at + 8 ≤ length octets → sequence_number_at Little octets at ≡ Some (pos n)
sn_there at n octets small there room =
    let fits : FitsSigned w64 (pos n) = record { sfits = small } in
    ap (λ (o : List ℕ). sequence_number_at Little o at) (sym there) ∙ put_sn_reads at Little (pos n) octets fits room

positive_is : (n : ℕ) → 1 ≤ n → positive (pos n) ≡ Some n
positive_is zero h = absurd (omega arith)
positive_is (suc n) h = refl

pub positive_there : (at n : ℕ) (octets : List ℕ) → 1 ≤ n → n < 2 ^ 63 → put_at at (encoded_sn Little (pos n)) octets ≡ octets → at + 8 ≤ length octets → positive_at Little octets at ≡ Some n
positive_there at n octets least small there room = ap (option_and_then positive) (sn_there at n octets small there room) ∙ positive_is n least

pub natural_there : (at n : ℕ) (octets : List ℕ) → n < 2 ^ 63 → put_at at (encoded_sn Little (pos n)) octets ≡ octets → at + 8 ≤ length octets → natural_at Little octets at ≡ Some n
natural_there at n octets small there room = ap (option_and_then natural) (sn_there at n octets small there room)
