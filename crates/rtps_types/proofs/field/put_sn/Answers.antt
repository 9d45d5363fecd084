use Rattle.std.proofs.Common.{◌≡◌, w64, refl, ap, ◌∙◌}
use Rattle.std.specs.Int.{cast_unsigned}
use Rattle.std.proofs.lemmas.Int.{to_z-of_z}
use Rattle.std.proofs.lemmas.Nat.{and_mask}
use Rattle.rtps_types.proofs.Puts.{put_sn_reads, puts_halves, puts_sn_outside}
use Rattle.rtps_types.proofs.field.put_sn.Goals as goal

pub returns-clause-octets : goal.returns-clause-octets
returns-clause-octets c =
    let same : c.cast_unsigned-bits.result ≡ cast_unsigned w64 c.args.value = c.cast_unsigned-bits.ensures ∙ ap (cast_unsigned w64) (to_z-of_z w64 c.args.value c.ranges.value) in
    puts_halves c.args.at _ _ c.args.endian c.args.value c.args.octets.now _ _ (rw same refl) (and_mask c.cast_unsigned-bits.result 32 ∙ rw same refl) c.requires c.put_u32.ensures.octets c.put_u32-2.ensures.octets

pub returns-clause-read_again : goal.returns-clause-read_again
returns-clause-read_again c =
    rw (returns-clause-octets c) (put_sn_reads c.args.at c.args.endian c.args.value c.args.octets.now c.ranges.value c.requires)

pub returns-clause-others_stay : goal.returns-clause-others_stay
returns-clause-others_stay c = puts_sn_outside c.args.at c.args.endian c.args.value c.args.octets.now _ (returns-clause-octets c) c.requires
