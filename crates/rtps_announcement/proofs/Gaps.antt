-- A GAP that is written is read again.
use Rattle.std.specs.Prelude.{◌&&◌, ◌||◌}
use Rattle.std.proofs.Common.{◌≡◌, ℕ, ◌+◌, ◌^◌, ◌≤◌, ◌<◌, pos, false, leb, ltb, [], ◌∷◌, ◌++◌, Some, refl, arith}
use Rattle.std.proofs.lemmas.Bool.Decides.{nat_tests}
use Rattle.rtps_types.specs.declared.field.Endian.TheVariants.{Little}
use Rattle.rtps_types.specs.declared.identity.GuidPrefix.{GuidPrefix}
use Rattle.rtps_types.specs.Field.{encoded, encoded_sn}
use Rattle.rtps_wire.specs.Fields.{positive_at}
use Rattle.rtps_wire.specs.Gap.{gap_of}
use Rattle.rtps_wire.specs.NumberSet.{sn_set_at}
use Rattle.rtps_wire.specs.Submessage.{Gap, parts_of}
use Rattle.rtps_discovery.specs.Known.{subscriptions_reader, subscriptions_writer}
use Rattle.rtps_announcement.specs.Datagram.{opened}
use Rattle.rtps_announcement.specs.Gap.{NamesItsNumbers, gap_body, gap_fields, gap_octets}
use Rattle.rtps_announcement.specs.ReadAgain.{GapIsReadAgain}
use Rattle.rtps_announcement.proofs.Messages.{regrouped, says}
use Rattle.rtps_announcement.proofs.Numbers.{positive_there}

body_reads : (first last : ℕ) → 1 ≤ first → first < 2 ^ 63 → last + 1 < 2 ^ 63 → parts_of 0x08 1 (gap_body first last) ≡ Some (Gap (gap_fields first last))
unfolding parts_of gap_of sn_set_at
body_reads first last least small less =
    let start : positive_at Little (gap_body first last) 8 ≡ Some first = positive_there 8 first (gap_body first last) least small refl (omega arith) in
    let base : positive_at Little (gap_body first last) 16 ≡ Some (last + 1) = positive_there 16 (last + 1) (gap_body first last) (omega arith) less refl (omega arith) in
    rw (start, base) refl

pub gap_is_read_again : GapIsReadAgain
unfolding gap_octets
gap_is_read_again own to first last o t least small less =
    says own (Some to) 0x08 1 (gap_body first last) (Gap (gap_fields first last)) o t refl (omega arith) (body_reads first last least small less)

-- the fields one after the other are the datagram
pub gap_built : (own to : GuidPrefix) (first last : ℕ) → opened own (Some to) ++ (8 ∷ 1 ∷ []) ++ encoded Little 2 28 ++ subscriptions_reader.0 ++ subscriptions_writer.0 ++ encoded_sn Little (pos first) ++ encoded_sn Little (pos (last + 1)) ++ encoded Little 4 0 ≡ gap_octets own to first last
unfolding gap_octets
gap_built own to first last =
    regrouped (opened own (Some to) ++ (8 ∷ 1 ∷ []) ++ encoded Little 2 28) subscriptions_reader.0 subscriptions_writer.0 (encoded_sn Little (pos first)) (encoded_sn Little (pos (last + 1))) (encoded Little 4 0)

-- ---- the numbers that it names

tests : (first last n : ℕ) → (leb first n && ltb n (last + 1)) || false ≡ (leb first n && leb n last)
tests first last n = grind (arith, nat_tests)

pub names_its_numbers : NamesItsNumbers
names_its_numbers first last n = tests first last n
