-- The values of parameters are read again.
use Rattle.std.proofs.Common.{◌≡◌, ℕ, ◌+◌, ◌^◌, ◌≤◌, ◌<◌, true, leb, List, [], ◌∷◌, ◌++◌, length, Some, refl, ap, ◌∙◌, arith}
use Rattle.std.specs.Int.{w32, cast_signed, cast_unsigned}
use Rattle.std.specs.Prelude.{FitsSigned, replicate}
use Rattle.std.proofs.lemmas.Bool.{le-leb}
use Rattle.std.proofs.lemmas.Int.{to_z-of_z}
use Rattle.std.proofs.lemmas.List.{drop_at, length-append, take_all, take_at}
use Rattle.std.proofs.Math.Facts.{Fits-of_z}
use Rattle.rtps_types.specs.declared.field.Endian.TheVariants.{Little}
use Rattle.rtps_types.specs.declared.identity.EntityId.{EntityId}
use Rattle.rtps_types.specs.declared.identity.GuidPrefix.{GuidPrefix}
use Rattle.rtps_types.specs.declared.locator.Locator.{Locator}
use Rattle.rtps_types.specs.declared.time.Duration.{Duration}
use Rattle.rtps_types.specs.Field.{encoded, number}
use Rattle.rtps_types.proofs.Puts.{number-encoded}
use Rattle.rtps_cdr.specs.Reading.{start}
use Rattle.dds_qos.specs.Values.{duration_in, guid_in, locator_in}
use Rattle.rtps_announcement.specs.Datagram.{IsPrefix}
use Rattle.rtps_announcement.specs.Values.{IsDuration, IsUdp, duration_value, guid_value, locator_value}

-- ---- a guid

pub length-guid : (prefix : GuidPrefix) (entity : EntityId) → IsPrefix prefix → length entity.0 ≡ 4 → length (guid_value prefix entity) ≡ 16
length-guid prefix entity p e = omega (arith, length-append prefix.0 entity.0)

pub guid_reads : (prefix : GuidPrefix) (entity : EntityId) → IsPrefix prefix → length entity.0 ≡ 4 → guid_in (start Little (guid_value prefix entity)) ≡ Some (record { prefix = prefix; entity = entity })
unfolding guid_in
guid_reads prefix entity p e =
    let len = length-guid prefix entity p e in
    let all : leb 16 (length (guid_value prefix entity)) ≡ true = le-leb _ _ (omega arith) in
    let front : leb 12 (length (guid_value prefix entity)) ≡ true = le-leb _ _ (omega arith) in
    let behind : leb (12 + 4) (length (guid_value prefix entity)) ≡ true = le-leb _ _ (omega arith) in
    rw (all, take_all 16 (guid_value prefix entity) (omega arith), front, take_at prefix.0 entity.0 12 p, behind, drop_at prefix.0 entity.0 12 p, take_all 4 entity.0 (omega arith)) refl

-- ---- a locator

located : (port : ℕ) (address : List ℕ) → length address ≡ 4 → 1 ≤ port → port ≤ 65535 → locator_in (start Little (locator_value (record { port = port; address = address }))) ≡ Some (Some (record { port = port; address = address }))
unfolding locator_in
located port [] len low high = absurd (omega arith)
located port (a ∷ []) len low high = absurd (omega arith)
located port (a ∷ b ∷ []) len low high = absurd (omega arith)
located port (a ∷ b ∷ c ∷ []) len low high = absurd (omega arith)
located port (a ∷ b ∷ c ∷ d ∷ []) len low high =
    let same : number Little 4 (encoded Little 4 port ++ []) ≡ port = number-encoded Little 4 port [] (omega arith) in
    let from : leb 1 port ≡ true = le-leb 1 port low in
    let to : leb port 65535 ≡ true = le-leb port 65535 high in
    rw (same) (rw (from, to) refl)
located port (a ∷ b ∷ c ∷ d ∷ e ∷ more) len low high = absurd (omega arith)

pub length-locator : (l : Locator) → IsUdp l → length (locator_value l) ≡ 24
length-locator l h = let len = h.address in omega (arith, length-append (encoded Little 4 1 ++ encoded Little 4 l.port ++ replicate 12 0) l.address)

pub locator_reads : (l : Locator) → IsUdp l → locator_in (start Little (locator_value l)) ≡ Some (Some l)
locator_reads l h = located l.port l.address h.address h.some h.port

-- ---- a duration

pub signed_again : (z : _) → FitsSigned w32 z → cast_signed w32 (number Little 4 (encoded Little 4 (cast_unsigned w32 z))) ≡ z
signed_again z fits =
    let small = Fits-of_z {w = w32} {z = z} fits in
    let less : cast_unsigned w32 z < 256 ^ 4 = omega (arith, small) in
    ap (cast_signed w32) (number-encoded Little 4 (cast_unsigned w32 z) [] less) ∙ to_z-of_z w32 z fits

pub duration_reads : (d : Duration) → IsDuration d → duration_in (start Little (duration_value d)) ≡ Some d
unfolding duration_in
duration_reads d h =
    let seconds : cast_signed w32 (number Little 4 (encoded Little 4 (cast_unsigned w32 d.seconds))) ≡ d.seconds = signed_again d.seconds h.seconds in
    let fraction : number Little 4 (encoded Little 4 d.fraction) ≡ d.fraction = number-encoded Little 4 d.fraction [] h.fraction in
    rw (seconds, fraction) refl
