-- What a participant announces of itself.
use Rattle.std.proofs.Common.{◌≡◌, ◌≢◌, ℕ, ◌-◌, Bool, true, false, List, [], ◌∷◌, ◌++◌, length, Option, Some, None, refl, arith, append_assoc}
use Rattle.std.specs.Prelude.{replicate}
use Rattle.std.specs.List.{AllByRecursion}
use Rattle.std.specs.Str.{bytes_eq}
use Rattle.std.proofs.lemmas.Slice.Eq.{bytes_eq-Decides}
use Rattle.std.proofs.lemmas.List.{length-append}
use Rattle.rtps_types.specs.declared.field.Endian.TheVariants.{Little}
use Rattle.rtps_types.specs.declared.identity.Guid.{Guid}
use Rattle.rtps_types.specs.declared.identity.GuidPrefix.{GuidPrefix}
use Rattle.rtps_types.specs.declared.locator.Locator.{Locator}
use Rattle.rtps_types.specs.declared.time.Duration.{Duration}
use Rattle.rtps_cdr.specs.Reading.{start}
use Rattle.dds_qos.specs.declared.policies.Reliability.TheVariants.{Reliable}
use Rattle.dds_qos.specs.Defaults.{default_policies}
use Rattle.dds_qos.specs.Settings.{is_sound_by, settings_of}
use Rattle.dds_qos.specs.Values.{duration_in, guid_in, locator_in, number_of}
use Rattle.rtps_wire.specs.Submessage.{Data}
use Rattle.rtps_discovery.specs.AnnouncedData.{Announces, said_in}
use Rattle.rtps_types.specs.Field.{encoded}
use Rattle.rtps_announcement.specs.declared.participant.Presence.{Presence}
use Rattle.rtps_announcement.specs.Data.{change_octets, end_body, value_body}
use Rattle.rtps_announcement.specs.Datagram.{IsPrefix, opened}
use Rattle.rtps_discovery.specs.Known.{spdp_reader, spdp_writer}
use Rattle.rtps_announcement.specs.Entities.{participant_entity}
use Rattle.rtps_announcement.specs.Parameters.{IsWritable, list_octets, parameter, payload_octets}
use Rattle.rtps_announcement.specs.Participant.{IsPresence, participant_gone_octets, participant_octets, participant_parameters, participant_settings}
use Rattle.rtps_announcement.specs.ReadAgain.{ParticipantEndIsReadAgain, ParticipantIsReadAgain, participant_change, participant_last}
use Rattle.rtps_announcement.specs.Values.{duration_value, guid_value, locator_value}
use Rattle.rtps_announcement.proofs.Changes.{end_is, end_length, end_reads, value_reads}
use Rattle.rtps_announcement.proofs.Lists.{length-list, list_is, writable}
use Rattle.rtps_announcement.proofs.Messages.{says}
use Rattle.rtps_announcement.proofs.ValuesAgain.{duration_reads, guid_reads, length-guid, length-locator, locator_reads}

-- the number of octets of the body
pub participant_length : (own : GuidPrefix) (here : Presence) → IsPrefix own → length here.discovery.address ≡ 4 → length here.user.address ≡ 4 → length (value_body spdp_reader spdp_writer 1 (payload_octets (participant_parameters own here))) ≡ 140
participant_length own here o d u =
    let ps = participant_parameters own here in
    let guid = length-append own.0 participant_entity.0 in
    let one = length-append (encoded Little 4 1 ++ encoded Little 4 here.discovery.port ++ replicate 12 0) here.discovery.address in
    let two = length-append (encoded Little 4 1 ++ encoded Little 4 here.user.port ++ replicate 12 0) here.user.address in
    let count = length-list ps in
    let all = length-append (change_octets spdp_reader spdp_writer 1) (payload_octets ps) in
    omega arith

-- the parts one after the other are the datagram
pub participant_built : (own : GuidPrefix) (to : Option GuidPrefix) (here : Presence) → IsPrefix own → length here.discovery.address ≡ 4 → length here.user.address ≡ 4 → opened own to ++ (0x15 ∷ 5 ∷ []) ++ encoded Little 2 140 ++ change_octets spdp_reader spdp_writer 1 ++ payload_octets (participant_parameters own here) ≡ participant_octets own to here
unfolding participant_octets
participant_built own to here o d u =
    rw (participant_length own here o d u)
    (append_assoc (opened own to ++ (0x15 ∷ 5 ∷ []) ++ encoded Little 2 140) (change_octets spdp_reader spdp_writer 1) (payload_octets (participant_parameters own here)))

-- ---- it is read again

are_writable : (own : GuidPrefix) (here : Presence) → IsPrefix own → IsPresence here → AllByRecursion IsWritable (participant_parameters own here)
are_writable own here o h =
    let guid = length-guid own participant_entity o refl in
    let discovery = length-locator here.discovery h.discovery in
    let user = length-locator here.user h.user in (
      writable 0x0015 (2 ∷ 5 ∷ 0 ∷ 0 ∷ []) (omega arith) (omega arith) refl (omega arith),
      (
        writable 0x0016 (0 ∷ 0 ∷ 0 ∷ 0 ∷ []) (omega arith) (omega arith) refl (omega arith),
        (
          writable 0x0050 (guid_value own participant_entity) (omega arith) (omega arith) (omega arith) (omega arith),
          (
            writable 0x0032 (locator_value here.discovery) (omega arith) (omega arith) (omega arith) (omega arith),
            (
              writable 0x0031 (locator_value here.user) (omega arith) (omega arith) (omega arith) (omega arith),
              (
                writable 0x0002 (duration_value here.lease) (omega arith) (omega arith) refl (omega arith),
                (writable 0x0058 (encoded Little 4 0x3b) (omega arith) (omega arith) refl (omega arith), tt),
              ),
            ),
          ),
        ),
      ),
    )

-- the settings, by what each value is read as
settings_are : (used : ℕ) (guid discovery user lease endpoints : List ℕ) (g : Guid) (d u : Locator) (l : Duration) (n : ℕ) → guid_in (start Little guid) ≡ Some g → locator_in (start Little discovery) ≡ Some (Some d) → locator_in (start Little user) ≡ Some (Some u) → duration_in (start Little lease) ≡ Some l → number_of (start Little endpoints) ≡ Some n →
    settings_of (record { endian = Little; parameters = parameter 0x0015 (2 ∷ 5 ∷ 0 ∷ 0 ∷ []) ∷ parameter 0x0016 (0 ∷ 0 ∷ 0 ∷ 0 ∷ []) ∷ parameter 0x0050 guid ∷ parameter 0x0032 discovery ∷ parameter 0x0031 user ∷ parameter 0x0002 lease ∷ parameter 0x0058 endpoints ∷ []; used = used })
    ≡ Some (record { lease = Some l; topic = None; type_name = None; policies = default_policies Reliable; partitions = []; unicast = []; default_unicast = u ∷ []; metatraffic_unicast = d ∷ []; participant = Some g; endpoint = None; builtin_endpoints = Some n })
unfolding settings_of is_sound_by
settings_are used guid discovery user lease endpoints g d u l n a b c e f = rw (a, b, c, e, f) refl

record_is : (own : GuidPrefix) (here : Presence) → IsPrefix own → IsPresence here → said_in 0x0050 (participant_change own here).info (participant_change own here).payload ≡ Some (Announces (participant_settings own here))
unfolding said_in
record_is own here o h =
    let list = list_is (participant_parameters own here) (are_writable own here o h) refl in
    let settings = settings_are (length (list_octets (participant_parameters own here)) - 0) (guid_value own participant_entity) (locator_value here.discovery) (locator_value here.user) (duration_value here.lease) (encoded Little 4 0x3b) (record { prefix = own; entity = participant_entity }) here.discovery here.user here.lease 0x3b
    (guid_reads own participant_entity o refl) (locator_reads here.discovery h.discovery) (locator_reads here.user h.user) (duration_reads here.lease h.lease) refl in
    rw (list, settings) refl

pub same_bytes : (xs : List ℕ) → bytes_eq xs xs ≡ true
same_bytes xs = (bytes_eq-Decides xs xs).1 refl

other_bytes : (xs ys : List ℕ) → xs ≢ ys → bytes_eq xs ys ≡ false
other_bytes xs ys h = by (bytes_eq xs ys) (λ e. h ((bytes_eq-Decides xs ys).0 e))
  where
    by : (b : Bool) → (b ≡ true → ⊥) → b ≡ false
    by true k = absurd (k refl)
    by false k = refl

pub participant_is_read_again : ParticipantIsReadAgain
unfolding participant_octets
participant_is_read_again own to here o t h =
    let length_is = participant_length own here o h.discovery.address h.user.address in
    record {
      says = says own to 0x15 5 (value_body spdp_reader spdp_writer 1 (payload_octets (participant_parameters own here))) (Data (participant_change own here)) o t refl (omega arith) (value_reads 0 1 0 0xc7 0 1 0 0xc2 1 (payload_octets (participant_parameters own here)) (omega arith) (omega arith));
      settings = record_is own here o h;
      comes = λ other differs. rw (record_is own here o h, same_bytes own.0, other_bytes own.0 other.0 differs) refl;
    }

pub participant_end_is_read_again : ParticipantEndIsReadAgain
unfolding participant_gone_octets
participant_end_is_read_again own to o t =
    let len = end_length spdp_reader spdp_writer 2 0x0050 own participant_entity o refl refl refl in
    record {
      says = says own to 0x15 11 (end_body spdp_reader spdp_writer 2 0x0050 own participant_entity) (Data (participant_last own)) o t refl (omega arith) (end_reads 0 1 0 0xc7 0 1 0 0xc2 2 0x0050 own participant_entity o refl (omega arith) (omega arith));
      leaves = λ other. rw (end_is 0x0050 own participant_entity o refl (omega arith) (omega arith), same_bytes own.0) refl;
    }
