-- What a participant announces of its readers is read again.
use Rattle.std.proofs.Common.{◌≡◌, ℕ, ◌-◌, ◌<◌, List, [], ◌∷◌, ◌++◌, length, filter, Some, None, refl, arith}
use Rattle.std.specs.List.{AllByRecursion, flat_map}
use Rattle.std.proofs.lemmas.List.{length-append}
use Rattle.rtps_types.specs.declared.field.Endian.TheVariants.{Little}
use Rattle.rtps_types.specs.declared.identity.EntityId.{EntityId}
use Rattle.rtps_types.specs.declared.identity.Guid.{Guid}
use Rattle.rtps_types.specs.declared.identity.GuidPrefix.{GuidPrefix}
use Rattle.rtps_types.specs.Field.{encoded}
use Rattle.rtps_params.specs.Reading.{Parameter, is_shown}
use Rattle.rtps_cdr.specs.Cdr.{Sequence, Text}
use Rattle.rtps_cdr.specs.Reading.{start}
use Rattle.dds_qos.specs.declared.policies.Policies.{Policies}
use Rattle.dds_qos.specs.Settings.{Settings, is_sound_by, settings_of}
use Rattle.dds_qos.specs.Values.{duration_in, durability_in, guid_in, liveliness_in, names_in, order_in, ownership_in, presentation_in, reliability_in, topic_in}
use Rattle.rtps_wire.specs.Submessage.{Data}
use Rattle.rtps_discovery.specs.AnnouncedData.{Announces, said_in}
use Rattle.rtps_discovery.specs.Known.{Wish, subscriptions_reader, subscriptions_writer}
use Rattle.rtps_announcement.specs.Data.{change_octets, end_body, value_body}
use Rattle.rtps_announcement.specs.Datagram.{IsPrefix}
use Rattle.rtps_announcement.specs.Entities.{participant_entity}
use Rattle.rtps_announcement.specs.Parameters.{IsWritable, list_octets, parameter, parameter_octets}
use Rattle.rtps_announcement.specs.Policies.{durability_kind, liveliness_value, order_kind, ownership_kind, policy_parameters, presentation_value, reliability_value}
use Rattle.rtps_announcement.specs.ReadAgain.{ReaderEndIsReadAgain, ReaderIsReadAgain, reader_change, reader_last}
use Rattle.rtps_announcement.specs.Reader.{IsAnnounced, partition_parameters, reader_gone_octets, reader_octets, reader_parameters, reader_record, reader_settings}
use Rattle.rtps_announcement.specs.Values.{duration_value, guid_value, kind_value, names_value, text_value}
use Rattle.rtps_announcement.proofs.Changes.{end_is, end_length, end_reads, value_reads}
use Rattle.rtps_announcement.proofs.Lists.{list_is, writable}
use Rattle.rtps_announcement.proofs.Messages.{says}
use Rattle.rtps_announcement.proofs.Participants.{same_bytes}
use Rattle.rtps_announcement.proofs.PoliciesAgain.{durability_reads, liveliness_reads, order_reads, ownership_reads, presentation_reads, reliability_reads}
use Rattle.rtps_announcement.proofs.Records.{partitions_length, topic_length, type_length}
use Rattle.rtps_announcement.proofs.TextsAgain.{filled_words, names_read, text_reads}
use Rattle.rtps_announcement.proofs.ValuesAgain.{duration_reads, guid_reads, length-guid}
use Rattle.rtps_cdr.specs.Writing.{written}

-- ---- each parameter can be written

partitions_writable : (names : List (List ℕ)) → length (flat_map parameter_octets (partition_parameters names)) < 65536 → AllByRecursion IsWritable (partition_parameters names)
partitions_writable [] h = tt
partitions_writable (n ∷ ns) h =
    let octets = names_value (n ∷ ns) in
    let count = length-append (parameter_octets (parameter 0x0029 octets)) [] in
    let more = length-append (encoded Little 2 0x0029 ++ encoded Little 2 (length octets)) octets in
    (writable 0x0029 octets (omega arith) (omega arith) (filled_words (written (Sequence Text) 0 Little (n ∷ ns))) (omega arith), tt)

policies_writable : (p : Policies) (others : List Parameter) → AllByRecursion IsWritable others → AllByRecursion IsWritable (policy_parameters p others)
policies_writable p others w = (
  writable 0x001d (kind_value (durability_kind p.durability)) (omega arith) (omega arith) refl (omega arith),
  (
    writable 0x0021 (presentation_value p.presentation) (omega arith) (omega arith) refl (omega arith),
    (
      writable 0x0023 (duration_value p.deadline) (omega arith) (omega arith) refl (omega arith),
      (
        writable 0x0027 (duration_value p.latency_budget) (omega arith) (omega arith) refl (omega arith),
        (
          writable 0x001f (kind_value (ownership_kind p.ownership)) (omega arith) (omega arith) refl (omega arith),
          (
            writable 0x001b (liveliness_value p.liveliness) (omega arith) (omega arith) refl (omega arith),
            (
              writable 0x001a (reliability_value p.reliability) (omega arith) (omega arith) refl (omega arith),
              (writable 0x0025 (kind_value (order_kind p.destination_order)) (omega arith) (omega arith) refl (omega arith), w),
            ),
          ),
        ),
      ),
    ),
  ),
)

are_writable : (own : GuidPrefix) (w : Wish) → IsPrefix own → IsAnnounced own w → AllByRecursion IsWritable (reader_parameters own w)
are_writable own w o h =
    let guid = length-guid own w.entity o h.entity in
    let participant = length-guid own participant_entity o refl in
    let topic = topic_length own w in
    let name = type_length own w in
    let partitions = partitions_length own w in
    let short = h.short in (
      writable 0x005a (guid_value own w.entity) (omega arith) (omega arith) (omega arith) (omega arith),
      (
        writable 0x0050 (guid_value own participant_entity) (omega arith) (omega arith) (omega arith) (omega arith),
        (
          writable 0x0005 (text_value w.topic) (omega arith) (omega arith) (filled_words (written Text 0 Little w.topic)) (omega arith),
          (
            writable 0x0007 (text_value w.type_name) (omega arith) (omega arith) (filled_words (written Text 0 Little w.type_name)) (omega arith),
            policies_writable w.policies (partition_parameters w.partitions) (partitions_writable w.partitions (omega arith)),
          ),
        ),
      ),
    )

-- none of them is padding
shown : (own : GuidPrefix) (entity : EntityId) (topic name : List ℕ) (p : Policies) (names : List (List ℕ)) → (let w : Wish = record { entity = entity; topic = topic; type_name = name; policies = p; partitions = names } in filter is_shown (reader_parameters own w) ≡ reader_parameters own w)
shown own entity topic name p [] = refl
shown own entity topic name p (n ∷ ns) = refl

-- ---- the settings, by what each value is read as

record AreRead (guid participant topic name durability presentation deadline latency ownership liveliness reliability order : List ℕ) (g own : Guid) (t n : List ℕ) (p : Policies) : Type 0 where
  guid_is : guid_in (start Little guid) ≡ Some g
  participant_is : guid_in (start Little participant) ≡ Some own
  topic_is : topic_in (start Little topic) ≡ Some t
  name_is : topic_in (start Little name) ≡ Some n
  durability_is : durability_in (start Little durability) ≡ Some p.durability
  presentation_is : presentation_in (start Little presentation) ≡ Some p.presentation
  deadline_is : duration_in (start Little deadline) ≡ Some p.deadline
  latency_is : duration_in (start Little latency) ≡ Some p.latency_budget
  ownership_is : ownership_in (start Little ownership) ≡ Some p.ownership
  liveliness_is : liveliness_in (start Little liveliness) ≡ Some p.liveliness
  reliability_is : reliability_in (start Little reliability) ≡ Some p.reliability
  order_is : order_in (start Little order) ≡ Some p.destination_order

abbrev listed : (guid participant topic name durability presentation deadline latency ownership liveliness reliability order : List ℕ) → List Parameter → List Parameter
listed guid participant topic name durability presentation deadline latency ownership liveliness reliability order others =
    parameter 0x005a guid ∷ parameter 0x0050 participant ∷ parameter 0x0005 topic ∷ parameter 0x0007 name ∷ parameter 0x001d durability ∷ parameter 0x0021 presentation ∷ parameter 0x0023 deadline ∷ parameter 0x0027 latency ∷ parameter 0x001f ownership ∷ parameter 0x001b liveliness ∷ parameter 0x001a reliability ∷ parameter 0x0025 order ∷ others

abbrev found : Guid → Guid → List ℕ → List ℕ → Policies → List (List ℕ) → Settings
found g own t n p names = record { lease = None; topic = Some t; type_name = Some n; policies = p; partitions = names; unicast = []; default_unicast = []; metatraffic_unicast = []; participant = Some own; endpoint = Some g; builtin_endpoints = None }

without_partitions : (used : ℕ) (guid participant topic name durability presentation deadline latency ownership liveliness reliability order : List ℕ) (g own : Guid) (t n : List ℕ) (p : Policies) → AreRead guid participant topic name durability presentation deadline latency ownership liveliness reliability order g own t n p →
    settings_of (record { endian = Little; parameters = listed guid participant topic name durability presentation deadline latency ownership liveliness reliability order []; used = used }) ≡ Some (found g own t n p [])
unfolding settings_of is_sound_by
without_partitions used guid participant topic name durability presentation deadline latency ownership liveliness reliability order g own t n p r =
    rw (r.guid_is, r.participant_is, r.topic_is, r.name_is, r.durability_is, r.presentation_is, r.deadline_is, r.latency_is, r.ownership_is, r.liveliness_is, r.reliability_is, r.order_is) refl

with_partitions : (used : ℕ) (guid participant topic name durability presentation deadline latency ownership liveliness reliability order partitions : List ℕ) (g own : Guid) (t n : List ℕ) (p : Policies) (names : List (List ℕ)) → AreRead guid participant topic name durability presentation deadline latency ownership liveliness reliability order g own t n p → names_in (start Little partitions) ≡ Some names →
    settings_of (record { endian = Little; parameters = listed guid participant topic name durability presentation deadline latency ownership liveliness reliability order (parameter 0x0029 partitions ∷ []); used = used }) ≡ Some (found g own t n p names)
unfolding settings_of is_sound_by
with_partitions used guid participant topic name durability presentation deadline latency ownership liveliness reliability order partitions g own t n p names r parted =
    rw (r.guid_is, r.participant_is, r.topic_is, r.name_is, r.durability_is, r.presentation_is, r.deadline_is, r.latency_is, r.ownership_is, r.liveliness_is, r.reliability_is, r.order_is, parted) refl

values_read : (own : GuidPrefix) (w : Wish) → IsPrefix own → IsAnnounced own w → AreRead (guid_value own w.entity) (guid_value own participant_entity) (text_value w.topic) (text_value w.type_name) (kind_value (durability_kind w.policies.durability)) (presentation_value w.policies.presentation) (duration_value w.policies.deadline) (duration_value w.policies.latency_budget) (kind_value (ownership_kind w.policies.ownership)) (liveliness_value w.policies.liveliness) (reliability_value w.policies.reliability) (kind_value (order_kind w.policies.destination_order)) (record { prefix = own; entity = w.entity }) (record { prefix = own; entity = participant_entity }) w.topic w.type_name w.policies
values_read own w o h = record {
  guid_is = guid_reads own w.entity o h.entity;
  participant_is = guid_reads own participant_entity o refl;
  topic_is = text_reads w.topic h.topic;
  name_is = text_reads w.type_name h.type_name;
  durability_is = durability_reads w.policies.durability;
  presentation_is = presentation_reads w.policies.presentation;
  deadline_is = duration_reads w.policies.deadline h.policies.deadline;
  latency_is = duration_reads w.policies.latency_budget h.policies.latency_budget;
  ownership_is = ownership_reads w.policies.ownership;
  liveliness_is = liveliness_reads w.policies.liveliness h.policies.lease;
  reliability_is = reliability_reads w.policies.reliability;
  order_is = order_reads w.policies.destination_order;
}

abbrev wish : EntityId → List ℕ → List ℕ → Policies → List (List ℕ) → Wish
wish entity topic name p names = record { entity = entity; topic = topic; type_name = name; policies = p; partitions = names }

settings_are : (own : GuidPrefix) (entity : EntityId) (topic name : List ℕ) (p : Policies) (names : List (List ℕ)) (used : ℕ) → IsPrefix own → IsAnnounced own (wish entity topic name p names) →
    settings_of (record { endian = Little; parameters = reader_parameters own (wish entity topic name p names); used = used }) ≡ Some (reader_settings own (wish entity topic name p names))
settings_are own entity topic name p [] used o h =
    without_partitions used (guid_value own entity) (guid_value own participant_entity) (text_value topic) (text_value name) (kind_value (durability_kind p.durability)) (presentation_value p.presentation) (duration_value p.deadline) (duration_value p.latency_budget) (kind_value (ownership_kind p.ownership)) (liveliness_value p.liveliness) (reliability_value p.reliability) (kind_value (order_kind p.destination_order)) (record { prefix = own; entity = entity }) (record { prefix = own; entity = participant_entity }) topic name p (values_read own (wish entity topic name p []) o h)
settings_are own entity topic name p (n ∷ ns) used o h =
    with_partitions used (guid_value own entity) (guid_value own participant_entity) (text_value topic) (text_value name) (kind_value (durability_kind p.durability)) (presentation_value p.presentation) (duration_value p.deadline) (duration_value p.latency_budget) (kind_value (ownership_kind p.ownership)) (liveliness_value p.liveliness) (reliability_value p.reliability) (kind_value (order_kind p.destination_order)) (names_value (n ∷ ns)) (record { prefix = own; entity = entity }) (record { prefix = own; entity = participant_entity }) topic name p (n ∷ ns) (values_read own (wish entity topic name p (n ∷ ns)) o h) (names_read (n ∷ ns) h.partitions)

record_is : (own : GuidPrefix) (number : ℕ) (w : Wish) → IsPrefix own → IsAnnounced own w → said_in 0x005a (reader_change own number w).info (reader_change own number w).payload ≡ Some (Announces (reader_settings own w))
unfolding said_in reader_record
record_is own number w o h =
    let list = list_is (reader_parameters own w) (are_writable own w o h) (shown own w.entity w.topic w.type_name w.policies w.partitions) in
    rw (list, settings_are own w.entity w.topic w.type_name w.policies w.partitions (length (list_octets (reader_parameters own w)) - 0) o h) refl

pub reader_is_read_again : ReaderIsReadAgain
unfolding reader_octets
reader_is_read_again own to number w o t least small h =
    let payload = reader_record own w in
    let size = length-append (change_octets subscriptions_reader subscriptions_writer number) (reader_record own w) in
    let short = h.short in
    record {
      says = says own (Some to) 0x15 5 (value_body subscriptions_reader subscriptions_writer number (reader_record own w)) (Data (reader_change own number w)) o t refl (omega arith) (value_reads 0 0 4 0xc7 0 0 4 0xc2 number (reader_record own w) least small);
      settings = record_is own number w o h;
      asks = rw (record_is own number w o h, same_bytes own.0, h.is_reader) refl;
    }

pub reader_end_is_read_again : ReaderEndIsReadAgain
unfolding reader_gone_octets
reader_end_is_read_again own to number entity o t least small len kind =
    let size = end_length subscriptions_reader subscriptions_writer number 0x005a own entity o len refl refl in
    record {
      says = says own (Some to) 0x15 11 (end_body subscriptions_reader subscriptions_writer number 0x005a own entity) (Data (reader_last own number entity)) o t refl (omega arith) (end_reads 0 0 4 0xc7 0 0 4 0xc2 number 0x005a own entity o len least small);
      gone = rw (end_is 0x005a own entity o len (omega arith) (omega arith), same_bytes own.0, kind) refl;
    }
