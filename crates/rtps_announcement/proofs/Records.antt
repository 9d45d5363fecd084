-- The record of a reader.
use Rattle.std.proofs.Common.{◌≡◌, ℕ, ◌≤◌, List, [], ◌∷◌, ◌++◌, length, refl, sym, ap, ◌∙◌, arith, append_assoc}
use Rattle.std.specs.List.{flat_map}
use Rattle.std.proofs.lemmas.List.{append-nil, length-append}
use Rattle.rtps_types.specs.declared.identity.GuidPrefix.{GuidPrefix}
use Rattle.rtps_params.specs.Reading.{Parameter}
use Rattle.rtps_discovery.specs.Known.{Wish}
use Rattle.rtps_announcement.specs.Entities.{participant_entity}
use Rattle.rtps_announcement.specs.Parameters.{list_octets, parameter, parameter_octets}
use Rattle.rtps_announcement.specs.Policies.{policy_parameters}
use Rattle.rtps_announcement.specs.Reader.{partition_parameters, reader_parameters, reader_record}
use Rattle.rtps_announcement.specs.Values.{guid_value, text_value}
use Rattle.rtps_announcement.proofs.Lists.{length-list}

-- the first parameters of a list, and then the others
list_parted : (ps qs : List Parameter) → list_octets (ps ++ qs) ≡ flat_map parameter_octets ps ++ list_octets qs
list_parted [] qs = refl
list_parted (p ∷ ps) qs = rw (list_parted ps qs) (sym (append_assoc (parameter_octets p) (flat_map parameter_octets ps) (list_octets qs)))

list_ended : (ps : List Parameter) → list_octets ps ≡ flat_map parameter_octets ps ++ (1 ∷ 0 ∷ 0 ∷ 0 ∷ [])
list_ended ps = ap list_octets (sym (append-nil ps)) ∙ list_parted ps []

regrouped : (e a b c d p q end : List ℕ) → e ++ a ++ b ++ c ++ d ++ p ++ q ++ end ≡ e ++ (a ++ (b ++ (c ++ (d ++ (p ++ (q ++ end))))))
regrouped e a b c d p q end = simp append_assoc

-- the parts one after another are the record
pub record_built : (own : GuidPrefix) (w : Wish) → (0 ∷ 3 ∷ 0 ∷ 0 ∷ []) ++ parameter_octets (parameter 0x005a (guid_value own w.entity)) ++ parameter_octets (parameter 0x0050 (guid_value own participant_entity)) ++ parameter_octets (parameter 0x0005 (text_value w.topic)) ++ parameter_octets (parameter 0x0007 (text_value w.type_name)) ++ flat_map parameter_octets (policy_parameters w.policies []) ++ flat_map parameter_octets (partition_parameters w.partitions) ++ (1 ∷ 0 ∷ 0 ∷ 0 ∷ []) ≡ reader_record own w
unfolding reader_record
record_built own w =
    let policies = policy_parameters w.policies [] in
    let partitions = partition_parameters w.partitions in
    let others : list_octets (policy_parameters w.policies (partition_parameters w.partitions)) ≡ flat_map parameter_octets (policy_parameters w.policies []) ++ (flat_map parameter_octets (partition_parameters w.partitions) ++ (1 ∷ 0 ∷ 0 ∷ 0 ∷ [])) =
    list_parted policies partitions ∙ ap (λ (o : List ℕ). flat_map parameter_octets (policy_parameters w.policies []) ++ o) (list_ended partitions) in
    rw others (regrouped (0 ∷ 3 ∷ 0 ∷ 0 ∷ []) (parameter_octets (parameter 0x005a (guid_value own w.entity))) (parameter_octets (parameter 0x0050 (guid_value own participant_entity))) (parameter_octets (parameter 0x0005 (text_value w.topic))) (parameter_octets (parameter 0x0007 (text_value w.type_name))) (flat_map parameter_octets policies) (flat_map parameter_octets partitions) (1 ∷ 0 ∷ 0 ∷ 0 ∷ []))

-- ---- its length

pub topic_length : (own : GuidPrefix) (w : Wish) → length (text_value w.topic) ≤ length (reader_record own w)
unfolding reader_record
topic_length own w = omega (arith, length-list (reader_parameters own w))

pub type_length : (own : GuidPrefix) (w : Wish) → length (text_value w.type_name) ≤ length (reader_record own w)
unfolding reader_record
type_length own w = omega (arith, length-list (reader_parameters own w))

pub partitions_length : (own : GuidPrefix) (w : Wish) → length (flat_map parameter_octets (partition_parameters w.partitions)) ≤ length (reader_record own w)
unfolding reader_record
partitions_length own w =
    let partitions = partition_parameters w.partitions in
    let ended = ap length (list_ended partitions) in
    omega (arith, length-list (reader_parameters own w), length-list partitions, length-append (flat_map parameter_octets partitions) (1 ∷ 0 ∷ 0 ∷ 0 ∷ []))
