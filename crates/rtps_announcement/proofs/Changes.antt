-- A change that is written is read again.
use Rattle.std.proofs.Common.{◌≡◌, ℕ, ◌-◌, ◌^◌, ◌≤◌, ◌<◌, true, false, leb, filter, List, [], ◌∷◌, ◌++◌, length, Some, refl, arith}
use Rattle.std.specs.Prelude.{◌==◌, pos}
use Rattle.std.specs.List.{AllByRecursion}
use Rattle.std.proofs.lemmas.Bool.{le-leb}
use Rattle.std.proofs.lemmas.Bool.Decides.{Decides-eqb, nat_tests}
use Rattle.std.proofs.lemmas.List.{drop_at, length-append, take_all}
use Rattle.rtps_types.specs.declared.field.Endian.TheVariants.{Little}
use Rattle.rtps_types.specs.declared.identity.EntityId.{EntityId}
use Rattle.rtps_types.specs.declared.identity.Guid.{Guid}
use Rattle.rtps_types.specs.declared.identity.GuidPrefix.{GuidPrefix}
use Rattle.rtps_types.specs.Field.{encoded_sn}
use Rattle.rtps_params.specs.Reading.{is_shown}
use Rattle.rtps_cdr.specs.Reading.{start}
use Rattle.dds_qos.specs.Values.{guid_in}
use Rattle.rtps_wire.specs.declared.data.Form.TheVariants.{Key}
use Rattle.dds_qos.specs.Settings.{guid_named}
use Rattle.rtps_discovery.specs.AnnouncedData.{Ends, said_in}
use Rattle.rtps_wire.specs.Data.{data_of}
use Rattle.rtps_wire.specs.Fields.{positive_at}
use Rattle.rtps_wire.specs.InlineQos.{inline_of}
use Rattle.rtps_wire.specs.Submessage.{Data, parts_of}
use Rattle.rtps_announcement.specs.Data.{change_octets, end_body, end_inline, end_read, value_body, value_read}
use Rattle.rtps_announcement.specs.Parameters.{IsWritable, list_octets, parameter, payload_octets}
use Rattle.rtps_announcement.specs.Values.{guid_value}
use Rattle.rtps_announcement.specs.Datagram.{IsPrefix}
use Rattle.rtps_announcement.proofs.Lists.{contents_are, length-list, list_is, writable}
use Rattle.rtps_announcement.proofs.Numbers.{positive_there}
use Rattle.rtps_announcement.proofs.ValuesAgain.{guid_reads, length-guid}

abbrev pub entity : ℕ → ℕ → ℕ → ℕ → EntityId
entity a b c d = record { 0 = a ∷ b ∷ c ∷ d ∷ [] }

-- a change with a value
pub value_reads : (a b c d e f g h number : ℕ) (payload : List ℕ) → 1 ≤ number → number < 2 ^ 63 → parts_of 0x15 5 (value_body (entity a b c d) (entity e f g h) number payload) ≡ Some (Data (value_read (entity a b c d) (entity e f g h) number payload))
unfolding parts_of data_of
value_reads a b c d e f g h number payload least small =
    let body = value_body (entity a b c d) (entity e f g h) number payload in
    let within : (n : ℕ) → n ≤ 20 → leb n (length body) ≡ true = λ n le. le-leb n (length body) (omega arith) in
    let numbered : positive_at Little body 12 ≡ Some number = positive_there 12 number body least small refl (omega arith) in
    let none : leb 0 (length payload) ≡ true = le-leb _ _ (omega arith) in
    rw (within 4 (omega arith), within 8 (omega arith), within 12 (omega arith), numbered, within 20 (omega arith), none) refl

-- ---- a change by which something ends

end_inline_writable : (prefix : GuidPrefix) (e : EntityId) → IsPrefix prefix → length e.0 ≡ 4 → AllByRecursion IsWritable (end_inline prefix e)
end_inline_writable prefix e p len =
    let guid = length-guid prefix e p len in (
      writable 0x0070 (guid_value prefix e) (omega arith) (omega arith) (omega arith) (omega arith),
      (writable 0x0071 (0 ∷ 0 ∷ 0 ∷ 3 ∷ []) (omega arith) (omega arith) refl (omega arith), tt),
    )

-- its inline QoS
inline_is : (prefix : GuidPrefix) (e : EntityId) (after : List ℕ) → IsPrefix prefix → length e.0 ≡ 4 →
    inline_of Little (list_octets (end_inline prefix e) ++ after) ≡ Some (record { hash = Some (record { 0 = guid_value prefix e }); status = 3; used = length (list_octets (end_inline prefix e) ++ after) - length after })
unfolding inline_of
inline_is prefix e after p len =
    let guid = length-guid prefix e p len in
    let full : leb 16 (length (guid_value prefix e)) ≡ true = le-leb _ _ (omega arith) in
    rw (contents_are (end_inline prefix e) after (end_inline_writable prefix e p len), full, take_all 16 (guid_value prefix e) (omega arith)) refl

pub end_reads : (a b c d f g h i number id : ℕ) (prefix : GuidPrefix) (e : EntityId) → IsPrefix prefix → length e.0 ≡ 4 → 1 ≤ number → number < 2 ^ 63 →
    parts_of 0x15 11 (end_body (entity a b c d) (entity f g h i) number id prefix e) ≡ Some (Data (end_read (entity a b c d) (entity f g h i) number id prefix e))
unfolding parts_of data_of
end_reads a b c d f g h i number id prefix e p len least small =
    let body = end_body (entity a b c d) (entity f g h i) number id prefix e in
    let inline = list_octets (end_inline prefix e) in
    let payload = payload_octets (parameter id (guid_value prefix e) ∷ []) in
    let within : (n : ℕ) → n ≤ 20 → leb n (length body) ≡ true = λ n le. le-leb n (length body) (omega arith) in
    let numbered : positive_at Little body 12 ≡ Some number = positive_there 12 number body least small refl (omega arith) in
    let count = length-append inline payload in
    let used : length (inline ++ payload) - length payload ≡ length inline = omega arith in
    let room : leb (length inline) (length (inline ++ payload)) ≡ true = le-leb _ _ (omega arith) in
    rw (within 4 (omega arith), within 8 (omega arith), within 12 (omega arith), numbered, within 20 (omega arith), inline_is prefix e payload p len, used, room, drop_at inline payload (length inline) refl) refl

pub end_length : (reader writer : EntityId) (number id : ℕ) (prefix : GuidPrefix) (e : EntityId) → IsPrefix prefix → length e.0 ≡ 4 → length reader.0 ≡ 4 → length writer.0 ≡ 4 → length (end_body reader writer number id prefix e) ≡ 80
end_length reader writer number id prefix e p len r w =
    let guid = length-guid prefix e p len in
    let key = parameter id (guid_value prefix e) ∷ [] in
    let front = length-append ((0 ∷ 0 ∷ 16 ∷ 0 ∷ []) ++ reader.0) writer.0 in
    let more = length-append ((0 ∷ 0 ∷ 16 ∷ 0 ∷ []) ++ reader.0 ++ writer.0) (encoded_sn Little (pos number)) in
    let inline = length-append (change_octets reader writer number) (list_octets (end_inline prefix e)) in
    let all = length-append (change_octets reader writer number ++ list_octets (end_inline prefix e)) (payload_octets key) in
    omega (arith, length-list (end_inline prefix e), length-list key)

-- its payload
named_is : (used id : ℕ) (value : List ℕ) (g : Guid) → guid_in (start Little value) ≡ Some g → guid_named id (record { endian = Little; parameters = parameter id value ∷ []; used = used }) ≡ Some (Some g)
named_is used id value g is =
    let same : (id == id) ≡ true = (Decides-eqb id id).1 refl in
    rw (same, is) refl

pub end_is : (id : ℕ) (prefix : GuidPrefix) (e : EntityId) → IsPrefix prefix → length e.0 ≡ 4 → 2 ≤ id → id < 65536 →
    said_in id (record { form = Key; status = 3; hash = Some (record { 0 = guid_value prefix e }) }) (payload_octets (parameter id (guid_value prefix e) ∷ [])) ≡ Some (Ends (Some (record { prefix = prefix; entity = e })))
unfolding said_in
end_is id prefix e p len more less =
    let guid = length-guid prefix e p len in
    let key = parameter id (guid_value prefix e) ∷ [] in
    let other : (id == 0) ≡ false = grind (arith, nat_tests) in
    let shown : filter is_shown (parameter id (guid_value prefix e) ∷ []) ≡ parameter id (guid_value prefix e) ∷ [] = rw other refl in
    let list = list_is (parameter id (guid_value prefix e) ∷ []) (writable id (guid_value prefix e) more less (omega arith) (omega arith), tt) shown in
    rw (list, named_is (length (list_octets (parameter id (guid_value prefix e) ∷ [])) - 0) id (guid_value prefix e) (record { prefix = prefix; entity = e }) (guid_reads prefix e p len)) refl
