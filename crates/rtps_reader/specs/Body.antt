-- The body that a change is presented with, given its contents and the catalog (DDSI-RTPS 8.7.3,
-- 9.6.4.9; DDS 1.4, 2.2.2.5.1.3).
use Rattle.std.specs.Prelude.{ℕ, ◌+◌, ◌*◌, ◌%◌, List, length, drop, slice_index, Option, Some, None, Result, Ok, Err, nat_lt, ◌==◌, if◌then◌else◌}
use Rattle.rtps_types.specs.declared.identity.KeyHash.{KeyHash}
use Rattle.rtps_wire.specs.declared.data.ChangeInfo.{ChangeInfo}
use Rattle.rtps_wire.specs.declared.data.Form.{Form}
use Rattle.rtps_wire.specs.declared.data.Form.TheVariants as form
use Rattle.dds_topic.specs.declared.unread.Unread.{Unread as UnreadCode}
use Rattle.dds_topic.specs.declared.unread.Unread.TheVariants.{Encapsulation, NonStandard, NoKey}
use Rattle.dds_topic.specs.Decoding.{Decoding}
use Rattle.rtps_reader.specs.declared.body.Body.{Body}
use Rattle.rtps_reader.specs.declared.body.Body.TheVariants as body

-- a body with the meaning of its value in place of the value
abbrev pub body_map : {V M : Type 0} → (V → M) → Body V → Body M
body_map f (body.Value h v) = body.Value h (f v)
body_map f (body.Disposed h) = body.Disposed h
body_map f (body.Unregistered h) = body.Unregistered h
body_map f (body.Unread u) = body.Unread u

-- a payload's encapsulation kind, which is its first two octets, and the data after the four octets
-- of the encapsulation header
abbrev pub encapsulated : List ℕ → Result (ℕ × List ℕ) UnreadCode
encapsulated payload =
    if nat_lt (length payload) 4
    then Err Encapsulation
    else Ok (slice_index payload 0 * 256 + slice_index payload 1, drop 4 payload)

-- the result for kind and data, unless the payload is too short for the encapsulation header
abbrev pub unpacked : {B : Type 0} → Result (ℕ × List ℕ) UnreadCode
    → (ℕ → List ℕ → Result B UnreadCode) → Result B UnreadCode
unpacked (Err u) f = Err u
unpacked (Ok p) f = f p.0 p.1

-- the key hash of a value, if there is a value
abbrev pub hashed_by : {M : Type 0} → (M → KeyHash) → Result M UnreadCode
    → Result KeyHash UnreadCode
hashed_by hash (Ok m) = Ok (hash m)
hashed_by hash (Err u) = Err u

-- the key hash that was sent with the change
abbrev pub inline_key : Option KeyHash → Result KeyHash UnreadCode
inline_key (Some h) = Ok h
inline_key None = Err NoKey

-- the value of a change without status bits: a value payload is decoded; a key payload, no payload
-- or a payload in no standard form is unread
abbrev pub value_for : {M : Type 0} → Decoding M → Form → List ℕ → Result M UnreadCode
value_for decoding form.Value payload = unpacked (encapsulated payload) decoding.meaning
value_for decoding form.Key payload = Err NonStandard
value_for decoding form.Other payload = Err NonStandard
value_for decoding form.Nothing payload = Err NonStandard

-- the key hash of a change with status bits: that of its value or of its key payload, or, without a
-- payload, the hash that was sent with the change
abbrev pub key_for : {M : Type 0} → Decoding M → Option KeyHash → Form → List ℕ
    → Result KeyHash UnreadCode
key_for decoding sent form.Value payload =
    unpacked (encapsulated payload) (λ kind b. hashed_by decoding.hash (decoding.meaning kind b))
key_for decoding sent form.Key payload = unpacked (encapsulated payload) decoding.hash_of_key
key_for decoding sent form.Other payload = Err NonStandard
key_for decoding sent form.Nothing payload = inline_key sent

-- a value with its key hash, or why it is unread
abbrev pub valued : {M : Type 0} → (M → KeyHash) → Result M UnreadCode → Body M
valued hash (Ok m) = body.Value (hash m) m
valued hash (Err u) = body.Unread u

-- status bit 1 means disposed, bit 2 unregistered; disposed wins
abbrev pub ended : {M : Type 0} → ℕ → Result KeyHash UnreadCode → Body M
ended status (Ok h) = if status % 2 == 1 then body.Disposed h else body.Unregistered h
ended status (Err u) = body.Unread u

-- the body of a change; only the bits 1 and 2 of the status count
abbrev pub body_by : {M : Type 0} → Decoding M → ChangeInfo → List ℕ → Body M
body_by decoding info payload =
    if info.status % 4 == 0 then valued decoding.hash (value_for decoding info.form payload)
    else ended info.status (key_for decoding info.hash info.form payload)
