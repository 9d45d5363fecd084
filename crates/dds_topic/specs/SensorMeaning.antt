-- An example of a type with two key fields: struct Sensor { @key unsigned long station; @key
-- unsigned long channel; long value; }. Its key has 8 octets, so the key hash is these octets and
-- zeros after them (DDSI-RTPS 9.6.4.8).
use Rattle.std.proofs.Common.{◌≡◌, ℕ, ℤ, ◌<◌, ◌^◌, ◌++◌, List, [], replicate, Result, Ok, refl, arith}
use Rattle.std.specs.Int.{w32}
use Rattle.rtps_types.specs.declared.field.Endian.TheVariants.{Big, Little}
use Rattle.rtps_types.specs.declared.identity.KeyHash.{KeyHash}
use Rattle.rtps_cdr.specs.Cdr.{CdrType, Unsigned, Both}
use Rattle.rtps_cdr.specs.Reading.{Cursor, start, value_of, moved, number_in, signed_in}
use Rattle.rtps_cdr.specs.Following.{after_read, and_then}
use Rattle.rtps_cdr.specs.Writing.{written}
use Rattle.rtps_cdr.proofs.Related.{unsigned_law}
use Rattle.rtps_cdr.proofs.Again.{members_again}
use Rattle.dds_topic.specs.Encapsulation.{order_by}
use Rattle.dds_topic.specs.declared.unread.Unread.{Unread as UnreadCode}
use Rattle.dds_topic.specs.declared.unread.Unread.TheVariants as unread
use Rattle.dds_topic.specs.Decoding.{Decoding}

-- the type of the key, by its members in order
abbrev pub key_type : CdrType
key_type = Both (Unsigned 4) (Unsigned 4)

-- a reader after a number of 32 bits; after a fault it is where it was
abbrev pub after_number : Cursor → Cursor
after_number c = moved c (number_in 4 c)

-- a station and a channel, where a reader is
abbrev pub key_in : Cursor → Result (ℕ × ℕ) UnreadCode
key_in c =
    after_read unread.Malformed (value_of (number_in 4 c))
    (λ station. after_read unread.Malformed (value_of (number_in 4 (after_number c)))
    (λ channel. Ok (station, channel)))

-- a station, a channel and a value, where a reader is
abbrev pub sensor_in : Cursor → Result (ℕ × ℕ × ℤ) UnreadCode
sensor_in c =
    and_then (key_in c)
    (λ key. after_read unread.Malformed (value_of (signed_in w32 (after_number (after_number c))))
    (λ value. Ok (key.0, key.1, value)))

-- the octets of a sensor's key as a key payload
abbrev pub key_of : ℕ × ℕ × ℤ → List ℕ
key_of s = written key_type 0 Little (s.0, s.1)

-- the hash of a station and a channel
abbrev pub hash_of : ℕ → ℕ → KeyHash
hash_of station channel = record { 0 = written key_type 0 Big (station, channel) ++ replicate 8 0 }

-- the hash of the key in the body of a key payload
abbrev pub sensor_hash_of_key : ℕ → List ℕ → Result KeyHash UnreadCode
sensor_hash_of_key kind body =
    and_then (order_by kind)
    (λ e. and_then (key_in (start e body)) (λ key. Ok (hash_of key.0 key.1)))

-- how the type decodes octets
abbrev pub sensor_decoding : Decoding (ℕ × ℕ × ℤ)
sensor_decoding = record {
  meaning = λ kind body. and_then (order_by kind) (λ e. sensor_in (start e body));
  hash = λ s. hash_of s.0 s.1;
  hash_of_key = sensor_hash_of_key;
}

hashed : (c : Cursor) (station channel : ℕ) → value_of (number_in 4 c) ≡ Ok station
    → value_of (number_in 4 (after_number c)) ≡ Ok channel
    → and_then (key_in c) (λ key. Ok (hash_of key.0 key.1)) ≡ Ok (hash_of station channel)
hashed c station channel first second = rw (first, second) refl

-- the key payload of a value has the value's key hash
pub sensor_key_again : (station channel : ℕ) (value : ℤ) → station < 2 ^ 32 → channel < 2 ^ 32
    → sensor_hash_of_key 1 (key_of (station, channel, value)) ≡ Ok (hash_of station channel)
sensor_key_again station channel value small narrow =
    let c : Cursor = start Little (key_of (station, channel, value)) in
    let again =
    members_again (Unsigned 4) (Unsigned 4) [] [] Little station channel (after_number c)
    (after_number (after_number c)) (value_of (number_in 4 c))
    (value_of (number_in 4 (after_number c)))
    (omega arith) (omega arith) (unsigned_law 4 c (omega arith))
    (unsigned_law 4 (after_number c) (omega arith)) in
    hashed c station channel (again.0) (again.1)
