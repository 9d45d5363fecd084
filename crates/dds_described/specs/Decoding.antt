-- How a topic of a described type decodes octets (DDSI-RTPS 9.6.4.8, 10.2).
use Rattle.std.specs.Prelude.{◌≡◌, ◌<◌, ℕ, List, take, Some, None, Result, Ok, Err}
use Rattle.std.specs.List.{All}
use Rattle.rtps_types.specs.declared.field.Endian.{Endian}
use Rattle.rtps_types.specs.declared.field.Endian.TheVariants.{Big, Little}
use Rattle.rtps_types.specs.declared.identity.KeyHash.{KeyHash}
use Rattle.dds_topic.specs.Decoding.{Decoding}
use Rattle.dds_topic.specs.declared.unread.Unread.{Unread as UnreadCode}
use Rattle.dds_topic.specs.declared.unread.Unread.TheVariants as unread
use Rattle.dds_xcdr.specs.declared.form.Form.{Form}
use Rattle.dds_xcdr.specs.Topic.{form_of}
use Rattle.dds_xcdr.specs.Xtype.{Xtype, ValueOf}
use Rattle.dds_described.specs.Decoded.{by_form, front_value, payload_key}
use Rattle.dds_described.specs.Hash.{hash_of_octets, is_short, key_hash}
use Rattle.dds_described.specs.Kept.{Kept}
use Rattle.dds_described.specs.Key.{key_of, key_type}
use Rattle.dds_described.specs.Least.{least}
use Rattle.dds_described.specs.Reading.{Found}
use Rattle.dds_described.specs.Writing.{written}

-- a body in a form is kept up to the end of the value that it begins with
abbrev pub front_kept : {A : Type 0} → Form → List ℕ → Found A → Result Kept UnreadCode
front_kept f body (Some x) = Ok (record { form = f; octets = take x.1 body })
front_kept f body None = Err unread.Malformed

-- what is kept of a body
abbrev pub body_kept : Xtype → ℕ → List ℕ → Result Kept UnreadCode
body_kept t kind body = by_form (λ f. front_kept f body (front_value t f body)) (form_of kind)

-- octets that are no value of the type, as those that the topic of another type has kept, stand for
-- the least
abbrev pub found_or_least : (t : Xtype) → Found (ValueOf t) → ValueOf t
found_or_least t (Some x) = x.0
found_or_least t None = least t

-- the key of what is kept
abbrev pub kept_key : (t : Xtype) → Kept → ValueOf (key_type t)
kept_key t k = key_of t (found_or_least t (front_value t k.form k.octets))

-- its octets in version 1, in a byte order
abbrev pub kept_octets : Xtype → Endian → Kept → List ℕ
kept_octets t order k = written (key_type t) 0 order (kept_key t k)

-- the hash for the octets of a key that was read
abbrev pub hash_in : (k : Xtype) → Result (List ℕ) UnreadCode → Result KeyHash UnreadCode
hash_in k (Ok octets) = Ok (hash_of_octets (is_short k) octets)
hash_in k (Err u) = Err u

-- the topic of a type
abbrev pub decoding_of : Xtype → Decoding Kept
decoding_of t = record {
  meaning = λ kind body. body_kept t kind body;
  hash = λ k. key_hash (key_type t) (kept_key t k);
  hash_of_key = λ kind body. hash_in (key_type t) (payload_key t Big kind body);
}

-- the key payload of what is kept has its key
pub record KeepsKey (t : Xtype) : Type 0 where
  pub again : (order : Endian) (k : Kept) → All (λ o. o < 256) k.octets
      → payload_key t order 1 (kept_octets t Little k) ≡ Ok (kept_octets t order k)
