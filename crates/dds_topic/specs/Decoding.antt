-- How a data type decodes the octets of a change (DDSI-RTPS 9.6.4.8, 10.2).
use Rattle.std.specs.Prelude.{ℕ, List, Result}
use Rattle.rtps_types.specs.declared.identity.KeyHash.{KeyHash}
use Rattle.dds_topic.specs.declared.unread.Unread.{Unread}

-- how a data type decodes octets: the meanings of bodies, and the key hashes
pub record Decoding (M : Type 0) : Type 0 where
  -- the meaning of a body, by its encapsulation kind
  pub meaning : ℕ → List ℕ → Result M Unread
  -- the hash of a value's key
  pub hash : M → KeyHash
  -- the hash of the key in the body of a key payload
  pub hash_of_key : ℕ → List ℕ → Result KeyHash Unread
