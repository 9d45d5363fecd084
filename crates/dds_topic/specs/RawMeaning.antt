-- Payloads that are kept as they are.
use Rattle.std.specs.Prelude.{ℕ, List, replicate, Ok}
use Rattle.rtps_types.specs.declared.identity.KeyHash.{KeyHash}
use Rattle.dds_topic.specs.declared.raw.RawValue.{RawValue}
use Rattle.dds_topic.specs.Decoding.{Decoding}

-- an encapsulation kind and a body
pub record RawMeaning : Type 0 where
  pub kind : ℕ
  pub body : List ℕ

-- what contracts see of a raw value
abbrev pub raw_view : {A : Type 0} → RawValue A → RawMeaning
raw_view v = record { kind = v.kind; body = v.body.items }

-- the key hash of every value
abbrev pub no_key : KeyHash
no_key = record { 0 = replicate 16 0 }

-- every body is a value, and all values are one instance
abbrev pub raw_decoding : Decoding RawMeaning
raw_decoding = record {
  meaning = λ kind body. Ok (record { kind = kind; body = body });
  hash = λ v. no_key;
  hash_of_key = λ kind body. Ok no_key;
}
