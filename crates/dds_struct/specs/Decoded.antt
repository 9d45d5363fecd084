-- The meanings of a struct's bodies and key payloads (DDSI-RTPS 9.6.4.8, 10.2).
use Rattle.std.specs.Prelude.{ℕ, List, Result, Ok, Err}
use Rattle.rtps_types.specs.declared.field.Endian.TheVariants.{Little}
use Rattle.rtps_cdr.specs.Cdr.{CdrType, ValueOf}
use Rattle.rtps_cdr.specs.Reading.{start}
use Rattle.rtps_cdr.specs.Following.{and_then}
use Rattle.rtps_cdr.specs.Writing.{Output, appended, written}
use Rattle.dds_topic.specs.Decoding.{Decoding}
use Rattle.dds_topic.specs.Encapsulation.{order_by}
use Rattle.rtps_cdr.specs.declared.fault.CdrFault.{CdrFault}
use Rattle.dds_topic.specs.declared.unread.Unread.{Unread}
use Rattle.dds_topic.specs.declared.unread.Unread.TheVariants as unread
use Rattle.dds_struct.specs.Value.{readable, value}
use Rattle.dds_struct.specs.Key.{key_hash}

-- the value of a type in a body, in the byte order of its encapsulation
abbrev pub body_of : (t : CdrType) → ℕ → List ℕ → Result (ValueOf t) Unread
body_of t kind body = and_then (order_by kind) (λ e. readable (value t (start e body)))

-- the decoding of a struct, by its CDR type, that of its key, and the part of a value that is its
-- key
abbrev pub decoding_of : (t k : CdrType) → (ValueOf t → ValueOf k) → Decoding (ValueOf t)
decoding_of t k key = record {
  meaning = λ kind body. body_of t kind body;
  hash = λ v. key_hash k (key v);
  hash_of_key = λ kind body. and_then (body_of k kind body) (λ v. Ok (key_hash k v));
}

-- a key as the body of a key payload
abbrev pub key_body : (k : CdrType) → ValueOf k → List ℕ
key_body k key = written k 0 Little key

-- the writer after a value that was read is written, if there was one
abbrev pub copied : (t : CdrType) → Result (ValueOf t) CdrFault → Output → Result Output Unread
copied t (Ok v) o = Ok (appended t v o)
copied t (Err f) o = Err unread.Malformed
