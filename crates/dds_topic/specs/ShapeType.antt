-- The type of the Shapes demo, in the common data representation: struct ShapeType { string<128>
-- color; long x; long y; long shapesize; } (DDSI-RTPS 9.6.4.8, 10).
use Rattle.std.specs.Prelude.{◌≡◌, ℕ, ◌<◌, ◌≤◌, List, length, Result, Ok, Err}
use Rattle.std.specs.Int.{w32}
use Rattle.rtps_types.specs.declared.field.Endian.TheVariants.{Big, Little}
use Rattle.rtps_types.specs.declared.identity.KeyHash.{KeyHash}
use Rattle.rtps_cdr.specs.Cdr.{CdrType, Signed, Text, Both, ValueOf}
use Rattle.rtps_cdr.specs.Reading.{Cursor, Takes, start}
use Rattle.dds_topic.specs.ShapeMeaning.{ShapeMeaning, shape_meaning, shape_hash_of_key, color_hash}
use Rattle.dds_topic.specs.declared.unread.Unread.{Unread as UnreadCode}
use Rattle.dds_topic.specs.declared.unread.Unread.TheVariants.{Encapsulation, Malformed}

-- the type of a shape, by its members in order
abbrev pub shape_type : CdrType
shape_type = Both Text (Both (Signed w32) (Both (Signed w32) (Signed w32)))

-- a shape as a value of that type
abbrev pub members : ShapeMeaning → ValueOf shape_type
members s = (s.color, (s.x, (s.y, s.size)))

-- the octets begin with an encoding of the shape, and its color is short enough
pub record IsShape (c : Cursor) (s : ShapeMeaning) : Type 0 where
  pub short : length s.color ≤ 128
  pub behind : Cursor
  pub stands : Takes shape_type c behind (members s)

-- the octets begin with an encoding of a color with that hash
pub record IsKey (c : Cursor) (hash : KeyHash) : Type 0 where
  pub color : List ℕ
  pub short : length color ≤ 128
  pub behind : Cursor
  pub stands : Takes Text c behind color
  pub hashed : hash ≡ color_hash color

-- a result that is a value is encoded there; an error is malformed
abbrev pub IsAnswer : {A : Type 0} → (A → Type 0) → Result A UnreadCode → Type 0
IsAnswer is (Ok v) = is v
IsAnswer is (Err u) = u ≡ Malformed

-- a result is a value exactly if that is encoded there, so only octets that encode none are
-- malformed
pub record Answers {A : Type 0} (is : A → Type 0) (answer : Result A UnreadCode) : Type 0 where
  pub found : IsAnswer is answer
  pub only : (v : A) → is v → answer ≡ Ok v

-- a body has the meaning of the shape that it begins with, in the byte order of its encapsulation
pub record BodiesAreShapes : Type 0 where
  pub big : (body : List ℕ) → Answers (IsShape (start Big body)) (shape_meaning 0 body)
  pub little : (body : List ℕ) → Answers (IsShape (start Little body)) (shape_meaning 1 body)
  pub other : (kind : ℕ) (body : List ℕ) → 1 < kind → shape_meaning kind body ≡ Err Encapsulation

-- a key payload has the hash of the color that it begins with; octets after it are ignored
pub record PayloadsAreKeys : Type 0 where
  pub big : (body : List ℕ) → Answers (IsKey (start Big body)) (shape_hash_of_key 0 body)
  pub little : (body : List ℕ) → Answers (IsKey (start Little body)) (shape_hash_of_key 1 body)
  pub other : (kind : ℕ) (body : List ℕ) → 1 < kind
      → shape_hash_of_key kind body ≡ Err Encapsulation
