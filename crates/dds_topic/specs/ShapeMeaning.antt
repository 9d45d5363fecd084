-- The meanings of bodies of the Shapes demo (DDSI-RTPS 9.6.4.8, 10).
use Rattle.std.specs.Prelude.{ℕ, ℤ, List, ◌++◌, length, Result, Ok, Err, nat_lt, if◌then◌else◌, codes}
use Rattle.std.specs.Int.{w32}
use Rattle.std.specs.Fmt.{signed_decimal}
use Rattle.md5.specs.Md5.{md5}
use Rattle.rtps_types.specs.declared.field.Endian.TheVariants.{Big, Little}
use Rattle.rtps_types.specs.declared.identity.KeyHash.{KeyHash}
use Rattle.rtps_cdr.specs.Cdr.{Text}
use Rattle.rtps_cdr.specs.Reading.{Cursor, start, value_of, moved, text_in, signed_in}
use Rattle.rtps_cdr.specs.Following.{after_read, and_then}
use Rattle.rtps_cdr.specs.Writing.{written}
use Rattle.dds_topic.specs.Encapsulation.{order_by}
use Rattle.rtps_ascii.specs.Hex.{hex_text}
use Rattle.dds_topic.specs.declared.unread.Unread.{Unread as UnreadCode}
use Rattle.dds_topic.specs.declared.unread.Unread.TheVariants.{Malformed}
use Rattle.dds_topic.specs.declared.shape.Shape.{Shape}
use Rattle.dds_topic.specs.Decoding.{Decoding}

-- a shape, without its place in memory
pub record ShapeMeaning : Type 0 where
  pub color : List ℕ
  pub x : ℤ
  pub y : ℤ
  pub size : ℤ

-- what contracts see of a shape
abbrev pub shape_view : {A : Type 0} → Shape A → ShapeMeaning
shape_view s = record { color = s.color; x = s.x; y = s.y; size = s.size }

-- a reader after a text; after a fault it is where it was
abbrev pub behind_text : Cursor → Cursor
behind_text c = moved c (text_in c)

-- a reader after a signed number of 32 bits; after a fault it is where it was
abbrev pub behind_long : Cursor → Cursor
behind_long c = moved c (signed_in w32 c)

-- a color of at most 128 octets
abbrev pub color_of : Cursor → Result (List ℕ) UnreadCode
color_of c =
    after_read Malformed (value_of (text_in c))
    (λ color. if nat_lt 128 (length color) then Err Malformed else Ok color)

-- a shape: its color, and the three numbers after it
abbrev pub numbers_of : List ℕ → Cursor → Result ShapeMeaning UnreadCode
numbers_of color c =
    after_read Malformed (value_of (signed_in w32 c)) (λ x.
    after_read Malformed (value_of (signed_in w32 (behind_long c))) (λ y.
    after_read Malformed (value_of (signed_in w32 (behind_long (behind_long c)))) (λ size.
    Ok (record { color = color; x = x; y = y; size = size }))))

-- a shape, where a reader is: its color, and the three numbers
unfoldable pub shape_in : Cursor → Result ShapeMeaning UnreadCode
shape_in c = and_then (color_of c) (λ color. numbers_of color (behind_text c))

-- the meaning of a body, in the byte order of its encapsulation
abbrev pub shape_meaning : ℕ → List ℕ → Result ShapeMeaning UnreadCode
shape_meaning kind body = and_then (order_by kind) (λ e. shape_in (start e body))

-- the octets of a color as a key payload
abbrev pub color_key : List ℕ → List ℕ
color_key color = written Text 0 Little color

-- the key hash of a color: the MD5 of the big-endian key (DDSI-RTPS 9.6.4.8)
abbrev pub color_hash : List ℕ → KeyHash
color_hash color = record { 0 = md5 (written Text 0 Big color) }

-- the hash of the color in the body of a key payload
abbrev pub shape_hash_of_key : ℕ → List ℕ → Result KeyHash UnreadCode
shape_hash_of_key kind body =
    and_then (order_by kind)
    (λ e. and_then (color_of (start e body)) (λ color. Ok (color_hash color)))

-- how the Shapes demo decodes octets
abbrev pub shape_decoding : Decoding ShapeMeaning
shape_decoding =
    record {
      meaning = shape_meaning;
      hash = λ s. color_hash s.color;
      hash_of_key = shape_hash_of_key;
    }

-- the color in hex and the three numbers, with spaces between them
abbrev pub shape_text : ShapeMeaning → List ℕ
shape_text s =
    hex_text s.color
    ++ (codes " "
    ++ (signed_decimal s.x
    ++ (codes " " ++ (signed_decimal s.y ++ (codes " " ++ signed_decimal s.size)))))
