-- The header of a submessage without its body, and the octets that aren't read (DDSI-RTPS 9.4.5.1).
use Rattle.std.specs.Prelude.{ℕ, List, [], ◌∷◌, length, drop, Option, Some, None}
use Rattle.rtps_types.specs.Field.{number}
use Rattle.rtps_wire.specs.Fields.{endian_of}
use Rattle.rtps_wire.specs.Reading.{body_length}
use Rattle.rtps_explain.specs.declared.frame.Frame.{Frame}

-- the kind, the flags and the length that a submessage header states, and the octets after it
pub record FrameView : Type 0 where
  pub id : ℕ
  pub flags : ℕ
  pub stated : ℕ
  pub rest : List ℕ

-- what contracts see of a header
abbrev pub frame_view : Frame → FrameView
frame_view f = record { id = f.id; flags = f.flags; stated = f.stated; rest = f.rest.now }

-- the header in the first four octets
unfoldable pub frame_of : List ℕ → Option FrameView
frame_of (id ∷ flags ∷ a ∷ b ∷ rest) =
    Some (record {
      id = id;
      flags = flags;
      stated = number (endian_of flags) 2 (a ∷ b ∷ []);
      rest = rest;
    })
frame_of (id ∷ flags ∷ a ∷ []) = None
frame_of (id ∷ flags ∷ []) = None
frame_of (id ∷ []) = None
frame_of [] = None

-- the length of the body
abbrev pub length_of : FrameView → ℕ
length_of f = body_length f.id f.stated (length f.rest)

-- the octets after the body
abbrev pub after_frame : Option FrameView → List ℕ
after_frame None = []
after_frame (Some f) = drop (length_of f) f.rest

-- the octets after the submessages of a list, each of which begins where the one before ends
abbrev pub unread : {A : Type 0} → List A → List ℕ → List ℕ
unread [] octets = octets
unread (s ∷ more) octets = unread more (after_frame (frame_of octets))
