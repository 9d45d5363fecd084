-- The kinds of submessages as words, and their flags as letters (DDSI-RTPS 9.4.5.1).
use Rattle.std.specs.Prelude.{ℕ, ◌/◌, ◌%◌, ◌==◌, List, [], ◌∷◌, ◌++◌, Option, Some, None, codes, if◌then◌else◌, bit_and}
use Rattle.rtps_ascii.specs.Hex.{hex_text}

-- the kinds that the standard names (9.4.5.1.1)
unfoldable pub known_kind : ℕ → Option (List ℕ)
known_kind id =
    if id == 0x00 then Some (codes "header-extension") else
    if id == 0x01 then Some (codes "pad") else
    if id == 0x06 then Some (codes "acknack") else
    if id == 0x07 then Some (codes "heartbeat") else
    if id == 0x08 then Some (codes "gap") else
    if id == 0x09 then Some (codes "info-ts") else
    if id == 0x0c then Some (codes "info-src") else
    if id == 0x0d then Some (codes "info-reply-ip4") else
    if id == 0x0e then Some (codes "info-dst") else
    if id == 0x0f then Some (codes "info-reply") else
    if id == 0x12 then Some (codes "nack-frag") else
    if id == 0x13 then Some (codes "heartbeat-frag") else
    if id == 0x15 then Some (codes "data") else
    if id == 0x16 then Some (codes "data-frag") else None

-- a kind that has no name is shown by its id
abbrev pub kind_or_id : ℕ → Option (List ℕ) → List ℕ
kind_or_id id (Some kind) = kind
kind_or_id id None = codes "unknown-" ++ hex_text (id ∷ [])

-- the word of a kind
abbrev pub kind_text : ℕ → List ℕ
kind_text id = kind_or_id id (known_kind id)

-- the letters of a kind's flags, from the lowest flag on: E for the byte order of every kind
-- (9.4.5.1.2), F of ACKNACK, F, L and G of HEARTBEAT, G and F of GAP, I of INFO_TS, M of INFO_REPLY
-- and INFO_REPLY_IP4, Q, D, K and N of DATA, and Q, K and N of DATA_FRAG (9.4.5.2 to 9.4.5.14)
unfoldable pub letters_of : ℕ → List ℕ
letters_of id =
    if id == 0x06 then codes "EF" else
    if id == 0x07 then codes "EFLG" else
    if id == 0x08 then codes "EGF" else
    if id == 0x09 then codes "EI" else
    if id == 0x0d then codes "EM" else
    if id == 0x0f then codes "EM" else
    if id == 0x15 then codes "EQDKN" else
    if id == 0x16 then codes "EQKN" else codes "E"

-- the flags of a kind that have no letter
unfoldable pub unnamed_of : ℕ → ℕ
unnamed_of id =
    if id == 0x06 then 0xfc else
    if id == 0x07 then 0xf0 else
    if id == 0x08 then 0xf8 else
    if id == 0x09 then 0xfc else
    if id == 0x0d then 0xfc else
    if id == 0x0f then 0xfc else
    if id == 0x15 then 0xe0 else
    if id == 0x16 then 0xf0 else 0xfe

-- a letter, if the lowest flag is set
abbrev pub letter_text : ℕ → ℕ → List ℕ
letter_text flags letter = if flags % 2 == 1 then letter ∷ [] else []

-- the letters of the flags that are set; the first letter is that of the lowest flag
abbrev pub named_text : ℕ → List ℕ → List ℕ
named_text flags [] = []
named_text flags (letter ∷ letters) = letter_text flags letter ++ named_text (flags / 2) letters

-- a plus and the flags without a letter in hex, if any of them is set
abbrev pub unnamed_text : ℕ → List ℕ
unnamed_text flags = if flags == 0 then [] else codes "+" ++ hex_text (flags ∷ [])

-- the flags that are set; a dash for none
abbrev pub flags_text : ℕ → ℕ → List ℕ
flags_text id flags =
    if flags == 0 then codes "-"
    else named_text flags (letters_of id) ++ unnamed_text (bit_and flags (unnamed_of id))
