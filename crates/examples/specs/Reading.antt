-- struct Reading { @key unsigned long station; unsigned long long taken; string place;
-- sequence<short> levels; };
use Rattle.std.specs.Prelude.{ℕ, List, ◌++◌, codes, length}
use Rattle.std.specs.Int.{w16}
use Rattle.std.specs.Fmt.{decimal}
use Rattle.rtps_ascii.specs.Hex.{hex_text}
use Rattle.rtps_cdr.specs.Cdr.{CdrType, Unsigned, Signed, Text, Both, Sequence, ValueOf}

-- the CDR type of a reading
abbrev pub reading_cdr : CdrType
reading_cdr = Both (Unsigned 4) (Both (Unsigned 8) (Both Text (Sequence (Signed w16))))

-- the text of a reading: the station, the time, the place in hex, and the number of levels
abbrev pub reading_text : ValueOf reading_cdr → List ℕ
reading_text r =
    decimal r.0
    ++ (codes " "
    ++ (decimal r.1.0
    ++ (codes " " ++ (hex_text r.1.1.0 ++ (codes " " ++ decimal (length r.1.1.1))))))
