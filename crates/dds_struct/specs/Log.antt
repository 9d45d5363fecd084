-- The structs of the tests.
use Rattle.std.specs.Int.{w16, w64}
use Rattle.rtps_cdr.specs.Cdr.{CdrType, Unsigned, Signed, Boolean, Text, Both, Sequence, ValueOf}

-- struct Log { boolean open; octet level; short shift; unsigned long count; long long at;
-- @key string name; @key unsigned short part; sequence<unsigned long> marks; };
abbrev pub log_cdr : CdrType
log_cdr =
    Both Boolean
    (Both (Unsigned 1)
    (Both (Signed w16)
    (Both (Unsigned 4)
    (Both (Signed w64) (Both Text (Both (Unsigned 2) (Sequence (Unsigned 4))))))))

-- the type of the key of a log: its name and its part
abbrev pub log_key_cdr : CdrType
log_key_cdr = Both Text (Unsigned 2)

-- the key of a log
abbrev pub log_key : ValueOf log_cdr → ValueOf log_key_cdr
log_key v = (v.1.1.1.1.1.0, v.1.1.1.1.1.1.0)
