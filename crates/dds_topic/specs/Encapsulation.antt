-- The encapsulation kinds that are decoded (DDSI-RTPS 10.2).
use Rattle.std.specs.Prelude.{ℕ, ◌==◌, if◌then◌else◌, Result, Ok, Err}
use Rattle.rtps_types.specs.declared.field.Endian.{Endian}
use Rattle.rtps_types.specs.declared.field.Endian.TheVariants.{Big, Little}
use Rattle.dds_topic.specs.declared.unread.Unread.{Unread as UnreadCode}
use Rattle.dds_topic.specs.declared.unread.Unread.TheVariants as unread

-- 0 is CDR_BE, 1 is CDR_LE
abbrev pub order_by : ℕ → Result Endian UnreadCode
order_by kind =
    if kind == 0 then Ok Big else if kind == 1 then Ok Little else Err unread.Encapsulation
