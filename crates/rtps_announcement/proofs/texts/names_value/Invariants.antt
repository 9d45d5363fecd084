use Rattle.std.proofs.Common.{◌≡◌, [], drop, length, map}
use Rattle.std.specs.String.{string_bytes}
use Rattle.rtps_types.specs.declared.field.Endian.TheVariants.{Little}
use Rattle.rtps_cdr.specs.Cdr.{Text, Unsigned}
use Rattle.rtps_cdr.specs.Statements.{all_appended}
use Rattle.rtps_cdr.specs.Writing.{appended}
use Rattle.rtps_announcement.proofs.texts.names_value.Given as goal

abbrev pub invariant-loop-name : goal.invariant-loop-name
invariant-loop-name g l =
    all_appended Text (map string_bytes (drop l.name-index l.names)) l.writer
    ≡ all_appended Text (map string_bytes l.names) (appended (Unsigned 4) (length l.names) (record { octets = []; endian = Little }))
