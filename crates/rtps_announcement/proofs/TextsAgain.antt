-- The values that hold texts are read again.
use Rattle.std.proofs.Common.{◌≡◌, ℕ, ◌%◌, List, [], length, Some, ap, arith}
use Rattle.std.specs.Prelude.{replicate}
use Rattle.std.proofs.lemmas.List.{length-append, length-replicate}
use Rattle.rtps_types.specs.declared.field.Endian.TheVariants.{Little}
use Rattle.rtps_cdr.specs.Cdr.{Sequence, Text, padding}
use Rattle.rtps_cdr.specs.Reading.{start}
use Rattle.rtps_cdr.specs.Writing.{Fits, written}
use Rattle.rtps_cdr.proofs.Again.{each_again}
use Rattle.dds_qos.specs.Values.{names_in, only, topic_in}
use Rattle.rtps_announcement.specs.Values.{filled, names_value, text_value}

pub filled_words : (octets : List ℕ) → length (filled octets) % 4 ≡ 0
filled_words octets = omega (arith, length-append octets (replicate (padding 4 (length octets)) 0), length-replicate {A = ℕ} (padding 4 (length octets)) 0)

pub text_reads : (text : List ℕ) → Fits Text text → topic_in (start Little (text_value text)) ≡ Some text
text_reads text fits =
    let octets = written Text 0 Little text in
    ap only ((each_again [] (replicate (padding 4 (length octets)) 0) Little).text text fits)

pub names_read : (names : List (List ℕ)) → Fits (Sequence Text) names → names_in (start Little (names_value names)) ≡ Some names
names_read names fits =
    let octets = written (Sequence Text) 0 Little names in
    ap only ((each_again [] (replicate (padding 4 (length octets)) 0) Little).texts names fits)
