use Rattle.std.proofs.Common.{◌≡◌, ◌<◌, [], drop, get_or, length, map, sym, ap, ◌∙◌, arith}
use Rattle.std.specs.String.{string_bytes}
use Rattle.std.proofs.lemmas.List.{drop_all, get_or-map, length-map}
use Rattle.rtps_types.specs.declared.field.Endian.TheVariants.{Little}
use Rattle.rtps_cdr.specs.Cdr.{Sequence, Text, Unsigned}
use Rattle.rtps_cdr.specs.Statements.{all_appended}
use Rattle.rtps_cdr.specs.Writing.{appended, written}
use Rattle.rtps_announcement.proofs.Names.{names_fit_there, sequence_is, too_long, too_many}
use Rattle.rtps_announcement.proofs.texts.names_value.Goals as goal

pub returns-then-names-gt-LONGEST-clause-too_long :
    goal.returns-then-names-gt-LONGEST-clause-too_long
returns-then-names-gt-LONGEST-clause-too_long g c = too_many (map string_bytes c.args.names.now) (rw (length-map c.args.names.now string_bytes) (omega arith))

pub returns-then-len-gt-LONGEST-clause-too_long : goal.returns-then-len-gt-LONGEST-clause-too_long
returns-then-len-gt-LONGEST-clause-too_long g c =
    let names = c.args.names.now in
    let i = c.loop-name.name-index in
    let within : i < length names = omega arith in
    let same : get_or (map string_bytes names) i [] ≡ string_bytes c.name-item.result = get_or-map string_bytes names i c.name-item.result [] within ∙ ap string_bytes (sym c.name-item.is) in
    too_long (map string_bytes names) i (rw (length-map names string_bytes) within) (rw same (omega arith))

octets_are : (g : _) (c : goal.After-filled g) → c.finish.result.items ≡ written (Sequence Text) 0 Little (map string_bytes c.args.names.now)
octets_are g c =
    let names = c.args.names.now in
    let end : drop c.loop-name.name-index names ≡ [] = drop_all c.loop-name.name-index names (omega arith) in
    let all : c.loop-name.writer ≡ all_appended Text (map string_bytes names) (appended (Unsigned 4) (length (map string_bytes names)) (record { octets = []; endian = Little })) = rw (length-map names string_bytes) (rw end at c.loop-name.invariant) in
    c.finish.ensures ∙ sequence_is (map string_bytes names) c.loop-name.writer all

pub returns-clause-value : goal.returns-clause-value
returns-clause-value g c = rw (octets_are g c) at c.filled.ensures.value

pub returns-clause-too_long : goal.returns-clause-too_long
returns-clause-too_long g c = rw (octets_are g c) at c.filled.ensures.too_long

pub returns-clause-fits : goal.returns-clause-fits
returns-clause-fits g c = names_fit_there c.filled.result (λ v. v.items) c.args.names.now (returns-clause-value g c) c.filled.ensures.short
