-- The names of partitions that are written.
use Rattle.std.proofs.Common.{map, Ok, Err, ◌≡◌, ℕ, zero, suc, ◌+◌, ◌≤◌, ◌<◌, ◌^◌, List, [], ◌∷◌, ◌++◌, length, get_or, ap, ◌∙◌, arith}
use Rattle.std.specs.Prelude.{IfOk, Result, String, replicate}
use Rattle.std.specs.List.{AllByRecursion}
use Rattle.std.specs.String.{string_bytes}
use Rattle.std.proofs.lemmas.Str.{IsUtf8-string_bytes}
use Rattle.std.proofs.lemmas.List.{length-append}
use Rattle.rtps_types.specs.declared.field.Endian.TheVariants.{Little}
use Rattle.rtps_cdr.specs.Cdr.{Sequence, Text, Unsigned, padding}
use Rattle.rtps_cdr.specs.Statements.{all_appended}
use Rattle.rtps_cdr.specs.Writing.{Fits, Output, all_written, appended, number_written, text_written, written}
use Rattle.rtps_cdr.proofs.Sequences.{items_written}
use Rattle.rtps_announcement.specs.Fault.{longest}
use Rattle.rtps_announcement.specs.Values.{names_value}

abbrev all : ℕ → List (List ℕ) → List ℕ
all at names = all_written (λ p v. written Text p Little v) at names

text_length : (at : ℕ) (text : List ℕ) → length text + 1 ≤ length (text_written at Little text)
text_length at text = omega (arith, length-append (number_written 4 at Little (length text + 1)) (text ++ 0 ∷ []), length-append text (0 ∷ []))

as_many : (names : List (List ℕ)) (at : ℕ) → length names ≤ length (all at names)
as_many [] at = omega arith
as_many (n ∷ ns) at =
    let first = text_length at n in
    let others = as_many ns (at + length (text_written at Little n)) in
    let both = length-append (text_written at Little n) (all (at + length (text_written at Little n)) ns) in
    omega arith

as_long : (names : List (List ℕ)) (at i : ℕ) → i < length names → length (get_or names i []) ≤ length (all at names)
as_long [] at i h = absurd (omega arith)
as_long (n ∷ ns) at zero h =
    let first = text_length at n in
    let both = length-append (text_written at Little n) (all (at + length (text_written at Little n)) ns) in
    omega arith
as_long (n ∷ ns) at (suc i) h =
    let others = as_long ns (at + length (text_written at Little n)) i (omega arith) in
    let both = length-append (text_written at Little n) (all (at + length (text_written at Little n)) ns) in
    omega arith

-- the value has at least the octets of the names
value_length : (names : List (List ℕ)) → length (all 4 names) ≤ length (names_value names)
value_length names =
    let octets = written (Sequence Text) 0 Little names in
    omega (arith, length-append octets (replicate (padding 4 (length octets)) 0), length-append (number_written 4 0 Little (length names)) (all 4 names))

pub too_many : (names : List (List ℕ)) → longest < length names → longest < length (names_value names)
too_many names h = omega (arith, as_many names 4, value_length names)

pub too_long : (names : List (List ℕ)) (i : ℕ) → i < length names → longest < length (get_or names i []) → longest < length (names_value names)
too_long names i lt h = omega (arith, as_long names 4 i lt, value_length names)

-- a count and the names are their sequence
pub sequence_is : (names : List (List ℕ)) (writer : Output) → writer ≡ all_appended Text names (appended (Unsigned 4) (length names) (record { octets = []; endian = Little })) → writer.octets ≡ written (Sequence Text) 0 Little names
sequence_is names writer h = ap (λ (o : Output). o.octets) (h ∙ items_written Text names (record { octets = []; endian = Little }))

-- ---- each of them is a text

each_fits : {Z : Type 0} (names : List (String Z)) (at : ℕ) → length (all at (map string_bytes names)) < 2 ^ 32 → AllByRecursion (Fits Text) (map string_bytes names)
each_fits [] at h = tt
each_fits (n ∷ ns) at h =
    let text = string_bytes n in
    let first = text_length at (string_bytes n) in
    let both = length-append (text_written at Little (string_bytes n)) (all (at + length (text_written at Little (string_bytes n))) (map string_bytes ns)) in
    ((omega arith, IsUtf8-string_bytes n), each_fits ns (at + length (text_written at Little (string_bytes n))) (omega arith))

pub names_fit : {Z : Type 0} (names : List (String Z)) → length (names_value (map string_bytes names)) ≤ longest → Fits (Sequence Text) (map string_bytes names)
names_fit names h =
    let all_of = value_length (map string_bytes names) in
    let many = as_many (map string_bytes names) 4 in
    (omega arith, each_fits names 4 (omega arith))

-- where octets of that value are a result
pub names_fit_there : {Z V E : Type 0} (r : Result V E) (items : V → List ℕ) (names : List (String Z)) → IfOk r (λ v. items v ≡ names_value (map string_bytes names)) → IfOk r (λ v. length (items v) ≤ longest) → IfOk r (λ v. Fits (Sequence Text) (map string_bytes names))
names_fit_there (Ok v) items names is short = names_fit names (omega (arith, ap length is, short))
names_fit_there (Err e) items names is short = tt
