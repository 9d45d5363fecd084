-- Parameter lists that are written: how long they are, and that they are read again.
use Rattle.std.proofs.Common.{◌≡◌, ℕ, ◌+◌, ◌-◌, ◌<◌, List, [], ◌∷◌, ◌++◌, length, Some, Ok, refl, arith, append_assoc, filter, ◌%◌, ◌≤◌, true, leb}
use Rattle.std.specs.List.{AllByRecursion}
use Rattle.std.proofs.lemmas.List.{append-nil, length-append}
use Rattle.std.proofs.lemmas.Bool.{le-leb}
use Rattle.rtps_types.specs.declared.field.Endian.TheVariants.{Little}
use Rattle.rtps_types.specs.Field.{encoded}
use Rattle.rtps_types.proofs.Puts.{number-encoded}
use Rattle.rtps_params.specs.Parameters.{HasHead, IsList}
use Rattle.rtps_params.specs.Reading.{Parameter, answer, contents, is_shown}
use Rattle.rtps_params.proofs.Grammar.{answer_only}
use Rattle.rtps_discovery.specs.AnnouncedData.{list_in}
use Rattle.rtps_announcement.specs.Parameters.{IsWritable, list_octets, parameter, parameter_octets, payload_octets}

-- ---- lengths

abbrev pub list_length : List Parameter → ℕ
list_length [] = 4
list_length (p ∷ ps) = 4 + length p.value + list_length ps

pub length-parameter : (p : Parameter) → length (parameter_octets p) ≡ 4 + length p.value
length-parameter p = omega (arith, length-append (encoded Little 2 p.id ++ encoded Little 2 (length p.value)) p.value)

pub length-list : (ps : List Parameter) → length (list_octets ps) ≡ list_length ps
length-list [] = refl
length-list (p ∷ ps) = omega (arith, length-append (parameter_octets p) (list_octets ps), length-parameter p, length-list ps)

-- ---- reading

head_is : (p : Parameter) (rest : List ℕ) → IsWritable p → HasHead Little p.id (length p.value) (parameter_octets p ++ rest) (p.value ++ rest)
head_is p rest w = record {
  first = _;
  second = _;
  third = _;
  fourth = _;
  text = refl;
  names_id = number-encoded Little 2 p.id [] w.id;
  names_length = number-encoded Little 2 (length p.value) [] w.short;
}

is_list : (ps : List Parameter) (rest : List ℕ) → AllByRecursion IsWritable ps → IsList Little (list_octets ps ++ rest) ps (Ok rest)
is_list [] rest w = record {
  len = 0;
  head = record { first = 1; second = 0; third = 0; fourth = 0; text = refl; names_id = refl; names_length = refl };
}
is_list (p ∷ ps) rest w = (
  list_octets ps ++ rest,
  record {
    head = rw (append_assoc (parameter_octets p) (list_octets ps) rest) (head_is p (list_octets ps ++ rest) w.0);
    no_end = w.0.no_end;
    whole_words = w.0.whole_words;
  },
  is_list ps rest w.1,
)

-- a list that is written is read as its parameters, whatever follows it
pub contents_are : (ps : List Parameter) (rest : List ℕ) → AllByRecursion IsWritable ps → contents Little (list_octets ps ++ rest) ≡ answer Little (list_octets ps ++ rest) ps (Ok rest)
contents_are ps rest w = answer_only Little (list_octets ps ++ rest) (contents Little (list_octets ps ++ rest)) refl ps (Ok rest) (is_list ps rest w)

pub writable : (id : ℕ) (value : List ℕ) → 2 ≤ id → id < 65536 → length value % 4 ≡ 0 → length value < 65536 → IsWritable (parameter id value)
writable id value more less words short = record {
  no_padding = omega arith;
  no_end = omega arith;
  id = less;
  whole_words = words;
  short = short;
}

-- the same for a payload, whose parameters are all shown
pub list_is : (ps : List Parameter) → AllByRecursion IsWritable ps → filter is_shown ps ≡ ps → list_in (payload_octets ps) ≡ Some (record { endian = Little; parameters = ps; used = length (list_octets ps) - 0 })
list_is ps w shown =
    let there : leb 4 (length (payload_octets ps)) ≡ true = le-leb _ _ (omega arith) in
    let first : leb 2 (length (payload_octets ps)) ≡ true = le-leb _ _ (omega arith) in
    let is : contents Little (list_octets ps) ≡ answer Little (list_octets ps) ps (Ok []) = rw append-nil at (contents_are ps [] w) in
    rw (there, first, is, shown) refl
