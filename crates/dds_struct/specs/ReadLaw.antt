-- A value of a type is read exactly if the octets encode it.
use Rattle.std.proofs.Common.{◌≡◌, ◌<◌, ℕ, zero, suc, Bool, true, false, ◌&&◌, nat_lt, Ok, Err, refl, arith}
use Rattle.std.specs.Int.{byte_len}
use Rattle.rtps_cdr.specs.Cdr.{CdrType, Unsigned, Signed, Boolean, Text, Octets, Both, Sequence, ValueOf}
use Rattle.rtps_cdr.specs.Reading.{Cursor, Read, Reads, value_of, moved, number_in, signed_in, bool_in, text_in, octets_in}
use Rattle.rtps_cdr.proofs.Related.{unsigned_law, signed_law, bool_law, octets_law}
use Rattle.rtps_cdr.proofs.Counted.{text_law}
use Rattle.dds_struct.specs.Value.{is_plain, value, behind, items, behind_counted}
use Rattle.dds_struct.specs.ReadParts.{Is, Within, both, all_items, counted, still_within, found_in}

one_read : (t : CdrType) (c : Cursor) (r : Read (ValueOf t)) → Reads t c (moved c r) (value_of r)
    → Is t c (moved c r) (value_of r)
one_read t c (Ok x) law = law
one_read t c (Err f) law = law

positive : (n : ℕ) → nat_lt 0 n ≡ true → 0 < n
positive zero same = absurd (cc same)
positive (suc n) same = omega arith

left_of : (a b : Bool) → (a && b) ≡ true → a ≡ true
left_of true b same = refl
left_of false b same = absurd (cc same)

right_of : (a b : Bool) → (a && b) ≡ true → b ≡ true
right_of true b same = same
right_of false b same = absurd (cc same)

-- a value of a type is read exactly if the octets encode it
pub lawful : (t : CdrType) → is_plain t ≡ true → (c : Cursor) → Within c
    → Is t c (behind t c) (value t c)
lawful (Unsigned size) plain c within =
    one_read (Unsigned size) c (number_in size c) (unsigned_law size c (positive size plain))
lawful (Signed w) plain c within =
    one_read (Signed w) c (signed_in w c) (signed_law w c (positive (byte_len w) plain))
lawful Boolean plain c within = one_read Boolean c (bool_in c) (bool_law c)
lawful Text plain c within = one_read Text c (text_in c) (text_law c within)
lawful (Octets count) plain c within =
    one_read (Octets count) c (octets_in count c) (octets_law count c within)
lawful (Both s t) plain c within =
    let first = lawful s (left_of (is_plain s) (is_plain t) plain) c within in
    both s t c (behind s c) (behind t (behind s c)) (value s c) (value t (behind s c)) first
    (λ x same. lawful t (right_of (is_plain s) (is_plain t) plain) (behind s c)
    (still_within s c (behind s c) x
    (found_in s c (behind s c) x (value s c) same first) within))
lawful (Sequence t) plain c within =
    let count = one_read (Unsigned 4) c (number_in 4 c) (unsigned_law 4 c (omega arith)) in
    let middle : Cursor = moved c (number_in 4 c) in
    counted t c middle (behind_counted (λ d. behind t d) (value_of (number_in 4 c)) middle)
    (value_of (number_in 4 c)) (λ n. items (λ d. value t d) (λ d. behind t d) n middle) count
    (λ n same. rw same
    (all_items t (λ d. value t d) (λ d. behind t d)
    (λ d inside. lawful t plain d inside) n middle
    (still_within (Unsigned 4) c middle n
    (found_in (Unsigned 4) c middle n (value_of (number_in 4 c)) same count) within)))
