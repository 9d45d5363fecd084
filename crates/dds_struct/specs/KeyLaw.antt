-- The key payload of a value has the value's key hash.
use Rattle.std.proofs.Common.{◌≡◌, [], true, Ok, refl, arith, append-nil}
use Rattle.rtps_types.specs.declared.field.Endian.TheVariants.{Little}
use Rattle.rtps_cdr.specs.Cdr.{CdrType, ValueOf}
use Rattle.rtps_cdr.specs.Reading.{Cursor, start}
use Rattle.rtps_cdr.specs.Statements.{before}
use Rattle.rtps_cdr.specs.Writing.{Fits, written}
use Rattle.rtps_cdr.proofs.Again.{reads_again}
use Rattle.dds_struct.specs.Value.{is_plain, value, behind, settled}
use Rattle.dds_struct.specs.Key.{key_hash}
use Rattle.dds_struct.specs.Decoded.{decoding_of, key_body}
use Rattle.dds_struct.specs.ReadLaw.{lawful}

value_again : (t : CdrType) (v : ValueOf t) → is_plain t ≡ true → Fits t v
    → value t (start Little (written t 0 Little v)) ≡ Ok v
value_again t v plain fits =
    let c : Cursor = before [] Little t v [] in
    let again =
    reads_again t [] [] Little v (settled (value t c) (behind t c) c) (value t c) fits
    (lawful t plain c (omega arith)) in
    rw append-nil at (again.0)

-- the hash of the key payload that is written for a key is the hash of that key
pub key_again : (t : CdrType) (v : ValueOf t) → is_plain t ≡ true → Fits t v
    → (decoding_of t t (λ x. x)).hash_of_key 1 (key_body t v) ≡ Ok (key_hash t v)
key_again t v plain fits = rw (value_again t v plain fits) refl
