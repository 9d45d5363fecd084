-- The key payload of a shape has the shape's key hash.
use Rattle.std.proofs.Common.{◌≡◌, ℕ, ◌++◌, List, [], length, Ok, nat_lt, false, refl, ◌∙◌, ap, arith}
use Rattle.std.proofs.lemmas.Grind.{common_steps}
use Rattle.std.proofs.lemmas.List.{append-nil}
use Rattle.std.proofs.lemmas.Str.{IsUtf8-from_is_utf8}
use Rattle.rtps_types.specs.declared.field.Endian.TheVariants.{Little}
use Rattle.rtps_cdr.specs.Cdr.{Text}
use Rattle.rtps_cdr.specs.Reading.{start, text_in}
use Rattle.rtps_cdr.specs.Writing.{written}
use Rattle.rtps_cdr.proofs.Again.{each_again}
use Rattle.dds_topic.specs.declared.shape.Shape.{Shape}
use Rattle.dds_topic.specs.ShapeMeaning.{shape_view, color_key, color_hash, shape_hash_of_key}

-- the hash of the key payload that is written for a shape is the hash of its color
pub shape_key_again : {A : Type 0} (v : Shape A)
    → shape_hash_of_key 1 (color_key (shape_view v).color) ≡ Ok (color_hash (shape_view v).color)
shape_key_again v =
    let color : List ℕ = v.color in
    let read : text_in (start Little (written Text 0 Little color ++ []))
    ≡ Ok (color, length (written Text 0 Little color)) =
    (each_again [] [] Little).text color
    (omega (arith, v.short), IsUtf8-from_is_utf8 color v.utf8) ∙ ap (λ (n : ℕ). Ok (color, n))
    (omega arith) in
    let again : text_in (start Little (written Text 0 Little color))
    ≡ Ok (color, length (written Text 0 Little color)) = rw append-nil at read in
    let short : nat_lt 128 (length color) ≡ false = grind (arith, common_steps, v.short) in
    rw (again, short) refl
