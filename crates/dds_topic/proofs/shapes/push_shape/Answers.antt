use Rattle.std.proofs.Common.{to_z-of_z, SFits, rules}
use Rattle.std.specs.Int.{w32}
use Rattle.std.proofs.lemmas.Result.{on_ok_weaker}
use Rattle.std.specs.Prelude.{codes, ◌∷◌, []}
use Rattle.std.specs.Fmt.{signed_decimal}
use Rattle.rtps_ascii.specs.Hex.{hex_text}
use Rattle.rtps_ascii.proofs.Appended.{added_is_joined}
use Rattle.dds_topic.proofs.shapes.push_shape.Goals as goal

pub returns-clause-ok : goal.returns-clause-ok
returns-clause-ok g c =
    let shape = c.args.shape.now in
    let fits_x : SFits w32 shape.x = search rules in
    let fits_y : SFits w32 shape.y = search rules in
    let fits_size : SFits w32 shape.size = search rules in
    on_ok_weaker c.push_signed-3.result (λ e. rw e (rw (to_z-of_z fits_size) (rw c.in_ok-push_octet-3.ensures.ok (rw c.in_ok-push_signed-2.ensures.ok (rw (to_z-of_z fits_y) (rw c.in_ok-push_octet-2.ensures.ok (rw c.in_ok-push_signed.ensures.ok (rw (to_z-of_z fits_x) (rw c.in_ok-push_octet.ensures.ok (rw c.in_ok-push_hex.ensures.ok (rw c.as_bytes.ensures.value (rw c.as_str.ensures (added_is_joined _ (hex_text shape.color) (
    (codes " ")
    ∷ (signed_decimal shape.x)
    ∷ (codes " ")
    ∷ (signed_decimal shape.y)
    ∷ (codes " ")
    ∷ (signed_decimal shape.size)
    ∷ [])))))))))))))) c.push_signed-3.ensures.ok
