use Rattle.std.proofs.lemmas.Result.{on_ok_weaker}
use Rattle.std.specs.Prelude.{codes, ◌∷◌, [], decimal}
use Rattle.rtps_types.specs.Number.{value_of}
use Rattle.rtps_ascii.specs.Hex.{hex_text}
use Rattle.rtps_events.specs.Line.{form_word, hash_text}
use Rattle.rtps_ascii.proofs.Appended.{added_is_joined}
use Rattle.rtps_events.proofs.event_body.push_whole.Goals as goal

pub returns-clause-ok : goal.returns-clause-ok
returns-clause-ok g c = on_ok_weaker c.push_hash.result (λ e. rw e (rw c.in_ok-push_octet-2.ensures.ok (rw c.in_ok-push_hex.ensures.ok (rw c.in_ok-push_form.ensures.ok (rw c.in_ok-push_hex_array.ensures.ok (rw c.in_ok-push_octet.ensures.ok (rw c.in_ok-push_number.ensures.ok (rw c.in_ok-push_word.ensures.ok (rw c.get.ensures.value (added_is_joined _ (codes "data ") (
    (decimal (value_of c.args.whole.now.number))
    ∷ (codes " ")
    ∷ (hex_text (c.args.whole.now.info.status ∷ []))
    ∷ (codes " ")
    ∷ (form_word c.args.whole.now.info.form)
    ∷ (codes " ")
    ∷ (hex_text c.args.whole.now.payload.now)
    ∷ (codes " ")
    ∷ (hash_text c.args.whole.now.info.hash)
    ∷ []))))))))))) c.push_hash.ensures.ok
