use Rattle.std.proofs.lemmas.Result.{on_ok_weaker}
use Rattle.std.specs.Prelude.{codes, ◌∷◌, [], decimal}
use Rattle.rtps_types.specs.Number.{value_of}
use Rattle.rtps_ascii.specs.Hex.{hex_text}
use Rattle.rtps_events.specs.Line.{form_word, pieces_text}
use Rattle.rtps_receiver.specs.Views.{fragment_view}
use Rattle.rtps_ascii.proofs.Appended.{added_is_joined}
use Rattle.rtps_events.proofs.event_body.push_fragment.Goals as goal

pub returns-clause-ok : goal.returns-clause-ok
returns-clause-ok g c = on_ok_weaker c.push_pieces.result (λ e. rw e (rw c.in_ok-push_form.ensures.ok (rw c.in_ok-push_hex_array.ensures.ok (rw c.in_ok-push_octet.ensures.ok (rw c.in_ok-push_number.ensures.ok (rw c.in_ok-push_word.ensures.ok (rw c.get.ensures.value (added_is_joined _ (codes "frag ") (
    (decimal (value_of c.args.fragment.now.number))
    ∷ (codes " ")
    ∷ (hex_text (c.args.fragment.now.info.status ∷ []))
    ∷ (codes " ")
    ∷ (form_word c.args.fragment.now.info.form)
    ∷ (codes " ")
    ∷ (pieces_text (fragment_view c.args.fragment.now))
    ∷ []))))))))) c.push_pieces.ensures.ok
