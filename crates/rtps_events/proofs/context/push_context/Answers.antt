use Rattle.std.proofs.lemmas.Result.{on_ok_weaker}
use Rattle.std.specs.Prelude.{codes, ◌∷◌, []}
use Rattle.rtps_ascii.specs.Hex.{hex_text}
use Rattle.rtps_types.specs.NumberText.{place_text}
use Rattle.rtps_events.specs.Line.{time_text}
use Rattle.rtps_ascii.proofs.Appended.{added_is_joined}
use Rattle.rtps_events.proofs.context.push_context.Goals as goal

pub returns-clause-ok : goal.returns-clause-ok
returns-clause-ok g c = on_ok_weaker c.push_ends.result (λ e. rw e (rw c.in_ok-push_time.ensures.ok (rw c.in_ok-push_octet-2.ensures.ok (rw c.in_ok-push_hex_array.ensures.ok (rw c.in_ok-push_octet.ensures.ok (rw c.in_ok-push_place.ensures.ok (added_is_joined _ (place_text c.args.event.now.place) (
    (codes " ")
    ∷ (hex_text c.args.event.now.source.0)
    ∷ (codes " ")
    ∷ (time_text c.args.event.now.time)
    ∷ (codes " ")
    ∷ (hex_text c.args.event.now.writer.0)
    ∷ (codes " ")
    ∷ (hex_text c.args.event.now.reader.0)
    ∷ [])))))))) c.push_ends.ensures.ok
