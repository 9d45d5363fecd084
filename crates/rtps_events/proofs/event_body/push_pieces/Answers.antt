use Rattle.std.proofs.lemmas.Result.{on_ok_weaker}
use Rattle.std.specs.Prelude.{codes, ◌∷◌, [], decimal}
use Rattle.rtps_ascii.specs.Hex.{hex_text}
use Rattle.rtps_events.specs.Line.{hash_text}
use Rattle.rtps_ascii.proofs.Appended.{added_is_joined}
use Rattle.rtps_events.proofs.event_body.push_pieces.Goals as goal

pub returns-clause-ok : goal.returns-clause-ok
returns-clause-ok g c = on_ok_weaker c.push_hash.result (λ e. rw e (rw c.in_ok-push_octet-5.ensures.ok (rw c.in_ok-push_hex.ensures.ok (rw c.in_ok-push_octet-4.ensures.ok (rw c.in_ok-push_number-4.ensures.ok (rw c.in_ok-push_octet-3.ensures.ok (rw c.in_ok-push_number-3.ensures.ok (rw c.in_ok-push_octet-2.ensures.ok (rw c.in_ok-push_number-2.ensures.ok (rw c.in_ok-push_octet.ensures.ok (rw c.in_ok-push_number.ensures.ok (rw c.from-4.ensures (rw c.from-3.ensures (rw c.from-2.ensures (rw c.from.ensures (added_is_joined _ (decimal c.args.fragment.now.start) (
    (codes " ")
    ∷ (decimal c.args.fragment.now.count)
    ∷ (codes " ")
    ∷ (decimal c.args.fragment.now.size)
    ∷ (codes " ")
    ∷ (decimal c.args.fragment.now.sample)
    ∷ (codes " ")
    ∷ (hex_text c.args.fragment.now.payload.now)
    ∷ (codes " ")
    ∷ (hash_text c.args.fragment.now.info.hash)
    ∷ []))))))))))))))))) c.push_hash.ensures.ok
