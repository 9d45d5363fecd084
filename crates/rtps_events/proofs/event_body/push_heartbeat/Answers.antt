use Rattle.std.proofs.lemmas.Result.{on_ok_weaker}
use Rattle.std.proofs.Common.{to_z-of_z, SFits, rules}
use Rattle.std.specs.Prelude.{codes, ◌∷◌, [], decimal}
use Rattle.std.specs.Fmt.{signed_decimal}
use Rattle.std.specs.Int.{w32}
use Rattle.rtps_types.specs.Number.{value_of}
use Rattle.rtps_events.specs.Line.{flags_text}
use Rattle.rtps_ascii.proofs.Appended.{added_is_joined}
use Rattle.rtps_events.proofs.event_body.push_heartbeat.Goals as goal

pub returns-clause-ok : goal.returns-clause-ok
returns-clause-ok g c = let fits : SFits w32 c.args.heartbeat.now.count = search rules in on_ok_weaker c.push_flags.result (λ e. rw e (rw c.in_ok-push_octet-3.ensures.ok (rw c.in_ok-push_signed.ensures.ok (rw c.in_ok-push_octet-2.ensures.ok (rw c.in_ok-push_number-2.ensures.ok (rw c.in_ok-push_octet.ensures.ok (rw c.in_ok-push_number.ensures.ok (rw c.in_ok-push_word.ensures.ok (rw (to_z-of_z fits) (rw c.get.ensures.value (added_is_joined _ (codes "heartbeat ") (
    (decimal (value_of c.args.heartbeat.now.first))
    ∷ (codes " ")
    ∷ (decimal c.args.heartbeat.now.last)
    ∷ (codes " ")
    ∷ (signed_decimal c.args.heartbeat.now.count)
    ∷ (codes " ")
    ∷ (flags_text c.args.heartbeat.now.final_flag c.args.heartbeat.now.liveliness)
    ∷ [])))))))))))) c.push_flags.ensures.ok
