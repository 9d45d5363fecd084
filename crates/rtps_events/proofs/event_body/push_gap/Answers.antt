use Rattle.std.proofs.lemmas.Result.{on_ok_weaker}
use Rattle.std.specs.Prelude.{codes, ◌∷◌, [], decimal}
use Rattle.rtps_types.specs.Number.{value_of}
use Rattle.rtps_types.specs.NumberSet.{members}
use Rattle.rtps_types.specs.Sets.{sn_view}
use Rattle.rtps_events.specs.Line.{numbers_text}
use Rattle.rtps_ascii.proofs.Appended.{added_is_joined}
use Rattle.rtps_events.proofs.event_body.push_gap.Goals as goal

pub returns-clause-ok : goal.returns-clause-ok
returns-clause-ok g c = on_ok_weaker c.push_members.result (λ e. rw e (rw c.in_ok-push_octet-2.ensures.ok (rw c.in_ok-push_number-2.ensures.ok (rw c.in_ok-push_octet.ensures.ok (rw c.in_ok-push_number.ensures.ok (rw c.in_ok-push_word.ensures.ok (rw c.get.ensures.value (added_is_joined _ (codes "gap ") (
    (decimal (value_of c.args.gap.now.start))
    ∷ (codes " ")
    ∷ (decimal c.args.gap.now.list.base)
    ∷ (codes " ")
    ∷ (numbers_text (members (sn_view c.args.gap.now.list)))
    ∷ []))))))))) c.push_members.ensures.ok
