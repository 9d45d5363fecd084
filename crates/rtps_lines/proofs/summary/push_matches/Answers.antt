use Rattle.std.proofs.lemmas.Result.{on_ok_weaker}
use Rattle.std.specs.Prelude.{codes, ◌∷◌, [], decimal}
use Rattle.rtps_lines.specs.Summary.{policy_text}
use Rattle.rtps_ascii.proofs.Appended.{added_is_joined}
use Rattle.rtps_lines.proofs.summary.push_matches.Goals as goal

pub returns-clause-ok : goal.returns-clause-ok
returns-clause-ok g c = on_ok_weaker c.push_policy.result (λ e. rw e (rw c.in_ok-push_octet-3.ensures.ok (rw c.in_ok-push_number-3.ensures.ok (rw c.in_ok-push_octet-2.ensures.ok (rw c.in_ok-push_number-2.ensures.ok (rw c.in_ok-push_octet.ensures.ok (rw c.in_ok-push_number.ensures.ok (rw c.from-2.ensures (rw c.from.ensures (added_is_joined _ (decimal c.args.status.now.matched_total) (
    (codes " ")
    ∷ (decimal c.args.status.now.matched_now)
    ∷ (codes " ")
    ∷ (decimal c.args.status.now.incompatible_total)
    ∷ (codes " ")
    ∷ (policy_text c.args.status.now.last_policy)
    ∷ []))))))))))) c.push_policy.ensures.ok
