use Rattle.std.proofs.lemmas.Result.{on_ok_weaker}
use Rattle.std.specs.Prelude.{codes, ◌∷◌, [], decimal}
use Rattle.rtps_lines.specs.Summary.{matches_text}
use Rattle.rtps_ascii.proofs.Appended.{added_is_joined}
use Rattle.rtps_lines.proofs.summary.push_status.Goals as goal

pub returns-clause-ok : goal.returns-clause-ok
returns-clause-ok g c = on_ok_weaker c.push_octet-4.result (λ e. rw e (rw c.in_ok-push_number-3.ensures.ok (rw c.in_ok-push_octet-3.ensures.ok (rw c.in_ok-push_number-2.ensures.ok (rw c.in_ok-push_octet-2.ensures.ok (rw c.in_ok-push_matches.ensures.ok (rw c.in_ok-push_octet.ensures.ok (rw c.in_ok-push_number.ensures.ok (rw c.in_ok-push_word.ensures.ok (rw c.from-3.ensures (rw c.from-2.ensures (rw c.from.ensures (added_is_joined _ (codes "status ") (
    (decimal c.args.rank)
    ∷ (codes " ")
    ∷ (matches_text c.args.status.now)
    ∷ (codes " ")
    ∷ (decimal c.args.status.now.lost_total)
    ∷ (codes " ")
    ∷ (decimal c.args.status.now.samples)
    ∷ (codes "\n")
    ∷ [])))))))))))))) c.push_octet-4.ensures.ok
