use Rattle.std.proofs.lemmas.Result.{on_ok_weaker}
use Rattle.std.specs.Prelude.{codes, ◌∷◌, [], decimal, slice_index}
use Rattle.rtps_ascii.proofs.Appended.{added_is_joined}
use Rattle.rtps_lines.proofs.locators.push_address.Goals as goal

pub returns-clause-ok : goal.returns-clause-ok
returns-clause-ok g c =
    let a = c.args.address in
    on_ok_weaker c.push_number-4.result (λ e. rw e (rw c.in_ok-push_octet-3.ensures.ok (rw c.in_ok-push_number-3.ensures.ok (rw c.in_ok-push_octet-2.ensures.ok (rw c.in_ok-push_number-2.ensures.ok (rw c.in_ok-push_octet.ensures.ok (rw c.in_ok-push_number.ensures.ok (rw c.from-4.ensures (rw c.from-3.ensures (rw c.from-2.ensures (rw c.from.ensures (added_is_joined _ (decimal (slice_index a 0)) (
    (codes ".")
    ∷ (decimal (slice_index a 1))
    ∷ (codes ".")
    ∷ (decimal (slice_index a 2))
    ∷ (codes ".")
    ∷ (decimal (slice_index a 3))
    ∷ []))))))))))))) c.push_number-4.ensures.ok
