use Rattle.std.proofs.Common.{[], ◌∷◌, sym, ◌∙◌, ap, ◌++◌, List, ℕ, append_assoc}
use Rattle.std.specs.Prelude.{codes, decimal}
use Rattle.rtps_ascii.proofs.Kept.{still_starts}
use Rattle.rtps_events.specs.Line.{more_text}
use Rattle.rtps_ascii.proofs.Appended.{added_is_joined}
use Rattle.rtps_events.proofs.Rows.{more_text-append}
use Rattle.rtps_events.proofs.numbers.push_members.Goals as goal

pub loop-member-preserved : goal.loop-member-preserved
loop-member-preserved g c =
    let taken = c.in-Some-member.ensures.steps in
    record {
      text = rw c.in_ok-push_number.ensures.ok (rw c.in_ok-push_octet.ensures.ok (rw c.loop-member.invariant.text (
          rw (more_text-append c.loop-member.yielded c.in-Some-member.member)
          (added_is_joined _ (more_text c.loop-member.yielded) (codes "," ∷ decimal c.in-Some-member.member ∷ [])))));
      members = c.loop-member.invariant.members ∙ ap (λ (left : List ℕ). c.loop-member.yielded ++ left) taken ∙ sym (append_assoc c.loop-member.yielded (c.in-Some-member.member ∷ []) c.next-in-loop-member.new.self);
      keeps = still_starts _ _ _ c.in_ok-push_number.ensures.keeps (still_starts _ _ _ c.in_ok-push_octet.ensures.keeps c.loop-member.invariant.keeps);
    }
