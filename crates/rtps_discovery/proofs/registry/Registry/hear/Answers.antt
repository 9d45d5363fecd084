use Rattle.std.proofs.Common.{◌≡◌, ◌∙◌, ap, sym}
use Rattle.rtps_discovery.specs.Kept.{kept, locators_by, participant_in}
use Rattle.rtps_discovery.specs.Known.{own_or}
use Rattle.rtps_discovery.specs.Seen.{lent}
use Rattle.rtps_discovery.proofs.registry.Registry.hear.Goals as goal
use Rattle.rtps_discovery.proofs.registry.Registry.hear.Goals.{in-Some, in-None}

pub returns-clause-ranks : goal.returns-clause-ranks
returns-clause-ranks g c = rw (c.ranks_at-fixed.ensures, c.deref.ensures.value) at c.rematch.ensures.ranks

pub returns-clause-changes : goal.returns-clause-changes
returns-clause-changes g c =
    let loc : c.match-after.locators.now ≡ locators_by (kept c.args.self.now) c.args.writer.prefix (lent c.args.after) = elim c.match-after.branch [
      | in-Some w ↦ ap (λ b. b.now) w.locators-is ∙ w.locators_for-locators.ensures ∙ ap (λ ls. own_or ls (participant_in c.args.writer.prefix c.args.self.now.participants.entries)) w.locators.ensures
          ∙ sym (ap (λ o. locators_by (kept c.args.self.now) c.args.writer.prefix (lent o)) w.in-Some.is)
      | in-None w ↦ ap (λ b. b.now) w.locators-is ∙ sym (ap (λ o. locators_by (kept c.args.self.now) c.args.writer.prefix (lent o)) w.in-None.is)
    ] in
    rw (c.ranks_at-fixed.ensures, c.get.ensures.value, c.deref.ensures.value, loc) at c.rematch.ensures.changes
