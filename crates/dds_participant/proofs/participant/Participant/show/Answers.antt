use Rattle.std.proofs.Common.{◌≡◌, ◌∙◌, ap, arith, drop, get_or, length, sym}
use Rattle.rtps_run.proofs.Running.{front_back}
use Rattle.dds_participant.proofs.participant.Participant.show.Goals as goal

pub returns-clause-count : goal.returns-clause-count
returns-clause-count g c = rw (sym c.self.view_is) (
    let whole : length c.show_all.new.statuses ≡ c.self.inside.statuses.len = omega (arith, c.show_all.auto.statuses, c.deref_mut.ensures.len) in
    let front = front_back c.self.inside.statuses.len c.show_all.new.statuses (drop (length c.show_all.new.statuses) c.self.inside.statuses.items) whole in
    ap length front ∙ omega (arith, c.show_all.auto.statuses, ap length c.deref_mut.ensures.value))

pub returns-clause-statuses : goal.returns-clause-statuses
returns-clause-statuses g c = rw (sym c.self.view_is) (
    let whole : length c.show_all.new.statuses ≡ c.self.inside.statuses.len = omega (arith, c.show_all.auto.statuses, c.deref_mut.ensures.len) in
    let front = front_back c.self.inside.statuses.len c.show_all.new.statuses (drop (length c.show_all.new.statuses) c.self.inside.statuses.items) whole in
    λ rank s r below. ap (λ l. get_or l rank s) front ∙ (rw (c.deref.ensures.value, c.deref_mut.ensures.value) at c.show_all.ensures) rank s r below)
