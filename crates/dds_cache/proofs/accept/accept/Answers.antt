use Rattle.std.proofs.Common.{false, refl, sym, ◌∙◌}
use Rattle.dds_cache.specs.Departing.{is_by}
use Rattle.dds_cache.specs.Standing.{is_pair}
use Rattle.dds_cache.proofs.Doing.{changes_nothing, leaves_all, leaves_one}
use Rattle.dds_cache.proofs.Going.{departed, none_departs}
use Rattle.dds_cache.proofs.accept.accept.Goals as goal

pub returns-in-Enters-clause-stands : goal.returns-in-Enters-clause-stands
returns-in-Enters-clause-stands g c = λ past s. c.admit.ensures.stands past (sym c.what_it_does.ensures ∙ c.in-Enters.is) s

pub returns-in-Leaves-clause-stands : goal.returns-in-Leaves-clause-stands
returns-in-Leaves-clause-stands g c = λ past s.
    departed past c.args.notice (is_pair (c.args.notice.writer, c.in-Leaves.key)) (leaves_one c.args.notice c.in-Leaves.key c.args.notice.what refl (sym c.what_it_does.ensures ∙ c.in-Leaves.is)) c.args.index.now c.leave.new.index c.args.entries.now c.leave.ensures.leaves s

pub returns-in-LeavesAll-clause-stands : goal.returns-in-LeavesAll-clause-stands
returns-in-LeavesAll-clause-stands g c = λ past s.
    departed past c.args.notice (is_by c.args.notice.writer) (leaves_all c.args.notice c.args.notice.what refl (sym c.what_it_does.ensures ∙ c.in-LeavesAll.is)) c.args.index.now c.leave_all.new.index c.args.entries.now (c.leave_all.ensures.leaves s.sized) s

pub returns-in-ChangesNothing-clause-stands : goal.returns-in-ChangesNothing-clause-stands
returns-in-ChangesNothing-clause-stands g c = λ past s.
    departed past c.args.notice (λ p. false) (changes_nothing c.args.notice c.args.notice.what refl (sym c.what_it_does.ensures ∙ c.in-ChangesNothing.is)) c.args.index.now c.args.index.now c.args.entries.now (none_departs c.args.index.now) s
