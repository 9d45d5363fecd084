use Rattle.std.proofs.Common.{refl}
use Rattle.rtps_run.proofs.Answered.{on_ok_then}
use Rattle.rtps_run.proofs.Dealt.{deal_answer, deal_notice}
use Rattle.rtps_serial.proofs.deal.add.Goals as goal

pub returns-in-Notice : goal.returns-in-Notice
returns-in-Notice g c count put dealt = rw c.in-Notice.is (on_ok_then c.push_by.result
    (λ pushed. deal_notice g.C.Catalog.view count put c.args.outcome.now _ c.in-Notice.rank c.in-Notice.notice dealt c.push_by.ensures.count refl pushed) c.push_by.ensures.pushed)

pub returns-in-Answer : goal.returns-in-Answer
returns-in-Answer g c count put dealt = rw c.in-Answer.is (on_ok_then c.push_answer.result
    (λ pushed. deal_answer g.C.Catalog.view count put c.args.outcome.now _ c.in-Answer.answer dealt refl pushed) c.push_answer.ensures)
