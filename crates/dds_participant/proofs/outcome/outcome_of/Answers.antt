use Rattle.std.proofs.Common.{◌∙◌, ap, length}
use Rattle.std.proofs.lemmas.List.{length-map}
use Rattle.rtps_run.proofs.Answered.{if_ok_then}
use Rattle.dds_participant.proofs.Dealing.{deals}
use Rattle.dds_participant.proofs.outcome.outcome_of.Goals as goal

pub returns-clause-adds : goal.returns-clause-adds
returns-clause-adds g c before after is =
    if_ok_then c.new.result (λ outcome has. deals g.C.Catalog.view before after c.args.given is outcome has) c.new.ensures

pub returns-clause-count : goal.returns-clause-count
returns-clause-count g c =
    if_ok_then c.new.result (λ outcome has. ap length has.notices ∙ length-map c.args.given.outputs.items (λ o. o.notices)) c.new.ensures
