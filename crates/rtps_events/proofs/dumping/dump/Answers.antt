use Rattle.std.proofs.Common.{None, append-nil}
use Rattle.std.proofs.lemmas.Result.{IfErr-weaker, on_ok_weaker}
use Rattle.rtps_events.proofs.Rewritten.{all_as, stops_as}
use Rattle.rtps_events.proofs.dumping.dump.Goals as goal

pub returns-clause-ok : goal.returns-clause-ok
returns-clause-ok g c =
    on_ok_weaker c.print_file.result (all_as _ _ _ _ _ None (λ records. append-nil _)) c.print_file.ensures.ok

pub returns-clause-fault : goal.returns-clause-fault
returns-clause-fault g c =
    IfErr-weaker c.print_file.result _ _ (λ fault. stops_as _ _ fault _ _ _ _ (λ records. append-nil _)) c.print_file.ensures.fault
