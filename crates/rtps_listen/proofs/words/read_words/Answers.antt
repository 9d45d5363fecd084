use Rattle.std.proofs.Common.{subst, ◌∙◌}
use Rattle.rtps_listen.proofs.Found.{listen_simple, named, pair_up}
use Rattle.rtps_listen.specs.Request.{Asks}
use Rattle.rtps_listen.proofs.words.read_words.Goals as goal

pub returns-in-Ok-clause-asks : goal.returns-in-Ok-clause-asks
returns-in-Ok-clause-asks g c =
    subst (Asks c.request_of.result)
    (pair_up c.subcommand.result _ _ _ (c.subcommand.ensures.name ∙ named c.in-Ok.matches) c.subcommand.ensures.rows ∙ (c.in-Ok.ensures.matches listen_simple).1) c.request_of.ensures
