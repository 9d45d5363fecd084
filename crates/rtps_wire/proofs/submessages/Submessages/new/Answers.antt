use Rattle.rtps_wire.proofs.Grammar.{one_reading}
use Rattle.rtps_wire.proofs.submessages.Submessages.new.Goals as goal

pub returns-clause-only : goal.returns-clause-only
returns-clause-only c = λ items fault r. one_reading items c.args.octets.now fault r
