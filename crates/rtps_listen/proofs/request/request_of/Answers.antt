use Rattle.std.proofs.Common.{Some, rules}
use Rattle.clap.specs.Words.{found_of, rows_of}
use Rattle.rtps_listen.proofs.Asked.{asks_live}
use Rattle.rtps_listen.proofs.request.request_of.Goals as goal

pub returns-else-eq-4 : goal.returns-else-eq-4
returns-else-eq-4 c =
    rw c.in-Some.is
    (asks_live c.live_request.result (Some (c.in-Some.name.now, rows_of (found_of c.in-Some.matches.now))) c.options_in-options.result
    (search rules) (search rules) (search rules) (search rules) c.options_in-options.ensures c.live_request.ensures)
