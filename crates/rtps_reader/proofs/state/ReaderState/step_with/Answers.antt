use Rattle.std.proofs.Common.{sym, subst}
use Rattle.rtps_reader.specs.Standing.{StandsAt, kept_by}
use Rattle.rtps_reader.proofs.state.ReaderState.step_with.Goals as goal

pub returns-clause-stands : goal.returns-clause-stands
returns-clause-stands g c r given stands =
    let here = subst (StandsAt r given) (sym c.self.view_is) stands in
    c.in_ok-step.ensures.stands r given (subst (λ b. StandsAt r given (kept_by b c.self.inside.reader)) c.if-self.false here)
