use Rattle.std.proofs.Common.{rules}
use Rattle.dds_announced.proofs.participant.AnnouncedParticipant.tick_in_order.Goals as goal

pub returns-clause-stands : goal.returns-clause-stands
returns-clause-stands g c = rw (← c.self.view_is) (λ earlier at. c.in_ok-tick_in_order.ensures.stands earlier at)

pub returns-clause-gives : goal.returns-clause-gives
returns-clause-gives g c = rw (← c.self.view_is) (λ earlier at. c.in_ok-tick_in_order.ensures.gives earlier at)

pub returns-clause-alone : goal.returns-clause-alone
returns-clause-alone g c = rw (← c.self.view_is) (λ earlier at none. c.in_ok-tick_in_order.ensures.alone earlier at none)
