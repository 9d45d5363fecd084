use Rattle.std.proofs.Common.{arith, sym}
use Rattle.rtps_discovery.specs.ReaderFaults.{removing_fault}
use Rattle.rtps_run.proofs.Moved.{given, not_refused, parted_run, ranks_listed}
use Rattle.dds_participant.proofs.participant.Participant.part.Goals as goal

pub returns-in-Ok-clause-within : goal.returns-in-Ok-clause-within
returns-in-Ok-clause-within g c =
    let there = c.self.invariant.2 c.if-self.false in
    let readers = c.self.inside.discovery.kept.readers in
    let below = given readers c.args.rank (not_refused _ _ (removing_fault readers c.args.rank) c.part-parted.result c.in-Ok.reports c.in-Ok.is (c.part-parted.ensures.refused there.1.unspent)) in
    omega (arith, below, ranks_listed g.C.Catalog.decoding there.0 _ there.1)

pub returns-in-Ok-clause-stands : goal.returns-in-Ok-clause-stands
returns-in-Ok-clause-stands g c = rw (sym c.self.view_is) (λ inputs there.
    let stands = rw (c.new-readers.ensures.states, c.new-readers.ensures.decoder, c.new-decoder.ensures, c.replace-states.ensures.value) at c.part-parted.ensures.stands in
    parted_run g.C.Catalog.view g.C.Catalog.decoding inputs c.args.rank _ c.part-parted.new.discovery.kept c.part-parted.new.readers.states.items c.in-Ok.reports.items there (λ w old. rw c.in-Ok.is at stands w old))
