use Rattle.std.proofs.Common.{arith, refl, sym}
use Rattle.rtps_discovery.specs.ReaderFaults.{removing_fault}
use Rattle.rtps_run.proofs.Moved.{given, not_refused, parted_run, ranks_listed, refused_moves, removing_is_known}
use Rattle.rtps_serial.proofs.engine.SerialEngine.part.Goals as goal
use Rattle.rtps_serial.proofs.engine.SerialEngine.part.Goals.{in-Ok, in-Err}

pub returns-clause-within : goal.returns-clause-within
returns-clause-within g c = elim c.match-parted.branch [
  | in-Ok b ↦ rw b.result-is (
      let there = c.self.invariant.2 c.if-self.false in
      let readers = c.self.inside.discovery.kept.readers in
      let below = given readers c.args.rank (not_refused _ _ (removing_fault readers c.args.rank) c.part-parted.result b.in-Ok.reports b.in-Ok.is (c.part-parted.ensures.refused there.1.unspent)) in
      omega (arith, below, ranks_listed g.C.Catalog.decoding there.0 _ there.1))
  | in-Err b ↦ rw b.result-is tt
]

pub returns-clause-err : goal.returns-clause-err
returns-clause-err g c = rw (sym c.self.view_is) (elim c.match-parted.branch [
  | in-Ok b ↦ rw b.result-is tt
  | in-Err b ↦ rw b.result-is (
      let there = c.self.invariant.2 c.if-self.false in
      let readers = c.self.inside.discovery.kept.readers in
      rw b.into.ensures (refused_moves _ _ (removing_fault readers c.args.rank) b.in-Err.fault c.part-parted.result _ _ (removing_is_known readers c.args.rank) c.if-self.false b.in-Err.is (c.part-parted.ensures.refused there.1.unspent)
      (c.part-parted.ensures.taken there.1.unspent) c.has_begun-self-inside.ensures
      (λ discovery states failed. rw (discovery, states, failed, c.if-self.false) refl)))
])

pub returns-clause-stands : goal.returns-clause-stands
returns-clause-stands g c = rw (sym c.self.view_is) (λ inputs there. elim c.match-parted.branch [
  | in-Ok b ↦ rw b.result-is (parted_run g.C.Catalog.view g.C.Catalog.decoding inputs c.args.rank _ c.part-parted.new.discovery.kept c.part-parted.new.readers.states.items b.in-Ok.reports.items there (λ w old. rw b.in-Ok.is at c.part-parted.ensures.stands w old))
  | in-Err b ↦ rw b.result-is tt
])
