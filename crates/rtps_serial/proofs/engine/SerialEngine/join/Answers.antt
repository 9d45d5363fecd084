use Rattle.std.proofs.Common.{◌+◌, ◌∷◌, [], ◌∙◌, Some, List, Option, ap, arith, length, refl, sym}
use Rattle.std.proofs.lemmas.List.{length-append}
use Rattle.rtps_discovery.specs.Known.{Wish}
use Rattle.rtps_discovery.specs.ReaderFaults.{adding_fault}
use Rattle.rtps_discovery.specs.Start.{wish_of}
use Rattle.rtps_run.proofs.Moved.{adding_is_known, joined_readers, joined_run, not_refused, ranks_listed, refused_moves, room}
use Rattle.rtps_serial.proofs.engine.SerialEngine.join.Goals as goal
use Rattle.rtps_serial.proofs.engine.SerialEngine.join.Goals.{in-Ok, in-Err}

pub returns-clause-next : goal.returns-clause-next
returns-clause-next g c = rw (sym c.self.view_is) (elim c.match-joined.branch [
  | in-Ok b ↦ rw b.result-is (
      let d = g.C.Catalog.decoding in
      let there = c.self.invariant.2 c.if-self.false in
      let r = wish_of c.args.reader in
      let after = joined_run g.C.Catalog.view d there.0 r _ c.join-joined.new.discovery.kept c.join-joined.new.readers.states.items b.in-Ok.joined.1.items there.1 (λ w old unheard. rw b.in-Ok.is at c.join-joined.ensures.stands w old unheard) in
      after.readers.count ∙ ap (λ (l : List (Option Wish)). length l) (joined_readers d there.0 r _ there.1) ∙ length-append _ (Some r ∷ []) ∙ ap (λ n. n + 1) (sym there.1.shows.count))
  | in-Err b ↦ rw b.result-is tt
])

pub returns-clause-few : goal.returns-clause-few
returns-clause-few g c = elim c.match-joined.branch [
  | in-Ok b ↦ rw b.result-is (
      let d = g.C.Catalog.decoding in
      let there = c.self.invariant.2 c.if-self.false in
      let r = wish_of c.args.reader in
      let readers = c.self.inside.discovery.kept.readers in
      let after = joined_run g.C.Catalog.view d there.0 r _ c.join-joined.new.discovery.kept c.join-joined.new.readers.states.items b.in-Ok.joined.1.items there.1 (λ w old unheard. rw b.in-Ok.is at c.join-joined.ensures.stands w old unheard) in
      let less = room readers r (not_refused _ _ (adding_fault readers r) c.join-joined.result b.in-Ok.joined b.in-Ok.is (c.join-joined.ensures.refused there.1.unspent)) in
      omega (arith, less, after.readers.count ∙ ap (λ (l : List (Option Wish)). length l) (joined_readers d there.0 r _ there.1) ∙ length-append _ (Some r ∷ []), ranks_listed d there.0 _ there.1, there.1.shows.count))
  | in-Err b ↦ rw b.result-is tt
]

pub returns-clause-err : goal.returns-clause-err
returns-clause-err g c = rw (sym c.self.view_is) (elim c.match-joined.branch [
  | in-Ok b ↦ rw b.result-is tt
  | in-Err b ↦ rw b.result-is (
      let there = c.self.invariant.2 c.if-self.false in
      let readers = c.self.inside.discovery.kept.readers in
      let r = wish_of c.args.reader in
      rw b.into.ensures (refused_moves _ _ (adding_fault readers r) b.in-Err.fault c.join-joined.result _ _ (adding_is_known readers r) c.if-self.false b.in-Err.is (c.join-joined.ensures.refused there.1.unspent)
      (c.join-joined.ensures.taken there.1.unspent) c.has_begun-self-inside.ensures
      (λ discovery states failed. rw (discovery, states, failed, c.if-self.false) refl)))
])

pub returns-clause-stands : goal.returns-clause-stands
returns-clause-stands g c = rw (sym c.self.view_is) (λ inputs there. elim c.match-joined.branch [
  | in-Ok b ↦ rw b.result-is (joined_run g.C.Catalog.view g.C.Catalog.decoding inputs (wish_of c.args.reader) _ c.join-joined.new.discovery.kept c.join-joined.new.readers.states.items b.in-Ok.joined.1.items there (λ w old unheard. rw b.in-Ok.is at c.join-joined.ensures.stands w old unheard))
  | in-Err b ↦ rw b.result-is tt
])
