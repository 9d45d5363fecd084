use Rattle.std.proofs.Common.{Global, ◌+◌, ◌∷◌, [], ◌∙◌, Some, List, Option, ap, arith, length, refl, sym}
use Rattle.std.proofs.lemmas.List.{length-append}
use Rattle.rtps_discovery.specs.Known.{Wish}
use Rattle.rtps_discovery.specs.ReaderFaults.{adding_fault}
use Rattle.rtps_discovery.specs.Start.{wish_of}
use Rattle.rtps_run.specs.Run.{run}
use Rattle.rtps_run.proofs.Moved.{adding_is_known, joined_readers, joined_run, not_refused, ranks_listed, refused_moves, room}
use Rattle.rtps_run.proofs.Taking.{run_stands}
use Rattle.dds_participant.proofs.participant.Participant.join.Goals as goal

pub returns-in-Ok-clause-next : goal.returns-in-Ok-clause-next
returns-in-Ok-clause-next g c = rw (sym c.self.view_is) (
    let d = g.C.Catalog.decoding in
    let there = c.self.invariant.2 c.if-self.false in
    let r = wish_of c.args.reader in
    let stands = rw (c.new-readers.ensures.states, c.new-readers.ensures.decoder, c.new-decoder.ensures, c.replace-states.ensures.value) at c.join-joined.ensures.stands in
    let after = joined_run g.C.Catalog.view d there.0 r _ c.join-joined.new.discovery.kept c.join-joined.new.readers.states.items c.in-Ok.joined.1.items there.1 (λ w old unheard. rw c.in-Ok.is at stands w old unheard) in
    after.readers.count ∙ ap (λ (l : List (Option Wish)). length l) (joined_readers d there.0 r _ there.1) ∙ length-append _ (Some r ∷ []) ∙ ap (λ n. n + 1) (sym there.1.shows.count))

pub returns-in-Ok-clause-few : goal.returns-in-Ok-clause-few
returns-in-Ok-clause-few g c =
    let d = g.C.Catalog.decoding in
    let there = c.self.invariant.2 c.if-self.false in
    let r = wish_of c.args.reader in
    let readers = c.self.inside.discovery.kept.readers in
    let stands = rw (c.new-readers.ensures.states, c.new-readers.ensures.decoder, c.new-decoder.ensures, c.replace-states.ensures.value) at c.join-joined.ensures.stands in
    let after = joined_run g.C.Catalog.view d there.0 r _ c.join-joined.new.discovery.kept c.join-joined.new.readers.states.items c.in-Ok.joined.1.items there.1 (λ w old unheard. rw c.in-Ok.is at stands w old unheard) in
    let less = room readers r (not_refused _ _ (adding_fault readers r) c.join-joined.result c.in-Ok.joined c.in-Ok.is (c.join-joined.ensures.refused there.1.unspent)) in
    omega (arith, less, after.readers.count ∙ ap (λ (l : List (Option Wish)). length l) (joined_readers d there.0 r _ there.1) ∙ length-append _ (Some r ∷ []), ranks_listed d there.0 _ there.1, there.1.shows.count)

pub returns-in-Ok-clause-rank : goal.returns-in-Ok-clause-rank
returns-in-Ok-clause-rank g c = rw (sym c.self.view_is) (λ inputs there.
    let rank = rw (c.new-readers.ensures.states, c.replace-states.ensures.value) at c.join-joined.ensures.rank in
    rw c.in-Ok.is at rank (run (g.C.Catalog.decoding c.self.inside.catalog) c.self.inside.config inputs) (run_stands {A = Global} g.C.Catalog.view g.C.Catalog.decoding inputs _ there))

pub returns-in-Ok-clause-stands : goal.returns-in-Ok-clause-stands
returns-in-Ok-clause-stands g c = rw (sym c.self.view_is) (λ inputs there.
    let stands = rw (c.new-readers.ensures.states, c.new-readers.ensures.decoder, c.new-decoder.ensures, c.replace-states.ensures.value) at c.join-joined.ensures.stands in
    joined_run g.C.Catalog.view g.C.Catalog.decoding inputs (wish_of c.args.reader) _ c.join-joined.new.discovery.kept c.join-joined.new.readers.states.items c.in-Ok.joined.1.items there (λ w old unheard. rw c.in-Ok.is at stands w old unheard))

pub returns-clause-err : goal.returns-clause-err
returns-clause-err g c = rw (sym c.self.view_is) (
    let there = c.self.invariant.2 c.if-self.false in
    let readers = c.self.inside.discovery.kept.readers in
    let r = wish_of c.args.reader in
    rw c.into.ensures (refused_moves _ _ (adding_fault readers r) c.in-Err.fault c.join-joined.result _ _ (adding_is_known readers r) c.if-self.false c.in-Err.is (c.join-joined.ensures.refused there.1.unspent)
    (c.join-joined.ensures.taken there.1.unspent) c.has_begun-self-inside.ensures
    (λ discovery states failed. rw (discovery, states, c.new-readers.ensures.states, c.replace-states.ensures.value, failed, c.if-self.false) refl)))
