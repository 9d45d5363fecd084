use Rattle.std.proofs.Common.{[], ◌≡◌, ◌≤◌, ◌∙◌, Some, ap, arith, false, length, map, refl, rules, slice_index_or, subst, sym}
use Rattle.std.proofs.lemmas.List.{length-map}
use Rattle.rtps_receiver.specs.Counters.{AreCounts}
use Rattle.rtps_reader.specs.Standing.{ReaderView, facts_in}
use Rattle.rtps_run.specs.Run.{fixed_of}
use Rattle.rtps_run.proofs.Taking.{stands_first}
use Rattle.dds_participant.proofs.participant.Participant.new.Goals as goal

pub returns-clause-stands : goal.returns-clause-stands
returns-clause-stands g c =
    let states = c.in_ok-readers.readers.items in
    let start = (rw c.deref-2.ensures.value at c.in_ok-readers.ensures.start) (fixed_of c.args.config.fixed.items) (λ rank other below. ap (λ l. map facts_in (slice_index_or l rank other).items) c.deref-3.ensures.value ∙ c.in_ok-fixed.ensures.fixed rank other (omega (arith, below, c.len.ensures)) ∙ ap (λ l. fixed_of l rank) c.deref.ensures.value) in
    let count : length states ≡ length c.args.config.readers.items = search rules in
    let shown : c.in_ok-statuses.statuses.items ≡ map (λ (s : ReaderView). Some s.status) states = c.in_ok-statuses.ensures ∙ ap (map (λ (s : ReaderView). Some s.status)) c.deref-4.ensures.value in
    stands_first g.C.Catalog.decoding (record { catalog = c.args.catalog; config = c.args.config; index = 0; failed = false; discovery = c.in_ok-discovery.discovery; readers = states; statuses = c.in_ok-statuses.statuses.items })
    refl refl c.in_ok-discovery.ensures.known c.in_ok-discovery.ensures.ok count shown start

pub invariant_of-result : goal.invariant_of-result
invariant_of-result g c =
    let states = c.in_ok-readers.readers.items in
    let start = (rw c.deref-2.ensures.value at c.in_ok-readers.ensures.start) (fixed_of c.args.config.fixed.items) (λ rank other below. ap (λ l. map facts_in (slice_index_or l rank other).items) c.deref-3.ensures.value ∙ c.in_ok-fixed.ensures.fixed rank other (omega (arith, below, c.len.ensures)) ∙ ap (λ l. fixed_of l rank) c.deref.ensures.value) in
    let count : length states ≡ length c.args.config.readers.items = search rules in
    let shown : c.in_ok-statuses.statuses.items ≡ map (λ (s : ReaderView). Some s.status) states = c.in_ok-statuses.ensures ∙ ap (map (λ (s : ReaderView). Some s.status)) c.deref-4.ensures.value in
    let few : length c.args.config.readers.items ≤ 256 = c.in-Ok.ensures.readers in
    let whole : length c.in_ok-statuses.statuses.items ≡ length states = ap length shown ∙ length-map states (λ (s : ReaderView). Some s.status) in
    let places : length c.in_ok-ports.ports.items ≡ length states = search rules in (
      omega (arith, whole, count, few),
      omega (arith, whole, places),
      λ sound. (
        [],
        stands_first g.C.Catalog.decoding (record { catalog = c.args.catalog; config = c.args.config; index = 0; failed = false; discovery = c.in_ok-discovery.discovery; readers = states; statuses = c.in_ok-statuses.statuses.items })
            refl refl c.in_ok-discovery.ensures.known c.in_ok-discovery.ensures.ok count shown start,
      ),
      subst AreCounts (sym c.new-2.ensures) refl,
    )
