use Rattle.std.proofs.Common.{◌≡◌, ◌∙◌, None, [], ap, refl, rules, subst, sym}
use Rattle.std.specs.List.{list_any}
use Rattle.rtps_discovery.specs.Known.{reader_at}
use Rattle.rtps_run.specs.Addressed.{is_named}
use Rattle.rtps_planner.specs.declared.passed_over.PassedOver.{PassedOver}
use Rattle.rtps_planner.specs.PassedOver.{has_reader}
use Rattle.rtps_planner.specs.Plan.{Grow, burst_at}
use Rattle.rtps_planner.proofs.Going.{closes}
use Rattle.rtps_planner.proofs.Passing.{closed_none, closed_some}
use Rattle.rtps_planner.proofs.steps.close.Goals as goal

pub returns-then-not-has_reader-clause-count : goal.returns-then-not-has_reader-clause-count
returns-then-not-has_reader-clause-count g c = (c.in_ok-has_reader.ensures.grows []).count

pub returns-then-not-has_reader-clause-planned : goal.returns-then-not-has_reader-clause-planned
returns-then-not-has_reader-clause-planned g c = λ k es known.
    let b = c.in-Some.burst in
    let old = c.args.planning.now in
    let none : c.take.new.self ≡ None = search rules in
    let readers = c.readers-readers.ensures.known ∙ known.readers in
    let ranks = c.matched-ranks.ensures k known in
    let named : c.in_ok-has_reader.has_reader ≡ has_reader k b.writer b.reader
    = c.in_ok-has_reader.ensures.named
    ∙ ap (λ rs. list_any (λ rank. is_named b.reader (reader_at rs rank)) c.matched-ranks.result.now) readers
    ∙ ap (list_any (λ rank. is_named b.reader (reader_at k.readers rank))) ranks in
    closes es k old _ _ b (search rules) none known
    (subst (Grow es old.lists.items c.add_burst.new.lists.items)
    (ap (λ rs. burst_at es b rs c.matched-ranks.result.now) readers
    ∙ ap (burst_at es b k.readers) ranks) (c.in_ok-has_reader.ensures.grows es)) refl refl
    (ap (λ (p : PassedOver). p.nobody) c.count_nobody.ensures ∙ closed_none k b old.passed.nobody (sym named ∙ c.if-not-has_reader.true))
    (ap (λ (p : PassedOver). p.ignored) c.count_nobody.ensures)

pub returns-else-not-has_reader-clause-count : goal.returns-else-not-has_reader-clause-count
returns-else-not-has_reader-clause-count g c = (c.in_ok-has_reader.ensures.grows []).count

pub returns-else-not-has_reader-clause-planned : goal.returns-else-not-has_reader-clause-planned
returns-else-not-has_reader-clause-planned g c = λ k es known.
    let b = c.in-Some.burst in
    let old = c.args.planning.now in
    let none : c.take.new.self ≡ None = search rules in
    let readers = c.readers-readers.ensures.known ∙ known.readers in
    let ranks = c.matched-ranks.ensures k known in
    let named : c.in_ok-has_reader.has_reader ≡ has_reader k b.writer b.reader
    = c.in_ok-has_reader.ensures.named
    ∙ ap (λ rs. list_any (λ rank. is_named b.reader (reader_at rs rank)) c.matched-ranks.result.now) readers
    ∙ ap (list_any (λ rank. is_named b.reader (reader_at k.readers rank))) ranks in
    closes es k old _ _ b (search rules) none known
    (subst (Grow es old.lists.items c.add_burst.new.lists.items)
    (ap (λ rs. burst_at es b rs c.matched-ranks.result.now) readers
    ∙ ap (burst_at es b k.readers) ranks) (c.in_ok-has_reader.ensures.grows es)) refl refl
    (closed_some k b old.passed.nobody (sym named ∙ c.if-not-has_reader.false))
    (refl)
