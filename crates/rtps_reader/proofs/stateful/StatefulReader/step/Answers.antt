use Rattle.std.proofs.Common.{◌≡◌, ◌++◌, ◌∙◌, append-nil, false, map, sym, ap, subst}
use Rattle.rtps_proxy.specs.Effects.{match_event}
use Rattle.rtps_proxy.specs.Matches.{AreTaken, given_where, match_with}
use Rattle.rtps_reader.specs.Notice.{answer_view, notice_view}
use Rattle.rtps_reader.specs.Reader.{reader_after, sends, tells}
use Rattle.rtps_reader.specs.Standing.{StandsAt, kept_by}
use Rattle.rtps_reader.specs.Step.{StepView, Takes, asked}
use Rattle.rtps_reader.proofs.Stepping.{stands_taken}
use Rattle.rtps_reader.proofs.Telling.{none_said, none_told, on_ok, on_ok_then, said_taken, told_taken}
use Rattle.rtps_reader.proofs.stateful.StatefulReader.step.Goals as goal

pub returns-then-not-is_matched-clause-stands : goal.returns-then-not-is_matched-clause-stands
returns-then-not-is_matched-clause-stands g c r given stands =
    let d = g.C.Catalog.decoding c.args.decoder.now in
    let place = c.args.step.now.place in
    let w = c.in-Event.writer in
    let e = match_event c.in-Event.time c.in-Event.body.now in
    let is : asked c.args.step.now.what ≡ Takes w e = ap asked c.in-Event.is in
    let taken = c.in_ok-is_matched-in-Event.ensures in
    subst (λ (a : StepView). StandsAt (reader_after r a) (given ++ tells d r place a) (kept_by false c.take.new.self)) (sym is)
    (stands_taken d r given place w e c.args.self.now c.take.new.self (given_where c.in_ok-is_matched-in-Event.is_matched c.take.new.effects) stands taken.reader (taken.stands r.matches stands.matches) (taken.effects r.matches stands.matches) taken.counts)

pub returns-then-not-is_matched-clause-notices : goal.returns-then-not-is_matched-clause-notices
returns-then-not-is_matched-clause-notices g c r given stands =
    let d = g.C.Catalog.decoding c.args.decoder.now in
    let place = c.args.step.now.place in
    let w = c.in-Event.writer in
    let e = match_event c.in-Event.time c.in-Event.body.now in
    let is : asked c.args.step.now.what ≡ Takes w e = ap asked c.in-Event.is in
    let none = subst (λ b. AreTaken (match_with w r.matches) e (given_where b c.take.new.effects)) c.if-not-is_matched.true (c.in_ok-is_matched-in-Event.ensures.effects r.matches stands.matches) in
    let old = map (notice_view g.C.Catalog.view) c.args.output.now.notices.items in
    subst (λ (a : StepView). old ≡ old ++ tells d r place a) (sym is) (rw (none_told g.row.A.Denot d place w (match_with w r.matches) e none) (sym (append-nil old)))

pub returns-then-not-is_matched-clause-answers : goal.returns-then-not-is_matched-clause-answers
returns-then-not-is_matched-clause-answers g c r given stands =
    let place = c.args.step.now.place in
    let w = c.in-Event.writer in
    let e = match_event c.in-Event.time c.in-Event.body.now in
    let is : asked c.args.step.now.what ≡ Takes w e = ap asked c.in-Event.is in
    let none = subst (λ b. AreTaken (match_with w r.matches) e (given_where b c.take.new.effects)) c.if-not-is_matched.true (c.in_ok-is_matched-in-Event.ensures.effects r.matches stands.matches) in
    let old = map answer_view c.args.output.now.answers.items in
    subst (λ (a : StepView). old ≡ old ++ sends r place a) (sym is) (rw (none_said g.row.A.Denot place (match_with w r.matches) e none) (sym (append-nil old)))

pub returns-else-not-is_matched-clause-stands : goal.returns-else-not-is_matched-clause-stands
returns-else-not-is_matched-clause-stands g c r given stands =
    let d = g.C.Catalog.decoding c.args.decoder.now in
    let place = c.args.step.now.place in
    let w = c.in-Event.writer in
    let e = match_event c.in-Event.time c.in-Event.body.now in
    let is : asked c.args.step.now.what ≡ Takes w e = ap asked c.in-Event.is in
    let taken = c.in_ok-is_matched-in-Event.ensures in
    on_ok c.present.result (subst (λ (a : StepView). StandsAt (reader_after r a) (given ++ tells d r place a) (kept_by false c.take.new.self)) (sym is)
    (stands_taken d r given place w e c.args.self.now c.take.new.self (given_where c.in_ok-is_matched-in-Event.is_matched c.take.new.effects) stands taken.reader (taken.stands r.matches stands.matches) (taken.effects r.matches stands.matches) taken.counts))

pub returns-else-not-is_matched-clause-notices : goal.returns-else-not-is_matched-clause-notices
returns-else-not-is_matched-clause-notices g c r given stands =
    let d = g.C.Catalog.decoding c.args.decoder.now in
    let place = c.args.step.now.place in
    let w = c.in-Event.writer in
    let e = match_event c.in-Event.time c.in-Event.body.now in
    let is : asked c.args.step.now.what ≡ Takes w e = ap asked c.in-Event.is in
    let taken = subst (λ b. AreTaken (match_with w r.matches) e (given_where b c.take.new.effects)) c.if-not-is_matched.false (c.in_ok-is_matched-in-Event.ensures.effects r.matches stands.matches) in
    let old = map (notice_view g.C.Catalog.view) c.args.output.now.notices.items in
    on_ok_then c.present.result c.present.ensures.notices (λ told. subst (λ (a : StepView). map (notice_view g.C.Catalog.view) c.present.new.output.notices.items ≡ old ++ tells d r place a) (sym is)
    (told ∙ ap (λ l. old ++ l) (told_taken d place w (match_with w r.matches) e c.take.new.effects taken)))

pub returns-else-not-is_matched-clause-answers : goal.returns-else-not-is_matched-clause-answers
returns-else-not-is_matched-clause-answers g c r given stands =
    let place = c.args.step.now.place in
    let w = c.in-Event.writer in
    let e = match_event c.in-Event.time c.in-Event.body.now in
    let is : asked c.args.step.now.what ≡ Takes w e = ap asked c.in-Event.is in
    let taken = subst (λ b. AreTaken (match_with w r.matches) e (given_where b c.take.new.effects)) c.if-not-is_matched.false (c.in_ok-is_matched-in-Event.ensures.effects r.matches stands.matches) in
    let old = map answer_view c.args.output.now.answers.items in
    on_ok_then c.present.result c.present.ensures.answers (λ said. subst (λ (a : StepView). map answer_view c.present.new.output.answers.items ≡ old ++ sends r place a) (sym is)
    (said ∙ ap (λ l. old ++ l) (said_taken place (match_with w r.matches) e c.take.new.effects taken)))

pub returns-in-Change-clause-stands : goal.returns-in-Change-clause-stands
returns-in-Change-clause-stands g c r given stands =
    rw c.in-Change.is (c.change.ensures.stands (g.C.Catalog.decoding c.args.decoder.now) r given stands)

pub returns-in-Change-clause-notices : goal.returns-in-Change-clause-notices
returns-in-Change-clause-notices g c r given stands =
    rw c.in-Change.is (c.change.ensures.notices (g.C.Catalog.decoding c.args.decoder.now) r)
