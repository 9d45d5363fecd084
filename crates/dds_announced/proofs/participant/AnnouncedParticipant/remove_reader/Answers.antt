use Rattle.std.proofs.Common.{rules, ◌≡◌, ◌∙◌, sym}
use Rattle.dds_announced.proofs.Moving.{refuses, sound_after, sound_refused, takes}
use Rattle.dds_announced.proofs.participant.AnnouncedParticipant.remove_reader.Goals as goal

pub invariant_of-self-in-Ok-remove_reader : goal.invariant_of-self-in-Ok-remove_reader
invariant_of-self-in-Ok-remove_reader g c = λ none.
    let both = c.self.invariant c.if-self.false in
    let done = sound_after _ _ _ _ c.in-Ok-remove_reader.ensures.takes in
    (done.0, search rules, both.2 ∙ sym done.1)

pub invariant_of-self-in-Err-remove_reader : goal.invariant_of-self-in-Err-remove_reader
invariant_of-self-in-Err-remove_reader g c = λ none.
    let both = c.self.invariant c.if-self.false in
    let done = sound_refused _ _ _ _ c.in-Err.ensures.takes both.0 (sym c.has_failed-self-inside.ensures ∙ none) in
    (done.0, both.1, both.2 ∙ sym done.1)

pub returns-in_ok-append-in-Ok-remove_reader-clause-takes : goal.returns-in_ok-append-in-Ok-remove_reader-clause-takes
returns-in_ok-append-in-Ok-remove_reader-clause-takes g c =
    rw (← c.self.view_is) (takes _ _ _ _ _ c.if-self.false c.if-self.false c.in-Ok-remove_reader.ensures.takes)

pub returns-in_ok-append-in-Ok-remove_reader-clause-adds : goal.returns-in_ok-append-in-Ok-remove_reader-clause-adds
returns-in_ok-append-in-Ok-remove_reader-clause-adds g c = rw (← c.self.view_is) (λ earlier at. c.in-Ok-remove_reader.ensures.adds earlier at)

pub returns-in-Err-clause-takes : goal.returns-in-Err-clause-takes
returns-in-Err-clause-takes g c =
    let both = c.self.invariant c.if-self.false in
    rw (← c.self.view_is) (refuses _ _ _ _ _ c.if-self.false c.has_failed-self-inside.ensures both.0 c.in-Err.ensures.takes)
