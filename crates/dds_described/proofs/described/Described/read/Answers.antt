use Rattle.std.proofs.Common.{ℕ, List, Ok, ap, sym, ◌∙◌, length}
use Rattle.dds_xcdr.specs.TopicType.{topic_type}
use Rattle.dds_described.proofs.Bodies.{body_is, body_is_none}
use Rattle.dds_described.proofs.Fronts.{one_front}
use Rattle.dds_described.proofs.described.Described.read.Goals as goal

pub returns-in_ok-from_slice-in-Ok-clause-only : goal.returns-in_ok-from_slice-in-Ok-clause-only
returns-in_ok-from_slice-in-Ok-clause-only c = λ k is.
    let found = c.in-Ok.ensures.only k.form (length k.octets) is.form is.value in
    ap Ok (one_front (topic_type c.args.self.now.topic) c.args.kind c.args.body.now
    c.in_ok-from_slice-in-Ok.field-0.items c.in-Some.form c.in-Ok.count k
    (cc (c.of_kind.ensures, c.in-Some.is))
    (c.in_ok-from_slice-in-Ok.ensures.items ∙ c.split_at.ensures.front) (cc found) is)

pub returns-in-Err-clause-only : goal.returns-in-Err-clause-only
returns-in-Err-clause-only c = λ k is.
    absurd (cc (c.in-Err.ensures.only k.form (length k.octets) is.form is.value))

pub returns-in_ok-from_slice-in-Ok-clause-meaning :
    goal.returns-in_ok-from_slice-in-Ok-clause-meaning
returns-in_ok-from_slice-in-Ok-clause-meaning c =
    body_is (topic_type c.args.self.now.topic) c.args.kind c.args.body.now c.in-Some.form
    c.in-Ok.count (sym c.of_kind.ensures ∙ c.in-Some.is) c.in-Ok.ensures.found
    ∙ ap (λ (os : List ℕ). Ok (record { form = c.in-Some.form; octets = os }))
    (sym (c.in_ok-from_slice-in-Ok.ensures.items ∙ c.split_at.ensures.front))

pub returns-in-Err-clause-meaning : goal.returns-in-Err-clause-meaning
returns-in-Err-clause-meaning c =
    body_is_none (topic_type c.args.self.now.topic) c.args.kind c.args.body.now c.in-Some.form
    (sym c.of_kind.ensures ∙ c.in-Some.is)
    (λ n begins. absurd (cc (c.in-Err.ensures.only c.in-Some.form n
    (sym c.of_kind.ensures ∙ c.in-Some.is) begins)))
