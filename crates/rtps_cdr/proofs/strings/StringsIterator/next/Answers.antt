use Rattle.std.proofs.Common.{◌≡◌, ◌-◌, ◌∷◌, sym, ◌∙◌, rules}
use Rattle.rtps_cdr.specs.Reading.{start, placed, texts_left}
use Rattle.rtps_cdr.proofs.Texts.{texts_first, texts_others, texts_sound}
use Rattle.rtps_cdr.proofs.strings.StringsIterator.next.Goals as goal

pub invariant_of-self : goal.invariant_of-self
invariant_of-self c = (c.in-Ok.ensures.within, texts_others c.self.inside.left _ c.in-Ok.text c.in-Ok.after c.if-self-eq0.false c.self.invariant.1 c.in-Ok.ensures.value)

pub unreachable-requires : goal.unreachable-requires
unreachable-requires c = texts_sound c.self.inside.left _ _ c.if-self-eq0.false c.self.invariant.1 c.in-Err.ensures.value

pub returns-clause-steps : goal.returns-clause-steps
returns-clause-steps c = sym c.self.view_is ∙ texts_first c.self.inside.left _ c.in-Ok.text c.in-Ok.after c.if-self-eq0.false c.self.invariant.1 c.in-Ok.ensures.value

pub returns-clause-goes : goal.returns-clause-goes
returns-clause-goes c =
    let steps : c.args.self.now ≡ c.in-Ok.text.now ∷ texts_left (c.self.inside.left - 1) (placed (start c.self.inside.endian c.self.inside.octets.now) c.in-Ok.after) =
    sym c.self.view_is ∙ texts_first c.self.inside.left _ c.in-Ok.text c.in-Ok.after c.if-self-eq0.false c.self.invariant.1 c.in-Ok.ensures.value in
    rw steps (search rules)
