use Rattle.std.proofs.Common.{◌∷◌, sym, ap, ◌∙◌, subst}
use Rattle.dds_cache.specs.Calls.{WasTaken}
use Rattle.dds_cache.specs.Standing.{CacheView, StandsAt}
use Rattle.dds_cache.specs.Answered.{answered, unread}
use Rattle.dds_cache.proofs.Seeing.{from_parts, to_parts}
use Rattle.dds_cache.proofs.reader.DataReader.take_next_sample.Goals as goal

pub returns-clause-answer : goal.returns-clause-answer
returns-clause-answer g c = λ past s.
    let i = c.self.inside in
    let old = to_parts past i.index i.shelf.entries (subst (StandsAt past) (sym c.self.view_is) s) in
    c.take_next.ensures.answer past old ∙ ap (λ (k : CacheView g.row.V.Denot). answered k.keep past 1 unread) c.self.view_is

pub returns-clause-stands : goal.returns-clause-stands
returns-clause-stands g c = λ past s.
    let i = c.self.inside in
    let old = to_parts past i.index i.shelf.entries (subst (StandsAt past) (sym c.self.view_is) s) in
    from_parts (WasTaken 1 unread ∷ past) c.take_next.new.index c.take_next.new.entries (c.take_next.ensures.stands past old)
