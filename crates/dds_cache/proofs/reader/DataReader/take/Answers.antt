use Rattle.std.proofs.Common.{◌≡◌, ◌∷◌, sym, subst}
use Rattle.std.specs.Prelude.{IfOk}
use Rattle.std.proofs.lemmas.Result.{on_err_weaker, on_ok_weaker}
use Rattle.dds_cache.specs.Calls.{WasTaken}
use Rattle.dds_cache.specs.Effects.{IsSame}
use Rattle.dds_cache.specs.Standing.{CacheView, StandsAt, parts}
use Rattle.dds_cache.specs.Answered.{answered}
use Rattle.dds_cache.proofs.Answering.{stands_same}
use Rattle.dds_cache.proofs.Seeing.{from_parts, to_parts}
use Rattle.dds_cache.proofs.reader.DataReader.take.Goals as goal

pub returns-clause-answers : goal.returns-clause-answers
returns-clause-answers g c = λ past s.
    let i = c.self.inside in
    let old = to_parts past i.index i.shelf.entries (subst (StandsAt past) (sym c.self.view_is) s) in
    subst (λ (k : CacheView g.row.V.Denot). IfOk c.take_some.result (λ taken. taken.items ≡ answered k.keep past c.args.max c.args.condition)) c.self.view_is (c.take_some.ensures.answers past old)

pub returns-clause-stands : goal.returns-clause-stands
returns-clause-stands g c = λ past s.
    let i = c.self.inside in
    let old = to_parts past i.index i.shelf.entries (subst (StandsAt past) (sym c.self.view_is) s) in
    on_ok_weaker c.take_some.result (from_parts (WasTaken c.args.max c.args.condition ∷ past) c.take_some.new.index c.take_some.new.entries) (c.take_some.ensures.stands past old)

pub returns-clause-err : goal.returns-clause-err
returns-clause-err g c = λ past s.
    let i = c.self.inside in
    let old = to_parts past i.index i.shelf.entries (subst (StandsAt past) (sym c.self.view_is) s) in
    on_err_weaker c.take_some.result (λ (same : IsSame (parts {A = g.row.A.Denot} {M = g.row.V.Denot} i.index i.shelf.entries) (parts {A = g.row.A.Denot} c.take_some.new.index c.take_some.new.entries)). from_parts past c.take_some.new.index c.take_some.new.entries (stands_same past (parts {A = g.row.A.Denot} i.index i.shelf.entries) (parts {A = g.row.A.Denot} c.take_some.new.index c.take_some.new.entries) same old)) c.take_some.ensures.err
