use Rattle.std.proofs.Common.{◌∷◌, Some, map, refl, sym, ap, ◌∙◌, subst}
use Rattle.dds_cache.specs.Answered.{answered}
use Rattle.dds_cache.specs.Calls.{WasRead}
use Rattle.dds_cache.specs.Standing.{CacheView, StandsAt, parts}
use Rattle.dds_cache.proofs.Answering.{stands_same}
use Rattle.dds_cache.proofs.Seeing.{from_parts, to_parts}
use Rattle.dds_cache.proofs.reader.DataReader.read.Goals as goal

pub returns-in-Ok : goal.returns-in-Ok
returns-in-Ok g c =
    let i = c.self.inside in
    let keep = c.read_some.ensures.keep ∙ ap (λ (k : CacheView g.row.V.Denot). k.keep) c.self.view_is in (
      (
        refl,
        λ _. tt,
        (
          keep,
          (λ past s. from_parts (WasRead c.args.max c.args.condition ∷ past) c.read_some.new.index c.read_some.new.shelf.entries (c.in-Ok.ensures.stands past (to_parts past i.index i.shelf.entries (subst (StandsAt past) (sym c.self.view_is) s)))),
          (λ past s. tt),
        ),
      ),
      record {
        after = tt;
        answers = λ past s. c.in-Ok.ensures.answers past (to_parts past i.index i.shelf.entries (subst (StandsAt past) (sym c.self.view_is) s))
            ∙ ap (λ (k : CacheView g.row.V.Denot). map (λ x. Some x) (answered k.keep past c.args.max c.args.condition)) c.self.view_is;
      },
    )

pub returns-in-Err : goal.returns-in-Err
returns-in-Err g c =
    let i = c.self.inside in
    let keep = c.read_some.ensures.keep ∙ ap (λ (k : CacheView g.row.V.Denot). k.keep) c.self.view_is in (
      (
        refl,
        λ _. tt,
        (
          keep,
          (λ past s. tt),
          (λ past s. from_parts past c.read_some.new.index c.read_some.new.shelf.entries (stands_same past (parts {A = g.row.A.Denot} i.index i.shelf.entries) (parts {A = g.row.A.Denot} c.read_some.new.index c.read_some.new.shelf.entries) c.in-Err.ensures.err (to_parts past i.index i.shelf.entries (subst (StandsAt past) (sym c.self.view_is) s)))),
        ),
      ),
      record { after = tt; answers = λ past s. tt },
    )
