use Rattle.std.proofs.Common.{◌∷◌, sym, subst}
use Rattle.dds_cache.specs.Calls.{Accepted}
use Rattle.dds_cache.specs.Standing.{StandsAt, parts}
use Rattle.dds_cache.proofs.Answering.{stands_same}
use Rattle.dds_cache.proofs.Seeing.{from_parts, to_parts}
use Rattle.dds_cache.proofs.reader.DataReader.accept.Goals as goal
use Rattle.dds_cache.proofs.reader.DataReader.accept.Goals.{in-Ok, in-Err}

pub returns-clause-stands : goal.returns-clause-stands
returns-clause-stands g c = λ past s.
    let i = c.self.inside in
    let old = to_parts past i.index i.shelf.entries (subst (StandsAt past) (sym c.self.view_is) s) in
    elim c.match-accept.branch [
      | in-Ok w ↦ rw w.result-is (from_parts (Accepted c.args.notice ∷ past) c.accept.new.index c.accept.new.entries (w.in-Ok.ensures.stands past old))
      | in-Err w ↦ rw w.result-is tt
    ]

pub returns-clause-err : goal.returns-clause-err
returns-clause-err g c = λ past s.
    let i = c.self.inside in
    let old = to_parts past i.index i.shelf.entries (subst (StandsAt past) (sym c.self.view_is) s) in
    elim c.match-accept.branch [
      | in-Ok w ↦ rw w.result-is tt
      | in-Err w ↦ rw w.result-is (from_parts past c.accept.new.index c.accept.new.entries (stands_same past (parts {A = g.row.A.Denot} {M = g.row.V.Denot} i.index i.shelf.entries) (parts {A = g.row.A.Denot} c.accept.new.index c.accept.new.entries) w.in-Err.ensures.err old))
    ]
