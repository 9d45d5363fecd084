use Rattle.std.proofs.Common.{◌≡◌, ◌+◌, ◌++◌, ◌∷◌, [], length, ap, ◌∙◌, rules}
use Rattle.dds_cache.specs.Coming.{left_by_number}
use Rattle.dds_cache.proofs.Admitting.{admitted_by}
use Rattle.dds_cache.proofs.Doing.{makes_as}
use Rattle.dds_cache.proofs.accept.admit.Goals as goal

pub returns-clause-stands : goal.returns-clause-stands
returns-clause-stands g c = λ past told s.
    let n = c.args.notice in
    let m = makes_as n.place n.writer n.what c.args.of.0 c.args.of.1 told in
    let v = c.args.entries.now in
    let r = c.make_room.new.self in
    let sized : length c.args.of.0.0 ≡ 16 = search rules in
    admitted_by {A = g.row.A.Denot} {M = g.row.V.Denot} past c.args.index.now c.arrive.new.index v c.discard.new.entries s n m.entry m.one n.writer c.args.of.0 c.args.of.1 c.next.result c.in-Ok.oldest
    m.writer m.key m.value (c.next.ensures ∙ c.make_room.ensures.next) c.arrive.ensures.keep c.in-Ok.ensures.arrives
    (c.discard.ensures.next ∙ c.put_made.ensures.next m.entry m.one ∙ ap (λ k. k + 1) c.make_room.ensures.next)
    (c.discard.ensures.left
    ∙ ap (left_by_number c.in-Ok.oldest)
    (c.put_made.ensures.put m.entry m.one ∙ ap (λ es. es ++ (r.next, m.entry) ∷ []) c.make_room.ensures.entries ∙ ap (λ k. v.entries ++ (k, m.entry) ∷ []) c.make_room.ensures.next))
    sized
