use Rattle.std.proofs.Common.{◌≡◌, ◌+◌, ◌∷◌, ◌++◌, [], Bool, Some, None, drop, map, append_assoc, sym, ap, ◌∙◌}
use Rattle.std.specs.List.{flat_map}
use Rattle.std.proofs.lemmas.List.{drop_more}
use Rattle.rtps_discovery.specs.declared.gone.Gone.{Gone}
use Rattle.rtps_discovery.specs.Known.{standing}
use Rattle.rtps_discovery.specs.Leave.{ending}
use Rattle.rtps_discovery.specs.OneWriter.{met}
use Rattle.rtps_discovery.specs.Seen.{change_seen}
use Rattle.rtps_discovery.proofs.leave.hear_ends.Goals as goal

pub loop-one-preserved : goal.loop-one-preserved
loop-one-preserved g c =
    let i = c.loop-one.one-index in
    let rank = c.args.rank in
    let one = c.one-item.result in
    let reader = c.args.reader.now in
    let left = drop (i + 1) c.args.gone.now in
    let cut : drop i c.args.gone.now ≡ one ∷ left = drop_more c.args.gone.now i one c.loop-one-test.true ∙ ap (λ (x : Gone g.row.A.Denot). x ∷ left) (sym c.one-item.is) in
    let earlier = map change_seen c.loop-one.changes.items in
    let met_now : map change_seen c.meet.new.changes.items ≡ earlier ++ ending rank reader one =
    c.in_ok-_matched.ensures.changes ∙ ap (λ (b : Bool). earlier ++ met (λ _. b) one.writer [] rank (standing reader (Some one.offer)) (standing reader None)) c.has-is_fixed.ensures in
    ap (λ l. l ++ flat_map (ending rank reader) left) met_now
    ∙ append_assoc earlier (ending rank reader one) (flat_map (ending rank reader) left)
    ∙ ap (λ gs. earlier ++ flat_map (ending rank reader) gs) (sym cut) ∙ c.loop-one.invariant
