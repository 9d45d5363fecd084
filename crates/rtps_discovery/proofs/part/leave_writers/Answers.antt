use Rattle.std.proofs.Common.{◌≡◌, ◌∷◌, ◌++◌, [], Bool, Some, None, map, rules, ap, ◌∙◌}
use Rattle.rtps_types.specs.declared.identity.Guid.{Guid}
use Rattle.rtps_discovery.specs.Announcement.{Offer}
use Rattle.rtps_discovery.specs.Known.{standing}
use Rattle.rtps_discovery.specs.Moving.{parting}
use Rattle.rtps_discovery.specs.OneWriter.{met}
use Rattle.rtps_discovery.specs.Seen.{change_seen}
use Rattle.rtps_discovery.proofs.Moving.{one_more_told}
use Rattle.rtps_discovery.proofs.part.leave_writers.Goals as goal

pub entries-preserved : goal.entries-preserved
entries-preserved g c =
    let rank = c.args.leaver.rank in
    let r = c.args.leaver.reader.now in
    let e : Guid × Offer = (c.in-Some.writer.now, c.in-Some.offer.now) in
    let left = c.next.new.self in
    let cut : c.entries.entries ≡ e ∷ left = search rules in
    let earlier = map change_seen c.entries.changes.items in
    one_more_told (parting c.args.fixed.now.entries rank r) e left c.entries.entries earlier (map change_seen c.meet.new.changes.items)
    cut
    (c.in_ok-_matched.ensures.changes ∙ ap (λ (b : Bool). earlier ++ met (λ _. b) e.0 [] rank (standing r (Some e.1)) (standing r None)) c.is_listed-is_fixed.ensures)
    ∙ c.entries.invariant
