use Rattle.std.proofs.Common.{◌≡◌, ◌∷◌, ◌++◌, [], List, true, false, ◌&&◌, if◌then◌else◌, Some, None, map, rules, sym, ap, ◌∙◌}
use Rattle.rtps_types.specs.declared.identity.Guid.{Guid}
use Rattle.rtps_proxy.specs.Matches.{is_at}
use Rattle.rtps_discovery.specs.Announcement.{Offer}
use Rattle.rtps_discovery.specs.Changes.{told}
use Rattle.rtps_discovery.specs.Kept.{participant_in, ranks_at}
use Rattle.rtps_discovery.specs.Known.{is_joined, own_or, standing}
use Rattle.rtps_discovery.specs.Moving.{meeting, ranked_with}
use Rattle.rtps_discovery.specs.Seen.{change_seen}
use Rattle.rtps_discovery.proofs.Moving.{one_more_told}
use Rattle.rtps_discovery.proofs.join.meet_writers.Goals as goal

pub entries-preserved : goal.entries-preserved
entries-preserved g c =
    let rank = c.args.newcomer.rank in
    let r = c.args.newcomer.reader.now in
    let e : Guid × Offer = (c.in-Some.writer.now, c.in-Some.offer.now) in
    let left = c.next.new.self in
    let cut : c.entries.entries ≡ e ∷ left = search rules in
    let locators : c.locators_for.result.now ≡ own_or e.1.locators (participant_in e.0.prefix c.args.participants.now.entries) =
    c.locators_for.ensures ∙ ap (λ ls. own_or ls (participant_in e.0.prefix c.args.participants.now.entries)) c.locators.ensures in
    let joined : is_joined (standing r (Some e.1)) ≡ true = sym c.in_ok-is_matched.ensures.matched ∙ c.if-not-is_matched.false in
    record {
      changes =
          one_more_told (meeting c.args.participants.now.entries rank r) e left c.entries.entries (map change_seen c.entries.changes.items) (map change_seen c.meet.new.changes.items)
          cut
          (c.in_ok-is_matched.ensures.changes ∙ ap (λ ls. map change_seen c.entries.changes.items ++ told rank e.0 ls (standing r None) (standing r (Some e.1))) locators)
          ∙ c.entries.invariant.changes;
      ranks = λ q.
          let x = ranks_at q c.entries.index.entries in
          ap (ranked_with rank r left q) (c.in_ok-add_rank.ensures q ∙ ap (λ b. if b && is_at e.0 q then x ++ rank ∷ [] else x) (sym joined))
          ∙ ap (λ (es : List (Guid × Offer)). ranked_with rank r es q x) (sym cut) ∙ c.entries.invariant.ranks q;
    }

pub entries-preserved-then-not-is_matched : goal.entries-preserved-then-not-is_matched
entries-preserved-then-not-is_matched g c =
    let rank = c.args.newcomer.rank in
    let r = c.args.newcomer.reader.now in
    let e : Guid × Offer = (c.in-Some.writer.now, c.in-Some.offer.now) in
    let left = c.next.new.self in
    let cut : c.entries.entries ≡ e ∷ left = search rules in
    let locators : c.locators_for.result.now ≡ own_or e.1.locators (participant_in e.0.prefix c.args.participants.now.entries) =
    c.locators_for.ensures ∙ ap (λ ls. own_or ls (participant_in e.0.prefix c.args.participants.now.entries)) c.locators.ensures in
    let apart : is_joined (standing r (Some e.1)) ≡ false = sym c.in_ok-is_matched.ensures.matched ∙ c.if-not-is_matched.true in
    record {
      changes =
          one_more_told (meeting c.args.participants.now.entries rank r) e left c.entries.entries (map change_seen c.entries.changes.items) (map change_seen c.meet.new.changes.items)
          cut
          (c.in_ok-is_matched.ensures.changes ∙ ap (λ ls. map change_seen c.entries.changes.items ++ told rank e.0 ls (standing r None) (standing r (Some e.1))) locators)
          ∙ c.entries.invariant.changes;
      ranks = λ q.
          let x = ranks_at q c.entries.index.entries in
          ap (λ b. ranked_with rank r left q (if b && is_at e.0 q then x ++ rank ∷ [] else x)) (sym apart)
          ∙ ap (λ (es : List (Guid × Offer)). ranked_with rank r es q x) (sym cut) ∙ c.entries.invariant.ranks q;
    }
