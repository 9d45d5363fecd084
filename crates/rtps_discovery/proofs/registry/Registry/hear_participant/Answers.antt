use Rattle.std.proofs.Common.{◌≡◌, true, false, [], map, sym, ap, ◌∙◌}
use Rattle.rtps_receiver.specs.Events.{view}
use Rattle.rtps_discovery.specs.Addressed.{is_for}
use Rattle.rtps_discovery.specs.Kept.{kept}
use Rattle.rtps_discovery.specs.Known.{spdp_reader}
use Rattle.rtps_discovery.specs.Seen.{announcement_seen, change_seen}
use Rattle.rtps_discovery.proofs.Applying.{one}
use Rattle.rtps_discovery.proofs.Ignoring.{data_said}
use Rattle.rtps_discovery.proofs.registry.Registry.hear_participant.Goals as goal

pub returns-clause-applied : goal.returns-clause-applied
returns-clause-applied g c =
    let for_us : is_for (view c.args.event.now).reader spdp_reader ≡ true = sym c.is_for.ensures ∙ c.if-not-is_for.false in
    let none : map change_seen c.none-effects.result.changes.items ≡ [] = ap (map change_seen) c.none-effects.ensures.changes in
    rw (for_us, ← c.in-Some.ensures)
    (one (announcement_seen c.in-Some.announcement) (kept c.args.self.now) (kept c.apply.new.self) [] (map change_seen c.apply.new.changes.items)
    (rw none at c.in_ok-apply.ensures))

pub returns-clause-ignored : goal.returns-clause-ignored
returns-clause-ignored g c =
    let for_us : is_for (view c.args.event.now).reader spdp_reader ≡ true = sym c.is_for.ensures ∙ c.if-not-is_for.false in
    rw (for_us, ← c.in-Some.ensures)
    (c.none-effects.ensures.ignored ∙ sym (data_said (view c.args.event.now).body (announcement_seen c.in-Some.announcement)))

pub returns-then-not-is_for-clause-ignored : goal.returns-then-not-is_for-clause-ignored
returns-then-not-is_for-clause-ignored g c =
    let not_for : is_for (view c.args.event.now).reader spdp_reader ≡ false = sym c.is_for.ensures ∙ c.if-not-is_for.true in
    rw not_for c.silent.ensures.ignored
