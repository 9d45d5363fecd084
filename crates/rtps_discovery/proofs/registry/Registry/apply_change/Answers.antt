use Rattle.std.proofs.Common.{map, refl}
use Rattle.rtps_discovery.specs.Kept.{kept}
use Rattle.rtps_discovery.specs.Seen.{announcement_seen, change_seen}
use Rattle.rtps_discovery.proofs.Applying.{one}
use Rattle.rtps_discovery.proofs.registry.Registry.apply_change.Goals as goal

pub returns-clause-applied : goal.returns-clause-applied
returns-clause-applied g c =
    rw (← c.in-Some.ensures)
    (one (announcement_seen c.in-Some.announcement) (kept c.args.self.now) (kept c.apply.new.self) (map change_seen c.args.changes.now.items) (map change_seen c.apply.new.changes.items) c.in_ok-apply.ensures)

pub returns-clause-ignored : goal.returns-clause-ignored
returns-clause-ignored g c = rw (← c.in-Some.ensures) refl
