use Rattle.std.proofs.Common.{◌≡◌, ◌+◌, ◌≤◌, drop, map}
use Rattle.std.specs.Prelude.{option_to_list}
use Rattle.std.specs.List.{flat_map}
use Rattle.rtps_proxy.specs.Change.{change_view}
use Rattle.rtps_discovery.specs.Ignored.{silent_among}
use Rattle.rtps_discovery.specs.Kept.{IsKnown, kept}
use Rattle.rtps_discovery.specs.Known.{Known}
use Rattle.rtps_discovery.specs.Records.{endpoint_in}
use Rattle.rtps_discovery.specs.Seen.{change_seen}
use Rattle.rtps_discovery.proofs.Applying.{Onward}
use Rattle.rtps_discovery.proofs.registry.Registry.apply_ready.Given as goal

-- what is applied so far, with what the changes that are left say, comes to what all say; and so do
-- the records that are ignored
abbrev pub invariant-loop-change : goal.invariant-loop-change
invariant-loop-change g l = record {
  onward : (k : Known) → IsKnown k (kept l.fn.self)
      → Onward k (flat_map (λ s. option_to_list (endpoint_in l.writer.prefix l.writer.entity s)) (map change_view (drop l.change-index l.ready)))
      (flat_map (λ s. option_to_list (endpoint_in l.writer.prefix l.writer.entity s)) (map change_view l.ready)) (kept l.self) (map change_seen l.fn.changes.items) (map change_seen l.changes.items);
  ignored : l.ignored + silent_among (map (endpoint_in l.writer.prefix l.writer.entity) (map change_view (drop l.change-index l.ready)))
      ≡ silent_among (map (endpoint_in l.writer.prefix l.writer.entity) (map change_view l.ready));
  few : l.ignored ≤ l.change-index;
}
