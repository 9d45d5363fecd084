use Rattle.std.proofs.Common.{◌≡◌, length, map, rules}
use Rattle.rtps_discovery.specs.Kept.{kept}
use Rattle.rtps_discovery.specs.Seen.{change_seen}
use Rattle.rtps_discovery.specs.Start.{wish_of}
use Rattle.rtps_discovery.proofs.Moving.{joins}
use Rattle.rtps_discovery.proofs.registry.Registry.join.Goals as goal

pub returns : goal.returns
returns g c =
    let d = kept c.args.self.now in
    let last : c.len-rank.result ≡ length d.readers = search rules in
    joins d (wish_of c.args.reader.now) c.in_ok-copied_reader.field-0 c.len-rank.result c.push.new.self.items c.meet_writers.new.index.entries (map change_seen c.in_ok-changes.changes.items)
    c.in_ok-copied_reader.ensures last c.in_ok-push.ensures.items c.in_ok-changes.ensures.ranks c.in_ok-changes.ensures.changes
