use Rattle.std.proofs.Common.{◌≡◌, None, map, ap, ◌∙◌}
use Rattle.std.specs.List.{flat_map}
use Rattle.std.proofs.lemmas.List.{get_or_read}
use Rattle.rtps_discovery.specs.Kept.{kept}
use Rattle.rtps_discovery.specs.Known.{reader_at}
use Rattle.rtps_discovery.specs.Moving.{parting}
use Rattle.rtps_discovery.specs.Seen.{change_seen}
use Rattle.rtps_discovery.proofs.Moving.{parts, reader_got, vacated_set}
use Rattle.rtps_discovery.proofs.registry.Registry.part.Goals as goal

pub returns : goal.returns
returns g c =
    let d = kept c.args.self.now in
    let rank = c.args.rank in
    let here : c.index.result.now ≡ reader_at d.readers rank = get_or_read d.readers _ _ c.requires c.index.ensures None ∙ reader_got d.readers rank in
    parts d rank _ c.forget_rank.new.index.entries c.forget_rank-2.new.index.entries (map change_seen c.in_ok-changes.changes.items)
    (vacated_set d.readers rank) c.forget_rank.ensures c.forget_rank-2.ensures (c.in_ok-changes.ensures ∙ ap (λ r. flat_map (parting d.fixed rank r) d.writers) here)
