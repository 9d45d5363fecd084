use Rattle.std.proofs.Common.{◌≡◌, ◌==◌, None, is_some, not, ◌||◌}
use Rattle.std.specs.List.{list_all}
use Rattle.rtps_cdr.specs.Reading.{start}
use Rattle.dds_qos.specs.Settings.{as_some, last}
use Rattle.dds_qos.specs.Values.{guid_in}
use Rattle.dds_qos.proofs.settings.guid_named.Given as goal

abbrev pub invariant-loop-param : goal.invariant-loop-param
invariant-loop-param l =
    (list_all (λ p. not (p.id == l.id) || is_some (guid_in (start l.endian p.value))) l.param-iterator
    ≡ list_all (λ p. not (p.id == l.id) || is_some (guid_in (start l.endian p.value))) l.list.parameters)
    × (last l.id (as_some guid_in) l.endian l.param-iterator l.named
    ≡ last l.id (as_some guid_in) l.endian l.list.parameters None)
