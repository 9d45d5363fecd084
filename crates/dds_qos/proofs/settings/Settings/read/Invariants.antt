use Rattle.std.proofs.Common.{◌≡◌}
use Rattle.std.specs.List.{list_all}
use Rattle.dds_qos.specs.Seen.{settings_seen}
use Rattle.dds_qos.specs.Settings.{is_sound, settings_after, unsaid}
use Rattle.dds_qos.proofs.settings.Settings.read.Given as goal

abbrev pub invariant-loop-param : goal.invariant-loop-param
invariant-loop-param l =
    (list_all (is_sound l.endian) l.param-iterator ≡ list_all (is_sound l.endian) l.list.parameters)
    × (settings_after l.endian l.param-iterator (settings_seen l.settings)
    ≡ settings_after l.endian l.list.parameters (unsaid l.endian l.list.parameters))
