-- The announcers, by their entities (DDSI-RTPS 8.5.3, 8.5.4, 9.3.1.3).
use Rattle.std.specs.Prelude.{Option, Some, None, if◌then◌else◌}
use Rattle.std.specs.Str.{bytes_eq}
use Rattle.rtps_types.specs.declared.identity.EntityId.{EntityId}
use Rattle.rtps_discovery.specs.declared.announcer.Announcer.{Announcer}
use Rattle.rtps_discovery.specs.declared.announcer.Announcer.TheVariants as announcer
use Rattle.rtps_discovery.specs.Known.{publications_writer, spdp_writer, subscriptions_writer}

-- the announcer with an entity; none for any other writer
abbrev pub announcer_at : EntityId → Option Announcer
announcer_at writer =
    if bytes_eq writer.0 spdp_writer.0 then Some announcer.Participant
    else if bytes_eq writer.0 publications_writer.0 then Some announcer.Publications
    else if bytes_eq writer.0 subscriptions_writer.0 then Some announcer.Subscriptions
    else None
