-- The code's types as contracts see them, with texts as lists of octets.
use Rattle.std.specs.Prelude.{ℕ, List, [], Option, Some, None, Result, Ok, Err}
use Rattle.std.specs.Option.{option_map}
use Rattle.std.specs.Borrow.{Bor}
use Rattle.rtps_types.specs.declared.identity.Guid.{Guid}
use Rattle.dds_qos.specs.declared.fault.Malformed.{Malformed}
use Rattle.dds_qos.specs.declared.settings.Settings.{Settings}
use Rattle.dds_qos.specs.Settings as settings

-- the view of a text, if there is one
abbrev pub text_seen : Option (Bor (List ℕ)) → Option (List ℕ)
text_seen t = option_map (λ (text : Bor (List ℕ)). text.now) t

-- the view of partition names; none is the empty list
abbrev pub names_seen : Option (List (List ℕ)) → List (List ℕ)
names_seen None = []
names_seen (Some names) = names

-- the view of the settings of a record
abbrev pub settings_seen : Settings → settings.Settings
settings_seen s = record {
  lease = s.lease;
  topic = text_seen s.topic;
  type_name = text_seen s.type_name;
  policies = s.policies;
  partitions = names_seen s.partitions;
  unicast = s.unicast;
  default_unicast = s.default_unicast;
  metatraffic_unicast = s.metatraffic_unicast;
  participant = s.participant;
  endpoint = s.endpoint;
  builtin_endpoints = s.builtin_endpoints;
}

-- the view of a decoded record; None if it is malformed
abbrev pub said : Result Settings Malformed → Option settings.Settings
said (Ok s) = Some (settings_seen s)
said (Err fault) = None

-- the view of a decoded guid; None if it is malformed
abbrev pub named : Result (Option Guid) Malformed → Option (Option Guid)
named (Ok guid) = Some guid
named (Err fault) = None
