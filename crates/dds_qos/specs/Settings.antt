-- The contents of a discovery record (DDSI-RTPS 8.5.3, 8.5.4, 9.6.3; DDS 1.4, 2.2.3).
use Rattle.std.specs.Prelude.{ℕ, ◌==◌, List, [], ◌∷◌, Option, Some, None, option_and_then, is_some, Bool, true, not, ◌||◌, if◌then◌else◌}
use Rattle.std.specs.List.{flat_map, list_all}
use Rattle.std.specs.Option.{option_map, option_to_list, unwrap_or}
use Rattle.rtps_types.specs.declared.field.Endian.{Endian}
use Rattle.rtps_types.specs.declared.identity.Guid.{Guid}
use Rattle.rtps_types.specs.declared.locator.Locator.{Locator}
use Rattle.rtps_types.specs.declared.time.Duration.{Duration}
use Rattle.rtps_params.specs.Reading.{Contents, Parameter}
use Rattle.rtps_cdr.specs.Reading.{Cursor, start}
use Rattle.dds_qos.specs.Defaults.{default_policies}
use Rattle.dds_qos.specs.Values.{duration_in, durability_in, guid_in, hash_in, liveliness_in, locator_in, names_in, number_of, order_in, ownership_in, presentation_in, reliability_in, status_in, topic_in}
use Rattle.dds_qos.specs.declared.policies.Policies.{Policies}
use Rattle.dds_qos.specs.declared.policies.Reliability.TheVariants.{Reliable}

-- a value is well-formed for its id; for an id that isn't listed, every value is
unfoldable pub is_sound_by : ℕ → Cursor → Bool
is_sound_by id c =
    if id == 0x0002 then is_some (duration_in c) else
    if id == 0x0005 then is_some (topic_in c) else
    if id == 0x0007 then is_some (topic_in c) else
    if id == 0x001a then is_some (reliability_in c) else
    if id == 0x001b then is_some (liveliness_in c) else
    if id == 0x001d then is_some (durability_in c) else
    if id == 0x001f then is_some (ownership_in c) else
    if id == 0x0021 then is_some (presentation_in c) else
    if id == 0x0023 then is_some (duration_in c) else
    if id == 0x0025 then is_some (order_in c) else
    if id == 0x0027 then is_some (duration_in c) else
    if id == 0x0029 then is_some (names_in c) else
    if id == 0x002f then is_some (locator_in c) else
    if id == 0x0031 then is_some (locator_in c) else
    if id == 0x0032 then is_some (locator_in c) else
    if id == 0x0050 then is_some (guid_in c) else
    if id == 0x0058 then is_some (number_of c) else
    if id == 0x005a then is_some (guid_in c) else
    if id == 0x0070 then is_some (hash_in c) else
    if id == 0x0071 then is_some (status_in c) else
    true

-- a parameter whose value is well-formed for its id
abbrev pub is_sound : Endian → Parameter → Bool
is_sound e p = is_sound_by p.id (start e p.value)

-- the value of the last parameter with an id, or a default if there is none
abbrev pub last : {X : Type 0} → ℕ → (Cursor → Option X) → Endian → List Parameter → X → X
last id read e [] x = x
last id read e (p ∷ ps) x =
    last id read e ps (if p.id == id then unwrap_or (read (start e p.value)) x else x)

-- reads a value for a parameter that has no default
abbrev pub as_some : {X : Type 0} → (Cursor → Option X) → Cursor → Option (Option X)
as_some read c = option_map (λ x. Some x) (read c)

-- the guid in the last parameter with an id, if there is one; None if any parameter with that id
-- has no guid. The other parameters are not checked.
abbrev pub guid_named : ℕ → Contents → Option (Option Guid)
guid_named id list =
    if list_all
    (λ p. not (p.id == id) || is_some (guid_in (start list.endian p.value))) list.parameters
    then Some (last id (as_some guid_in) list.endian list.parameters None)
    else None

-- the locator of a parameter, if the parameter has that id and the locator is kept
abbrev pub locator_at : ℕ → Endian → Parameter → Option Locator
locator_at id e p =
    if p.id == id then option_and_then (λ locator. locator) (locator_in (start e p.value)) else None

-- the locators of all parameters of that id, in order
abbrev pub locators_of : ℕ → Endian → List Parameter → List Locator
locators_of id e ps = flat_map (λ p. option_to_list (locator_at id e p)) ps

-- the settings of a record
pub record Settings : Type 0 where
  pub lease : Option Duration
  pub topic : Option (List ℕ)
  pub type_name : Option (List ℕ)
  pub policies : Policies
  pub partitions : List (List ℕ)
  pub unicast : List Locator
  pub default_unicast : List Locator
  pub metatraffic_unicast : List Locator
  pub participant : Option Guid
  pub endpoint : Option Guid
  pub builtin_endpoints : Option ℕ

-- the settings of a record with nothing but locators: its policies are the defaults of a writer
abbrev pub unsaid : Endian → List Parameter → Settings
unsaid e ps = record {
  lease = None;
  topic = None;
  type_name = None;
  policies = default_policies Reliable;
  partitions = [];
  unicast = locators_of 0x002f e ps;
  default_unicast = locators_of 0x0031 e ps;
  metatraffic_unicast = locators_of 0x0032 e ps;
  participant = None;
  endpoint = None;
  builtin_endpoints = None;
}

-- the policies and the settings, replaced where these parameters give a value
abbrev pub policies_after : Endian → List Parameter → Policies → Policies
policies_after e ps p = record {
  durability = last 0x001d durability_in e ps p.durability;
  presentation = last 0x0021 presentation_in e ps p.presentation;
  deadline = last 0x0023 duration_in e ps p.deadline;
  latency_budget = last 0x0027 duration_in e ps p.latency_budget;
  ownership = last 0x001f ownership_in e ps p.ownership;
  liveliness = last 0x001b liveliness_in e ps p.liveliness;
  reliability = last 0x001a reliability_in e ps p.reliability;
  destination_order = last 0x0025 order_in e ps p.destination_order;
}

abbrev pub settings_after : Endian → List Parameter → Settings → Settings
settings_after e ps s = record {
  lease = last 0x0002 (as_some duration_in) e ps s.lease;
  topic = last 0x0005 (as_some topic_in) e ps s.topic;
  type_name = last 0x0007 (as_some topic_in) e ps s.type_name;
  policies = policies_after e ps s.policies;
  partitions = last 0x0029 names_in e ps s.partitions;
  unicast = s.unicast;
  default_unicast = s.default_unicast;
  metatraffic_unicast = s.metatraffic_unicast;
  participant = last 0x0050 (as_some guid_in) e ps s.participant;
  endpoint = last 0x005a (as_some guid_in) e ps s.endpoint;
  builtin_endpoints = last 0x0058 (as_some number_of) e ps s.builtin_endpoints;
}

-- the settings of a parameter list; None if one of its parameters is malformed, even if it isn't
-- used or is repeated later
unfoldable pub settings_of : Contents → Option Settings
settings_of list =
    if list_all (is_sound list.endian) list.parameters
    then Some (settings_after list.endian list.parameters (unsaid list.endian list.parameters))
    else None
