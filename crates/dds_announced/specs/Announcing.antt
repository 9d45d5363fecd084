-- How a participant is to announce itself, and why it can't (DDSI-RTPS 8.5.3.2).
use Rattle.std.specs.Prelude.{ℕ, ◌+◌, ◌*◌, ◌==◌, ◌||◌, nat_le, nat_lt, pos, List, [], ◌∷◌, length, Bool, false, not, Option, Some, None, if◌then◌else◌}
use Rattle.rtps_types.specs.declared.locator.Locator.{Locator}
use Rattle.rtps_discovery.specs.Leases.{lease_of}
use Rattle.rtps_announcer.specs.Participant.{is_unicast}
use Rattle.rtps_announcer.specs.declared.rules.Rules.{Rules}
use Rattle.dds_announced.specs.declared.announcing.Announcing.{Announcing}
use Rattle.dds_announced.specs.declared.announcing.AnnounceFault.{AnnounceFault}
use Rattle.dds_announced.specs.declared.announcing.AnnounceFault.TheVariants.{Everyone, Period, Place}

-- the numbers that are meant, `Rules::DEFAULT`; times are in milliseconds
abbrev pub default_rules : Rules
default_rules = record { period = 1000; reminder = 200; reminders = 25; again = 16; peers = 256 }

-- the group at which the participants of a domain hear of each other: 239.255.0.1, and the port base
-- PB with the domain gain DG times the domain (DDSI-RTPS 9.6.1.1, 9.6.1.4)
abbrev pub discovery_group : ℕ → Locator
discovery_group domain =
    record { port = 7400 + 250 * domain; address = 239 ∷ 255 ∷ 0 ∷ 1 ∷ [] }

-- how a participant of a domain announces itself that is reached at these locators, if nothing else
-- is asked for: by the rules that are meant, with a lease of ten seconds, to the group of the domain
abbrev pub announcing_in : ℕ → Locator → Locator → Announcing
announcing_in domain discovery user = record {
  rules = default_rules;
  here = record {
    discovery = discovery;
    user = user;
    lease = record { seconds = pos 10; fraction = 0 };
  };
  everyone = discovery_group domain ∷ [];
}

-- a period isn't below a lease, where that ends
abbrev pub outlasts : ℕ → Option ℕ → Bool
outlasts period None = false
outlasts period (Some lease) = nat_le lease period

abbrev pub is_bad_place : Locator → Bool
is_bad_place l = l.port == 0 || not (is_unicast l)

-- the first fault in this order
abbrev pub fault_of : Announcing → Option AnnounceFault
fault_of a =
    if a.rules.period == 0 || outlasts a.rules.period (lease_of a.here.lease)
    then Some Period
    else if is_bad_place a.here.discovery || is_bad_place a.here.user
    then Some Place
    else if nat_lt 64 (length a.everyone)
    then Some Everyone
    else None
