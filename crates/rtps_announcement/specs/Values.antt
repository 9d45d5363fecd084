-- The values of parameters (DDSI-RTPS 9.3.1, 9.3.2, 9.6.3), little-endian.
use Rattle.std.specs.Prelude.{◌≡◌, ℕ, ◌^◌, ◌≤◌, ◌<◌, List, ◌++◌, length, replicate, FitsSigned}
use Rattle.std.specs.Int.{w32, cast_unsigned}
use Rattle.rtps_types.specs.declared.field.Endian.TheVariants.{Little}
use Rattle.rtps_types.specs.declared.identity.EntityId.{EntityId}
use Rattle.rtps_types.specs.declared.identity.GuidPrefix.{GuidPrefix}
use Rattle.rtps_types.specs.declared.locator.Locator.{Locator}
use Rattle.rtps_types.specs.declared.time.Duration.{Duration}
use Rattle.rtps_types.specs.Field.{encoded}
use Rattle.rtps_cdr.specs.Cdr.{Sequence, Text, padding}
use Rattle.rtps_cdr.specs.Writing.{written}

-- a guid: the prefix and the entity
abbrev pub guid_value : GuidPrefix → EntityId → List ℕ
guid_value prefix entity = prefix.0 ++ entity.0

-- a locator of UDP over IPv4: kind 1, the port, and sixteen octets that end with the address
abbrev pub locator_value : Locator → List ℕ
locator_value locator =
    encoded Little 4 1 ++ encoded Little 4 locator.port ++ replicate 12 0 ++ locator.address

-- a duration: seconds, with a sign, and the fraction in units of 2^-32 seconds
abbrev pub duration_value : Duration → List ℕ
duration_value d =
    encoded Little 4 (cast_unsigned w32 d.seconds) ++ encoded Little 4 d.fraction

-- a locator of UDP over IPv4 that can be written: its port isn't 0, and its address has four octets
pub record IsUdp (locator : Locator) : Type 0 where
  pub some : 1 ≤ locator.port
  pub port : locator.port ≤ 65535
  pub address : length locator.address ≡ 4

-- a duration whose parts have 32 bits
pub record IsDuration (d : Duration) : Type 0 where
  pub seconds : FitsSigned w32 d.seconds
  pub fraction : d.fraction < 2 ^ 32

-- the value of a kind, a number of 32 bits
abbrev pub kind_value : ℕ → List ℕ
kind_value kind = encoded Little 4 kind

-- octets with zeros up to a whole word (9.4.2.11)
abbrev pub filled : List ℕ → List ℕ
filled octets = octets ++ replicate (padding 4 (length octets)) 0

-- a topic or a type, and the names of partitions
abbrev pub text_value : List ℕ → List ℕ
text_value text = filled (written Text 0 Little text)

abbrev pub names_value : List (List ℕ) → List ℕ
names_value names = filled (written (Sequence Text) 0 Little names)
