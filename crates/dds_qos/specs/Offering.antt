-- What a writer's record offers (DDSI-RTPS 8.5.4.4; DDS 1.4, 2.2.3).
use Rattle.std.specs.Prelude.{◌≡◌, Option, Some, None, Result, Ok, Err}
use Rattle.dds_qos.specs.declared.fault.QosFault.{QosFault}
use Rattle.dds_qos.specs.declared.fault.QosFault.TheVariants.{Malformed, NoMemory}
use Rattle.dds_qos.specs.declared.records.Offered.{Offered}
use Rattle.dds_qos.specs.Settings.{Settings}

-- an offer has the policies and the partitions of a record
pub record IsOffer {A : Type 0} (s : Settings) (o : Offered A) : Type 0 where
  pub policies : o.policies ≡ s.policies
  pub partitions : o.partitions ≡ s.partitions

-- the offer of a record; Malformed exactly where the record has no settings
abbrev pub Offers : {A : Type 0} → Option Settings → Result (Offered A) QosFault → Type 0
Offers (Some s) (Ok offered) = IsOffer s offered
Offers (Some s) (Err Malformed) = ⊥
Offers (Some s) (Err NoMemory) = Unit {0}
Offers None (Ok offered) = ⊥
Offers None (Err Malformed) = Unit {0}
Offers None (Err NoMemory) = ⊥
