-- The names of the faults of a configuration.
use Rattle.std.specs.Prelude.{ℕ, List, codes}
use Rattle.rtps_discovery.specs.declared.faults.ConfigFault.{ConfigFault}
use Rattle.rtps_discovery.specs.declared.faults.ConfigFault.TheVariants.{Readers, BadReader, BadFixed}

-- the name of a fault
abbrev pub name_of : ConfigFault → List ℕ
name_of Readers = codes "Readers"
name_of BadReader = codes "BadReader"
name_of BadFixed = codes "BadFixed"
