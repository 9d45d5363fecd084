-- The octets of a color.
use Rattle.std.specs.Prelude.{ℕ, List}
use Rattle.std.specs.String.{string_bytes}
use Rattle.dds_topic.specs.declared.color.Name.{Name}
use Rattle.dds_topic.specs.declared.color.Name.TheVariants.{Short, Long}

-- the octets of a name, wherever they are
abbrev pub octets_of : {A : Type 0} → Name A → List ℕ
octets_of (Short name) = name.bytes
octets_of (Long name) = string_bytes name
