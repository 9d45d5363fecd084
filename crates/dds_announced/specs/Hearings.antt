-- What the announcer hears of the inputs of a run (DDSI-RTPS 8.5.3, 8.5.4).
use Rattle.std.specs.Prelude.{List, [], ◌∷◌, ◌++◌, map}
use Rattle.std.specs.List.{flat_map}
use Rattle.rtps_types.specs.declared.identity.GuidPrefix.{GuidPrefix}
use Rattle.rtps_discovery.specs.declared.config.Config.{Config}
use Rattle.rtps_run.specs.Input.{AddReader, Datagram, Input, RemoveReader, Tick}
use Rattle.rtps_announcer.specs.declared.hearing.Hearing.{Hearing}
use Rattle.rtps_announcer.specs.declared.hearing.Hearing.TheVariants.{Joins, Parts, Passes}
use Rattle.rtps_announcer.specs.Hearing.{hearings_of}

-- of one input: its moment passes, and then what its datagram says is heard
abbrev pub heard_of : GuidPrefix → Input → List Hearing
heard_of own (Datagram moment octets) = hearings_of own moment octets
heard_of own (Tick moment) = Passes moment ∷ []
heard_of own (AddReader r) = Joins ∷ []
heard_of own (RemoveReader rank) = Parts rank ∷ []

-- of inputs, one after the other
abbrev pub all_heard : GuidPrefix → List Input → List Hearing
all_heard own inputs = flat_map (heard_of own) inputs

-- from the start on: first each reader of the configuration comes
abbrev pub heard_at : Config → List Input → List Hearing
heard_at config inputs =
    map (λ r. Joins) config.readers.items ++ all_heard config.own inputs
