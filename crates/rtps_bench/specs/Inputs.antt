-- Runs over the records of a file: each record is an input, a datagram with its moment or a tick.
use Rattle.std.specs.Prelude.{List, map}
use Rattle.rtps_records.specs.RecordFile.{Record, Datagram, Tick}
use Rattle.dds_topic.specs.Decoding.{Decoding}
use Rattle.rtps_discovery.specs.declared.config.Config.{Config}
use Rattle.rtps_run.specs.Input.{Input}
use Rattle.rtps_run.specs.Input as input
use Rattle.rtps_run.specs.Run as inputs
use Rattle.rtps_run.specs.Standing as standing
use Rattle.rtps_run.specs.Standing.{EngineView}
use Rattle.rtps_run.specs.World.{World}

-- the input that a record is
abbrev pub input_of : Record → Input
input_of (Datagram moment octets) = input.Datagram moment octets
input_of (Tick moment) = input.Tick moment

-- the inputs that these records are
abbrev pub inputs_of : List Record → List Input
inputs_of records = map input_of records

-- the world after these records
abbrev pub run : {M : Type 0} → Decoding M → Config → List Record → World M
run decoding config records = inputs.run decoding config (inputs_of records)

-- the same, with the catalog and the configuration of an engine
abbrev pub run_by : {C M : Type 0} → (C → Decoding M) → EngineView C → List Record → World M
run_by decoding engine records = run (decoding engine.catalog) engine.config records

-- the state of an engine is that after these records
abbrev pub StandsAt : {C M : Type 0} → (C → Decoding M) → List Record → EngineView C → Type 0
StandsAt decoding records engine = standing.StandsAt decoding (inputs_of records) engine
