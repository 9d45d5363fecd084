-- Runs over the records of a file: no reader comes.
use Rattle.std.proofs.Common.{◌≡◌, List, [], ◌∷◌, length, map, refl, ap, ◌∙◌}
use Rattle.rtps_types.specs.declared.datagram.Datagram as types
use Rattle.rtps_records.specs.Batches.{record_of}
use Rattle.rtps_records.specs.RecordFile.{Datagram, Record, Tick}
use Rattle.rtps_discovery.specs.declared.config.Config.{Config}
use Rattle.dds_topic.specs.Decoding.{Decoding}
use Rattle.rtps_run.specs.Input.{added, arrived}
use Rattle.rtps_run.specs.Seen.{reader_count}
use Rattle.rtps_run.specs.Standing.{EngineView}
use Rattle.rtps_run.proofs.Running as inputs
use Rattle.rtps_text.specs.Inputs.{StandsAt, inputs_of, run}

none_added : (records : List Record) → added (inputs_of records) ≡ []
none_added [] = refl
none_added (Datagram moment octets ∷ records) = none_added records
none_added (Tick moment ∷ records) = none_added records

pub run_count : {M : Type 0} (decoding : Decoding M) (config : Config) (records : List Record) → reader_count (run decoding config records) ≡ length config.readers.items
run_count decoding config records = inputs.run_count decoding config (inputs_of records) (none_added records)

-- so there is a status for each reader of the configuration
pub shown_count : {C M : Type 0} (decoding : C → Decoding M) (records : List Record) (engine : EngineView C) → StandsAt decoding records engine → length engine.statuses ≡ length engine.config.readers.items
shown_count decoding records engine stands = stands.shows.count ∙ run_count (decoding engine.catalog) engine.config records

-- datagrams are the inputs that the records of them are
pub inputs_are : (ds : List types.Datagram) → map arrived ds ≡ inputs_of (map record_of ds)
inputs_are [] = refl
inputs_are (d ∷ ds) = ap (λ l. arrived d ∷ l) (inputs_are ds)
