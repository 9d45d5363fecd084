-- What the program measures, and why it doesn't.
use Rattle.std.specs.Prelude.{◌≡◌, ℕ, List, Option, None}
use Rattle.dds_topic.specs.ShapeMeaning.{shape_decoding}
use Rattle.rtps_discovery.specs.declared.config.Config.{Config}
use Rattle.rtps_records.specs.RecordFile.{Record}
use Rattle.rtps_records.specs.Runs.{WroteAll}
use Rattle.rtps_bench.specs.Configs.{IsCause, IsConfigOf}
use Rattle.rtps_bench.specs.Counting.{counts_of}
use Rattle.rtps_bench.specs.Reading.{IsFaultOf}
use Rattle.rtps_bench.specs.Text.{counts_text}
use Rattle.rtps_bench.specs.declared.counts.Counts.{Counts}
use Rattle.rtps_bench.specs.declared.fault.BenchFault.{BenchFault}
use Rattle.rtps_bench.specs.declared.fault.BenchFault.TheVariants.{BadWriter, Clock, Differs, NoText, Run}
use Rattle.rtps_bench.specs.declared.options.Options.{Options}
use Rattle.rtps_records.specs.declared.fault.RunFault.TheVariants.{CannotWrite, CannotReadNorWrite, NoMemory}

-- these are the counts of a run over records, with the configuration that options ask for
abbrev pub AreCountsOf : Options → List Record → Counts → Type 0
AreCountsOf options records counts =
    (config : Config) × IsConfigOf options config
    × (counts ≡ counts_of shape_decoding config records)

-- the text of the counts of the records of an input was written, and nothing else
abbrev pub WroteCounts : Options → Option (List ℕ) → Option (List ℕ) → Option (List ℕ) → Type 0
WroteCounts options input old new =
    (config : Config) × IsConfigOf options config
    × WroteAll (λ records. counts_text (counts_of shape_decoding config records)) input old new None

-- why a run ends with a fault: the options, want of memory, the clock, or another count than before
abbrev pub IsRunFault : Options → BenchFault → Type 0
IsRunFault options NoText = ⊥
IsRunFault options BadWriter = IsCause options BadWriter
IsRunFault options Clock = Unit {0}
IsRunFault options Differs = Unit {0}
IsRunFault options (Run fault) = fault ≡ NoMemory

-- why the program ends with a fault: that of a run, of the input, or of a write
abbrev pub IsFault : Options → Option (List ℕ) → BenchFault → Type 0
IsFault options input (Run CannotWrite) = Unit {0}
IsFault options input (Run CannotReadNorWrite) = ⊥
IsFault options input (Run fault) = IsFaultOf input fault
IsFault options input fault = IsRunFault options fault
