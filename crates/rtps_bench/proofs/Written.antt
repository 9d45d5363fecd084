-- What the program writes, and why it ends with a fault.
use Rattle.std.proofs.Common.{◌≡◌, ℕ, List, Option, None, Some, refl, subst, sym}
use Rattle.std.specs.Io.KnownBytes.{Appends}
use Rattle.rtps_records.specs.RecordFile.{Record}
use Rattle.rtps_records.specs.Runs.{WroteAll}
use Rattle.rtps_records.specs.declared.fault.RunFault.{RunFault}
use Rattle.rtps_records.specs.declared.fault.RunFault.TheVariants.{CannotRead, NotRecordFile, CutRecord, RecordTooLong, TooManyRecords, CannotWrite, CannotReadNorWrite, NoMemory}
use Rattle.rtps_bench.specs.Configs.{IsCause}
use Rattle.rtps_bench.specs.Measuring.{AreCountsOf, IsFault, IsRunFault, WroteCounts}
use Rattle.rtps_bench.specs.Reading.{IsFaultOf, IsRead}
use Rattle.rtps_bench.specs.Text.{counts_text}
use Rattle.rtps_bench.specs.declared.counts.Counts.{Counts}
use Rattle.rtps_bench.specs.declared.fault.BenchFault.{BenchFault}
use Rattle.rtps_bench.specs.declared.fault.BenchFault.TheVariants.{BadWriter, Clock, Differs, NoText, Run}
use Rattle.rtps_bench.specs.declared.options.Options.{Options}

-- the counts of the records were written
pub wrote_counts : (options : Options) (input old new : Option (List ℕ)) (records : List Record) (counts : Counts) → IsRead input records None → AreCountsOf options records counts
    → Appends old new (counts_text counts) → WroteCounts options input old new
unfolding WroteAll
wrote_counts options None old new records counts read are appends = (are.0, are.1, tt)
wrote_counts options (Some octets) old new records counts read are appends =
    (are.0, are.1, (records, read, subst (λ (c : Counts). Appends old new (counts_text c)) are.2 appends))

-- a fault of the file
pub file_fault : (options : Options) (input : Option (List ℕ)) (fault : RunFault) → IsFaultOf input fault → IsFault options input (Run fault)
file_fault options input CannotRead h = h
file_fault options input NotRecordFile h = h
file_fault options input (CutRecord at) h = h
file_fault options input (RecordTooLong at) h = h
file_fault options input TooManyRecords h = h
file_fault options input CannotWrite h = absurd h
file_fault options input CannotReadNorWrite h = absurd h
file_fault options input NoMemory h = h

-- a fault of a run
pub run_fault : (options : Options) (input : Option (List ℕ)) (fault : BenchFault) → IsRunFault options fault → IsFault options input fault
run_fault options input NoText h = absurd h
run_fault options input BadWriter h = h
run_fault options input Clock h = tt
run_fault options input Differs h = tt
run_fault options input (Run fault) h = subst (λ (f : RunFault). IsFault options input (Run f)) (sym h) tt

-- a fault of the options
pub options_fault : (options : Options) (fault : BenchFault) → IsCause options fault → IsRunFault options fault
options_fault options NoText h = absurd h
options_fault options BadWriter h = h
options_fault options Clock h = absurd h
options_fault options Differs h = absurd h
options_fault options (Run CannotRead) h = absurd h
options_fault options (Run NotRecordFile) h = absurd h
options_fault options (Run (CutRecord at)) h = absurd h
options_fault options (Run (RecordTooLong at)) h = absurd h
options_fault options (Run TooManyRecords) h = absurd h
options_fault options (Run CannotWrite) h = absurd h
options_fault options (Run CannotReadNorWrite) h = absurd h
options_fault options (Run NoMemory) h = refl
