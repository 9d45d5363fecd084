-- What a run over the records of a file counts (DDSI-RTPS 8.3.4; DDS 1.4, 2.2.4.1).
use Rattle.std.specs.Prelude.{◌≡◌, ℕ, zero, suc, ◌+◌, ◌-◌, ◌^◌, List, ◌++◌, length, map, min, sum}
use Rattle.std.specs.Option.{option_map_or}
use Rattle.rtps_types.specs.declared.identity.GuidPrefix.{GuidPrefix}
use Rattle.dds_topic.specs.Decoding.{Decoding}
use Rattle.rtps_discovery.specs.declared.config.Config.{Config}
use Rattle.rtps_receiver.specs.Counters.{all_counted, none_counted}
use Rattle.rtps_receiver.specs.declared.counters.Counters.{Counters}
use Rattle.rtps_records.specs.RecordFile.{Record}
use Rattle.rtps_records.specs.Text.{datagrams_of}
use Rattle.rtps_reader.specs.declared.status.Status.{Status}
use Rattle.rtps_run.specs.Seen.{answers_in, reader_count, status_seen}
use Rattle.rtps_run.specs.World.{World}
use Rattle.rtps_run.specs.BatchOutput.{IsGiven}
use Rattle.dds_participant.specs.Kept.{ParticipantView}
use Rattle.dds_participant.specs.Ports.{NoneAttached}
use Rattle.rtps_run.specs.declared.batch_output.BatchOutput.{BatchOutput}
use Rattle.rtps_bench.specs.declared.counts.Counts.{Counts}
use Rattle.rtps_bench.specs.Inputs.{StandsAt, run, run_by}

-- a count stops at 2^64 - 1
abbrev pub capped : ℕ → ℕ
capped n = min n (2 ^ 64 - 1)

-- what the participant with this prefix counts of the datagrams of records
abbrev pub counters_of : GuidPrefix → List Record → Counters
counters_of own records = all_counted own (datagrams_of records) none_counted

-- a total of the status of the reader of a rank; 0 where there is none
abbrev pub total_at : {M : Type 0} → (Status → ℕ) → World M → ℕ → ℕ
total_at total w rank = option_map_or total (status_seen w rank) 0

-- the totals of the readers of the ranks below a count
abbrev pub totals_below : {M : Type 0} → (Status → ℕ) → World M → ℕ → ℕ
totals_below total w zero = 0
totals_below total w (suc rank) = totals_below total w rank + total_at total w rank

-- the totals of all readers
abbrev pub totals : {M : Type 0} → (Status → ℕ) → World M → ℕ
totals total w = totals_below total w (reader_count w)

-- how many answers a run has put out
abbrev pub answer_count : {M : Type 0} → World M → ℕ
answer_count w = length (answers_in w.put)

-- the counts, from the counters and the world after some records
abbrev pub counts_by : {M : Type 0} → Counters → World M → Counts
counts_by counters w = record {
  datagrams = counters.datagrams;
  events = counters.events;
  samples = totals (λ s. s.samples) w;
  answers = capped (answer_count w);
  lost = totals (λ s. s.lost_total) w;
}

-- what the run of this configuration over records counts
abbrev pub counts_of : {M : Type 0} → Decoding M → Config → List Record → Counts
counts_of decoding config records =
    counts_by (counters_of config.own records) (run decoding config records)

-- the number of answers in the output of a batch
abbrev pub answers_given : {V : Type 0} → BatchOutput V → ℕ
answers_given given =
    length given.answers.items + sum (map (λ o. length o.answers.items) given.outputs.items)

-- a participant took these records, and this is its output for them
pub record TakesRecords {C V M : Type 0} (f : V → M) (decoding : C → Decoding M)
    (records : List Record) (old new : ParticipantView C V) (given : BatchOutput V) : Type 0 where
  pub stands : (earlier : List Record) → StandsAt decoding earlier old.engine
      → StandsAt decoding (earlier ++ records) new.engine
  pub gives : (earlier : List Record) → StandsAt decoding earlier old.engine
      → IsGiven f (run_by decoding old.engine earlier)
      (run_by decoding old.engine (earlier ++ records)) given
  pub counters : new.counters.received
      ≡ all_counted old.engine.config.own (datagrams_of records) old.counters.received
  pub alone : NoneAttached new.ports

-- a participant is that after these records, and this number of answers was counted
pub record HasCounted {C V M : Type 0} (decoding : C → Decoding M) (records : List Record)
    (p : ParticipantView C V) (sent : ℕ) : Type 0 where
  pub stands : StandsAt decoding records p.engine
  pub counters : p.counters.received ≡ counters_of p.engine.config.own records
  pub answers : sent ≡ capped (answer_count (run_by decoding p.engine records))
  pub alone : NoneAttached p.ports
