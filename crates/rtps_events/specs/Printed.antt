-- The text of a record file: the lines of its datagrams, and what comes after the last of them.
use Rattle.std.specs.Prelude.{ℕ, List, ◌++◌, Bool, true, false}
use Rattle.rtps_records.specs.RecordFile.{Record}
use Rattle.rtps_records.specs.Text.{datagrams_of, text_of}
use Rattle.rtps_records.specs.declared.batch_end.BatchEnd.{BatchEnd}
use Rattle.rtps_records.specs.declared.batch_end.BatchEnd.TheVariants.{End, Fault, More, Tick}

-- given the lines of a datagram by its number and its octets, and what comes after datagrams
abbrev pub printed_text : (ℕ → List ℕ → List ℕ) → (List (List ℕ) → List ℕ) → List Record
    → List ℕ
printed_text lines ending records = text_of lines records ++ ending (datagrams_of records)

-- whether more records may follow a batch with this end
abbrev pub goes_on : BatchEnd → Bool
goes_on More = true
goes_on (Tick moment) = true
goes_on End = false
goes_on (Fault fault) = false
