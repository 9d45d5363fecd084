-- The text of a record file: the lines of its datagrams, and then the counts.
use Rattle.std.specs.Prelude.{ℕ, List, ◌++◌}
use Rattle.rtps_types.specs.declared.identity.GuidPrefix.{GuidPrefix}
use Rattle.rtps_records.specs.RecordFile.{Record}
use Rattle.rtps_records.specs.Text.{datagrams_of, text_of}
use Rattle.rtps_receiver.specs.Counters.{all_counted, none_counted}
use Rattle.rtps_explain.specs.Counts.{counts_text}
use Rattle.rtps_explain.specs.Lines.{explained}

-- the text of records: a line for each submessage of each datagram, and the counts of all
abbrev pub explained_text : GuidPrefix → List Record → List ℕ
explained_text own records =
    text_of (explained own) records
    ++ counts_text (all_counted own (datagrams_of records) none_counted)
