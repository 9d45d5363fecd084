-- The contents of a valid submessage as columns, by its kind (DDSI-RTPS 8.3.7, 9.4.5).
use Rattle.std.specs.Prelude.{ℕ, List, [], ◌∷◌, ◌++◌, length, codes}
use Rattle.rtps_types.specs.NumberSet.{members}
use Rattle.rtps_wire.specs.declared.data.ChangeInfo.{ChangeInfo}
use Rattle.rtps_wire.specs.declared.data.Form.{Form}
use Rattle.rtps_wire.specs.declared.data.Form.TheVariants.{Value, Key, Other, Nothing}
use Rattle.rtps_wire.specs.declared.heartbeat.Heartbeat as heartbeat
use Rattle.rtps_wire.specs.declared.heartbeat_frag.HeartbeatFrag as heartbeat_frag
use Rattle.rtps_wire.specs.Data.{DataView}
use Rattle.rtps_wire.specs.DataFrag.{DataFragView}
use Rattle.rtps_wire.specs.Gap.{GapFields}
use Rattle.rtps_wire.specs.Submessage.{PartsView, Pad, Heartbeat, Gap, InfoTimestamp, InfoSource, InfoDestination, HeartbeatFrag, Data, DataFrag, Skipped}
use Rattle.rtps_events.specs.Line.{numbers_text}
use Rattle.rtps_explain.specs.Columns.{ends_columns, hash_text, hex_column, number_column, sender_columns, signed_column, time_text, word_column}

-- the form of a payload, as a word
abbrev pub form_word : Form → List ℕ
form_word Value = codes "value"
form_word Key = codes "key"
form_word Other = codes "other"
form_word Nothing = codes "none"

-- the status of a change, and the form of its payload
abbrev pub status_columns : ChangeInfo → List ℕ
status_columns info = hex_column (info.status ∷ []) ++ word_column (form_word info.form)

-- the number of octets of a payload, and the key hash of the change
abbrev pub payload_columns : List ℕ → ChangeInfo → List ℕ
payload_columns payload info = number_column (length payload) ++ word_column (hash_text info.hash)

-- writer, reader, first number, last number, count
abbrev pub heartbeat_columns : heartbeat.Heartbeat → List ℕ
heartbeat_columns h =
    ends_columns h.writer h.reader
    ++ (number_column h.first ++ (number_column h.last ++ signed_column h.count))

-- writer, reader, start, base of the list, members of the list
abbrev pub gap_columns : GapFields → List ℕ
gap_columns g =
    ends_columns g.writer g.reader
    ++ (number_column g.start
    ++ (number_column g.list.base ++ word_column (numbers_text (members g.list))))

-- writer, reader, number of the change, last fragment, count
abbrev pub heartbeat_frag_columns : heartbeat_frag.HeartbeatFrag → List ℕ
heartbeat_frag_columns h =
    ends_columns h.writer h.reader
    ++ (number_column h.number ++ (number_column h.last ++ signed_column h.count))

-- writer, reader, number, status, form, length of the payload, key hash
abbrev pub data_columns : DataView → List ℕ
data_columns d =
    ends_columns d.writer d.reader
    ++ (number_column d.number ++ (status_columns d.info ++ payload_columns d.payload d.info))

-- the first fragment, the number of fragments, their size, and the size of the whole payload
abbrev pub pieces_columns : DataFragView → List ℕ
pieces_columns d =
    number_column d.start
    ++ (number_column d.count ++ (number_column d.size ++ number_column d.sample))

-- writer, reader, number, status, form, fragments, length of their octets, key hash
abbrev pub data_frag_columns : DataFragView → List ℕ
data_frag_columns d =
    ends_columns d.writer d.reader
    ++ (number_column d.number
    ++ (status_columns d.info ++ (pieces_columns d ++ payload_columns d.payload d.info)))

-- the columns of the contents; none for a kind without contents or one that isn't read
abbrev pub contents_columns : PartsView → List ℕ
contents_columns Pad = []
contents_columns (Heartbeat h) = heartbeat_columns h
contents_columns (Gap g) = gap_columns g
contents_columns (InfoTimestamp t) = word_column (time_text t)
contents_columns (InfoSource s) = sender_columns s.version s.vendor s.prefix.0
contents_columns (InfoDestination p) = hex_column p.0
contents_columns (HeartbeatFrag h) = heartbeat_frag_columns h
contents_columns (Data d) = data_columns d
contents_columns (DataFrag d) = data_frag_columns d
contents_columns Skipped = []
