-- A record as it is read: its octets in a buffer, and the rest of it.
use Rattle.std.specs.Prelude.{ℕ, ◌<◌, List, take, Option, None, Some}
use Rattle.std.specs.Io.KnownBytes.{Consumes, IsAtEnd}
use Rattle.rtps_records.specs.RecordFile.{Datagram as ADatagram, IsRecord, Record, Tick as ATick, frame}
use Rattle.rtps_records.specs.declared.format.Format.{Format}
use Rattle.rtps_records.specs.declared.head.Head.{Head}
use Rattle.rtps_records.specs.declared.head.Head.TheVariants.{Datagram, Tick}

-- the record that was read, with the octets of a datagram at the front of a buffer
abbrev pub record_at : Head → List ℕ → Record
record_at (Datagram piece) buffer = ADatagram piece.moment (take piece.length buffer)
record_at (Tick moment) buffer = ATick moment

-- after n records the next one was read, with the octets of a datagram at the front of a buffer; or
-- the file ends
unfoldable pub ReadsHead : Format → Option Head → ℕ → Option (List ℕ) → Option (List ℕ) → List ℕ
    → Type 0
ReadsHead format None n before after buffer = IsAtEnd before
ReadsHead format (Some head) n before after buffer =
    (n < 4294967295) × IsRecord format (record_at head buffer)
    × Consumes before after (frame format (record_at head buffer))
