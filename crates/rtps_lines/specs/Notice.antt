-- The line of a notice of a reader (DDS 1.4, 2.2.4.1).
use Rattle.std.specs.Prelude.{ℕ, List, Option, ◌++◌, codes}
use Rattle.std.specs.Fmt.{decimal}
use Rattle.rtps_types.specs.NumberText.{place_text}
use Rattle.rtps_types.specs.declared.identity.Guid.{Guid}
use Rattle.rtps_types.specs.declared.place.Place.{Place}
use Rattle.rtps_types.specs.declared.time.Timestamp.{Timestamp}
use Rattle.rtps_types.specs.Number.{value_of}
use Rattle.rtps_types.specs.Policy.{policy_id}
use Rattle.rtps_reader.specs.declared.notice.Notice.{Notice}
use Rattle.rtps_reader.specs.declared.notice.NoticeKind.{NoticeKind}
use Rattle.rtps_reader.specs.declared.notice.NoticeKind.TheVariants.{Sample, Matched, Unmatched, Incompatible, Lost}
use Rattle.rtps_events.specs.Line.{◌then◌, time_text}
use Rattle.rtps_lines.specs.Guid.{guid_text}
use Rattle.rtps_lines.specs.Sample.{sample_text}

-- a place, and the word before the rank of a reader
abbrev pub start_text : Place → List ℕ
start_text place = place_text place then codes "reader "

-- the writer, the number and the time of a change
abbrev pub origin_text : Guid → ℕ → Option Timestamp → List ℕ
origin_text w n time = guid_text w then decimal n then time_text time

-- the kind of a notice, with its writer and values (DDS 1.4, 2.2.4.1)
abbrev pub notice_text : {M : Type 0} → (M → List ℕ) → Guid → NoticeKind M → List ℕ
notice_text text w (Sample n time b) =
    codes "sample" then guid_text w then decimal (value_of n) then time_text time
    then sample_text text b
notice_text text w Matched = codes "matched" then guid_text w
notice_text text w Unmatched = codes "unmatched" then guid_text w
notice_text text w (Incompatible policy) =
    codes "incompatible" then guid_text w then decimal (policy_id policy)
notice_text text w (Lost count) = codes "lost" then guid_text w then decimal count

-- what a line has of a notice after the rank of the reader
abbrev pub told_text : {M : Type 0} → (M → List ℕ) → Notice M → List ℕ
told_text text n = notice_text text n.writer n.what ++ codes "\n"

-- the line of a notice of the reader of a rank, given the texts of values
abbrev pub heard_line : {M : Type 0} → (M → List ℕ) → ℕ → Notice M → List ℕ
heard_line text rank n =
    place_text n.place then codes "reader" then decimal rank then told_text text n
