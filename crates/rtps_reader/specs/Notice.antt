-- Notices, with the meanings of their values.
use Rattle.rtps_types.specs.declared.place.Place.{Place}
use Rattle.rtps_types.specs.declared.traffic.Reply.{Reply}
use Rattle.rtps_proxy.specs.Replies.{ReplyView, reply_view}
use Rattle.rtps_reader.specs.declared.notice.Notice.{Notice}
use Rattle.rtps_reader.specs.declared.notice.NoticeKind.{NoticeKind}
use Rattle.rtps_reader.specs.declared.notice.NoticeKind.TheVariants as kind
use Rattle.rtps_reader.specs.Body.{body_map}

-- what contracts see of a kind of notice, with the meaning of its value
abbrev pub kind_view : {V M : Type 0} → (V → M) → NoticeKind V → NoticeKind M
kind_view f (kind.Sample number time body) = kind.Sample number time (body_map f body)
kind_view f kind.Matched = kind.Matched
kind_view f kind.Unmatched = kind.Unmatched
kind_view f (kind.Incompatible policy) = kind.Incompatible policy
kind_view f (kind.Lost count) = kind.Lost count

-- what contracts see of a notice, with the meaning of its value
abbrev pub notice_view : {V M : Type 0} → (V → M) → Notice V → Notice M
notice_view f n = record { place = n.place; writer = n.writer; what = kind_view f n.what }

-- an answer, with the place of the event that it answers
abbrev pub answer_view : {A : Type 0} → Place × Reply A → Place × ReplyView
answer_view a = (a.0, reply_view a.1)
