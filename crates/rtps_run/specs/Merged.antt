-- The order of what a run puts out (DDSI-RTPS 8.3.4, 8.4.10): place by place; at one place
-- discovery's answer, and then by rank the notices of each reader and its answer.
use Rattle.std.specs.Prelude.{◌≡◌, ℕ, zero, suc, ◌==◌, ◌&&◌, Bool, false, List, [], ◌∷◌, ◌++◌, map, filter, Some, None}
use Rattle.std.specs.List.{AllByRecursion}
use Rattle.rtps_types.specs.declared.place.Place.{Place}
use Rattle.rtps_proxy.specs.Replies.{ReplyView}
use Rattle.rtps_reader.specs.declared.notice.Notice.{Notice}
use Rattle.rtps_run.specs.Presentation.{not_after}
use Rattle.rtps_run.specs.World.{ReportView, NoticeOf, sent_by}

-- discovery's answers, and by rank the notices and the answers of each reader
pub record PartsByRank (M : Type 0) : Type 0 where
  pub answers : List (Place × ReplyView)
  pub told : ℕ → List (Notice M)
  pub sent : ℕ → List (Place × ReplyView)

-- two places are the same
abbrev pub same_place : Place → Place → Bool
same_place a b = a.datagram == b.datagram && a.submessage == b.submessage

-- the answers at a place, in their order
abbrev pub answers_at : Place → List (Place × ReplyView) → List (Place × ReplyView)
answers_at place answers = filter (λ s. same_place s.0 place) answers

-- the notices at a place, in their order
abbrev pub notices_at : {M : Type 0} → Place → List (Notice M) → List (Notice M)
notices_at place notices = filter (λ n. same_place n.place place) notices

-- at one place, for the ranks below a count in ascending order: the reader's notices, then its
-- answer
abbrev pub merged_below : {M : Type 0} → Place → PartsByRank M → ℕ → List (ReportView M)
merged_below place parts zero = []
merged_below place parts (suc rank) =
    merged_below place parts rank
    ++ (map (NoticeOf rank) (notices_at place (parts.told rank))
    ++ map (sent_by (Some rank)) (answers_at place (parts.sent rank)))

-- place by place: discovery's answer, and then the readers by rank
abbrev pub merged : {M : Type 0} → PartsByRank M → ℕ → List Place → List (ReportView M)
merged parts count [] = []
merged parts count (place ∷ places) =
    (map (sent_by None) (answers_at place parts.answers) ++ merged_below place parts count)
    ++ merged parts count places

-- each place comes after those before it in the list
abbrev pub AreRising : List Place → Type 0
AreRising [] = Unit {0}
AreRising (p ∷ ps) = AllByRecursion (λ q. not_after q p ≡ false) ps × AreRising ps
