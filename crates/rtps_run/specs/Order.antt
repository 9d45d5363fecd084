-- What is left to read of a batch, in the order of the run (DDSI-RTPS 8.3.4, 8.4.10).
use Rattle.std.specs.Prelude.{◌≡◌, ℕ, List, [], ◌∷◌, ◌++◌, drop, take, map, Some, None, if◌then◌else◌}
use Rattle.std.specs.List.{AllByRecursion, flat_map}
use Rattle.rtps_types.specs.declared.place.Place.{Place}
use Rattle.rtps_proxy.specs.Replies.{ReplyView}
use Rattle.rtps_reader.specs.declared.notice.Notice.{Notice}
use Rattle.rtps_reader.specs.Notice.{answer_view, notice_view}
use Rattle.rtps_run.specs.World.{ReportView, NoticeOf, AnswerOf, sent_by}
use Rattle.rtps_run.specs.Merged.{PartsByRank, answers_at, merged_below, notices_at, same_place}
use Rattle.rtps_run.specs.declared.order.Item.{Item}
use Rattle.rtps_run.specs.declared.order.Item.TheVariants as item

-- an item as a report of the run
abbrev pub report_of : {V : Type 0} → Item V → ReportView V
report_of (item.Notice rank notice) = NoticeOf rank notice.now
report_of (item.Answer rank answer) = sent_by rank (answer_view answer.now)

-- a report, with the meaning of its value
abbrev pub seen : {V M : Type 0} → (V → M) → ReportView V → ReportView M
seen f (NoticeOf rank notice) = NoticeOf rank (notice_view f notice)
seen f (AnswerOf answer) = AnswerOf answer

-- the leading items that are at a place, and those after them
abbrev pub front : {X : Type 0} → (X → Place) → Place → List X → List X
front at place [] = []
front at place (x ∷ xs) = if same_place (at x) place then x ∷ front at place xs else []

abbrev pub beyond : {X : Type 0} → (X → Place) → Place → List X → List X
beyond at place [] = []
beyond at place (x ∷ xs) = if same_place (at x) place then beyond at place xs else x ∷ xs

abbrev pub notice_place : {M : Type 0} → Notice M → Place
notice_place n = n.place

abbrev pub answer_place : Place × ReplyView → Place
answer_place s = s.0

-- what is left of a reader's lists
pub record RowView (M : Type 0) : Type 0 where
  pub rank : ℕ
  pub told : List (Notice M)
  pub sent : List (Place × ReplyView)

-- the same, with the meanings of the values
abbrev pub row_seen : {V M : Type 0} → (V → M) → RowView V → RowView M
row_seen f r = record { rank = r.rank; told = map (notice_view f) r.told; sent = r.sent }

-- what a reader put out at a place: its notices, then its answer
abbrev pub row_at : {M : Type 0} → Place → RowView M → List (ReportView M)
row_at place r =
    map (NoticeOf r.rank) (front notice_place place r.told)
    ++ map (sent_by (Some r.rank)) (front answer_place place r.sent)

-- what is left of its lists after that
abbrev pub row_after : {M : Type 0} → Place → RowView M → RowView M
row_after place r = record {
  rank = r.rank;
  told = beyond notice_place place r.told;
  sent = beyond answer_place place r.sent;
}

-- what is left to read: at the first place, discovery's answers and then the readers from an index
-- on; then the other places
abbrev pub left : {M : Type 0} → List Place → List (Place × ReplyView) → List (RowView M) → ℕ
    → List (ReportView M)
left [] said rows at = []
left (p ∷ ps) said rows at =
    (map (sent_by None) (front answer_place p said) ++ flat_map (row_at p) (drop at rows))
    ++ left ps (beyond answer_place p said) (take at rows ++ map (row_after p) (drop at rows)) 0

-- ---- at the start, and after some places

-- what the reader of a rank put out at a place
abbrev pub rank_at : {M : Type 0} → PartsByRank M → Place → ℕ → List (ReportView M)
rank_at parts p rank =
    map (NoticeOf rank) (notices_at p (parts.told rank))
    ++ map (sent_by (Some rank)) (answers_at p (parts.sent rank))

-- what is left of a reader's lists is what is at these places
pub record IsLeft {M : Type 0} (parts : PartsByRank M) (places : List Place) (r : RowView M)
    : Type 0 where
  pub told : r.told ≡ flat_map (λ p. notices_at p (parts.told r.rank)) places
  pub sent : r.sent ≡ flat_map (λ p. answers_at p (parts.sent r.rank)) places

-- what is left of all lists is what is at these places; a reader below the count that isn't among
-- them put out nothing
pub record AreLeft {M : Type 0} (parts : PartsByRank M) (count : ℕ) (places : List Place)
    (said : List (Place × ReplyView)) (rows : List (RowView M)) : Type 0 where
  pub answers : said ≡ flat_map (λ p. answers_at p parts.answers) places
  pub ranks : (p : Place) → flat_map (rank_at parts p) (map (λ (r : RowView M). r.rank) rows)
      ≡ merged_below p parts count
  pub lists : AllByRecursion (IsLeft parts places) rows
