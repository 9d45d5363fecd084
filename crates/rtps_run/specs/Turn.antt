-- The order of the reports of a run (DDSI-RTPS 8.3.4, 8.4.10): by place; at one place discovery's
-- reports before those of readers, and these by rank; for one reader its notices before its answer.
use Rattle.std.specs.Prelude.{ℕ, ◌+◌, List, [], ◌∷◌, ◌++◌, map, Some}
use Rattle.std.specs.List.Sorted.{IsPermutation, IsSortedByKey, IsStableByKey}
use Rattle.std.specs.Option.{option_cmp}
use Rattle.std.specs.Ordering.{nat_cmp, ordering_then}
use Rattle.std.specs.declared.cmp.Ordering.{Ordering}
use Rattle.std.specs.declared.cmp.Ordering.TheVariants.{Less, Equal, Greater}
use Rattle.std.specs.declared.vec.Vec.{Vec}
use Rattle.rtps_types.specs.Place.{place_order}
use Rattle.rtps_reader.specs.declared.notice.Notice.{Notice}
use Rattle.rtps_run.specs.declared.outcome.Answer.{Answer}
use Rattle.rtps_run.specs.declared.outcome.Outcome.{Outcome}
use Rattle.rtps_run.specs.declared.outcome.Report.{Report}
use Rattle.rtps_run.specs.declared.outcome.Report.TheVariants as report
use Rattle.rtps_run.specs.declared.turn.ReportKind.{ReportKind}
use Rattle.rtps_run.specs.declared.turn.ReportKind.TheVariants as kind
use Rattle.rtps_run.specs.declared.turn.Turn.{Turn}

-- a notice comes before an answer
abbrev pub kind_order : ReportKind → ReportKind → Ordering
kind_order kind.Notice kind.Notice = Equal
kind_order kind.Notice kind.Answer = Less
kind_order kind.Answer kind.Notice = Greater
kind_order kind.Answer kind.Answer = Equal

-- turns are ordered by place; at one place no rank comes first, then the ranks rise; for one rank
-- by kind
abbrev pub turn_order : Turn → Turn → Ordering
turn_order a b =
    ordering_then (place_order a.place b.place)
    (ordering_then (option_cmp nat_cmp a.rank b.rank) (kind_order a.kind b.kind))

-- the turn of an answer
abbrev pub answer_turn : {A : Type 0} → Answer A → Turn
answer_turn answer = record { place = answer.place; rank = answer.rank; kind = kind.Answer }

-- the turn of a report
abbrev pub turn_of : {V A : Type 0} → Report V A → Turn
turn_of (report.Notice rank notice) =
    record { place = notice.place; rank = Some rank; kind = kind.Notice }
turn_of (report.Answer answer) = answer_turn answer

-- the notices of lists by rank; the first list has this rank
abbrev pub notices_from : {V A : Type 0} → ℕ → List (Vec (Notice V) A) → List (Report V A)
notices_from rank [] = []
notices_from rank (notices ∷ lists) =
    map (report.Notice rank) notices.items ++ notices_from (rank + 1) lists

-- all reports of an outcome: the notices of each rank, and then the answers
abbrev pub reports_of : {V A : Type 0} → Outcome V A → List (Report V A)
reports_of outcome = notices_from 0 outcome.notices.items ++ map report.Answer outcome.answers.items

-- the reports are those of an outcome, sorted by turn; those of one turn keep their order
pub record AreInOrder {V A : Type 0} (outcome : Outcome V A) (reports : List (Report V A))
    : Type 0 where
  pub all : IsPermutation (reports_of outcome) reports
  pub sorted : IsSortedByKey turn_of turn_order reports
  pub stable : IsStableByKey turn_of turn_order (reports_of outcome) reports
