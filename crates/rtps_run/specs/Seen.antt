-- The results of a run: the notices of each reader, the answers, the statuses and the matches
-- (DDS 1.4, 2.2.4.1).
use Rattle.std.specs.Prelude.{◌≡◌, ◌<◌, ℕ, zero, suc, List, [], ◌∷◌, map, Bool, ◌&&◌, Option, nat_lt, ◌==◌, if◌then◌else◌, is_some, length}
use Rattle.std.specs.List.{list_any}
use Rattle.std.specs.Option.{option_map}
use Rattle.rtps_types.specs.declared.identity.Guid.{Guid}
use Rattle.rtps_discovery.specs.Known.{is_matched, reader_at}
use Rattle.rtps_reader.specs.declared.status.Status.{Status}
use Rattle.rtps_reader.specs.Listed.{with_writers}
use Rattle.rtps_reader.specs.declared.notice.Notice.{Notice}
use Rattle.rtps_proxy.specs.Matches.{match_with, same_guid}
use Rattle.rtps_reader.specs.Reader.{Reader}
use Rattle.rtps_reader.specs.Status.{status_of}
use Rattle.rtps_run.specs.World.{ReportView, NoticeOf, AnswerOf, AnswerView, World}

-- the notices of the reader of a rank, in order
abbrev pub notices_by : {M : Type 0} → ℕ → List (ReportView M) → List (Notice M)
notices_by rank [] = []
notices_by rank (NoticeOf by notice ∷ put) =
    if by == rank then notice ∷ notices_by rank put else notices_by rank put
notices_by rank (AnswerOf answer ∷ put) = notices_by rank put

-- the number of ranks that were given; these are the numbers below it
abbrev pub reader_count : {M : Type 0} → World M → ℕ
reader_count w = length w.known.readers

-- the answers, in order
abbrev pub answers_in : {M : Type 0} → List (ReportView M) → List AnswerView
answers_in [] = []
answers_in (NoticeOf by notice ∷ put) = answers_in put
answers_in (AnswerOf answer ∷ put) = answer ∷ answers_in put

-- the status of the reader of a rank: the counts of its matches and of its notices
abbrev pub status_at : {M : Type 0} → World M → ℕ → Status
status_at w rank = status_of (w.readers rank) (notices_by rank w.put)

-- the same, if there is such a reader
abbrev pub status_seen : {M : Type 0} → World M → ℕ → Option Status
status_seen w rank = option_map (λ r. status_at w rank) (reader_at w.known.readers rank)

-- the matches of the readers of the ranks below a count, ordered by rank and then by writer; a
-- reader that went has none
abbrev pub matches_below : (ℕ → Reader) → ℕ → List (ℕ × Guid)
matches_below readers zero = []
matches_below readers (suc rank) =
    with_writers (matches_below readers rank) rank
    (map (λ m. m.pairing.writer) (readers rank).matches)

-- all matches, ordered by rank and then by writer
abbrev pub matches_seen : {M : Type 0} → World M → List (ℕ × Guid)
matches_seen w = matches_below w.readers (reader_count w)

-- a list of matches has that of a rank and a writer
abbrev pub is_listed : List (ℕ × Guid) → ℕ → Guid → Bool
is_listed listed rank writer = list_any (λ m. m.0 == rank && same_guid m.1 writer) listed

-- there is a reader of the rank, and it is matched with the writer
abbrev pub is_matched_at : {M : Type 0} → World M → ℕ → Guid → Bool
is_matched_at w rank writer =
    nat_lt rank (reader_count w) && is_some (match_with writer (w.readers rank).matches)

-- the reader of each rank is matched with exactly the writers that discovery says it is matched
-- with; one that went, with none
abbrev pub Agrees : {M : Type 0} → World M → Type 0
Agrees w = (rank : ℕ) (writer : Guid) → rank < reader_count w
    → is_some (match_with writer (w.readers rank).matches) ≡ is_matched w.known rank writer
