-- The row that a participant publishes (DDS 1.4, 2.2.4.1).
use Rattle.std.specs.Prelude.{◌≡◌, ◌+◌, ℕ, List, [], ◌∷◌, Option, None, Some}
use Rattle.std.specs.Option.{option_map}
use Rattle.rtps_reader.specs.declared.status.Status.{Status}
use Rattle.rtps_run.specs.Seen.{status_seen}
use Rattle.rtps_run.specs.World.{World}
use Rattle.dds_outlet.specs.declared.row.RowView.{RowView}
use Rattle.dds_outlet.specs.Rows.{look_at}

-- the statuses of the readers that are there, each with its rank; the first place has this rank
abbrev pub ranked_from : ℕ → List (Option Status) → List (ℕ × Status)
ranked_from rank [] = []
ranked_from rank (None ∷ statuses) = ranked_from (rank + 1) statuses
ranked_from rank (Some status ∷ statuses) = (rank, status) ∷ ranked_from (rank + 1) statuses

-- the number of batches that were taken, and the statuses, each with its rank
abbrev pub row_of : ℕ → List (Option Status) → RowView
row_of batches statuses = record { batch = batches; statuses = ranked_from 0 statuses }

-- a look at the row shows of each rank the status that the world has of it, if it has one
abbrev pub ShowsWorld : {M : Type 0} → RowView → World M → Type 0
ShowsWorld row w =
    (rank : ℕ) → look_at row rank
    ≡ option_map (λ (s : Status). record { batch = row.batch; status = s }) (status_seen w rank)
