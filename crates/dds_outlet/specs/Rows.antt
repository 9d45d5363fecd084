-- Rows of statuses, and what a look finds in one.
use Rattle.std.specs.Prelude.{ℕ, ◌==◌, None, Option, find, replicate}
use Rattle.std.specs.List.{enumerate_from}
use Rattle.std.specs.Option.{option_map}
use Rattle.rtps_reader.specs.declared.status.Status.{Status}
use Rattle.dds_outlet.specs.declared.row.Look.{Look}
use Rattle.dds_outlet.specs.declared.row.Row.{Row}
use Rattle.dds_outlet.specs.declared.row.RowView.{RowView}

-- a row, without where it lies in memory
abbrev pub row_view : Row → RowView
row_view row = record { batch = row.batch; statuses = row.statuses.items }

-- what a row says of a rank: the first status that it has of that rank, if any
abbrev pub look_at : RowView → ℕ → Option Look
look_at row rank =
    option_map
    (λ (entry : ℕ × Status). record { batch = row.batch; status = entry.1 })
    (find (λ entry. entry.0 == rank) row.statuses)

-- the status of a reader that has no fixed matches and has received nothing
abbrev pub idle : Status
idle = record {
  matched_total = 0;
  matched_now = 0;
  incompatible_total = 0;
  last_policy = None;
  lost_total = 0;
  samples = 0;
}

-- the row that a board opens with, for this number of readers: no batch, and each status idle
abbrev pub opening : ℕ → RowView
opening readers = record { batch = 0; statuses = enumerate_from 0 (replicate readers idle) }
