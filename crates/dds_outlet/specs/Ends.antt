-- What contracts see of a board, of its readers, and of what a reader learns.
use Rattle.std.specs.Prelude.{◌≡◌, ◌⊎◌, ℕ, List, None, Option, Some}
use Rattle.std.specs.List.{last_or}
use mathlib.Core.List.{IsPrefix}
use Rattle.logbook.specs.Pages.{Book}
use Rattle.dds_outlet.specs.declared.history.Front.{Front}
use Rattle.dds_outlet.specs.declared.row.Look.{Look}
use Rattle.dds_outlet.specs.declared.row.RowView.{RowView}
use Rattle.dds_outlet.specs.History.{rows_of}
use Rattle.dds_outlet.specs.Rows.{look_at}

-- rows of a board, the opening row first: all that it has shown, or all that a reader knows
pub record RowsView : Type 0 where
  -- which board, by its history
  pub board : Book
  pub rows : List RowView

-- the rows up to a front
abbrev pub rows_upto : Front → RowsView
rows_upto front = record { board = front.seen.book; rows = rows_of front.seen.log }

-- a look showed the last row that is known after it; the rows known after it begin with those known
-- before
pub record ShowsRow (before after : List RowView) (rank : ℕ) (result : Option Look)
    : Type 0 where
  pub later : IsPrefix before after
  pub row : RowView
  pub last : last_or None after ≡ Some row
  pub shows : result ≡ look_at row rank

-- a look showed nothing, and the same rows are known
abbrev pub ShowsNothing : List RowView → List RowView → Option Look → Type 0
ShowsNothing before after result = (result ≡ None) × (after ≡ before)

-- a reader that knew the rows before looked at a rank, and knows the rows after
abbrev pub Looks : List RowView → List RowView → ℕ → Option Look → Type 0
Looks before after rank result =
    ShowsNothing before after result ⊎ ShowsRow before after rank result

-- a reader that knew some rows and learnt others looked twice: the first look shows the last row of
-- a list that begins with the known rows and with the learnt ones, the second look the last row of
-- a list that begins with the first list
pub record NotBefore
    (known learnt : List RowView)
    (rank : ℕ)
    (first second : Option Look)
    (after : List RowView)
    : Type 0 where
  pub start : List RowView
  pub between : List RowView
  pub from_known : IsPrefix known start
  pub from_learnt : IsPrefix learnt start
  pub first_look : Looks start between rank first
  pub second_look : Looks between after rank second
