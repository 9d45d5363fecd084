-- The rule of the table of copies: all rows that it shows are of one history, which a seat may
-- know.
use Rattle.std.specs.Prelude.{◌≡◌, ℕ, Bool, true, List}
use mathlib.Core.Option.{some}
use lib.ListN.{get_elem?}
use Rattle.logbook.specs.Pages.{Book}
use Rattle.dds_outlet.specs.declared.rule.Known.{Known}
use Rattle.dds_outlet.specs.declared.shown.Shown.{Shown}

abbrev pub known : Bool → ℕ → ℕ → ℕ → Known
known knows number log_name cells_name =
    record { knows = knows; number = number; log_name = log_name; cells_name = cells_name }

-- the history that is known, if any is
abbrev pub book_of : Known → Book
book_of seat =
    record { number = seat.number; log_name = seat.log_name; cells_name = seat.cells_name }

-- a seat that knows a history knows that of the row
abbrev pub Fits : Known → Shown → Type 0
Fits seat shown = seat.knows ≡ true → book_of seat ≡ shown.front.seen.book

-- the rule: each seat that knows a history knows that of the row which is shown
abbrev pub AllFit : Shown → List Known → Type 0
AllFit shown seats =
    (at : ℕ) (seat : Known) → get_elem? seats at ≡ some seat → Fits seat shown

-- a seat knows this history
abbrev pub Knows : Known → Book → Type 0
Knows seat book = (seat.knows ≡ true) × (book_of seat ≡ book)

-- when one row replaces another, or stays, a seat learns the history of the later one; if it knew a
-- history before, it is the same
abbrev pub Sees : Known → Shown → Shown → Known → Type 0
Sees before old new after = Knows after new.front.seen.book × Fits before new
