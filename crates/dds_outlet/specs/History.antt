-- The history of a board: its rule, and the effects of its steps.
use Rattle.std.specs.Prelude.{ℕ, ◌≡◌, ◌<◌, true, List, [], ◌∷◌, ◌++◌, length, map, None, Some}
use Rattle.std.specs.List.{last_or}
use Rattle.logbook.specs.Pages.{Book, Cell, Named, Step, View, cell, may_make, may_write}
use Rattle.dds_outlet.specs.declared.history.Entry.{Entry}
use Rattle.dds_outlet.specs.declared.history.Head.{Head}
use Rattle.dds_outlet.specs.declared.row.RowView.{RowView}

-- a row, and the key of the word whose pen adds the next entry
abbrev pub entry : RowView → ℕ → Entry
entry row next = record { row = row; next = next }

-- the rows of a history
abbrev pub rows_of : List Entry → List RowView
rows_of log = map (λ (e : Entry). e.row) log

-- the keys that its entries name
abbrev pub keys_of : List Entry → List ℕ
keys_of log = map (λ (e : Entry). e.next) log

-- the word with this key is at home: its pen is spent
abbrev pub IsHome : List Cell → ℕ → Type 0
IsHome cells key = (cell cells key).1 ≡ true

-- the words that all entries but the last one name are at home
abbrev pub AllHome : List Cell → List Entry → Type 0
AllHome cells [] = Unit {0}
AllHome cells (e ∷ []) = Unit {0}
AllHome cells (e ∷ f ∷ log) = IsHome cells e.next × AllHome cells (f ∷ log)

-- the rule: word 0, the door, is at home, and it is 0 only before a word was added; the words that
-- entries name are at home, but for that of the last one
pub record IsKept (cells : List Cell) (log : List Entry) : Type 0 where
  pub some : 0 < length cells
  pub door : IsHome cells 0
  pub alone : (cell cells 0).0 ≡ 0 → length cells ≡ 1
  pub homes : AllHome cells log

-- the door of a history
abbrev pub door_of : Book → Named
door_of book = record { tracked = true; key = 0; book = book }

-- a word was added, whose pen the step has now; it is word 1 where the door was 0
abbrev pub Reserves : Step Entry → View Entry ℕ → ℕ → View Entry ℕ → Type 0
Reserves step before found after =
    (after.1.0.right ≡ may_make) × (found ≡ 0 → after.1.0.key ≡ 1)

-- the entry of the step was added to those that had been seen
abbrev pub Appends : Step Entry → View Entry ℕ → ℕ → View Entry ℕ → Type 0
Appends step before found after = after.0 ≡ before.0 ++ step.ask ∷ []

-- this head adds the next entry of this history: it has the door, and the pen of the word that the
-- last entry names
pub record Leads (head : Head) (book : Book) (log : List Entry) : Type 0 where
  pub door : head.door ≡ door_of book
  pub book_of_pen : head.pen.book ≡ book
  pub right : head.pen.nib.right ≡ may_write
  pub last : last_or None (keys_of log) ≡ Some head.pen.nib.key
