-- A look that says why it shows nothing.
use Rattle.std.specs.Prelude.{◌≡◌, ◌<◌, ℕ, Err, List, None, Ok, Result, Some, length}
use mathlib.Core.List.{IsPrefix}
use Rattle.dds_outlet.specs.declared.row.Look.{Look}
use Rattle.dds_outlet.specs.declared.row.RowView.{RowView}
use Rattle.dds_outlet.specs.declared.told.Unseen.{Unseen}
use Rattle.dds_outlet.specs.declared.told.Unseen.TheVariants.{NoRank, NotEntered, Older}
use Rattle.dds_outlet.specs.Ends.{ShowsRow}

-- these rows are fewer than those, which begin with them
abbrev pub AreOlder : List RowView → List RowView → Type 0
AreOlder shown known = IsPrefix shown known × (length shown < length known)

-- a look, with why it showed nothing: only where the last row that is known after it lacks the
-- rank, where the row that was shown is older than the last one known, or where the board wasn't
-- entered
abbrev pub Finds : List RowView → List RowView → ℕ → Result Look Unseen → Type 0
Finds before after rank (Ok look) = ShowsRow before after rank (Some look)
Finds before after rank (Err NoRank) = ShowsRow before after rank None
Finds before after rank (Err (Older told)) = AreOlder told.rows before × (after ≡ before)
Finds before after rank (Err NotEntered) = after ≡ before

-- what is found is found in these rows, up to the one that was shown
abbrev pub IsFoundIn : List RowView → List RowView → Result Look Unseen → Type 0
IsFoundIn shown after (Ok look) = after ≡ shown
IsFoundIn shown after (Err NoRank) = after ≡ shown
IsFoundIn shown after (Err (Older told)) = told.rows ≡ shown
IsFoundIn shown after (Err NotEntered) = ⊥

-- a look of a reader that has entered the board while the last of these rows was shown
abbrev pub FindsIn :
    List RowView → List RowView → List RowView → ℕ → Result Look Unseen → Type 0
FindsIn shown before after rank result =
    Finds before after rank result × IsFoundIn shown after result
