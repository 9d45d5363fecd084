-- What is read of a value, and appended to a text.
use Rattle.std.specs.Prelude.{◌≡◌, ℕ, List, ◌++◌, Bool, true, false, Some}
use Rattle.rtps_cdr.specs.Reading.{Cursor, number_in, placed}
use Rattle.dds_described.specs.Copying.{behind}
use Rattle.dds_described.specs.Reading.{Found, found}

-- where a value is found, its text is appended, and the reader is after it
abbrev pub Prints : {A : Type 0} → Found A → (A → List ℕ) → (old new : List ℕ)
    → (c after : Cursor) → Type 0
Prints {A} r text old new c after =
    (x : A) (end : ℕ) → r ≡ Some (x, end) → (new ≡ old ++ text x) × (after ≡ placed c end)

-- the reader after a header that counts octets, if there is one
abbrev pub after_header : Bool → Cursor → Cursor
after_header false c = c
after_header true c = behind c (found (number_in 4 c))
