-- The text of a run over records.
use Rattle.std.specs.Prelude.{◌≡◌, ℕ, ◌+◌, List, [], ◌∷◌, ◌++◌, length}
use Rattle.rtps_records.specs.RecordFile.{Datagram, Record, Tick}

-- a list is a prefix of another
abbrev pub IsFront : {A : Type 0} → List A → List A → Type 0
IsFront {A} said text = (rest : List A) × (text ≡ said ++ rest)

-- the datagrams of records, without their moments
abbrev pub datagrams_of : List Record → List (List ℕ)
datagrams_of [] = []
datagrams_of (Datagram moment octets ∷ records) = octets ∷ datagrams_of records
datagrams_of (Tick moment ∷ records) = datagrams_of records

-- the texts of the datagrams of records; the first of them has number n
abbrev pub text_from : (ℕ → List ℕ → List ℕ) → ℕ → List Record → List ℕ
text_from line n [] = []
text_from line n (Datagram moment octets ∷ records) =
    line n octets ++ text_from line (n + 1) records
text_from line n (Tick moment ∷ records) = text_from line n records

-- the texts of a file's datagrams, one after the other
abbrev pub text_of : (ℕ → List ℕ → List ℕ) → List Record → List ℕ
text_of line records = text_from line 0 records

-- The text grows by that of these records; the first of them has this number. `before` and `after`
-- say which text belongs to which records.
unfoldable pub Says : (List Record → List ℕ → Type 0) → (List Record → List ℕ → Type 0) → ℕ
    → List Record → List ℕ → List ℕ → Type 0
Says before after number more old new =
    (added : List ℕ) × (new ≡ old ++ added)
    × ((records : List Record) (said : List ℕ) → before records said → length records ≡ number
    → after (records ++ more) (said ++ added))

-- after the last record the text grows by the rest of the whole text
unfoldable pub Ends : (List Record → List ℕ → Type 0) → (List Record → List ℕ) → List ℕ → List ℕ
    → Type 0
Ends before text old new =
    (added : List ℕ) × (new ≡ old ++ added)
    × ((records : List Record) (said : List ℕ) → before records said
    → text records ≡ said ++ added)
