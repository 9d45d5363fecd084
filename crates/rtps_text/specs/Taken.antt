-- What a step of a run over a file does: it processes more records, or it stops; and the outcome of
-- such a run.
use Rattle.std.specs.Prelude.{◌≡◌, ℕ, ◌⊎◌, List, ◌++◌, Bool, true, false, Option}
use Rattle.std.specs.Io.KnownBytes.{Appends}
use Rattle.rtps_records.specs.Runs.{Stops}
use Rattle.rtps_records.specs.Text.{IsFront}
use Rattle.rtps_records.specs.declared.fault.RunFault.{RunFault}
use Rattle.rtps_records.specs.declared.fault.RunFault.TheVariants.{CannotWrite, NoMemory}
use Rattle.rtps_text.specs.Caches.{StopsLate}
use Rattle.rtps_records.specs.RecordFile.{Record}

-- A batch of records was processed. What is said for it comes after what was said for the records
-- before it: a part was written, and the rest is kept back.
unfoldable pub Takes : (List Record → List ℕ → Type 0) → (List Record → List ℕ → Type 0)
    → List Record → Option (List ℕ) → Option (List ℕ) → List ℕ → List ℕ → Type 0
Takes before after batch old new kept left =
    (records : List Record) (written : List ℕ) → before records (written ++ kept)
    → (put : List ℕ) × Appends old new put
    × after (records ++ batch) ((written ++ put) ++ left)

-- A batch of records was not processed completely. What was written, now and before, is a prefix of
-- the text of any records that begin with those before the batch and the batch.
unfoldable pub TakesFront : (List Record → List ℕ → Type 0) → (List Record → List ℕ)
    → List Record → Option (List ℕ) → Option (List ℕ) → List ℕ → Type 0
TakesFront before text batch old new kept =
    (records : List Record) (written : List ℕ) → before records (written ++ kept)
    → (put : List ℕ) × Appends old new put
    × ((more : List Record) → IsFront (written ++ put) (text ((records ++ batch) ++ more)))

-- the rest of the text of the records was written
unfoldable pub Finishes : (List Record → List ℕ → Type 0) → (List Record → List ℕ)
    → Option (List ℕ) → Option (List ℕ) → List ℕ → Type 0
Finishes before text old new kept =
    (records : List Record) (written : List ℕ) → before records (written ++ kept)
    → (put : List ℕ) × Appends old new put × (text records ≡ written ++ put)

-- a fault while the last text is written: a write fails, or memory runs out if that text is made
-- while it is written
abbrev pub ComesLast : Bool → RunFault → Type 0
ComesLast late fault = (fault ≡ CannotWrite) ⊎ ((fault ≡ NoMemory) × (late ≡ true))

-- The rest was not written completely. What was written, now and before, is a prefix of the text of
-- any records that begin with these; or, at a fault that comes last, of the text of these alone.
unfoldable pub FinishesFront : Bool → RunFault → (List Record → List ℕ → Type 0)
    → (List Record → List ℕ) → Option (List ℕ) → Option (List ℕ) → List ℕ → Type 0
FinishesFront late fault before text old new kept =
    (records : List Record) (written : List ℕ) → before records (written ++ kept)
    → (put : List ℕ) × Appends old new put
    × (((more : List Record) → IsFront (written ++ put) (text (records ++ more)))
    ⊎ (ComesLast late fault × IsFront (written ++ put) (text records)))

-- The outcome of a run that stops at a fault. If the last text is made while it is written, memory
-- may run out after a read fault, and is then reported instead of it.
unfoldable pub StopsBy : Bool → (List Record → List ℕ) → RunFault → Option (List ℕ)
    → Option (List ℕ) → Option (List ℕ) → Option (List ℕ) → Type 0
StopsBy false text fault before after old new = Stops text fault before after old new
StopsBy true text fault before after old new = StopsLate text fault before after old new
