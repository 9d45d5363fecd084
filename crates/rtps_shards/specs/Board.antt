-- A board of items: its owner pushes and takes them, and thieves take them on any thread.
use Rattle.std.specs.Prelude.{◌≡◌, ℕ, ◌+◌, ◌≤◌, List, [], ◌∷◌, ◌++◌, length}
use Rattle.std.specs.List.{flat_map}
use Rattle.std.specs.List.Sorted.{IsPermutation}
use Rattle.rtps_shards.specs.declared.board.Hand.{Hand}
use Rattle.rtps_shards.specs.declared.board.Stolen.{Stolen}
use Rattle.rtps_shards.specs.declared.board.Stolen.TheVariants.{Item, Empty, Again}

-- the view of an end: its parts, what it has pushed and what it has taken
abbrev pub hand : {T : Type 0} → ℕ → List T → List T → Hand T
hand parts put taken = record { parts = parts; put = put; taken = taken }

abbrev pub put_by : {T : Type 0} → Hand T → List T
put_by v = v.put

abbrev pub taken_by : {T : Type 0} → Hand T → List T
taken_by v = v.taken

abbrev pub total : {T : Type 0} → List (Hand T) → ℕ
total [] = 0
total (v ∷ vs) = v.parts + total vs

-- an end without a part has pushed and taken nothing
abbrev pub IsIdle : {T : Type 0} → Hand T → Type 0
IsIdle v = v.parts ≡ 0 → (v.put ≡ []) × (v.taken ≡ [])

abbrev pub AllIdle : {T : Type 0} → List (Hand T) → Type 0
AllIdle [] = Unit {0}
AllIdle (v ∷ vs) = IsIdle v × AllIdle vs

-- the rule: there are 1,024 parts (any number above the 63 thieves of a board would do), and the
-- items pushed are, each as often as it was pushed, those on the board and those that were taken
pub record Balanced {T : Type 0} (items : List T) (views : List (Hand T)) : Type 0 where
  pub parts : total views ≡ 1024
  pub same : IsPermutation (flat_map put_by views) (flat_map taken_by views ++ items)
  pub idle : AllIdle views

-- if an end has every part and the board is empty, all items that were pushed were taken
abbrev pub Settles : {T : Type 0} → Hand T → Type 0
Settles v = v.parts ≡ 1024 → IsPermutation v.put v.taken

-- an end has taken these items too; if it has every part, it has taken no more than were pushed
abbrev pub HasTakenMore : {T : Type 0} → Hand T → List T → Hand T → Type 0
HasTakenMore v xs w =
    (w ≡ hand v.parts v.put (v.taken ++ xs))
    × (v.parts ≡ 1024 → length (v.taken ++ xs) ≤ length v.put)

-- what a steal changes
abbrev pub HasStolen : {T : Type 0} → Hand T → Hand T → Stolen T → Type 0
HasStolen v w (Item x) = w ≡ hand v.parts v.put (v.taken ++ x ∷ [])
HasStolen v w Empty = w ≡ v
HasStolen v w Again = w ≡ v
