-- How the changes of our announcer of readers are sent: as changes, or as irrelevant numbers
-- (DDSI-RTPS 8.3.7.4, 8.5.4).
use Rattle.std.specs.Prelude.{ℕ, ◌+◌, ◌-◌, ◌==◌, nat_le, nat_lt, List, [], ◌∷◌, filter, map, slice_get, take, Bool, false, not, Option, Some, None, if◌then◌else◌}
use Rattle.rtps_announcer.specs.Ack.{AckView}
use Rattle.rtps_announcer.specs.declared.said.Change.{Change}
use Rattle.rtps_announcer.specs.declared.said.Change.TheVariants.{Asks, Ends}
use Rattle.rtps_announcer.specs.declared.said.Said.{Said}
use Rattle.rtps_announcer.specs.declared.said.Said.TheVariants.{Told, Void, Bye, Hello, Beat}

-- the mark of a rank, if the rank was given and its reader went
abbrev pub is_marked : Option Bool → Bool
is_marked None = false
is_marked (Some gone) = gone

-- the reader of a rank has gone; `gone` has a mark for each rank that was given
abbrev pub has_gone : List Bool → ℕ → Bool
has_gone gone rank = is_marked (slice_get gone rank)

-- A change concerns a peer that was found when there were `since` changes: its reader is there; or
-- its reader has gone since then, so that the peer may have heard of it.
abbrev pub concerns : List Bool → ℕ → ℕ → Change → Bool
concerns gone since n (Asks rank) = not (has_gone gone rank)
concerns gone since n (Ends rank) = nat_lt since n

-- a change, or that its number is irrelevant where it doesn't concern the peer
abbrev pub told_as : List Bool → ℕ → ℕ → Change → Said
told_as gone since n c = if concerns gone since n c then Told n c else Void n n

-- irrelevant numbers, and others right after them, are said at once
abbrev pub with_void : ℕ → ℕ → List Said → List Said
with_void first last [] = Void first last ∷ []
with_void first last (Bye ∷ more) = Void first last ∷ Bye ∷ more
with_void first last (Hello ∷ more) = Void first last ∷ Hello ∷ more
with_void first last (Told n c ∷ more) = Void first last ∷ Told n c ∷ more
with_void first last (Void next end ∷ more) =
    if next == last + 1
    then Void first end ∷ more
    else Void first last ∷ Void next end ∷ more
with_void first last (Beat end count ∷ more) = Void first last ∷ Beat end count ∷ more

abbrev pub before : Said → List Said → List Said
before Bye more = Bye ∷ more
before Hello more = Hello ∷ more
before (Told n c) more = Told n c ∷ more
before (Void first last) more = with_void first last more
before (Beat last count) more = Beat last count ∷ more

-- neighbouring irrelevant numbers are said at once
abbrev pub merged : List Said → List Said
merged [] = []
merged (x ∷ more) = before x (merged more)

-- all changes from the number n on, one after the other
abbrev pub telling : List Bool → ℕ → ℕ → List Change → List Said
telling gone since n [] = []
telling gone since n (c ∷ cs) = told_as gone since n c ∷ telling gone since (n + 1) cs

-- the numbers of an ACKNACK that are sent again: of those that there are, the first `most`
abbrev pub wanted : ℕ → ℕ → AckView → List ℕ
wanted most last a = take most (filter (λ n. nat_le n last) a.asked)

-- what is said of a number that a peer asks for, by the change with it
abbrev pub told_if : List Bool → ℕ → ℕ → Option Change → Said
told_if gone since n None = Void n n
told_if gone since n (Some c) = told_as gone since n c

-- the change with the number n is that at index n - 1
abbrev pub told_of : List Change → List Bool → ℕ → ℕ → Said
told_of changes gone since n = told_if gone since n (slice_get changes (n - 1))

-- what is said of numbers that a peer asks for
abbrev pub retelling : List Change → List Bool → ℕ → List ℕ → List Said
retelling changes gone since asked = map (told_of changes gone since) asked
