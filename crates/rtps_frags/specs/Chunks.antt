-- The fragments of a sample, as the code stores them.
use Rattle.std.specs.Prelude.{◌≡◌, ℕ, suc, ◌+◌, ◌*◌, ◌≤◌, Bool, ◌&&◌, ◌||◌, nat_le, nat_lt, List, Option, Some, if◌then◌else◌, vec_capacity}
use Rattle.rtps_frags.specs.declared.chunks.Chunks.{Chunks}
use Rattle.rtps_frags.specs.declared.sizes.Sizes.{Sizes}
use Rattle.rtps_frags.specs.Buffer.{AreNew, AreStored, front_in, runs_in, stored_at}
use Rattle.rtps_frags.specs.Fragments.{There, fragment_in}
use Rattle.rtps_frags.specs.Runs.{covers, there_of}

-- the runs are after the least missing fragment
abbrev pub IsKept : {A : Type 0} → Sizes → Chunks A → Type 0
IsKept z p = AreStored z (suc p.next) p.next p.there p.buffer.items p.early.entries

-- the same, or the first run begins with the least missing fragment
abbrev pub IsJoinable : {A : Type 0} → Sizes → Chunks A → Type 0
IsJoinable z p = AreStored z p.next p.next p.there p.buffer.items p.early.entries

-- the buffer has a capacity of at most sixteen times the octets received in it, whatever the stated
-- size of the sample
abbrev pub IsBounded : {A : Type 0} → Chunks A → Type 0
IsBounded p = vec_capacity p.buffer ≤ 16 * p.there

-- the octets of a fragment, if it is stored
abbrev pub part_at : {A : Type 0} → Sizes → Chunks A → ℕ → Option (List ℕ)
part_at z p = stored_at z p.next p.buffer.items p.early.entries

-- a fragment is stored
abbrev pub holds : {A : Type 0} → Chunks A → ℕ → Bool
holds p k = (nat_le 1 k && nat_lt k p.next) || covers p.early.entries k

-- the stored fragments, by rising number, each with its octets
abbrev pub there_in : {A : Type 0} → Sizes → Chunks A → There
there_in z p =
    there_of z p.next (front_in z p.next p.buffer.items)
    (runs_in z p.buffer.items p.early.entries)

-- fragments that aren't stored yet, with exactly their octets
abbrev pub AreAway : {A : Type 0} → Sizes → Chunks A → ℕ → ℕ → List ℕ → Type 0
AreAway z p start count octets = AreNew z p.next p.buffer.items p.early.entries start count octets

-- these fragments were stored, and all others are as before
abbrev pub ArePut : {A : Type 0} → Sizes → Chunks A → Chunks A → ℕ → ℕ → List ℕ → Type 0
ArePut z old new start count octets =
    (k : ℕ) → part_at z new k
    ≡ (if nat_le start k && nat_lt k (start + count) then Some (fragment_in z start octets k)
    else part_at z old k)
