-- Our own readers that come and go (DDSI-RTPS 8.5). A reader keeps its rank; one that comes gets
-- the next one.
use Rattle.std.specs.Prelude.{ℕ, zero, suc, ◌==◌, List, [], ◌∷◌, ◌++◌, length, filter, not, Option, Some, None}
use Rattle.rtps_types.specs.declared.identity.Guid.{Guid}
use Rattle.rtps_discovery.specs.Known.{Known, Wish}

-- the state without the fixed matches of the reader of a rank
abbrev pub without_fixed : ℕ → Known → Known
without_fixed rank k = record k { fixed = filter (λ (p : ℕ × Guid). not (p.0 == rank)) k.fixed }

-- the state after a reader of ours came; it has no fixed matches
abbrev pub joined : Wish → Known → Known
joined r k = record (without_fixed (length k.readers) k) { readers = k.readers ++ Some r ∷ [] }

-- readers by rank, with none at this rank
abbrev pub vacated : ℕ → List (Option Wish) → List (Option Wish)
vacated rank [] = []
vacated zero (r ∷ rs) = None ∷ rs
vacated (suc rank) (r ∷ rs) = r ∷ vacated rank rs

-- the state without the reader of a rank, in which its fixed matches are still there
abbrev pub without_reader : ℕ → Known → Known
without_reader rank k = record k { readers = vacated rank k.readers }

-- the state after the reader of a rank went, with its fixed matches
abbrev pub parted : ℕ → Known → Known
parted rank k = without_fixed rank (without_reader rank k)
