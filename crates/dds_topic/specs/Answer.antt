-- The results of a catalog, unless memory runs out (DDS 1.4, 2.2.2.5).
use Rattle.std.specs.Prelude.{◌≡◌, ℕ, List, codes, Result, Ok, Err}
use Rattle.dds_topic.specs.declared.unread.Unread.{Unread as UnreadCode}
use Rattle.dds_topic.specs.declared.unread.Unread.TheVariants.{Encapsulation, Malformed, NonStandard, NoKey}
use Rattle.dds_topic.specs.declared.unread.CatalogError.{CatalogError}
use Rattle.dds_topic.specs.declared.unread.CatalogError.TheVariants as errors

-- the numbers of the reasons
abbrev pub code_of : UnreadCode → ℕ
code_of Encapsulation = 1
code_of Malformed = 2
code_of NonStandard = 3
code_of NoKey = 4

-- the names of the reasons
abbrev pub name_of : UnreadCode → List ℕ
name_of Encapsulation = codes "Encapsulation"
name_of Malformed = codes "Malformed"
name_of NonStandard = codes "NonStandard"
name_of NoKey = codes "NoKey"

-- an error is out of memory, which may always happen, or else the reason that the meaning gives
abbrev pub Fails : {M : Type 0} → CatalogError → Result M UnreadCode → Type 0
Fails errors.NoMemory meaning = Unit {0}
Fails (errors.Unread u) meaning = meaning ≡ Err u

-- a result agrees with the meaning: it is the value with that meaning, or the error
abbrev pub Gives : {V M : Type 0} → (V → M) → Result V CatalogError → Result M UnreadCode → Type 0
Gives view (Ok v) meaning = meaning ≡ Ok (view v)
Gives view (Err e) meaning = Fails e meaning
