-- The contents of a cache after the borrow of a read ends.
use Rattle.std.specs.Prelude.{◌≡◌, ℕ, List, ◌∷◌, Result, OnErr, OnOk, ⊤}
use Rattle.std.specs.Borrow.{Fml, MutBor, follows_so}
use mathlib.Core.Option.{none}
use denote.RattleType.{RattleType}
use Rattle.std.specs.declared.alloc.Allocator as alloc
use Rattle.dds_cache.specs.declared.condition.Condition.{Condition}
use Rattle.dds_cache.specs.contracts.reader.DataReader.{the_row}
use Rattle.dds_cache.specs.Calls.{Done, WasRead}
use Rattle.dds_cache.specs.Standing.{CacheView, StandsAt}

-- the read is the newest call of the cache, or it was refused and is no call
abbrev pub WasReadFrom : {M T E : Type 0} → CacheView M → ℕ → Condition → Result T E → CacheView M
    → Type 0
WasReadFrom {M} old max flags r new =
    (new.keep ≡ old.keep)
    × ((past : List (Done M)) → StandsAt past old
    → OnOk r (StandsAt (WasRead max flags ∷ past) new))
    × ((past : List (Done M)) → StandsAt past old → OnErr r (StandsAt past new))

-- this property holds of the cache when the borrow of a read ends
abbrev pub ends_read : (V A : RattleType) (a : alloc.Ghosts A.Denot) → MutBor (CacheView V.Denot)
    → (CacheView V.Denot → Type 0) → Fml
ends_read V A a s P = follows_so (the_row V A a) (the_row V A a) s.ghost_name none (λ _ _. ⊤) P
