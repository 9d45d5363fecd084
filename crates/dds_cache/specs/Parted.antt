-- Under KEEP_ALL, each entry is in the cache or was taken.
use Rattle.std.specs.Prelude.{◌≡◌, List, [], ◌∷◌, ◌++◌, map, Option, ◌⊎◌}
use Rattle.std.specs.List.Sorted.{IsPermutation}
use Rattle.rtps_types.specs.declared.identity.Guid.{Guid}
use Rattle.rtps_types.specs.declared.number.Number.{Number}
use Rattle.rtps_types.specs.declared.place.Place.{Place}
use Rattle.rtps_types.specs.declared.time.Timestamp.{Timestamp}
use Rattle.dds_cache.specs.declared.entry.Content.{Content}
use Rattle.dds_cache.specs.declared.entry.Entry.{Entry}
use Rattle.dds_cache.specs.declared.entry.Sample.{Sample}
use Rattle.dds_cache.specs.declared.history.History.TheVariants.{KeepAll}
use Rattle.dds_cache.specs.Answered.{answered}
use Rattle.dds_cache.specs.Cache.{cached, entry_by}
use Rattle.dds_cache.specs.Calls.{Done, Accepted, WasRead, WasTaken}

-- an accepted value or disposal, without states
pub record Told (M : Type 0) : Type 0 where
  pub place : Place
  pub writer : Guid
  pub number : Number
  pub time : Option Timestamp
  pub body : Content M

-- an entry, without its states
abbrev pub told : {M : Type 0} → Entry M → Told M
told e = record {
  place = e.place;
  writer = e.writer;
  number = e.number;
  time = e.time;
  body = e.body;
}

-- a sample that was returned, without its states
abbrev pub told_by : {M : Type 0} → Sample M → Told M
told_by s = record {
  place = s.place;
  writer = s.writer;
  number = s.number;
  time = s.time;
  body = s.body;
}

-- all values and disposals that were accepted, in order
abbrev pub all_accepted : {M : Type 0} → List (Done M) → List (Told M)
all_accepted [] = []
all_accepted (Accepted n ∷ past) = all_accepted past ++ map told (entry_by n.place n.writer n.what)
all_accepted (WasRead max flags ∷ past) = all_accepted past
all_accepted (WasTaken max flags ∷ past) = all_accepted past

-- all that takes returned
abbrev pub all_taken : {M : Type 0} → List (Done M) → List (Told M)
all_taken [] = []
all_taken (Accepted n ∷ past) = all_taken past
all_taken (WasRead max flags ∷ past) = all_taken past
all_taken (WasTaken max flags ∷ past) =
    all_taken past ++ map told_by (answered KeepAll past max flags)

-- the first list is an interleaving of the other two, each in its order
abbrev pub AreParts : {X : Type 0} → List X → List X → List X → Type 0
AreParts [] xs ys = (xs ≡ []) × (ys ≡ [])
AreParts {X} (z ∷ zs) xs ys =
    ((rest : List X) × (xs ≡ z ∷ rest) × AreParts zs rest ys)
    ⊎ ((rest : List X) × (ys ≡ z ∷ rest) × AreParts zs xs rest)

-- each accepted entry is in the cache, in order of acceptance, or was taken, exactly once
pub record IsLeftOrTaken {M : Type 0} (past : List (Done M)) : Type 0 where
  pub gone : List (Told M)
  pub parts : AreParts (all_accepted past) (map told (cached KeepAll past).entries) gone
  pub taken : IsPermutation gone (all_taken past)
