-- The calls that a cache has processed (DDS 1.4, 2.2.2.5).
use Rattle.std.specs.Prelude.{ℕ, Bool, List, [], ◌∷◌}
use Rattle.std.specs.Str.{bytes_eq}
use Rattle.rtps_types.specs.declared.identity.KeyHash.{KeyHash}
use Rattle.rtps_reader.specs.declared.notice.Notice.{Notice}
use Rattle.dds_cache.specs.declared.condition.Condition.{Condition}

-- A call: a notice was accepted, or at most max entries that meet a condition were read, or taken.
-- The past of a cache is the list of its calls, the newest first.
pub data Done (M : Type 0) : Type 0 where
  Accepted : Notice M → Done M
  WasRead : ℕ → Condition → Done M
  WasTaken : ℕ → Condition → Done M

-- these calls, followed by the acceptance of these notices, in order
abbrev pub accepted_after : {M : Type 0} → List (Done M) → List (Notice M) → List (Done M)
accepted_after past [] = past
accepted_after past (n ∷ ns) = accepted_after (Accepted n ∷ past) ns

-- an instance is identified by the hash of its key (DDSI-RTPS 9.6.4.8)
abbrev pub same_key : KeyHash → KeyHash → Bool
same_key a b = bytes_eq a.0 b.0
