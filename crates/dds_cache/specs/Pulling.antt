-- Moving notices from a ring into a cache.
use Rattle.std.specs.Prelude.{◌≡◌, ◌≤◌, Bool, true, false, List, [], ◌∷◌, ◌++◌, length, Result, Ok, Err}
use Rattle.rtps_reader.specs.declared.notice.Notice.{Notice}
use Rattle.dds_outlet.specs.Ring.{Receiving}
use Rattle.dds_cache.specs.Calls.{Accepted, Done, accepted_after}
use Rattle.dds_cache.specs.Standing.{CacheView, StandsAt}

-- a notice is known to be next in the ring
pub record HasNext {V A : Type 0} (ring : Receiving V A) : Type 0 where
  pub first : Notice V
  pub rest : List (Notice V)
  pub next : ring.next ≡ first ∷ rest

-- These notices were received from the ring and accepted, each once, in order, and at most one for
-- each of its places. If all that the sender sent is known, what is left is the rest of it.
pub record Pulls {V A : Type 0} (moved : List (Notice V)) (old new : CacheView V)
    (before after : Receiving V A) : Type 0 where
  pub received : after.received ≡ before.received ++ moved
  pub stands : (past : List (Done V)) → StandsAt past old
      → StandsAt (accepted_after past moved) new
  pub most : length moved ≤ before.capacity
  pub ring : (after.ring ≡ before.ring) × (after.is_last ≡ before.is_last)
      × (after.capacity ≡ before.capacity)
  pub left : before.is_last ≡ true
      → after.received ++ after.next ≡ before.received ++ before.next

-- ---- one notice

-- a notice was received from the ring and accepted
pub record Moves {V A : Type 0} (old new : CacheView V) (before after : Receiving V A)
    : Type 0 where
  pub notice : Notice V
  pub received : after.received ≡ before.received ++ notice ∷ []
  pub stands : (past : List (Done V)) → StandsAt past old → StandsAt (Accepted notice ∷ past) new
  pub left : before.is_last ≡ true → before.next ≡ notice ∷ after.next

-- there was no notice in the ring
pub record FindsNone {V A : Type 0} (old new : CacheView V) (before after : Receiving V A)
    : Type 0 where
  pub received : after.received ≡ before.received
  pub next : (before.next ≡ []) × (after.next ≡ [])
  pub stands : (past : List (Done V)) → StandsAt past old → StandsAt past new

-- memory for a notice was refused, and it was put back
pub record PutsBack {V A : Type 0} (old new : CacheView V) (before after : Receiving V A)
    : Type 0 where
  pub received : after.received ≡ before.received
  pub waits : HasNext after
  pub stands : (past : List (Done V)) → StandsAt past old → StandsAt past new
  pub left : before.is_last ≡ true → after.next ≡ before.next

-- the effect of moving one notice, by the result
unfoldable pub PullsOne : {V A E : Type 0} → Result Bool E → CacheView V → CacheView V
    → Receiving V A → Receiving V A → Type 0
PullsOne (Ok true) old new before after = Moves old new before after
PullsOne (Ok false) old new before after = FindsNone old new before after
PullsOne (Err e) old new before after = PutsBack old new before after
