-- A ring that hands the notices of a reader to another thread, first in, first out.
use Rattle.std.specs.Prelude.{◌≡◌, ℕ, ◌-◌, Bool, List, [], ◌∷◌, ◌++◌, length, take, Option, Some, None}
use denote.RawPtr.{Ptr}
use Rattle.rtrb.specs.declared.end.End.{End}
use Rattle.rtps_reader.specs.declared.notice.Notice.{Notice}

-- what tells one ring from another
pub record RingName (A : Type 0) : Type 0 where
  pub words : Ptr
  pub slots : Ptr
  pub names : ℕ × (ℕ × ℕ)
  pub heap : A

-- the ring that an end belongs to
abbrev pub name_of : {T A P : Type 0} → End T A P → RingName A
name_of end = record {
  words = end.words;
  slots = end.slots;
  names = end.names;
  heap = end.heap;
}

-- The end that notices are delivered to: all that it sent, oldest first, how many places it knows
-- to be free, and how many the ring has.
pub record Sending (V A : Type 0) : Type 0 where
  pub ring : RingName A
  pub sent : List (Notice V)
  pub free : ℕ
  pub capacity : ℕ

-- The end that they come out of: all that it received, oldest first, and what it knows to come
-- next; whether nothing else will come, whether the first of these was put back, and how many
-- places the ring has.
pub record Receiving (V A : Type 0) : Type 0 where
  pub ring : RingName A
  pub received : List (Notice V)
  pub next : List (Notice V)
  pub is_last : Bool
  pub is_put_back : Bool
  pub capacity : ℕ

-- what an outlet that has finished had sent
pub record Finished (V A : Type 0) : Type 0 where
  pub ring : RingName A
  pub sent : List (Notice V)

-- the notices received: those popped, without the last one if it was put back
abbrev pub received_of : {V : Type 0} → Option (Notice V) → List (Notice V) → List (Notice V)
received_of None popped = popped
received_of (Some notice) popped = take (length popped - 1) popped

-- the notice that was put back, if there is one, is the one that was popped last
abbrev pub IsPoppedLast : {V : Type 0} → Option (Notice V) → List (Notice V) → Type 0
IsPoppedLast None popped = Unit {0}
IsPoppedLast (Some notice) popped = popped ≡ received_of (Some notice) popped ++ notice ∷ []
