-- The bodies of events, without their places in memory (DDSI-RTPS 8.3.7).
use Rattle.std.specs.Prelude.{ℕ, ℤ, ◌^◌, List, ◌∷◌, Bool, nat_le}
use Rattle.std.specs.List.{list_all}
use Rattle.rtps_types.specs.NumberSet.{NumberSet, members}
use Rattle.rtps_wire.specs.declared.data.ChangeInfo.{ChangeInfo}

-- numbers of changes are at most 2^62
abbrev pub is_taken : ℕ → Bool
is_taken n = nat_le n (2 ^ 62)

-- the base and all members of a set are at most that
abbrev pub are_taken : NumberSet → Bool
are_taken s = list_all is_taken (s.base ∷ members s)

-- a change in one piece
pub record WholeView : Type 0 where
  pub number : ℕ
  pub info : ChangeInfo
  pub payload : List ℕ

-- consecutive fragments of a change, from number start on
pub record FragmentView : Type 0 where
  pub number : ℕ
  pub start : ℕ
  pub count : ℕ
  pub size : ℕ
  pub sample : ℕ
  pub info : ChangeInfo
  pub payload : List ℕ

-- the numbers that a writer has
pub record HeartbeatView : Type 0 where
  pub first : ℕ
  pub last : ℕ
  pub count : ℤ
  pub final_flag : Bool
  pub liveliness : Bool

-- irrelevant numbers: from start to the base of the list, without the base, and the list's members
pub record GapView : Type 0 where
  pub start : ℕ
  pub list : NumberSet

-- the fragments of a change that a writer has
pub record HeartbeatFragView : Type 0 where
  pub number : ℕ
  pub last : ℕ
  pub count : ℤ

-- the body of an event, by its kind
pub data EventBodyView : Type 0 where
  Whole : WholeView → EventBodyView
  Fragment : FragmentView → EventBodyView
  Heartbeat : HeartbeatView → EventBodyView
  Gap : GapView → EventBodyView
  HeartbeatFrag : HeartbeatFragView → EventBodyView
