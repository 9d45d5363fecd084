-- What contracts see of an announcer.
use Rattle.std.specs.Prelude.{◌≡◌, List, ◌++◌, Bool, false, true}
use Rattle.rtps_types.specs.declared.identity.GuidPrefix.{GuidPrefix}
use Rattle.rtps_announcer.specs.declared.hearing.Hearing.{Hearing}
use Rattle.rtps_announcer.specs.declared.rules.Rules.{Rules}
use Rattle.rtps_announcer.specs.declared.said.Sending.{Sending}
use Rattle.rtps_announcer.specs.Announcing.{State, first, sends_run, state_run, step}

pub record AnnouncerView : Type 0 where
  pub own : GuidPrefix
  pub rules : Rules
  -- a call was refused memory
  pub failed : Bool
  pub state : State

-- an announcer is where these hearings bring it
pub record StandsAt (hs : List Hearing) (a : AnnouncerView) : Type 0 where
  pub state : a.state ≡ state_run a.rules first hs
  pub failed : a.failed ≡ false

-- an announcer took what was heard, and what is said by it was put after what was in a list
pub record Heard (h : Hearing) (old new : AnnouncerView) (before after : List Sending) :
    Type 0 where
  pub state : new.state ≡ (step old.rules h old.state).state
  pub sends : after ≡ before ++ (step old.rules h old.state).sends
  pub failed : new.failed ≡ false

-- the same of several hearings, one after the other
pub record HeardAll (hs : List Hearing) (old new : AnnouncerView) (before after : List Sending) :
    Type 0 where
  pub state : new.state ≡ state_run old.rules old.state hs
  pub sends : after ≡ before ++ sends_run old.rules old.state hs
  pub failed : new.failed ≡ false

-- the participant and the rules stay
pub record IsSame (old new : AnnouncerView) : Type 0 where
  pub own : new.own ≡ old.own
  pub rules : new.rules ≡ old.rules

-- a refused announcer has failed, and the list is as it was
pub record IsRefused (new : AnnouncerView) (before after : List Sending) : Type 0 where
  pub failed : new.failed ≡ true
  pub sends : after ≡ before
