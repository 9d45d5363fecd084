-- One event: the state after it and its effects, by whether the reader is reliable.
use Rattle.std.specs.Prelude.{◌≡◌, List, ◌∷◌, map, None, Result, IfOk}
use Rattle.std.specs.Option.{option_map}
use Rattle.rtps_proxy.specs.declared.effects.Effects.{Effects}
use Rattle.rtps_proxy.specs.BestEffort as best
use Rattle.rtps_proxy.specs.Change.{change_view}
use Rattle.rtps_proxy.specs.Effects.{AreEffects, BestEffortStandsAt, ReliableStandsAt, StateStandsAt}
use Rattle.rtps_proxy.specs.History.{MatchEvent}
use Rattle.rtps_proxy.specs.Kept.{ReliableView, BestEffortView, StateView, Pairing}
use Rattle.rtps_proxy.specs.Received as reliable
use Rattle.rtps_proxy.specs.Replies.{reply, reply_view}

-- a best-effort reader's step (DDSI-RTPS 8.4.12.1): the state then, and the effects of the event
pub record BestEffortStep {A : Type 0} (past : List MatchEvent) (event : MatchEvent)
    (kept : BestEffortView) (effects : Effects A) : Type 0 where
  pub stands : BestEffortStandsAt (event ∷ past) kept
  pub lost : effects.lost ≡ best.lost past event
  pub ready : map change_view effects.ready.items ≡ best.ready past event
  pub answer : effects.answer ≡ None

-- a reliable reader's step (DDSI-RTPS 8.4.12.2): the state then, and the effects of the event
pub record ReliableStep {A : Type 0} (pairing : Pairing) (past : List MatchEvent)
    (event : MatchEvent) (kept : ReliableView) (effects : Effects A) : Type 0 where
  pub stands : ReliableStandsAt (event ∷ past) kept
  pub lost : effects.lost ≡ reliable.lost past event
  pub ready : map change_view effects.ready.items ≡ reliable.ready past event
  pub answer : option_map reply_view effects.answer ≡ reply pairing past event

-- a reader's step, by whether it is reliable
pub record StateStep {A : Type 0} (pairing : Pairing) (past : List MatchEvent) (event : MatchEvent)
    (state : StateView) (effects : Effects A) : Type 0 where
  pub stands : StateStandsAt (event ∷ past) pairing.reliable state
  pub gives : AreEffects pairing past event effects

-- how an event is handled, whatever the events before it were
abbrev pub BestEffortTakes : {A E : Type 0} → BestEffortView → BestEffortView → MatchEvent
    → Result (Effects A) E → Type 0
BestEffortTakes old new event result =
    (past : List MatchEvent) → BestEffortStandsAt past old
    → IfOk result (BestEffortStep past event new)

abbrev pub ReliableTakes : {A E : Type 0} → Pairing → ReliableView → ReliableView → MatchEvent
    → Result (Effects A) E → Type 0
ReliableTakes pairing old new event result =
    (past : List MatchEvent) → ReliableStandsAt past old
    → IfOk result (ReliableStep pairing past event new)

abbrev pub StateTakes : {A E : Type 0} → Pairing → StateView → StateView → MatchEvent
    → Result (Effects A) E → Type 0
StateTakes pairing old new event result =
    (past : List MatchEvent) → StateStandsAt past pairing.reliable old
    → IfOk result (StateStep pairing past event new)
