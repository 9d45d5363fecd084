-- The state of a proxy after a history, and the effects of an event (DDSI-RTPS 8.4.10.4, 8.4.12).
use Rattle.std.specs.Prelude.{◌≡◌, ℕ, ◌%◌, ◌^◌, Bool, true, false, List, [], ◌∷◌, map, Result, Ok, Err, IfOk, IsErr, OnErr, OnOk, Option, Some, None, if◌then◌else◌, is_some, ℤ, int_lt}
use Rattle.std.specs.Option.{option_map}
use Rattle.rtps_types.specs.declared.time.Timestamp.{Timestamp}
use Rattle.rtps_receiver.specs.declared.event_body.EventBody.{EventBody}
use Rattle.rtps_receiver.specs.Views.{body_view}
use Rattle.rtps_proxy.specs.declared.effects.Effects.{Effects}
use Rattle.rtps_proxy.specs.Answer.{answers}
use Rattle.rtps_proxy.specs.BestEffort as best
use Rattle.rtps_proxy.specs.Change.{change_view, ChangeView}
use Rattle.rtps_proxy.specs.Heartbeat.{announced_of, has_heartbeat, is_new}
use Rattle.rtps_proxy.specs.HeartbeatFrag.{is_new_frag}
use Rattle.rtps_proxy.specs.History.{MatchEvent}
use Rattle.rtps_proxy.specs.NackFrag.{nacks}
use Rattle.rtps_proxy.specs.Kept.{ReliableView, BestEffort, ProxyView, BestEffortView, Reliable, StateView, Pairing}
use Rattle.rtps_proxy.specs.Received as reliable
use Rattle.rtps_proxy.specs.Received.{held, in_order, is_settled, standing}
use Rattle.rtps_proxy.specs.Replies.{ReplyView, reply, reply_view}
use Rattle.rtps_proxy.specs.Runs.{marks}

-- an event as a match gets it
abbrev pub match_event : Option Timestamp → EventBody → MatchEvent
match_event time b = record { time = time; body = body_view b }

-- the count is above the greatest so far
abbrev pub exceeds : Option ℤ → ℤ → Bool
exceeds None count = true
exceeds (Some greatest) count = int_lt greatest count

-- the state of a reliable reader after these events, the newest first
pub record ReliableStandsAt (past : List MatchEvent) (proxy : ReliableView) : Type 0 where
  pub counts : (count : ℤ) → is_new past count ≡ exceeds proxy.accepted count
  pub begun : has_heartbeat past ≡ is_some proxy.accepted
  pub announced : proxy.announced ≡ announced_of past
  pub settled : (n : ℕ) → is_settled past n ≡ marks proxy.frontier proxy.runs n
  pub held : proxy.held ≡ in_order (held past)
  pub pending : proxy.begun ≡ standing past
  pub sound : proxy.sound ≡ true
  pub answers : proxy.answers ≡ answers past % 2 ^ 32
  pub frag_counts : (count : ℤ) → is_new_frag past count ≡ exceeds proxy.frag_accepted count
  pub nacks : proxy.nacks ≡ nacks past % 2 ^ 32

-- the state of a best-effort reader after these events
pub record BestEffortStandsAt (past : List MatchEvent) (proxy : BestEffortView) : Type 0 where
  pub top : proxy.top ≡ best.top_of past
  pub pending : proxy.begun ≡ best.standing past
  pub sound : proxy.sound ≡ true

-- the state of a reader after these events, by whether it is reliable
abbrev pub StateStandsAt : List MatchEvent → Bool → StateView → Type 0
StateStandsAt past false (BestEffort r) = BestEffortStandsAt past r
StateStandsAt past true (Reliable r) = ReliableStandsAt past r
StateStandsAt past false (Reliable r) = ⊥
StateStandsAt past true (BestEffort r) = ⊥

-- the proxy has the state that follows from these events, the newest first
pub record StandsAt (past : List MatchEvent) (proxy : ProxyView) : Type 0 where
  pub sound : proxy.spent ≡ false
  pub state : StateStandsAt past proxy.pairing.reliable proxy.state

-- the number of sequence numbers that are lost at an event, by whether the reader is reliable
abbrev pub lost_of : Bool → List MatchEvent → MatchEvent → ℕ
lost_of is_reliable past e = if is_reliable then reliable.lost past e else best.lost past e

-- the changes that are ready at an event
abbrev pub ready_of : Bool → List MatchEvent → MatchEvent → List ChangeView
ready_of is_reliable past e = if is_reliable then reliable.ready past e else best.ready past e

-- the answer to the writer at an event: a best-effort reader sends none
abbrev pub answer_of : Pairing → List MatchEvent → MatchEvent → Option ReplyView
answer_of w past e = if w.reliable then reply w past e else None

-- the effects of an event
pub record AreEffects {A : Type 0} (pairing : Pairing) (past : List MatchEvent) (event : MatchEvent)
    (effects : Effects A) : Type 0 where
  pub lost : effects.lost ≡ lost_of pairing.reliable past event
  pub ready : map change_view effects.ready.items ≡ ready_of pairing.reliable past event
  pub answer : option_map reply_view effects.answer ≡ answer_of pairing past event

-- How an event is handled: the state then follows from this event too, and its effects are those of
-- the event. A refused growth leaves the proxy spent. A spent proxy refuses each event, and nothing
-- changes.
pub record TakesIn {A E : Type 0} (old new : ProxyView) (event : MatchEvent)
    (result : Result (Effects A) E) : Type 0 where
  pub stands : (past : List MatchEvent) → StandsAt past old
      → OnOk result (StandsAt (event ∷ past) new)
  pub effects : (past : List MatchEvent) → StandsAt past old
      → IfOk result (AreEffects old.pairing past event)
  pub pairing : new.pairing ≡ old.pairing
  pub err : OnErr result (new.spent ≡ true)
  pub spent : old.spent ≡ true → IsErr result
  pub still : old.spent ≡ true → new ≡ old

-- the effects are empty
pub record GivesNothing {A : Type 0} (effects : Effects A) : Type 0 where
  pub lost : effects.lost ≡ 0
  pub ready : effects.ready.items ≡ []
  pub answer : effects.answer ≡ None

-- the result of a call that writes into the caller's effects
abbrev pub given_in : {A T E : Type 0} → Effects A → Result T E → Result (Effects A) E
given_in effects (Ok done) = Ok effects
given_in effects (Err e) = Err e
