-- A change, with the time of the event that brought it (DDSI-RTPS 8.2.2).
use Rattle.std.specs.Prelude.{ℕ, List, map, Option}
use Rattle.rtps_types.specs.declared.time.Timestamp.{Timestamp}
use Rattle.rtps_wire.specs.declared.data.ChangeInfo.{ChangeInfo}
use Rattle.rtps_receiver.specs.EventBody.{WholeView}
use Rattle.rtps_types.specs.Number.{value_of}
use Rattle.rtps_proxy.specs.declared.change.Change.{Change}
use Rattle.rtps_proxy.specs.declared.change.Payload.{Payload}
use Rattle.rtps_proxy.specs.declared.change.Payload.TheVariants as payload

-- a change with the time of its event
pub record ChangeView : Type 0 where
  pub number : ℕ
  pub time : Option Timestamp
  pub info : ChangeInfo
  pub payload : List ℕ

-- the change in a DATA
abbrev pub change_of : Option Timestamp → WholeView → ChangeView
change_of time c = record { number = c.number; time = time; info = c.info; payload = c.payload }

-- the octets of a payload, borrowed or owned
abbrev pub octets_of : {A : Type 0} → Payload A → List ℕ
octets_of (payload.Lent octets) = octets.now
octets_of (payload.Kept octets) = octets

-- what contracts see of a change
abbrev pub change_view : {A : Type 0} → Change A → ChangeView
change_view c =
    record {
      number = value_of c.number;
      time = c.time;
      info = c.info;
      payload = octets_of c.payload;
    }

-- what contracts see of changes
abbrev pub change_views : {A : Type 0} → List (Change A) → List ChangeView
change_views = map change_view
