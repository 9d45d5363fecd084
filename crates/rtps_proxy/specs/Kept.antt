-- The state of a proxy (DDSI-RTPS 8.4.10.4).
use Rattle.std.specs.Prelude.{ℕ, ℤ, ◌+◌, ◌%◌, ◌^◌, Bool, true, false, not, ◌&&◌, ◌||◌, if◌then◌else◌, List, [], length, nat_le, nat_lt, Option, None, Some, Box, is_some, map}
use Rattle.rtps_types.specs.declared.identity.EntityId.{EntityId}
use Rattle.rtps_types.specs.declared.identity.Guid.{Guid}
use Rattle.rtps_types.specs.declared.identity.GuidPrefix.{GuidPrefix}
use Rattle.rtps_types.specs.declared.locator.Locator.{Locator}
use Rattle.rtps_types.specs.declared.number.Number.{Number}
use Rattle.rtps_types.specs.NumberSet.{NumberSet}
use Rattle.rtps_receiver.specs.EventBody.{HeartbeatFragView, FragmentView}
use Rattle.rtps_receiver.specs.declared.event_body.Heartbeat.{Heartbeat}
use Rattle.rtps_proxy.specs.declared.best_effort.BestEffort as newest
use Rattle.rtps_proxy.specs.declared.config.ProxyConfig.{ProxyConfig}
use Rattle.rtps_proxy.specs.declared.reliable.Reliable as kept
use Rattle.rtps_proxy.specs.declared.state.State.{State}
use Rattle.rtps_proxy.specs.declared.state.State.TheVariants as code
use Rattle.rtps_proxy.specs.Answer.{Acknack, acknack_by}
use Rattle.rtps_proxy.specs.Change.{change_view, ChangeView}
use Rattle.rtps_proxy.specs.Fragments.{Begun}
use Rattle.rtps_proxy.specs.NackFrag.{missing_at}
use Rattle.rtps_proxy.specs.Pending.{are_sound, fits_found, found_at, pending_views, place_in}
use Rattle.rtps_types.specs.Numbers.{lacks}
use Rattle.rtps_proxy.specs.Runs.{marks}

-- the match that a proxy serves
pub record Pairing : Type 0 where
  pub own : GuidPrefix
  pub writer : Guid
  pub reader : EntityId
  pub reliable : Bool
  pub locators : List Locator

-- what contracts see of a proxy's configuration
abbrev pub pairing : {A : Type 0} → ProxyConfig A → Pairing
pairing c =
    record {
      own = c.own;
      writer = c.writer;
      reader = c.reader;
      reliable = c.reliable;
      locators = c.locators;
    }

-- the state of a reliable reader: the greatest count of an accepted HEARTBEAT, the announced
-- number, the settled numbers as a frontier and runs, the held changes in order, the pending
-- samples and whether no growth of them was refused, the number of ACKNACKs, and the greatest count
-- and the number of answers again for HEARTBEAT_FRAGs
pub record ReliableView : Type 0 where
  pub accepted : Option ℤ
  pub announced : ℕ
  pub frontier : ℕ
  pub runs : List (Number × Number)
  pub held : List ChangeView
  pub begun : List Begun
  pub sound : Bool
  pub answers : ℕ
  pub frag_accepted : Option ℤ
  pub nacks : ℕ

-- what contracts see of the state of a reliable reader
abbrev pub reliable_view : {A : Type 0} → kept.Reliable A → ReliableView
reliable_view r =
    record {
      accepted = r.accepted;
      announced = r.announced;
      frontier = r.settled.frontier;
      runs = r.settled.runs;
      held = map change_view r.held.items;
      begun = pending_views r.pending.items;
      sound = are_sound r.pending.items;
      answers = r.answers;
      frag_accepted = r.frag_accepted;
      nacks = r.nacks;
    }

-- the settled numbers
abbrev pub marked : ReliableView → ℕ → Bool
marked r = marks r.frontier r.runs

-- a reliable reader accepts a DATA_FRAG
abbrev pub takes_by : ReliableView → FragmentView → Bool
takes_by r f =
    fits_found r.begun f
    && ((not (marked r f.number) && (nat_le f.number r.frontier || nat_lt (length r.held) 65536))
    && (is_some (found_at f.number r.begun)
    || (nat_le f.number r.frontier || nat_lt (length r.begun) 64)))

-- the missing fragments that an accepted HEARTBEAT_FRAG asks about
abbrev pub lacks_frags : ReliableView → HeartbeatFragView → Option NumberSet
lacks_frags r h = if marked r h.number then None else missing_at (found_at h.number r.begun) h.last

-- the next ACKNACK
abbrev pub next_acknack : ReliableView → Acknack
next_acknack r = acknack_by (marked r) r.frontier r.announced r.answers

-- an accepted HEARTBEAT is answered
abbrev pub asks_by : ReliableView → Heartbeat → Bool
asks_by r h = not h.final_flag || (not h.liveliness && lacks (marked r) r.announced)

-- the state with one more ACKNACK, if a HEARTBEAT was answered
abbrev pub counts_answer : Bool → ReliableView → ReliableView
counts_answer is_answered r =
    record r { answers = if is_answered then (r.answers + 1) % 2 ^ 32 else r.answers }

-- the state of a best-effort reader: the greatest number received, the pending samples above it,
-- and whether no growth of them was refused
pub record BestEffortView : Type 0 where
  pub top : ℕ
  pub begun : List Begun
  pub sound : Bool

-- what contracts see of the state of a best-effort reader
abbrev pub best_effort_view : {A : Type 0} → newest.BestEffort A → BestEffortView
best_effort_view b =
    record { top = b.top; begun = pending_views b.pending.items; sound = are_sound b.pending.items }

-- a best-effort reader accepts a DATA_FRAG: it is above the top, it isn't the least of 65, and it
-- fits
abbrev pub takes_above : BestEffortView → FragmentView → Bool
takes_above r f =
    nat_lt r.top f.number
    && ((nat_lt 0 (place_in f.number r.begun)
    || (nat_lt (length r.begun) 64 || is_some (found_at f.number r.begun)))
    && fits_found r.begun f)

-- the state of a reader, by whether it is reliable
pub data StateView : Type 0 where
  BestEffort : BestEffortView → StateView
  Reliable : ReliableView → StateView

-- the state before the first event
abbrev pub reliable_first : ReliableView
reliable_first =
    record {
      accepted = None;
      announced = 0;
      frontier = 1;
      runs = [];
      held = [];
      begun = [];
      sound = true;
      answers = 0;
      frag_accepted = None;
      nacks = 0;
    }

abbrev pub best_effort_first : BestEffortView
best_effort_first = record { top = 0; begun = []; sound = true }

abbrev pub state_first : Bool → StateView
state_first false = BestEffort best_effort_first
state_first true = Reliable reliable_first

-- what contracts see of the state
abbrev pub state_view : {A : Type 0} → State A → StateView
state_view (code.BestEffort b) = BestEffort (best_effort_view b)
state_view (code.Reliable r) = Reliable (reliable_view r)

-- the state of a proxy; before the first event the code has none in memory
abbrev pub state_since : {A : Type 0} → Bool → Option (Box (State A) A) → StateView
state_since is_reliable None = state_first is_reliable
state_since is_reliable (Some state) = state_view state.value

-- a proxy: its match, whether it is spent, and its state
pub record ProxyView : Type 0 where
  pub pairing : Pairing
  pub spent : Bool
  pub state : StateView
