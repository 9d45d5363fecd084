-- The calls of a program to a network (DDSI-RTPS 8.3.4, 9.6.1).
use Rattle.std.specs.Prelude.{◌≡◌, ℕ, suc, List, [], ◌∷◌, ◌++◌, ⊤, map, Option, None, Some}
use Rattle.rtps_types.specs.declared.locator.Locator.{Locator}
use Rattle.rtps_records.specs.RecordFile.{Datagram, Record, Tick}
use Rattle.rtps_records.specs.declared.receive_end.ReceiveEnd.{ReceiveEnd}
use Rattle.rtps_records.specs.declared.receive_end.ReceiveEnd.TheVariants.{Drained, Fault, More}

-- the effect of one call
pub data Traffic : Type 0 where
  -- datagrams were waited for
  Waited : Traffic
  -- the clock was read: this moment has come
  Passed : ℕ → Traffic
  -- a datagram of these octets was received
  Received : List ℕ → Traffic
  -- there was no datagram: all that came were received
  Exhausted : Traffic
  -- the network failed
  Failed : Traffic
  -- these octets were sent to a locator; nothing says whether they arrive
  Sent : Locator → List ℕ → Traffic

-- the datagrams that were received
abbrev pub received_in : List Traffic → List (List ℕ)
received_in [] = []
received_in (Received octets ∷ rest) = octets ∷ received_in rest
received_in (Waited ∷ rest) = received_in rest
received_in (Passed moment ∷ rest) = received_in rest
received_in (Exhausted ∷ rest) = received_in rest
received_in (Failed ∷ rest) = received_in rest
received_in (Sent to octets ∷ rest) = received_in rest

-- What was heard, as records. When the clock is read, the moment that it gives passes, and the
-- datagrams that are received after that came at it. The first moment is the one before all calls.
abbrev pub heard_after : ℕ → List Traffic → List Record
heard_after moment [] = []
heard_after moment (Passed next ∷ rest) = Tick next ∷ heard_after next rest
heard_after moment (Received octets ∷ rest) = Datagram moment octets ∷ heard_after moment rest
heard_after moment (Waited ∷ rest) = heard_after moment rest
heard_after moment (Exhausted ∷ rest) = heard_after moment rest
heard_after moment (Failed ∷ rest) = heard_after moment rest
heard_after moment (Sent to octets ∷ rest) = heard_after moment rest

-- a run that hears nothing yet is at moment 0
abbrev pub heard_in : List Traffic → List Record
heard_in calls = heard_after 0 calls

-- the moment that the clock gave last
abbrev pub moment_after : ℕ → List Traffic → ℕ
moment_after moment [] = moment
moment_after moment (Passed next ∷ rest) = moment_after next rest
moment_after moment (Received octets ∷ rest) = moment_after moment rest
moment_after moment (Waited ∷ rest) = moment_after moment rest
moment_after moment (Exhausted ∷ rest) = moment_after moment rest
moment_after moment (Failed ∷ rest) = moment_after moment rest
moment_after moment (Sent to octets ∷ rest) = moment_after moment rest

-- the octets that were sent, each with its locator
abbrev pub sent_in : List Traffic → List (Locator × List ℕ)
sent_in [] = []
sent_in (Sent to octets ∷ rest) = (to, octets) ∷ sent_in rest
sent_in (Waited ∷ rest) = sent_in rest
sent_in (Received octets ∷ rest) = sent_in rest
sent_in (Passed moment ∷ rest) = sent_in rest
sent_in (Exhausted ∷ rest) = sent_in rest
sent_in (Failed ∷ rest) = sent_in rest

-- the number of waits for datagrams
abbrev pub waits_in : List Traffic → ℕ
waits_in [] = 0
waits_in (Waited ∷ rest) = suc (waits_in rest)
waits_in (Received octets ∷ rest) = waits_in rest
waits_in (Passed moment ∷ rest) = waits_in rest
waits_in (Exhausted ∷ rest) = waits_in rest
waits_in (Failed ∷ rest) = waits_in rest
waits_in (Sent to octets ∷ rest) = waits_in rest

-- the number of failures of the network
abbrev pub failures_in : List Traffic → ℕ
failures_in [] = 0
failures_in (Failed ∷ rest) = suc (failures_in rest)
failures_in (Waited ∷ rest) = failures_in rest
failures_in (Received octets ∷ rest) = failures_in rest
failures_in (Passed moment ∷ rest) = failures_in rest
failures_in (Exhausted ∷ rest) = failures_in rest
failures_in (Sent to octets ∷ rest) = failures_in rest

-- if the calls so far are known, these were added to them
abbrev pub Grows : Option (List Traffic) → Option (List Traffic) → List Traffic → Type 0
Grows None new more = ⊤
Grows (Some old) None more = ⊥
Grows (Some old) (Some new) more = new ≡ old ++ more

-- these were received, one after the other
abbrev pub receipts : List (List ℕ) → List Traffic
receipts [] = []
receipts (octets ∷ rest) = Received octets ∷ receipts rest

-- the call that ended a batch; none for a full batch
abbrev pub last_call : ReceiveEnd → List Traffic
last_call More = []
last_call Drained = Exhausted ∷ []
last_call Fault = Failed ∷ []

-- these were received one after the other, all at a moment, and then this was called
pub record ReceivesAll (before after : Option (List Traffic)) (moment : ℕ) (records : List Record)
    (last : List Traffic) : Type 0 where
  pub datagrams : List (List ℕ)
  pub are : records ≡ map (Datagram moment) datagrams
  pub grows : Grows before after (receipts datagrams ++ last)

-- the next datagram was received, and appended to a batch with this moment; or there was none, or
-- the network failed, and the batch is unchanged
unfoldable pub ReceivesNext : ReceiveEnd → ℕ → Option (List Traffic) → Option (List Traffic)
    → List Record → List Record → Type 0
ReceivesNext More moment before after old new =
    (octets : List ℕ) × Grows before after (Received octets ∷ [])
    × (new ≡ old ++ Datagram moment octets ∷ [])
ReceivesNext Drained moment before after old new =
    Grows before after (Exhausted ∷ []) × (new ≡ old)
ReceivesNext Fault moment before after old new = Grows before after (Failed ∷ []) × (new ≡ old)
