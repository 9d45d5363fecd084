-- The batches that sockets receive.
use Rattle.std.specs.Prelude.{◌≡◌, ◌≢◌, ℕ, ◌<◌, ◌⊎◌, List, [], ◌∷◌, length, map, Option}
use Rattle.rtps_records.specs.RecordFile.{Datagram, Record}
use Rattle.rtps_records.specs.Traffic.{Exhausted, Grows, ReceivesAll, Traffic, last_call, received_in}
use Rattle.rtps_records.specs.declared.receive_end.ReceiveEnd.{ReceiveEnd}
use Rattle.rtps_records.specs.declared.receive_end.ReceiveEnd.TheVariants.{Drained, Fault, More}
use Rattle.rtps_udp.specs.Calls.{Call, traffic_in}
use Rattle.rtps_udp.specs.Ports.{ReadsMoment, WaitsUntil}

-- these are all datagrams that were received in between, in order, each with this moment
pub record HoldsAll (before after : Option (List Traffic)) (moment : ℕ) (records : List Record)
    : Type 0 where
  pub calls : List Traffic
  pub grows : Grows before after calls
  pub are : records ≡ map (Datagram moment) (received_in calls)

-- Datagrams were received, in order, each with this moment, and nothing else was called: all that
-- had come, or as many as there was room for.
pub record Fills (end : ReceiveEnd) (before after : Option (List Traffic)) (moment : ℕ)
    (records : List Record) (is_full : Type 0) : Type 0 where
  pub sound : end ≢ Fault
  pub full : end ≡ More → is_full
  pub receives : ReceivesAll before after moment records (last_call end)

-- Some datagrams had come: the clock was read, and gave the moment, and then they were received.
pub record TakesAtOnce (start : ℕ) (before : Option (List Call)) (after : Option (List Traffic))
    (moment : ℕ) (records : List Record) (is_full : Type 0) : Type 0 where
  pub here : Option (List Call)
  pub reads : ReadsMoment start moment before here
  pub end : ReceiveEnd
  pub some : end ≡ Drained → 0 < length records
  pub fills : Fills end (traffic_in start here) after moment records is_full

-- Datagrams were waited for, this long at the most, and what had come when the wait ended, at the
-- moment, was received.
pub record TakesLater (within start : ℕ) (before : Option (List Call))
    (after : Option (List Traffic)) (moment : ℕ) (records : List Record) (is_full : Type 0)
    : Type 0 where
  pub there : Option (List Call)
  pub waits : WaitsUntil within start moment before there
  pub end : ReceiveEnd
  pub fills : Fills end (traffic_in start there) after moment records is_full

-- No datagram had come: the clock was read, and none was received; then datagrams were waited for.
pub record TakesAfterWait (within start : ℕ) (before : Option (List Call))
    (after : Option (List Traffic)) (moment : ℕ) (records : List Record) (is_full : Type 0)
    : Type 0 where
  pub first : ℕ
  pub none : Option (List Call)
  pub reads : ReadsMoment start first before none
  pub later : ℕ
  pub here : Option (List Call)
  pub empty : ReceivesAll (traffic_in start none) (traffic_in later here) first [] (Exhausted ∷ [])
  pub rest : TakesLater within later here after moment records is_full

-- how a batch was received: there was a wait only where nothing had come
abbrev pub Takes : ℕ → ℕ → Option (List Call) → Option (List Traffic) → ℕ → List Record → Type 0
    → Type 0
Takes within start before after moment records is_full =
    TakesAtOnce start before after moment records is_full
    ⊎ TakesAfterWait within start before after moment records is_full
