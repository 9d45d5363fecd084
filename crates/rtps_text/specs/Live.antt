-- A run over datagrams as they are received, a batch at a time.
use Rattle.std.specs.Prelude.{◌≡◌, ◌≤◌, ◌⊎◌, ℕ, ◌+◌, Bool, List, [], ◌∷◌, length, Option}
use Rattle.std.specs.Io.KnownBytes.{Appends}
use Rattle.rtps_types.specs.declared.locator.Locator.{Locator}
use Rattle.rtps_records.specs.RecordFile.{Record}
use Rattle.rtps_records.specs.Runs.{PutsFront}
use Rattle.rtps_records.specs.Text.{IsFront}
use Rattle.rtps_records.specs.Traffic.{Grows, Passed, Traffic, Waited, failures_in, heard_in, last_call, moment_after, received_in, sent_in, waits_in}
use Rattle.rtps_records.specs.declared.fault.RunFault.{RunFault}
use Rattle.rtps_records.specs.declared.fault.RunFault.TheVariants.{CannotWrite, NoMemory}
use Rattle.rtps_records.specs.declared.receive_end.ReceiveEnd.{ReceiveEnd}
use Rattle.rtps_records.specs.declared.receive_end.ReceiveEnd.TheVariants.{Drained, Fault, More}
use Rattle.dds_topic.specs.Decoding.{Decoding}
use Rattle.rtps_run.specs.BatchOutput.{AreAnswersInOrder}
use Rattle.rtps_run.specs.Standing.{EngineView}
use Rattle.rtps_text.specs.Inputs.{StandsAt, run_by}
use Rattle.dds_participant.specs.Ports.{NoneAttached}
use Rattle.rtps_text.specs.Listened.{IsDrained, LiveRun, SentAt, WaitsInTurn, live_run}
use Rattle.rtps_text.specs.Replayed.{HasSaid}
use Rattle.rtps_text.specs.Batched.{IsSameRun, TakesRecords, batch_lines}
use Rattle.rtps_text.specs.Sending.{Sends, given_sends, sends_of}
use Rattle.rtps_text.specs.declared.live.Live.{Live}

-- a live run formats its values with its own catalog, and no reader has an outlet
pub record IsLive {C V U : Type 0} (live : Live C V U) : Type 0 where
  pub own : live.catalog.now ≡ live.run.participant.engine.catalog
  pub alone : NoneAttached live.run.participant.ports

-- the results of the run of one thread, with the catalog and the configuration of an engine
abbrev pub live_by : {C M : Type 0} → (C → M → List ℕ) → (C → Decoding M) → EngineView C → Bool
    → LiveRun
live_by text decoding engine summary =
    live_run (text engine.catalog) (decoding engine.catalog) engine.config summary

-- what the run of an engine sends for these datagrams and ticks
abbrev pub sends_by : {C M : Type 0} → (C → Decoding M) → EngineView C → List Record
    → List (Locator × List ℕ)
sends_by decoding engine records = sends_of (run_by decoding engine records).put

-- the number of network failures in a batch with this end
abbrev pub failures_of : ReceiveEnd → ℕ
failures_of end = failures_in (last_call end)

-- if the end of a batch tells that all datagrams that came were received, they were
abbrev pub IsLast : ReceiveEnd → List Traffic → Type 0
IsLast More calls = Unit {0}
IsLast Drained calls = IsDrained calls
IsLast Fault calls = Unit {0}

-- The state of a live run. The datagrams that were received and those that are left make the
-- maximum number; this number of waits was made, the clock gave this moment last, and this is how
-- the last batch ended. An engine processed what was heard, its answers were sent, and its lines
-- were written.
pub record Listens {C M : Type 0} (text : C → M → List ℕ) (decoding : C → Decoding M)
    (first now : Option (List Traffic)) (old new : Option (List ℕ)) (most left waits moment : ℕ)
    (end : ReceiveEnd) (engine : EngineView C) : Type 0 where
  pub calls : List Traffic
  pub grows : Grows first now calls
  pub records : List Record
  pub heard : heard_in calls ≡ records
  pub at : moment_after 0 calls ≡ moment
  pub count : length (received_in calls) + left ≡ most
  pub waited : waits_in calls ≡ waits
  pub failed : failures_in calls ≡ failures_of end
  pub last : IsLast end calls
  pub in_turn : WaitsInTurn (sends_by decoding engine) calls
  pub sent : sent_in calls ≡ sends_by decoding engine records
  pub written : List ℕ
  pub wrote : Appends old new written
  pub says : HasSaid text decoding records written engine

-- The readers of a run processed these records, all their answers were sent, and their lines were
-- written.
pub record Processes {C V U M : Type 0} (text : C → M → List ℕ) (f : V → M)
    (decoding : C → Decoding M) (batch : List Record) (before after : Live C V U)
    (then now : Option (List Traffic)) (old new : Option (List ℕ)) : Type 0 where
  pub takes : TakesRecords f decoding batch before.run.participant.engine
      after.run.participant.engine after.run.given
  pub sends : Sends (AreAnswersInOrder after.run.given) then now (given_sends after.run.given)
  pub wrote : (earlier : List Record) → StandsAt decoding earlier before.run.participant.engine
      → Appends old new (batch_lines (text before.catalog.now) f after.run.given)

-- The run stopped at a fault. Memory ran out before anything was sent or written; or the readers
-- processed the records, all answers were sent, and a prefix of the lines was written.
pub data BreaksOff {C V U M : Type 0} (text : C → M → List ℕ) (f : V → M)
    (decoding : C → Decoding M) (batch : List Record) (before after : Live C V U)
    (fault : RunFault) (then now : Option (List Traffic)) (old new : Option (List ℕ)) : Type 0 where
  Untaken : fault ≡ NoMemory → now ≡ then → new ≡ old
      → BreaksOff text f decoding batch before after fault then now old new
  Unwritten : (fault ≡ CannotWrite) ⊎ (fault ≡ NoMemory)
      → IsSameRun before.run after.run
      → TakesRecords f decoding batch before.run.participant.engine
      after.run.participant.engine after.run.given
      → Sends (AreAnswersInOrder after.run.given) then now (given_sends after.run.given)
      → ((earlier : List Record) → StandsAt decoding earlier before.run.participant.engine
      → PutsFront old new (batch_lines (text before.catalog.now) f after.run.given))
      → BreaksOff text f decoding batch before after fault then now old new

-- more was heard, up to a batch with this end; it was processed, its answers were sent, and its
-- lines were written
abbrev pub GoesOn : {C V U M : Type 0} → (C → M → List ℕ) → (C → Decoding M)
    → Live C V U → Live C V U → Option (List Traffic) → Option (List Traffic)
    → Option (List ℕ) → Option (List ℕ) → ReceiveEnd → Type 0
GoesOn text decoding before after then now old new end =
    (first : Option (List Traffic)) (origin : Option (List ℕ)) (most waits : ℕ)
    → Listens text decoding first then origin old most before.left waits before.moment More
    before.run.participant.engine
    → Listens text decoding first now origin new most after.left waits after.moment end
    after.run.participant.engine

-- a run that had received all datagrams that came waited once more, up to this moment; it was
-- processed as a tick, and its lines were written
abbrev pub PassesOn : {C V U M : Type 0} → (C → M → List ℕ) → (C → Decoding M) → ℕ
    → Live C V U → Live C V U → Option (List Traffic) → Option (List Traffic)
    → Option (List ℕ) → Option (List ℕ) → Type 0
PassesOn text decoding moment before after then now old new =
    (first start : Option (List Traffic)) (origin : Option (List ℕ)) (most waits : ℕ)
    → Grows start then (Waited ∷ Passed moment ∷ [])
    → Listens text decoding first start origin old most before.left waits before.moment Drained
    before.run.participant.engine
    → Listens text decoding first now origin new most after.left (waits + 1) after.moment More
    after.run.participant.engine

-- what a run did that stopped at a fault before its end: it received no more datagrams and made no
-- more waits than these limits allow, and it wrote a prefix of the lines
pub record Stopped (made : LiveRun) (most turns : ℕ) (fault : RunFault)
    (before after : Option (List Traffic)) (old new : Option (List ℕ)) : Type 0 where
  pub calls : List Traffic
  pub grows : Grows before after calls
  pub few : length (received_in calls) ≤ most
  pub within : waits_in calls ≤ turns
  pub in_turn : WaitsInTurn made.sends calls
  pub sent : SentAt fault made calls
  pub put : List ℕ
  pub wrote : Appends old new put
  pub front : IsFront put (made.lines (heard_in calls))

-- a run went on from this state, and stopped at this fault
abbrev pub StopsShort : {C V U M : Type 0} → (C → M → List ℕ) → (C → Decoding M)
    → Live C V U → RunFault → Option (List Traffic) → Option (List Traffic)
    → Option (List ℕ) → Option (List ℕ) → Type 0
StopsShort text decoding before fault then now old new =
    (first : Option (List Traffic)) (origin : Option (List ℕ)) (most waits : ℕ)
    → Listens text decoding first then origin old most before.left waits before.moment More
    before.run.participant.engine
    → Stopped (live_by text decoding before.run.participant.engine before.run.summary)
    most waits fault first now origin new

-- a run that had received all datagrams that came waited once more, up to this moment, and stopped
-- at this fault
abbrev pub PassStops : {C V U M : Type 0} → (C → M → List ℕ) → (C → Decoding M) → ℕ
    → Live C V U → RunFault → Option (List Traffic) → Option (List Traffic)
    → Option (List ℕ) → Option (List ℕ) → Type 0
PassStops text decoding moment before fault then now old new =
    (first start : Option (List Traffic)) (origin : Option (List ℕ)) (most waits : ℕ)
    → Grows start then (Waited ∷ Passed moment ∷ [])
    → Listens text decoding first start origin old most before.left waits before.moment Drained
    before.run.participant.engine
    → Stopped (live_by text decoding before.run.participant.engine before.run.summary)
    most (waits + 1) fault first now origin new

-- no datagram is left to receive; or all waits were made, and all datagrams that came were
-- received; or the network failed
abbrev pub EndsTurns : ReceiveEnd → ℕ → ℕ → ℕ → Type 0
EndsTurns More left waits turns = left ≡ 0
EndsTurns Drained left waits turns = (left ≡ 0) ⊎ (waits ≡ turns)
EndsTurns Fault left waits turns = Unit {0}

-- a run that had made no wait made at most this number of waits, and ended
pub record TakesTurns {C V U M : Type 0} (text : C → M → List ℕ) (decoding : C → Decoding M)
    (turns : ℕ) (end : ReceiveEnd) (before after : Live C V U) (then now : Option (List Traffic))
    (old new : Option (List ℕ)) : Type 0 where
  pub waits : ℕ
  pub few : waits ≤ turns
  pub ends : EndsTurns end after.left waits turns
  pub goes_on : (first : Option (List Traffic)) (origin : Option (List ℕ)) (most : ℕ)
      → Listens text decoding first then origin old most before.left 0 before.moment Drained
      before.run.participant.engine
      → Listens text decoding first now origin new most after.left waits after.moment end
      after.run.participant.engine

-- a run that had made no wait stopped at this fault, after at most this number of waits
abbrev pub TurnsStop : {C V U M : Type 0} → (C → M → List ℕ) → (C → Decoding M)
    → ℕ → Live C V U → RunFault → Option (List Traffic) → Option (List Traffic)
    → Option (List ℕ) → Option (List ℕ) → Type 0
TurnsStop text decoding turns before fault then now old new =
    (first : Option (List Traffic)) (origin : Option (List ℕ)) (most : ℕ)
    → Listens text decoding first then origin old most before.left 0 before.moment Drained
    before.run.participant.engine
    → Stopped (live_by text decoding before.run.participant.engine before.run.summary)
    most turns fault first now origin new
