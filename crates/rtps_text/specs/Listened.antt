-- The outcome of a run over datagrams as they are received: its calls to the network, and what it
-- wrote.
use Rattle.std.specs.Prelude.{◌≡◌, ◌≤◌, ◌⊎◌, ℕ, Bool, List, [], ◌∷◌, ◌++◌, length, Option, Result, Ok, Err}
use Rattle.std.specs.Io.KnownBytes.{Appends}
use Rattle.rtps_types.specs.declared.locator.Locator.{Locator}
use Rattle.rtps_records.specs.RecordFile.{Record}
use Rattle.rtps_records.specs.Text.{IsFront}
use Rattle.rtps_records.specs.Traffic.{Exhausted, Grows, Passed, Traffic, Waited, failures_in, heard_in, received_in, sent_in, waits_in}
use Rattle.rtps_records.specs.declared.fault.RunFault.{RunFault}
use Rattle.rtps_records.specs.declared.fault.RunFault.TheVariants.{CannotWrite, NoMemory}
use Rattle.dds_topic.specs.Decoding.{Decoding}
use Rattle.rtps_discovery.specs.declared.config.Config.{Config}
use Rattle.rtps_text.specs.Inputs.{run}
use Rattle.rtps_text.specs.Replayed.{put_lines, replay_text}
use Rattle.rtps_text.specs.Sending.{sendings, sends_of}
use Rattle.rtps_text.specs.declared.live_fault.LiveFault.{LiveFault}
use Rattle.rtps_text.specs.declared.live_fault.LiveFault.TheVariants.{Run, Socket}

-- The results of a run for the datagrams and ticks that it processes: the lines of all that it puts
-- out; its text, which is these lines and, if it is asked for, the summary; and what it sends.
pub record LiveRun : Type 0 where
  pub lines : List Record → List ℕ
  pub text : List Record → List ℕ
  pub sends : List Record → List (Locator × List ℕ)

-- the results of the run of one thread
abbrev pub live_run : {M : Type 0} → (M → List ℕ) → Decoding M → Config → Bool → LiveRun
live_run text decoding config summary = record {
  lines = λ records. put_lines text (run decoding config records).put;
  text = replay_text text decoding config summary;
  sends = λ records. sends_of (run decoding config records).put;
}

-- the maximum number of datagrams to receive, and the maximum number of waits for them
pub record Limits : Type 0 where
  pub datagrams : ℕ
  pub turns : ℕ

-- the limits with these numbers
abbrev pub limits_of : ℕ → ℕ → Limits
limits_of datagrams turns = record { datagrams = datagrams; turns = turns }

-- all datagrams that came were received: the last call to receive found none, and only sends follow
-- it; or there was no call yet
abbrev pub IsDrained : List Traffic → Type 0
IsDrained calls =
    (calls ≡ []) ⊎ ((past : List Traffic) × (sends : List (Locator × List ℕ))
    × (calls ≡ past ++ Exhausted ∷ sendings sends))

-- the run is complete: the maximum number of datagrams was received; or the maximum number of waits
-- was made, and all datagrams that came were received
abbrev pub IsOver : Limits → List Traffic → Type 0
IsOver limits calls =
    (length (received_in calls) ≡ limits.datagrams)
    ⊎ ((waits_in calls ≡ limits.turns) × IsDrained calls)

-- the next call reads the clock
pub record ReadsClock (calls : List Traffic) : Type 0 where
  pub moment : ℕ
  pub rest : List Traffic
  pub first : calls ≡ Passed moment ∷ rest

-- at each wait, all datagrams that came before were received, and all answers to them were sent;
-- and after it the clock is read, before anything else
abbrev pub WaitsInTurn : (List Record → List (Locator × List ℕ)) → List Traffic → Type 0
WaitsInTurn sends calls =
    (past later : List Traffic) → calls ≡ past ++ Waited ∷ later
    → IsDrained past × (sent_in past ≡ sends (heard_in past)) × ReadsClock later

-- all answers of the run over what was heard were sent, in order, and its whole text was written
pub record IsDone (made : LiveRun) (calls : List Traffic) (old new : Option (List ℕ))
    : Type 0 where
  pub sent : sent_in calls ≡ made.sends (heard_in calls)
  pub wrote : Appends old new (made.text (heard_in calls))

-- What was sent by a run that stops at a fault. Answers are sent before lines are written, so at a
-- write fault all of them were sent. If memory runs out, a prefix of them was sent.
unfoldable pub SentAt : RunFault → LiveRun → List Traffic → Type 0
SentAt CannotWrite made calls = sent_in calls ≡ made.sends (heard_in calls)
SentAt NoMemory made calls = IsFront (sent_in calls) (made.sends (heard_in calls))
SentAt fault made calls = ⊥

-- A prefix of the lines was written. A part of the summary was written only if the run is complete
-- or the network failed.
abbrev pub WroteFrontOf : LiveRun → Limits → List Traffic → Option (List ℕ) → Option (List ℕ)
    → Type 0
WroteFrontOf made limits calls old new =
    (put : List ℕ) × Appends old new put
    × (IsFront put (made.lines (heard_in calls))
    ⊎ ((IsOver limits calls ⊎ (failures_in calls ≡ 1))
    × IsFront put (made.text (heard_in calls))))

-- what a run with this result has sent and written
unfoldable pub Leaves : LiveRun → Limits → Result (Unit {0}) LiveFault → List Traffic
    → Option (List ℕ) → Option (List ℕ) → Type 0
Leaves made limits (Ok u) calls old new =
    IsDone made calls old new × (failures_in calls ≡ 0) × IsOver limits calls
Leaves made limits (Err Socket) calls old new =
    IsDone made calls old new × (failures_in calls ≡ 1)
Leaves made limits (Err (Run fault)) calls old new =
    SentAt fault made calls × WroteFrontOf made limits calls old new

-- the outcome of a run over datagrams as they are received, with this result
pub record Listened (made : LiveRun) (limits : Limits) (result : Result (Unit {0}) LiveFault)
    (before after : Option (List Traffic)) (old new : Option (List ℕ)) : Type 0 where
  -- all calls of the run to the network, in order
  pub calls : List Traffic
  pub grows : Grows before after calls
  -- no more datagrams were received than the limit allows
  pub few : length (received_in calls) ≤ limits.datagrams
  -- no more waits were made than the limit allows
  pub turns : waits_in calls ≤ limits.turns
  -- at each wait, all datagrams that came before were received and answered, and the clock is read
  -- next
  pub in_turn : WaitsInTurn made.sends calls
  -- what was sent and written
  pub leaves : Leaves made limits result calls old new
