-- What a run sends: its answers, ACKNACK and NACK_FRAG (DDSI-RTPS 8.3.7.1, 8.3.7.11).
use Rattle.std.specs.Prelude.{◌≡◌, ℕ, List, [], Option, map}
use Rattle.std.specs.List.{flat_map}
use Rattle.rtps_types.specs.declared.locator.Locator.{Locator}
use Rattle.rtps_records.specs.Traffic.{Grows, Sent, Traffic}
use Rattle.rtps_run.specs.World.{ReportView, NoticeOf, AnswerOf}
use Rattle.rtps_run.specs.BatchOutput.{given_answers}
use Rattle.rtps_run.specs.declared.batch_output.BatchOutput.{BatchOutput}

-- ---- what a run sends

-- these octets, sent once to each of these locators
abbrev pub to_each : List Locator → List ℕ → List (Locator × List ℕ)
to_each to octets = map (λ locator. (locator, octets)) to

-- what is sent for a report: an answer is sent, a notice isn't
abbrev pub goes_out : {M : Type 0} → ReportView M → List (Locator × List ℕ)
goes_out (NoticeOf rank notice) = []
goes_out (AnswerOf answer) = to_each answer.to answer.octets

-- what is sent for all reports of a run, in the order of the run
abbrev pub sends_of : {M : Type 0} → List (ReportView M) → List (Locator × List ℕ)
sends_of put = flat_map goes_out put

-- the calls to the network that send these, in order
abbrev pub sendings : List (Locator × List ℕ) → List Traffic
sendings sends = map (λ s. Sent s.0 s.1) sends

-- All calls to the network were sends. If the condition holds, they sent these, in order.
pub record Sends (where_so : Type 0) (old new : Option (List Traffic))
    (sends : List (Locator × List ℕ)) : Type 0 where
  pub sent : List (Locator × List ℕ)
  pub grows : Grows old new (sendings sent)
  pub are : where_so → sent ≡ sends

-- what a batch sends: its answers, in the order of the run
abbrev pub given_sends : {V : Type 0} → BatchOutput V → List (Locator × List ℕ)
given_sends given = sends_of (given_answers given)
