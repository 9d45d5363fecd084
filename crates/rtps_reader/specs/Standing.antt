-- The state that the code keeps for a reader.
use Rattle.std.specs.Prelude.{◌≡◌, ◌+◌, false, Bool, ℕ, List, [], length, take, Option, Some, None}
use Rattle.rtps_types.specs.declared.identity.EntityId.{EntityId}
use Rattle.rtps_types.specs.declared.identity.Guid.{Guid}
use Rattle.rtps_types.specs.declared.identity.GuidPrefix.{GuidPrefix}
use Rattle.rtps_types.specs.declared.traffic.WriterFacts.{WriterFacts}
use Rattle.rtps_proxy.specs.declared.effects.Effects.{Effects}
use Rattle.rtps_proxy.specs.Kept.{ProxyView}
use Rattle.rtps_proxy.specs.Matches.{AllStand, Match}
use Rattle.rtps_reader.specs.declared.notice.Notice.{Notice}
use Rattle.rtps_reader.specs.declared.notice.Output.{Output}
use Rattle.rtps_reader.specs.declared.stateful.StatefulReader.{StatefulReader}
use Rattle.rtps_reader.specs.declared.status.Counts.{Counts}
use Rattle.rtps_reader.specs.declared.status.Status.{Status}
use Rattle.rtps_reader.specs.Reader.{Facts, Reader}
use Rattle.rtps_reader.specs.Status.{capped, status_of}

-- what contracts see of a reader's state
pub record ReaderView : Type 0 where
  pub rank : ℕ
  pub spent : Bool
  pub own : GuidPrefix
  pub entity : EntityId
  pub reliable : Bool
  -- the proxies of the matches, by writer
  pub matches : List (Guid × ProxyView)
  pub status : Status

-- the status, by the totals and the number of matches now
abbrev pub status_by : Counts → ℕ → Status
status_by counts now = record {
  matched_total = counts.matched_total;
  matched_now = now;
  incompatible_total = counts.incompatible_total;
  last_policy = counts.last_policy;
  lost_total = counts.lost_total;
  samples = counts.samples;
}

-- what contracts see of the state, given whether the reader is spent
abbrev pub kept_by : {A : Type 0} → Bool → StatefulReader A → ReaderView
kept_by is_spent r = record {
  rank = r.rank;
  spent = is_spent;
  own = r.own;
  entity = r.entity;
  reliable = r.reliable;
  matches = r.matches;
  status = status_by r.counts (length r.matches);
}

-- the state follows from the reader's steps, and the status counts the notices that it has given
pub record StandsAt {M : Type 0} (r : Reader) (given : List (Notice M)) (state : ReaderView)
    : Type 0 where
  pub sound : state.spent ≡ false
  pub own : state.own ≡ r.own
  pub entity : state.entity ≡ r.entity
  pub reliable : state.reliable ≡ r.reliable
  pub matches : AllStand r.matches state.matches
  pub status : state.status ≡ status_of r given

-- the state of a reader that has given no notice yet
abbrev pub StartsAt : Reader → ReaderView → Type 0
StartsAt r state = StandsAt {M = Unit {0}} r [] state

-- The state of a reader that is stopped (DDSI-RTPS 8.4.10): none of its matches is left, and all
-- else is as before.
pub record IsStopped (old new : ReaderView) : Type 0 where
  pub rank : new.rank ≡ old.rank
  pub spent : new.spent ≡ old.spent
  pub own : new.own ≡ old.own
  pub entity : new.entity ≡ old.entity
  pub reliable : new.reliable ≡ old.reliable
  -- if its proxies were those of matches
  pub matches : (ms : List Match) → AllStand ms old.matches → new.matches ≡ []
  pub status : new.status ≡ record old.status { matched_now = length new.matches }

-- at most the matches and the totals have changed
pub record IsSameReader {A : Type 0} (old new : StatefulReader A) : Type 0 where
  pub rank : new.rank ≡ old.rank
  pub own : new.own ≡ old.own
  pub entity : new.entity ≡ old.entity
  pub reliable : new.reliable ≡ old.reliable

-- what contracts see of a writer and its locators
abbrev pub facts_in : {A : Type 0} → WriterFacts A → Facts
facts_in facts = (facts.writer, facts.locators)

-- the totals after an event with this number of lost numbers and of samples
abbrev pub counts_after : Counts → ℕ → ℕ → Counts
counts_after c lost samples = record c {
  lost_total = capped (c.lost_total + lost);
  samples = capped (c.samples + samples);
}

-- the totals after an event with these effects, if its writer is matched
abbrev pub counts_given : {A : Type 0} → Counts → Option (Effects A) → Counts
counts_given c None = c
counts_given c (Some effects) = counts_after c effects.lost (length effects.ready.items)

-- an output still begins with what was in it before
pub record KeepsFront {V A : Type 0} (old new : Output V A) : Type 0 where
  pub notices : take (length old.notices.items) new.notices.items ≡ old.notices.items
  pub answers : take (length old.answers.items) new.answers.items ≡ old.answers.items
