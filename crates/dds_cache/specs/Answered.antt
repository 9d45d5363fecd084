-- What a call returns: entries, each with its states before the call (DDS 1.4, 2.2.2.5.1).
use Rattle.std.specs.Prelude.{ℕ, List, map, Bool, true, false, if◌then◌else◌}
use Rattle.dds_cache.specs.declared.condition.Condition.{Condition}
use Rattle.dds_cache.specs.declared.entry.Entry.{Entry}
use Rattle.dds_cache.specs.declared.entry.Sample.{Sample}
use Rattle.dds_cache.specs.declared.history.History.{History}
use Rattle.dds_cache.specs.declared.state.InstanceState.{InstanceState}
use Rattle.dds_cache.specs.declared.state.SampleState.{SampleState}
use Rattle.dds_cache.specs.declared.state.SampleState.TheVariants.{Read, NotRead}
use Rattle.dds_cache.specs.declared.state.ViewState.{ViewState}
use Rattle.dds_cache.specs.declared.state.ViewState.TheVariants.{New, NotNew}
use Rattle.dds_cache.specs.Calls.{Done}
use Rattle.dds_cache.specs.Cache.{Cached, cached, first_by, meets}
use Rattle.dds_cache.specs.Instances.{state_of}

-- the sample state of an entry, by whether a call returned it before
abbrev pub sample_state : Bool → SampleState
sample_state was_read = if was_read then Read else NotRead

-- the view state of an entry, by whether its instance is new
abbrev pub view_state : Bool → ViewState
view_state is_new = if is_new then New else NotNew

-- an entry with these states
abbrev pub shown : {M : Type 0} → Entry M → SampleState → ViewState → InstanceState → Sample M
shown e sample view instance = record {
  place = e.place;
  writer = e.writer;
  number = e.number;
  time = e.time;
  key = e.key;
  body = e.body;
  sample = sample;
  view = view;
  instance = instance;
}

-- an entry with its states after all calls so far
abbrev pub shown_by : {M : Type 0} → List (Done M) → Cached M → Entry M → Sample M
shown_by past c e =
    shown e (sample_state e.is_read) (view_state (c.is_new e.key)) (state_of past e.key)

-- the first max entries that meet a condition, in the order in which they were accepted
abbrev pub answered_by : {M : Type 0} → List (Done M) → Cached M → ℕ → Condition → List (Sample M)
answered_by past c max flags = map (shown_by past c) (first_by (meets past c flags) max c.entries)

-- what a call returns from a cache with this history policy, after all calls before it
-- (DDS 1.4, 2.2.2.5.3)
abbrev pub answered : {M : Type 0} → History → List (Done M) → ℕ → Condition → List (Sample M)
answered keep past max flags = answered_by past (cached keep past) max flags

-- the condition that an entry is unread
abbrev pub unread : Condition
unread = record { not_read = true; new = false; alive = false }
