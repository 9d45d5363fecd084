-- Presentation in a run (DDSI-RTPS 8.4.12.3, 8.3.7): the samples of a writer that a reliable reader
-- presents, compared with nothing but the submessages that came for their match.
use Rattle.std.specs.Prelude.{◌≡◌, ℕ, ◌<◌, ◌==◌, ◌&&◌, ◌||◌, nat_lt, nat_le, Bool, false, not, List, [], ◌∷◌, ◌++◌, length, map, filter, reverse, slice_index_or, Option, if◌then◌else◌}
use Rattle.std.specs.List.{AllByRecursion, list_any}
use Rattle.rtps_types.specs.declared.identity.EntityId.{EntityId}
use Rattle.rtps_types.specs.declared.identity.Guid.{Guid}
use Rattle.rtps_types.specs.declared.place.Place.{Place}
use Rattle.rtps_types.specs.declared.time.Timestamp.{Timestamp}
use Rattle.rtps_receiver.specs.Events.{EventView}
use Rattle.rtps_discovery.specs.Addressed.{is_addressed, unknown_entity}
use Rattle.rtps_discovery.specs.declared.config.Config.{Config}
use Rattle.rtps_discovery.specs.Known.{Wish}
use Rattle.rtps_discovery.specs.Start.{wish_of}
use Rattle.rtps_proxy.specs.Change.{ChangeView}
use Rattle.rtps_proxy.specs.History.{MatchEvent, match_event_of}
use Rattle.rtps_proxy.specs.Presentation.{Brings, IsGivenUp, RisesStrictly}
use Rattle.rtps_reader.specs.declared.body.Body.{Body}
use Rattle.dds_topic.specs.Decoding.{Decoding}
use Rattle.rtps_types.specs.Number.{value_of}
use Rattle.rtps_reader.specs.declared.notice.Notice.{Notice}
use Rattle.rtps_reader.specs.declared.notice.NoticeKind.{NoticeKind}
use Rattle.rtps_reader.specs.declared.notice.NoticeKind.TheVariants.{Sample as ASample, Matched, Unmatched}
use Rattle.rtps_reader.specs.Body.{body_by}
use Rattle.rtps_proxy.specs.Matches.{same_guid}
use Rattle.rtps_run.specs.Input.{Input, added, events_from}
use Rattle.rtps_run.specs.Run.{run}
use Rattle.rtps_run.specs.Seen.{notices_by}
use Rattle.rtps_run.specs.World.{is_reliable}

-- a sample as a reader presents it, with the place of the submessage at which it is presented
pub record Shown (M : Type 0) : Type 0 where
  pub place : Place
  pub number : ℕ
  pub time : Option Timestamp
  pub body : Body M

-- the sample that a notice presents, if it presents one
abbrev pub shown_in : {M : Type 0} → Place → NoticeKind M → List (Shown M)
shown_in place (ASample number time body) =
    record { place = place; number = value_of number; time = time; body = body } ∷ []
shown_in place kind = []

-- a place is not after another: it is in an earlier datagram, or in the same one at no later
-- submessage
abbrev pub not_after : Place → Place → Bool
not_after a b =
    nat_lt a.datagram b.datagram
    || (a.datagram == b.datagram && nat_le a.submessage b.submessage)

-- the submessages for the match of a writer and a reader, the newest first
abbrev pub events_for : Guid → EntityId → List EventView → List EventView
events_for writer reader events = reverse (filter (is_addressed (same_guid writer) reader) events)

-- the submessages that came no later than a place, as the match sees them, the newest first
abbrev pub match_events_by : Place → List EventView → List MatchEvent
match_events_by place events = map match_event_of (filter (λ e. not_after e.place place) events)

-- A DATA or DATA_FRAGs brought the sample: its sequence number, its time, and its body, which is
-- the payload as the catalog decodes it.
pub record IsBrought {M : Type 0} (decoding : Decoding M) (past : List MatchEvent) (s : Shown M)
    : Type 0 where
  pub change : ChangeView
  pub came : Brings past change
  pub number : s.number ≡ change.number
  pub time : s.time ≡ change.time
  pub body : s.body ≡ body_by decoding change.info change.payload

-- each sequence number between two consecutive samples was given up by the place of the later one
abbrev pub PassesOverOnly : {M : Type 0} → List EventView → ℕ → List (Shown M) → Type 0
PassesOverOnly events last [] = Unit {0}
PassesOverOnly events last (s ∷ ss) =
    ((k : ℕ) → last < k → k < s.number → IsGivenUp (match_events_by s.place events) k)
    × PassesOverOnly events s.number ss

-- the samples of a match follow from its submessages; the list of these has the newest first
pub record ArePresented {M : Type 0} (decoding : Decoding M) (events : List EventView)
    (samples : List (Shown M)) : Type 0 where
  -- the sequence numbers rise strictly
  pub rising : RisesStrictly (map (λ s. s.number) samples)
  -- each sample was brought by a DATA or DATA_FRAGs that came no later than its place
  pub received : AllByRecursion (λ s. IsBrought decoding (match_events_by s.place events) s) samples
  -- each sequence number from 1 on without a sample was given up by the place of the next sample
  pub passed_over : PassesOverOnly events 0 samples

-- when the match of a reader with a writer began: at the start, at a place, or not at all
pub data Since : Type 0 where
  TheStart : Since
  ThePlace : Place → Since
  Never : Since

-- the samples of a writer that a reader presents between two consecutive beginnings or ends of
-- their match
pub record Stretch (M : Type 0) : Type 0 where
  pub since : Since
  pub samples : List (Shown M)

-- the stretch of these samples
abbrev pub stretch : {M : Type 0} → Since → List (Shown M) → Stretch M
stretch since samples = record { since = since; samples = samples }

-- these samples are put at the beginning of the first stretch
abbrev pub shown_first : {M : Type 0} → List (Shown M) → List (Stretch M) → List (Stretch M)
shown_first shown [] = []
shown_first shown (s ∷ ss) = stretch s.since (shown ++ s.samples) ∷ ss

-- the effect of a notice on the stretches: a match that begins or ends starts another stretch
abbrev pub stretches_by : {M : Type 0} → Since → Place → NoticeKind M → (Since → List (Stretch M))
    → List (Stretch M)
stretches_by since place Matched rest = stretch since [] ∷ rest (ThePlace place)
stretches_by since place Unmatched rest = stretch since [] ∷ rest Never
stretches_by since place kind rest = shown_first (shown_in place kind) (rest since)

-- the samples of a writer among these notices, cut into stretches where a match with it begins or
-- ends
abbrev pub stretches : {M : Type 0} → Guid → Since → List (Notice M) → List (Stretch M)
stretches writer since [] = stretch since [] ∷ []
stretches writer since (n ∷ ns) =
    if same_guid n.writer writer
    then stretches_by since n.place n.what (λ s. stretches writer s ns)
    else stretches writer since ns

-- the submessages after a place
abbrev pub events_after : Place → List EventView → List EventView
events_after place events = filter (λ e. not (not_after e.place place)) events

-- these samples follow from the submessages since the match began; there are none without a match
abbrev pub PresentedSince : {M : Type 0} → Decoding M → List EventView → List (Shown M) → Since
    → Type 0
PresentedSince decoding events samples TheStart = ArePresented decoding events samples
PresentedSince decoding events samples (ThePlace place) =
    ArePresented decoding (events_after place events) samples
PresentedSince decoding events samples Never = samples ≡ []

-- the samples of a stretch follow from the submessages since its match began; there are none
-- without a match
abbrev pub IsPresented : {M : Type 0} → Decoding M → List EventView → Stretch M → Type 0
IsPresented decoding events s = PresentedSince decoding events s.samples s.since

-- all readers of ours that there ever are, by rank: those of the configuration, and then those that
-- come
abbrev pub readers_ever : Config → List Input → List Wish
readers_ever config inputs = map wish_of config.readers.items ++ added inputs

-- the entity of the reader of a rank among these
abbrev pub entity_at : List Wish → ℕ → EntityId
entity_at readers rank = slice_index_or (map (λ r. r.entity) readers) rank unknown_entity

-- the reader of a rank among these is reliable
abbrev pub is_reliable_among : List Wish → ℕ → Bool
is_reliable_among readers rank =
    slice_index_or (map (λ r. is_reliable r.policies.reliability) readers) rank false

-- the reader of a rank is one of the configuration, which has a fixed match with a writer for it
abbrev pub is_fixed : Config → ℕ → Guid → Bool
is_fixed config rank writer =
    nat_lt rank (length config.readers.items)
    && list_any (λ m. m.rank == rank && same_guid m.writer writer) config.fixed.items

-- the submessages of a run for the match of a writer and the reader of a rank, the newest first
abbrev pub events_in : Config → List Input → ℕ → Guid → List EventView
events_in config inputs rank writer =
    events_for writer (entity_at (readers_ever config inputs) rank)
    (events_from config.own 0 inputs)

-- when their match began, as seen at the start of a run
abbrev pub first_since : Config → ℕ → Guid → Since
first_since config rank writer = if is_fixed config rank writer then TheStart else Never

-- the samples of a writer that the reader of a rank presented in a run, stretch by stretch
abbrev pub stretches_in : {M : Type 0} → Decoding M → Config → List Input → ℕ → Guid
    → List (Stretch M)
stretches_in decoding config inputs rank writer =
    stretches writer (first_since config rank writer)
    (notices_by rank (run decoding config inputs).put)
