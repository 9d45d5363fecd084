-- A reader, as its steps define it (DDSI-RTPS 8.4.10 to 8.4.12): its matches, each with its
-- history.
use Rattle.std.specs.Prelude.{ℕ, List, [], ◌∷◌, ◌++◌, length, map, Bool, ◌==◌, Option, Some, None, if◌then◌else◌}
use Rattle.rtps_types.specs.MatchChange.{Matches, Unmatches, Refuses}
use Rattle.rtps_types.specs.Nearest.{nearest}
use Rattle.rtps_types.specs.declared.identity.EntityId.{EntityId}
use Rattle.rtps_types.specs.declared.identity.Guid.{Guid}
use Rattle.rtps_types.specs.declared.identity.GuidPrefix.{GuidPrefix}
use Rattle.rtps_types.specs.declared.locator.Locator.{Locator}
use Rattle.rtps_types.specs.declared.place.Place.{Place}
use Rattle.rtps_proxy.specs.Change.{ChangeView}
use Rattle.rtps_proxy.specs.History.{MatchEvent}
use Rattle.rtps_proxy.specs.Effects.{answer_of, lost_of, ready_of}
use Rattle.rtps_proxy.specs.Kept.{Pairing}
use Rattle.rtps_proxy.specs.Matches.{Match, begun, ended, extended, fresh, match_with}
use Rattle.rtps_proxy.specs.Replies.{ReplyView}
use Rattle.dds_topic.specs.Decoding.{Decoding}
use Rattle.rtps_reader.specs.declared.notice.Notice.{Notice}
use Rattle.rtps_reader.specs.declared.notice.NoticeKind.{NoticeKind}
use Rattle.rtps_reader.specs.declared.notice.NoticeKind.TheVariants as kind
use Rattle.rtps_reader.specs.Body.{body_by}
use Rattle.rtps_reader.specs.Step.{StepView, Takes, Changes, Starts, Stops}

-- at an event: the number of lost numbers, the changes that are ready, and the answer to the writer
abbrev pub lost_at : Match → MatchEvent → ℕ
lost_at m e = lost_of m.pairing.reliable m.past e

abbrev pub ready_at : Match → MatchEvent → List ChangeView
ready_at m e = ready_of m.pairing.reliable m.past e

abbrev pub answer_at : Match → MatchEvent → Option ReplyView
answer_at m e = answer_of m.pairing m.past e

-- a reader, as its steps define it
pub record Reader : Type 0 where
  -- the reader's participant, and its entity id
  pub own : GuidPrefix
  pub entity : EntityId
  -- whether it asks for missing changes
  pub reliable : Bool
  -- the number of fixed matches
  pub fixed : ℕ
  -- in the order of their writers
  pub matches : List Match

-- a writer, and the locators for answers to it
abbrev pub Facts : Type 0
Facts = Guid × List Locator

-- the pair of reader and writer that a match is for
abbrev pub pairing_of : GuidPrefix → EntityId → Bool → Facts → Pairing
pairing_of own entity is_reliable facts = record {
  own = own;
  writer = facts.0;
  reader = entity;
  reliable = is_reliable;
  locators = facts.1;
}

-- the reader's match with a writer as it begins, without events
abbrev pub fresh_with : Reader → Facts → Match
fresh_with r facts = fresh (pairing_of r.own r.entity r.reliable facts)

-- the matches after these begin, in order
abbrev pub all_begun : List Match → List Pairing → List Match
all_begun ms [] = ms
all_begun ms (w ∷ ws) = all_begun (begun (fresh w) ms) ws

-- the matches that a reader begins with
abbrev pub first_matches : GuidPrefix → EntityId → Bool → List Facts → List Match
first_matches own entity is_reliable fixed =
    all_begun [] (map (pairing_of own entity is_reliable) fixed)

-- a reader at the start: it has its fixed matches, without events
abbrev pub first_reader : GuidPrefix → EntityId → Bool → List Facts → Reader
first_reader own entity is_reliable fixed = record {
  own = own;
  entity = entity;
  reliable = is_reliable;
  fixed = length (first_matches own entity is_reliable fixed);
  matches = first_matches own entity is_reliable fixed;
}

-- the notice that presents a sample, with what the catalog decodes
abbrev pub presented : {M : Type 0} → Decoding M → Place → Guid → ChangeView → Notice M
presented decoding place w s = record {
  place = place;
  writer = w;
  what = kind.Sample (nearest s.number) s.time (body_by decoding s.info s.payload);
}

-- the notice of lost numbers, if there are any
abbrev pub loses : {M : Type 0} → Place → Guid → ℕ → List (Notice M)
loses place w count =
    if count == 0 then [] else record { place = place; writer = w; what = kind.Lost count } ∷ []

-- the notices for an event, if its writer is matched: lost numbers, then the samples that are ready
abbrev pub told_of : {M : Type 0} → Decoding M → Place → Guid → MatchEvent → Option Match
    → List (Notice M)
told_of decoding place w e None = []
told_of decoding place w e (Some m) =
    loses place w (lost_at m e) ++ map (presented decoding place w) (ready_at m e)

-- one notice
abbrev pub notice_of : {M : Type 0} → Place → Guid → NoticeKind M → List (Notice M)
notice_of place w what = record { place = place; writer = w; what = what } ∷ []

-- the notices of a step; an event of a writer that isn't matched has none, nor has a start or a
-- stop
abbrev pub tells : {M : Type 0} → Decoding M → Reader → Place → StepView → List (Notice M)
tells decoding r place (Takes w e) = told_of decoding place w e (match_with w r.matches)
tells decoding r place (Changes (Matches w locators)) = notice_of place w kind.Matched
tells decoding r place (Changes (Unmatches w)) = notice_of place w kind.Unmatched
tells decoding r place (Changes (Refuses w policy)) = notice_of place w (kind.Incompatible policy)
tells decoding r place (Starts own entity is_reliable) = []
tells decoding r place Stops = []

-- the answer, with the place of the event that it answers
abbrev pub placed : Place → Option ReplyView → List (Place × ReplyView)
placed place None = []
placed place (Some sent) = (place, sent) ∷ []

-- the answer to an event, if its writer is matched
abbrev pub sent_of : Place → MatchEvent → Option Match → List (Place × ReplyView)
sent_of place e None = []
sent_of place e (Some m) = placed place (answer_at m e)

-- the answers of a step
abbrev pub sends : Reader → Place → StepView → List (Place × ReplyView)
sends r place (Takes w e) = sent_of place e (match_with w r.matches)
sends r place (Changes (Matches w locators)) = []
sends r place (Changes (Unmatches w)) = []
sends r place (Changes (Refuses w policy)) = []
sends r place (Starts own entity is_reliable) = []
sends r place Stops = []

-- a match after an event of its writer
abbrev pub extended_by : MatchEvent → Match → Match
extended_by e m = record { pairing = m.pairing; past = e ∷ m.past }

-- the reader after a step: an event extends the history of the match with its writer; a match
-- begins without history and replaces an earlier one; a match that ends is removed. A reader that
-- starts has no matches, and one that stops keeps none.
abbrev pub reader_after : Reader → StepView → Reader
reader_after r (Takes w e) = record r { matches = extended w e r.matches }
reader_after r (Changes (Matches w locators)) =
    record r { matches = begun (fresh_with r (w, locators)) r.matches }
reader_after r (Changes (Unmatches w)) = record r { matches = ended w r.matches }
reader_after r (Changes (Refuses w policy)) = r
reader_after r (Starts own entity is_reliable) = first_reader own entity is_reliable []
reader_after r Stops = record r { matches = [] }

-- the reader after these steps
abbrev pub reader_run : Reader → List StepView → Reader
reader_run r [] = r
reader_run r (d ∷ ds) = reader_run (reader_after r d) ds
