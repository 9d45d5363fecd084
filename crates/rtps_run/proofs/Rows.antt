-- Runs that were worked out by hand, computed from the definitions.
use Rattle.std.proofs.Common.{◌≡◌, ℕ, List, [], ◌∷◌, map, true, false, Some, None, is_some, Ok, refl}
use Rattle.std.specs.Prelude.{pos}
use Rattle.rtps_types.specs.declared.identity.Guid.{Guid}
use Rattle.rtps_types.specs.declared.identity.EntityId.{EntityId}
use Rattle.rtps_types.specs.declared.place.Place.{Place}
use Rattle.rtps_receiver.specs.EventBody.{EventBodyView, Whole, Heartbeat}
use Rattle.rtps_wire.specs.declared.data.ChangeInfo.{ChangeInfo}
use Rattle.rtps_wire.specs.declared.data.Form.TheVariants as form
use Rattle.dds_qos.specs.Compatible.{first_fault}
use Rattle.dds_qos.specs.Defaults.{default_policies}
use Rattle.dds_qos.specs.declared.policies.Reliability.TheVariants.{Reliable}
use Rattle.dds_topic.specs.Decoding.{Decoding}
use Rattle.rtps_discovery.specs.Changes.{changes}
use Rattle.rtps_discovery.specs.Known.{Wish}
use Rattle.rtps_proxy.specs.Received.{frontier_of}
use Rattle.rtps_reader.specs.Reader.{first_reader}
use Rattle.rtps_reader.specs.declared.notice.Notice.{Notice}
use Rattle.rtps_reader.specs.declared.notice.NoticeKind.{NoticeKind}
use Rattle.rtps_reader.specs.declared.notice.NoticeKind.TheVariants.{Sample as ASample, Matched, Unmatched, Incompatible, Lost}
use Rattle.rtps_run.specs.Occurrence.{Occurrence, Passes, Came, Joins, Parts}
use Rattle.rtps_run.specs.Run.{world_run}
use Rattle.rtps_run.specs.Seen.{answers_in, matches_seen, notices_by}
use Rattle.rtps_run.specs.World.{World}

-- ---- who there is

abbrev theirs : List ℕ
theirs = 10 ∷ 10 ∷ 10 ∷ 10 ∷ 10 ∷ 10 ∷ 10 ∷ 10 ∷ 10 ∷ 10 ∷ 10 ∷ 10 ∷ []

abbrev ours : List ℕ
ours = 11 ∷ 11 ∷ 11 ∷ 11 ∷ 11 ∷ 11 ∷ 11 ∷ 11 ∷ 11 ∷ 11 ∷ 11 ∷ 11 ∷ []

abbrev square : List ℕ
square = 0x53 ∷ 0x71 ∷ 0x75 ∷ 0x61 ∷ 0x72 ∷ 0x65 ∷ []

abbrev circle : List ℕ
circle = 0x43 ∷ 0x69 ∷ 0x72 ∷ 0x63 ∷ 0x6c ∷ 0x65 ∷ []

abbrev shape_type : List ℕ
shape_type = 0x53 ∷ 0x68 ∷ 0x61 ∷ 0x70 ∷ 0x65 ∷ 0x54 ∷ 0x79 ∷ 0x70 ∷ 0x65 ∷ []

abbrev entity : ℕ → ℕ → ℕ → EntityId
entity b c d = record { 0 = 0 ∷ b ∷ c ∷ d ∷ [] }

-- their writer 00000102
abbrev w : Guid
w = record { prefix = record { 0 = theirs }; entity = entity 0 1 2 }

-- a reliable reader with this entity, of this topic and of type ShapeType
abbrev reader_of : EntityId → List ℕ → Wish
reader_of e topic = record {
  entity = e;
  topic = topic;
  type_name = shape_type;
  policies = default_policies Reliable;
  partitions = [];
}

-- one reader of ours, of topic Circle; a participant with a lease of 100 seconds, last heard at
-- moment 0; and its reliable writer of topic Square
abbrev start : World (Unit {0})
start = record {
  known = record {
    own = record { 0 = ours };
    moment = 0;
    readers = Some (reader_of (entity 0 1 7) circle) ∷ [];
    fixed = [];
    participants = (
      record { 0 = theirs },
      record {
        locators = record { port = 7412; address = 127 ∷ 0 ∷ 0 ∷ 1 ∷ [] } ∷ [];
        lease = record { seconds = pos 100; fraction = 0 };
        heard = 0;
      },
    )
        ∷ [];
    announcers = [];
    writers = (
      w,
      record {
        topic = square;
        type_name = shape_type;
        policies = default_policies Reliable;
        partitions = [];
        locators = [];
      },
    )
        ∷ [];
    remote_readers = [];
  };
  readers = λ rank. first_reader (record { 0 = ours }) (entity 0 1 7) true [];
  put = [];
}

-- ---- what they send

abbrev sends : ℕ → ℕ → EventBodyView → Occurrence
sends datagram submessage body = Came (record {
  place = record { datagram = datagram; submessage = submessage };
  source = record { 0 = theirs };
  time = None;
  writer = entity 0 1 2;
  reader = entity 0 0 0;
  body = body;
})

abbrev value : ChangeInfo
value = record { form = form.Value; status = 0; hash = None }

-- in a datagram, a DATA for all readers, and a HEARTBEAT with flag F
abbrev data_of : ℕ → ℕ → Occurrence
data_of d number = sends d 1 (Whole (record { number = number; info = value; payload = 0 ∷ 1 ∷ 0 ∷ 0 ∷ [] }))

abbrev beat : ℕ → ℕ → Occurrence
beat d number =
    sends d 2 (Heartbeat (record { first = number; last = number; count = pos 1; final_flag = true; liveliness = false }))

-- ---- what comes of it

-- values mean nothing here
abbrev nothing : Decoding (Unit {0})
nothing = record { meaning = λ kind body. Ok tt; hash = λ m. record { 0 = [] }; hash_of_key = λ kind body. Ok (record { 0 = [] }) }

abbrev kind_code : {M : Type 0} → NoticeKind M → ℕ
kind_code (ASample number time body) = 1
kind_code Matched = 2
kind_code Unmatched = 3
kind_code (Incompatible policy) = 4
kind_code (Lost count) = 5

abbrev seen : {M : Type 0} → Notice M → Place × ℕ
seen n = (n.place, kind_code n.what)

abbrev after : List Occurrence → World (Unit {0})
after os = world_run nothing start os

-- the notices of the reader of a rank, each by its place and its kind
abbrev heard : ℕ → List Occurrence → List (Place × ℕ)
heard rank os = map seen (notices_by rank (after os).put)

abbrev place : ℕ → ℕ → Place
place d s = record { datagram = d; submessage = s }

abbrev mine : ℕ → Occurrence
mine d = Joins d (reader_of (entity 0 2 7) square)

-- the lease stands to its last millisecond
lease_stands : heard 1 (mine 0 ∷ Passes 1 100000 ∷ data_of 1 1 ∷ []) ≡ (place 0 0, 2) ∷ (place 1 1, 1) ∷ []
unfolding changes first_fault frontier_of
lease_stands = refl

-- and ends after it: what its writer sends then is no longer heard
lease_ends : heard 1 (mine 0 ∷ Passes 1 100001 ∷ data_of 1 1 ∷ []) ≡ (place 0 0, 2) ∷ (place 1 0, 3) ∷ []
unfolding changes first_fault frontier_of
lease_ends = refl

-- discovery goes by the greatest moment so far
greatest_counts : (after (Passes 0 5000 ∷ Passes 1 2000 ∷ [])).known.moment ≡ 5000
unfolding changes first_fault frontier_of
greatest_counts = refl

-- ---- readers that come and go

abbrev story : List Occurrence
story =
    Passes 2 0 ∷ mine 2 ∷ data_of 2 1
    ∷ Passes 3 0 ∷ Parts 3 1 ∷ data_of 3 2
    ∷ Passes 4 0 ∷ mine 4 ∷ data_of 4 3 ∷ beat 4 3 ∷ []

-- a reader of another topic hears nothing
first_hears_nothing : heard 0 story ≡ []
unfolding changes first_fault frontier_of
first_hears_nothing = refl

-- one that comes is matched at once, takes what comes then, and its match ends as it goes
second_comes_and_goes : heard 1 story ≡ (place 2 0, 2) ∷ (place 2 1, 1) ∷ (place 3 0, 3) ∷ []
unfolding changes first_fault frontier_of
second_comes_and_goes = refl

-- the same reader again has another rank, and nothing of what came before: sample 3 waits for the
-- HEARTBEAT, by which 1 and 2 are no longer there, and which counts none as lost
third_begins_anew : heard 2 story ≡ (place 4 0, 2) ∷ (place 4 2, 1) ∷ []
unfolding changes first_fault frontier_of
third_begins_anew = refl

nobody_answers : answers_in (after story).put ≡ []
unfolding changes first_fault frontier_of
nobody_answers = refl

-- ranks are never given again
ranks_stay_given : map is_some (after story).known.readers ≡ true ∷ false ∷ true ∷ []
unfolding changes first_fault frontier_of
ranks_stay_given = refl

-- and one that went has no matches
only_the_third_is_matched : matches_seen (after story) ≡ (2, w) ∷ []
unfolding changes first_fault frontier_of
only_the_third_is_matched = refl
