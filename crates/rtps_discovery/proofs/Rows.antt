-- Runs of discovery that were worked out by hand, computed from the definitions.
use Rattle.std.proofs.Common.{◌≡◌, ℕ, ◌-◌, ◌^◌, List, [], ◌∷◌, ◌++◌, map, Some, None, refl}
use Rattle.std.specs.Prelude.{pos, negsuc}
use Rattle.std.specs.Map.{keys_of}
use Rattle.rtps_types.specs.declared.identity.Guid.{Guid}
use Rattle.rtps_types.specs.declared.identity.EntityId.{EntityId}
use Rattle.rtps_types.specs.declared.locator.Locator.{Locator}
use Rattle.rtps_receiver.specs.EventBody.{EventBodyView, Whole}
use Rattle.rtps_receiver.specs.Events.{EventView}
use Rattle.rtps_wire.specs.declared.data.ChangeInfo.{ChangeInfo}
use Rattle.rtps_wire.specs.declared.data.Form.TheVariants as form
use Rattle.dds_qos.specs.Compatible.{first_fault}
use Rattle.dds_qos.specs.Defaults.{default_policies}
use Rattle.dds_qos.specs.Settings.{is_sound_by, settings_of}
use Rattle.dds_qos.specs.Values.{duration_in, reliability_in, locator_in, guid_in}
use Rattle.dds_qos.specs.declared.policies.Reliability.TheVariants.{Reliable}
use Rattle.rtps_types.specs.declared.policy.PolicyId.TheVariants as policy
use Rattle.rtps_types.specs.MatchChange.{Matches, Unmatches, Refuses}
use Rattle.rtps_discovery.specs.Changes.{ChangeAt, at, changes}
use Rattle.rtps_discovery.specs.Known.{Known, moved, passed}
use Rattle.rtps_discovery.specs.Leases.{deadline, lease_of}
use Rattle.rtps_discovery.specs.Records.{changes_by, known_by}
use Rattle.rtps_discovery.specs.AnnouncedData.{said_in}
use Rattle.rtps_params.specs.Reading as params
use Rattle.rtps_cdr.specs.Reading as cdr
use Rattle.std.specs.Str as str
use lib.Utf8 as utf8

-- ---- who there is

abbrev theirs : List ℕ
theirs = 10 ∷ 10 ∷ 10 ∷ 10 ∷ 10 ∷ 10 ∷ 10 ∷ 10 ∷ 10 ∷ 10 ∷ 10 ∷ 10 ∷ []

abbrev ours : List ℕ
ours = 11 ∷ 11 ∷ 11 ∷ 11 ∷ 11 ∷ 11 ∷ 11 ∷ 11 ∷ 11 ∷ 11 ∷ 11 ∷ 11 ∷ []

abbrev square : List ℕ
square = 0x53 ∷ 0x71 ∷ 0x75 ∷ 0x61 ∷ 0x72 ∷ 0x65 ∷ []

abbrev shape_type : List ℕ
shape_type = 0x53 ∷ 0x68 ∷ 0x61 ∷ 0x70 ∷ 0x65 ∷ 0x54 ∷ 0x79 ∷ 0x70 ∷ 0x65 ∷ []

abbrev entity : ℕ → ℕ → ℕ → EntityId
entity b c d = record { 0 = 0 ∷ b ∷ c ∷ d ∷ [] }

-- one reliable reader of topic Square and type ShapeType
abbrev start : Known
start = record {
  own = record { 0 = ours };
  moment = 0;
  readers = Some (record {
    entity = entity 0 1 7;
    topic = square;
    type_name = shape_type;
    policies = default_policies Reliable;
    partitions = [];
  }) ∷ [];
  fixed = [];
  participants = [];
  announcers = [];
  writers = [];
  remote_readers = [];
}

-- their writer 00000102
abbrev w : Guid
w = record { prefix = record { 0 = theirs }; entity = entity 0 1 2 }

-- 127.0.0.1 at a port
abbrev at_port : ℕ → Locator
at_port n = record { port = n; address = 127 ∷ 0 ∷ 0 ∷ 1 ∷ [] }

-- ---- what they send, little-endian

abbrev little : List ℕ
little = 0 ∷ 3 ∷ 0 ∷ 0 ∷ []

abbrev ends : List ℕ
ends = 1 ∷ 0 ∷ 0 ∷ 0 ∷ []

abbrev locator_octets : ℕ → List ℕ
locator_octets low =
    24 ∷ 0 ∷ 1 ∷ 0 ∷ 0 ∷ 0 ∷ low ∷ 0x1c ∷ 0 ∷ 0
    ∷ 0 ∷ 0 ∷ 0 ∷ 0 ∷ 0 ∷ 0 ∷ 0 ∷ 0 ∷ 0 ∷ 0 ∷ 0 ∷ 0 ∷ 127 ∷ 0 ∷ 0 ∷ 1 ∷ []

-- a participant: its guid, ports 7412 and 7413, a lease of 100 seconds, and both announcers
abbrev participant_record : List ℕ
participant_record =
    little ++ (0x50 ∷ 0 ∷ 16 ∷ 0 ∷ theirs) ++ (0 ∷ 0 ∷ 1 ∷ 0xc1 ∷ [])
    ++ (0x32 ∷ 0 ∷ locator_octets 0xf4) ++ (0x31 ∷ 0 ∷ locator_octets 0xf5)
    ++ (2 ∷ 0 ∷ 8 ∷ 0 ∷ 100 ∷ 0 ∷ 0 ∷ 0 ∷ 0 ∷ 0 ∷ 0 ∷ 0 ∷ [])
    ++ (0x58 ∷ 0 ∷ 4 ∷ 0 ∷ 0x14 ∷ 0 ∷ 0 ∷ 0 ∷ []) ++ ends

abbrev endpoint_octets : List ℕ
endpoint_octets = (0x5a ∷ 0 ∷ 16 ∷ 0 ∷ theirs) ++ (0 ∷ 0 ∷ 1 ∷ 2 ∷ [])

-- the topic's name is Squar and one more letter
abbrev topic_octets : ℕ → List ℕ
topic_octets letter =
    5 ∷ 0 ∷ 12 ∷ 0 ∷ 7 ∷ 0 ∷ 0 ∷ 0 ∷ 0x53 ∷ 0x71 ∷ 0x75 ∷ 0x61 ∷ 0x72 ∷ letter ∷ 0 ∷ 0 ∷ []

abbrev type_octets : List ℕ
type_octets = (7 ∷ 0 ∷ 16 ∷ 0 ∷ 10 ∷ 0 ∷ 0 ∷ 0 ∷ shape_type) ++ (0 ∷ 0 ∷ 0 ∷ [])

-- 1 is best effort, 2 reliable
abbrev reliability_octets : ℕ → List ℕ
reliability_octets kind = 0x1a ∷ 0 ∷ 12 ∷ 0 ∷ kind ∷ 0 ∷ 0 ∷ 0 ∷ 0 ∷ 0 ∷ 0 ∷ 0 ∷ 0 ∷ 0 ∷ 0 ∷ 0 ∷ []

-- a writer, by the last letter of its topic and the kind of its reliability, and what else is said of it
abbrev writer_record : ℕ → ℕ → List ℕ → List ℕ
writer_record letter kind more =
    little ++ endpoint_octets ++ topic_octets letter ++ type_octets ++ reliability_octets kind ++ more ++ ends

abbrev value : ChangeInfo
value = record { form = form.Value; status = 0; hash = None }

-- disposed, without payload, by the key hash of an entity of theirs
abbrev disposed : List ℕ → ChangeInfo
disposed octets = record { form = form.Nothing; status = 1; hash = Some (record { 0 = theirs ++ octets }) }

-- an event of their writer for our reader
abbrev sends : EntityId → EntityId → EventBodyView → EventView
sends writer reader body = record {
  place = record { datagram = 0; submessage = 1 };
  source = record { 0 = theirs };
  time = None;
  writer = writer;
  reader = reader;
  body = body;
}

abbrev whole : ℕ → ChangeInfo → List ℕ → EventBodyView
whole number info payload = Whole (record { number = number; info = info; payload = payload })

abbrev of_participants : ℕ → ChangeInfo → List ℕ → EventView
of_participants number info payload = sends (entity 1 0 0xc2) (entity 1 0 0xc7) (whole number info payload)

abbrev of_writers : ℕ → ChangeInfo → List ℕ → EventView
of_writers number info payload = sends (entity 0 3 0xc2) (entity 0 3 0xc7) (whole number info payload)

-- the participant, and its writer as record 1
abbrev comes : EventView
comes = of_participants 1 value participant_record

abbrev offers : ℕ → EventView
offers number = of_writers number value (writer_record 0x65 2 [])

-- the same writer with best effort, with another topic, and with a durability that there isn't
abbrev offers_less : ℕ → EventView
offers_less number = of_writers number value (writer_record 0x65 1 [])

abbrev offers_another : ℕ → EventView
offers_another number = of_writers number value (writer_record 0x66 2 [])

abbrev says_badly : ℕ → EventView
says_badly number = of_writers number value (writer_record 0x66 2 (0x1d ∷ 0 ∷ 4 ∷ 0 ∷ 4 ∷ 0 ∷ 0 ∷ 0 ∷ []))

abbrev goes : ℕ → EventView
goes number = of_writers number (disposed (0 ∷ 0 ∷ 1 ∷ 2 ∷ [])) []

-- disposed and unregistered, by a key payload
abbrev goes_by_key : ℕ → EventView
goes_by_key number =
    of_writers number (record { form = form.Key; status = 3; hash = None }) (little ++ endpoint_octets ++ ends)

abbrev leaves : EventView
leaves = of_participants 2 (disposed (0 ∷ 0 ∷ 1 ∷ 0xc1 ∷ [])) []

-- ---- the results

abbrev known_with : List EventView → Known
known_with [] = start
known_with (e ∷ past) = known_by (known_with past) e

-- the participant is known, with its two announcers, to whose ports answers go
participant_is_known : keys_of (known_with (comes ∷ [])).participants ≡ record { 0 = theirs } ∷ []
unfolding params.reading_behind is_sound_by settings_of said_in duration_in locator_in guid_in
participant_is_known = refl

announcers_are_known :
    map (λ m. m.pairing.writer.entity) (known_with (comes ∷ [])).announcers ≡ entity 0 3 0xc2 ∷ entity 0 4 0xc2 ∷ []
unfolding params.reading_behind is_sound_by settings_of said_in duration_in locator_in guid_in
announcers_are_known = refl

answers_go_to_announcers :
    map (λ m. m.pairing.locators) (known_with (comes ∷ [])).announcers ≡ (at_port 7412 ∷ []) ∷ (at_port 7412 ∷ []) ∷ []
unfolding params.reading_behind is_sound_by settings_of said_in duration_in locator_in guid_in
answers_go_to_announcers = refl

-- its writer is matched, at the default port of its participant
writer_is_matched : changes_by (known_with (comes ∷ [])) (offers 1) ≡ at 0 (Matches w (at_port 7413 ∷ [])) ∷ []
unfolding params.reading_behind cdr.text_from str.is_utf8 str.chars utf8.encode changes first_fault
    is_sound_by settings_of said_in duration_in reliability_in locator_in guid_in
writer_is_matched = refl

-- the writer ends, or its participant does
writer_ends : changes_by (known_with (offers 1 ∷ comes ∷ [])) (goes 2) ≡ at 0 (Unmatches w) ∷ []
unfolding params.reading_behind cdr.text_from str.is_utf8 str.chars utf8.encode changes first_fault
    is_sound_by settings_of said_in duration_in reliability_in locator_in guid_in
writer_ends = refl

key_payload_ends : changes_by (known_with (offers 1 ∷ comes ∷ [])) (goes_by_key 2) ≡ at 0 (Unmatches w) ∷ []
unfolding params.reading_behind cdr.text_from str.is_utf8 str.chars utf8.encode changes first_fault
    is_sound_by settings_of said_in duration_in reliability_in locator_in guid_in
key_payload_ends = refl

participant_ends : changes_by (known_with (offers 1 ∷ comes ∷ [])) leaves ≡ at 0 (Unmatches w) ∷ []
unfolding params.reading_behind cdr.text_from str.is_utf8 str.chars utf8.encode changes first_fault
    is_sound_by settings_of said_in duration_in reliability_in locator_in guid_in
participant_ends = refl

-- a writer before its participant changes nothing
nobody_speaks : changes_by start (offers 1) ≡ []
unfolding params.reading_behind changes
nobody_speaks = refl

-- refused by its reliability, once; then it is reliable
is_refused : changes_by (known_with (comes ∷ [])) (offers_less 1) ≡ at 0 (Refuses w policy.Reliability) ∷ []
unfolding params.reading_behind cdr.text_from str.is_utf8 str.chars utf8.encode changes first_fault
    is_sound_by settings_of said_in duration_in reliability_in locator_in guid_in
is_refused = refl

is_refused_once : changes_by (known_with (offers_less 1 ∷ comes ∷ [])) (offers_less 2) ≡ []
unfolding params.reading_behind cdr.text_from str.is_utf8 str.chars utf8.encode changes first_fault
    is_sound_by settings_of said_in duration_in reliability_in locator_in guid_in
is_refused_once = refl

then_it_is_matched :
    changes_by (known_with (offers_less 2 ∷ offers_less 1 ∷ comes ∷ [])) (offers 3) ≡ at 0 (Matches w (at_port 7413 ∷ [])) ∷ []
unfolding params.reading_behind cdr.text_from str.is_utf8 str.chars utf8.encode changes first_fault
    is_sound_by settings_of said_in duration_in reliability_in locator_in guid_in
then_it_is_matched = refl

-- a matched writer that offers less, or another topic
match_is_refused :
    changes_by (known_with (offers 1 ∷ comes ∷ [])) (offers_less 2) ≡ at 0 (Unmatches w) ∷ at 0 (Refuses w policy.Reliability) ∷ []
unfolding params.reading_behind cdr.text_from str.is_utf8 str.chars utf8.encode changes first_fault
    is_sound_by settings_of said_in duration_in reliability_in locator_in guid_in
match_is_refused = refl

another_topic : changes_by (known_with (offers 1 ∷ comes ∷ [])) (offers_another 2) ≡ at 0 (Unmatches w) ∷ []
unfolding params.reading_behind cdr.text_from str.is_utf8 str.chars utf8.encode changes first_fault
    is_sound_by settings_of said_in duration_in reliability_in locator_in guid_in
another_topic = refl

-- a bad record changes nothing
bad_is_ignored : changes_by (known_with (offers 1 ∷ comes ∷ [])) (says_badly 2) ≡ []
unfolding params.reading_behind cdr.text_from str.is_utf8 str.chars utf8.encode changes first_fault
    is_sound_by settings_of said_in duration_in reliability_in locator_in guid_in
bad_is_ignored = refl

-- records wait for earlier ones, and three that become ready at once are applied one after the other
record_waits : changes_by (known_with (comes ∷ [])) (offers 3) ≡ []
unfolding params.reading_behind cdr.text_from str.is_utf8 str.chars utf8.encode changes first_fault
    is_sound_by settings_of said_in duration_in reliability_in locator_in guid_in
record_waits = refl

three_at_once :
    changes_by (known_with (offers_less 2 ∷ offers 3 ∷ comes ∷ [])) (offers 1)
    ≡ at 0 (Matches w (at_port 7413 ∷ [])) ∷ at 0 (Unmatches w) ∷ at 0 (Refuses w policy.Reliability) ∷ at 0 (Matches w (at_port 7413 ∷ [])) ∷ []
unfolding params.reading_behind cdr.text_from str.is_utf8 str.chars utf8.encode changes first_fault
    is_sound_by settings_of said_in duration_in reliability_in locator_in guid_in
three_at_once = refl

-- ---- its lease is 100 seconds

-- what a moment changes
abbrev by_moment : ℕ → Known → List ChangeAt
by_moment moment k = changes (moved moment k) (passed moment k)

lease_stands : by_moment 100000 (known_with (offers 1 ∷ comes ∷ [])) ≡ []
unfolding params.reading_behind cdr.text_from str.is_utf8 str.chars utf8.encode changes first_fault
    is_sound_by settings_of said_in duration_in reliability_in locator_in guid_in
lease_stands = refl

lease_ends : by_moment 100001 (known_with (offers 1 ∷ comes ∷ [])) ≡ at 0 (Unmatches w) ∷ []
unfolding params.reading_behind cdr.text_from str.is_utf8 str.chars utf8.encode changes first_fault
    is_sound_by settings_of said_in duration_in reliability_in locator_in guid_in
lease_ends = refl

-- a later record renews it; one that comes too late is a new participant's, whose writer is unknown
renewed : by_moment 150000 (known_by (passed 60000 (known_with (offers 1 ∷ comes ∷ []))) comes) ≡ []
unfolding params.reading_behind cdr.text_from str.is_utf8 str.chars utf8.encode changes first_fault
    is_sound_by settings_of said_in duration_in reliability_in locator_in guid_in
renewed = refl

comes_anew : (known_by (passed 100001 (known_with (offers 1 ∷ comes ∷ []))) comes).writers ≡ []
unfolding params.reading_behind cdr.text_from str.is_utf8 str.chars utf8.encode changes first_fault
    is_sound_by settings_of said_in duration_in reliability_in locator_in guid_in
comes_anew = refl

-- and its announcers begin again
is_matched_anew :
    changes_by (known_by (passed 100001 (known_with (offers 1 ∷ comes ∷ []))) comes) (offers 1) ≡ at 0 (Matches w (at_port 7413 ∷ [])) ∷ []
unfolding params.reading_behind cdr.text_from str.is_utf8 str.chars utf8.encode changes first_fault
    is_sound_by settings_of said_in duration_in reliability_in locator_in guid_in
is_matched_anew = refl

-- what counts is the greatest moment so far: it was heard at 100001
heard_at : map (λ e. e.1.heard) (known_by (passed 0 (passed 100001 start)) comes).participants ≡ 100001 ∷ []
unfolding params.reading_behind is_sound_by settings_of said_in duration_in locator_in guid_in
heard_at = refl

greatest_counts : by_moment 200001 (known_by (passed 0 (known_by (passed 100001 start) comes)) (offers 1)) ≡ []
unfolding params.reading_behind cdr.text_from str.is_utf8 str.chars utf8.encode changes first_fault
    is_sound_by settings_of said_in duration_in reliability_in locator_in guid_in
greatest_counts = refl

then_it_ends : by_moment 200002 (known_by (passed 0 (known_by (passed 100001 start) comes)) (offers 1)) ≡ at 0 (Unmatches w) ∷ []
unfolding params.reading_behind cdr.text_from str.is_utf8 str.chars utf8.encode changes first_fault
    is_sound_by settings_of said_in duration_in reliability_in locator_in guid_in
then_it_ends = refl

-- ---- leases in milliseconds

whole_seconds : lease_of (record { seconds = pos 100; fraction = 0 }) ≡ Some 100000
whole_seconds = refl

-- 2147484 units of 2^-32 seconds, and one of them
half_a_millisecond : lease_of (record { seconds = pos 0; fraction = 2147484 }) ≡ Some 1
half_a_millisecond = refl

one_unit : lease_of (record { seconds = pos 1; fraction = 1 }) ≡ Some 1001
one_unit = refl

-- -1 s, and almost 0 s
negative : lease_of (record { seconds = negsuc 0; fraction = 0 }) ≡ Some 0
negative = refl

negative_with_fraction : lease_of (record { seconds = negsuc 0; fraction = 0xffff_ffff }) ≡ Some 0
negative_with_fraction = refl

infinite : lease_of (record { seconds = pos 0x7fff_ffff; fraction = 0xffff_ffff }) ≡ None
infinite = refl

almost_infinite : lease_of (record { seconds = pos 0x7fff_ffff; fraction = 0xffff_fffe }) ≡ Some 2147483648000
almost_infinite = refl

-- the greatest moment is the last one of a lease that would end later
goes_no_further : deadline (2 ^ 64 - 2) (record { seconds = pos 1; fraction = 0 }) ≡ Some (2 ^ 64 - 1)
goes_no_further = refl
