-- The participants that are known after an event, and what is heard of the same submessage.
use Rattle.std.proofs.Common.{◌≡◌, ℕ, ◌+◌, ◌*◌, ◌/◌, ◌≤◌, ℤ, Bool, true, false, not, List, [], ◌∷◌, ◌++◌, Option, None, Some, refl, sym, ap, subst, ◌∙◌}
use Rattle.std.specs.Prelude.{◌==◌, ◌&&◌, flat_map, if◌then◌else◌, is_some, nat_le, option_and_then, option_to_list}
use Rattle.std.specs.List.{AllByRecursion, list_all}
use Rattle.std.specs.Option.{IfSome, option_map}
use Rattle.std.specs.Str.{bytes_eq}
use Rattle.std.proofs.lemmas.Bool.{le-leb}
use Rattle.std.proofs.lemmas.Map.Text.{is_eq-slice_cmp}
use Rattle.rtps_types.specs.declared.identity.EntityId.{EntityId}
use Rattle.rtps_types.specs.declared.identity.Guid.{Guid}
use Rattle.rtps_types.specs.declared.identity.GuidPrefix.{GuidPrefix}
use Rattle.rtps_types.specs.declared.identity.KeyHash.{KeyHash}
use Rattle.rtps_types.specs.declared.place.Place.{Place}
use Rattle.rtps_types.specs.declared.time.Timestamp.{Timestamp}
use Rattle.rtps_types.specs.NumberSet.{NumberSet, members}
use Rattle.rtps_wire.specs.Bounds.{HasBounds}
use Rattle.rtps_wire.specs.Data.{DataView}
use Rattle.rtps_wire.specs.Fields.{◌>>=◌, count_at, endian_of, entity_at, has}
use Rattle.rtps_wire.specs.Reading.{Raw}
use Rattle.rtps_wire.specs.Submessage.{PartsView, Pad, Heartbeat, Gap, InfoTimestamp, InfoSource, InfoDestination, HeartbeatFrag, Data, DataFrag, Skipped}
use Rattle.rtps_receiver.specs.Addressed.{AddressedBody, addressed, first_of, numbers_of, taken, taken_of}
use Rattle.rtps_receiver.specs.EventBody as body
use Rattle.rtps_receiver.specs.EventBody.{is_taken}
use Rattle.rtps_receiver.specs.Events.{EventView, happening}
use Rattle.rtps_proxy.specs.Change.{ChangeView}
use Rattle.rtps_proxy.specs.Effects.{ready_of}
use Rattle.rtps_proxy.specs.History.{match_event_of}
use Rattle.rtps_proxy.specs.Matches.{Match, extended}
use Rattle.rtps_discovery.specs.Addressed.{is_discovery, is_for, writer_of}
use Rattle.rtps_discovery.specs.AnnouncedData as said
use Rattle.rtps_discovery.specs.AnnouncedData.{AnnouncedData, said_in}
use Rattle.rtps_discovery.specs.Announcement as news
use Rattle.rtps_discovery.specs.Announcement.{Announcement, Offer, endpoint_of, offer_of, or_hash, participant_said, prefix_of, reader_said, when, writer_said}
use Rattle.rtps_discovery.specs.Changes.{known_run}
use Rattle.rtps_discovery.specs.Config.{is_reader, is_writer}
use Rattle.rtps_discovery.specs.Known as known
use Rattle.rtps_discovery.specs.Known.{Known, known_after, publications_writer, same_prefix, spdp_reader, spdp_writer}
use Rattle.rtps_discovery.specs.Records.{announcer_of, endpoint_guid, endpoint_in, known_by, noted, participant_guid, participant_in, participants_in, ready_records}
use Rattle.rtps_discovery.proofs.Ends.{prefix_is}
use Rattle.rtps_discovery.proofs.Taking.{turned}
use Rattle.rtps_run.specs.World.{known_after_event}
use Rattle.rtps_announcer.specs.Acknack.{ack_heard, is_ours, missing_at}
use Rattle.rtps_announcer.specs.declared.hearing.Hearing.{Hearing}
use Rattle.rtps_announcer.specs.declared.hearing.Hearing.TheVariants.{Passes, Comes, Leaves, Acks, Joins, Parts}
use Rattle.rtps_announcer.specs.declared.rules.Rules.{Rules}
use Rattle.rtps_announcer.specs.Announcing.{State, step}
use Rattle.rtps_announcer.specs.Hearing.{heard_by, is_record}
use Rattle.rtps_announcer.specs.Participant as participant
use Rattle.rtps_announcer.specs.Participant.{heard_as, participant_heard}
use Rattle.dds_announced.specs.Found.{owed_then}
use Rattle.dds_announced.proofs.Peers.{TiedTo, acks_tied, comes_tied, leaves_tied, own_leaves_tied}

-- ---- what leaves the participants as they are

pub record IsSameKnown (k l : Known) : Type 0 where
  pub own : l.own ≡ k.own
  pub moment : l.moment ≡ k.moment
  pub participants : l.participants ≡ k.participants

same_known : (k : Known) → IsSameKnown k k
same_known k = record { own = refl; moment = refl; participants = refl }

same_then : (k l m : Known) → IsSameKnown k l → IsSameKnown l m → IsSameKnown k m
same_then k l m one two = record {
  own = two.own ∙ one.own;
  moment = two.moment ∙ one.moment;
  participants = two.participants ∙ one.participants;
}

pub still_tied : (own : GuidPrefix) (k l : Known) (s : State) (owed : GuidPrefix → Bool) → IsSameKnown k l → TiedTo own k s owed → TiedTo own l s owed
still_tied own k l s owed same t = rw (same.own, same.moment, same.participants) t

-- an announcement of an endpoint
abbrev IsEndpoint : Announcement → Type 0
IsEndpoint (news.Comes p f) = ⊥
IsEndpoint (news.Leave gone) = ⊥
IsEndpoint (news.Offers g w) = Unit {0}
IsEndpoint (news.Withdraws g) = Unit {0}
IsEndpoint (news.Asks g) = Unit {0}
IsEndpoint (news.AsksNoMore g) = Unit {0}

one_same : (k : Known) (a : Announcement) → IsEndpoint a → IsSameKnown k (known_after k a)
one_same k (news.Comes p f) is = absurd is
one_same k (news.Leave gone) is = absurd is
one_same k (news.Offers g w) is = record { own = refl; moment = refl; participants = refl }
one_same k (news.Withdraws g) is = record { own = refl; moment = refl; participants = refl }
one_same k (news.Asks g) is = record { own = refl; moment = refl; participants = refl }
one_same k (news.AsksNoMore g) is = record { own = refl; moment = refl; participants = refl }

run_same : (k : Known) (more : List Announcement) → AllByRecursion IsEndpoint more → IsSameKnown k (known_run k more)
run_same k [] all = same_known k
run_same k (a ∷ more) all = same_then k (known_after k a) (known_run (known_after k a) more) (one_same k a all.0) (run_same (known_after k a) more all.1)

mapped : {A : Type 0} (o : Option A) (f : A → Announcement) → ((x : A) → IsEndpoint (f x)) → IfSome (option_map f o) IsEndpoint
mapped None f all = tt
mapped (Some x) f all = all x

writer_is : (source : GuidPrefix) (hash : Option KeyHash) (d : AnnouncedData) → IfSome (writer_said source hash d) IsEndpoint
writer_is source hash (said.Announces s) = by_guid (endpoint_of source is_writer (or_hash s.endpoint hash))
  where
    by_guid : (o : Option Guid) → IfSome (option_and_then (λ g. option_map (news.Offers g) (offer_of s)) o) IsEndpoint
    by_guid None = tt
    by_guid (Some g) = mapped (offer_of s) (news.Offers g) (λ x. tt)
writer_is source hash (said.Ends named) = mapped (endpoint_of source is_writer (or_hash named hash)) news.Withdraws (λ x. tt)

reader_is : (source : GuidPrefix) (hash : Option KeyHash) (d : AnnouncedData) → IfSome (reader_said source hash d) IsEndpoint
reader_is source hash (said.Announces s) = by_guid (endpoint_of source is_reader (or_hash s.endpoint hash))
  where
    by_guid : (o : Option Guid) → IfSome (option_and_then (λ g. option_map (λ (offer : Offer). news.Asks g) (offer_of s)) o) IsEndpoint
    by_guid None = tt
    by_guid (Some g) = mapped (offer_of s) (λ (offer : Offer). news.Asks g) (λ x. tt)
reader_is source hash (said.Ends named) = mapped (endpoint_of source is_reader (or_hash named hash)) news.AsksNoMore (λ x. tt)

endpoint_is : (source : GuidPrefix) (writer : EntityId) (c : ChangeView) → IfSome (endpoint_in source writer c) IsEndpoint
endpoint_is source writer c = by_writer (bytes_eq writer.0 publications_writer.0) (said_in endpoint_guid c.info c.payload)
  where
    by_writer : (b : Bool) (o : Option AnnouncedData)
        → IfSome (if b then option_and_then (writer_said source c.info.hash) o else option_and_then (reader_said source c.info.hash) o) IsEndpoint
    by_writer true None = tt
    by_writer true (Some d) = writer_is source c.info.hash d
    by_writer false None = tt
    by_writer false (Some d) = reader_is source c.info.hash d

all_more : (o : Option Announcement) (more : List Announcement) → IfSome o IsEndpoint → AllByRecursion IsEndpoint more → AllByRecursion IsEndpoint (option_to_list o ++ more)
all_more None more one all = all
all_more (Some a) more one all = (one, all)

changes_are : (source : GuidPrefix) (writer : EntityId) (cs : List ChangeView) → AllByRecursion IsEndpoint (flat_map (λ (c : ChangeView). option_to_list (endpoint_in source writer c)) cs)
changes_are source writer [] = tt
changes_are source writer (c ∷ cs) =
    all_more (endpoint_in source writer c) (flat_map (λ (c : ChangeView). option_to_list (endpoint_in source writer c)) cs)
    (endpoint_is source writer c) (changes_are source writer cs)

ready_are : (e : EventView) (o : Option Match) → AllByRecursion IsEndpoint (ready_records e o)
ready_are e None = tt
ready_are e (Some m) = changes_are e.source e.writer (ready_of m.pairing.reliable m.past (match_event_of e))

noted_same : (k : Known) (e : EventView) → IsSameKnown k (noted k e)
noted_same k e = by_match (is_some (announcer_of k e))
  where
    by_match : (b : Bool) → IsSameKnown k (if b then record k { announcers = extended (writer_of e) (match_event_of e) k.announcers } else k)
    by_match true = record { own = refl; moment = refl; participants = refl }
    by_match false = same_known k

-- an event of no announcer of participants
other_same : (k : Known) (e : EventView) → bytes_eq e.writer.0 spdp_writer.0 ≡ false → IsSameKnown k (known_after_event k e)
other_same k e is = by_writer (is_discovery e.writer)
  where
    by_announcer : IsSameKnown k (known_by k e)
    by_announcer = rw is (same_then k (noted k e) (known_run (noted k e) (ready_records e (announcer_of k e))) (noted_same k e)
        (run_same (noted k e) (ready_records e (announcer_of k e)) (ready_are e (announcer_of k e))))

    by_writer : (b : Bool) → IsSameKnown k (if b then known_by k e else k)
    by_writer true = by_announcer
    by_writer false = same_known k

-- an event of an announcer of participants
spdp_is : (k : Known) (e : EventView) → bytes_eq e.writer.0 spdp_writer.0 ≡ true → known_after_event k e ≡ known_run (noted k e) (participants_in k.own e)
spdp_is k e is = rw is refl

quiet_same : (k : Known) (e : EventView) → participants_in k.own e ≡ [] → IsSameKnown k (known_after_event k e)
quiet_same k e none = by_writer (bytes_eq e.writer.0 spdp_writer.0) refl
  where
    by_writer : (b : Bool) → bytes_eq e.writer.0 spdp_writer.0 ≡ b → IsSameKnown k (known_after_event k e)
    by_writer true is =
        subst (IsSameKnown k) (sym (spdp_is k e is ∙ ap (known_run (noted k e)) none)) (noted_same k e)
    by_writer false is = other_same k e is

-- ---- one submessage

abbrev pub known_opt : Known → Option EventView → Known
known_opt k None = k
known_opt k (Some e) = known_after_event k e

abbrev pub state_opt : Rules → State → Option Hearing → State
state_opt r s None = s
state_opt r s (Some h) = (step r h s).state

abbrev pub owed_opt : Rules → State → Option Hearing → (GuidPrefix → Bool) → GuidPrefix → Bool
owed_opt r s None owed = owed
owed_opt r s (Some h) owed = owed_then r s h owed

-- a body of no change in one piece
unwhole : (k : Known) (place : Place) (source : GuidPrefix) (time : Option Timestamp) (a : AddressedBody) (own : GuidPrefix) (s : State) (owed : GuidPrefix → Bool)
    → ((p : GuidPrefix) → participant_in p source a.body ≡ None) → TiedTo own k s owed → TiedTo own (known_opt k (happening place source time (taken a))) s owed
unwhole k place source time a own s owed none t = by_test (nat_le 1 (first_of a.body) && list_all is_taken (numbers_of a.body))
  where
    e : EventView
    e = record { place = place; source = source; time = time; writer = a.writer; reader = a.reader; body = a.body }

    nothing : (b : Bool) → (if b then option_to_list (participant_in k.own source a.body) else []) ≡ []
    nothing true = ap option_to_list (none k.own)
    nothing false = refl

    by_test : (b : Bool) → TiedTo own (known_opt k (happening place source time (if b then Some a else None))) s owed
    by_test true = still_tied own k (known_after_event k e) s owed (quiet_same k e (nothing (is_for a.reader spdp_reader))) t
    by_test false = t

-- an answer of a peer
abbrev IsAcks : Hearing → Type 0
IsAcks (Passes m) = ⊥
IsAcks (Comes p f) = ⊥
IsAcks (Leaves p) = ⊥
IsAcks (Acks p a) = Unit {0}
IsAcks Joins = ⊥
IsAcks (Parts rank) = ⊥

if_read : {A B : Type 0} (o : Option A) (f : A → Option B) (P : B → Type 0) → ((x : A) → IfSome (f x) P) → IfSome (o >>= f) P
if_read None f P all = tt
if_read (Some x) f P all = all x

module _ (source : GuidPrefix) (flags : ℕ) (octets : List ℕ) where
  abbrev by_count : EntityId → EntityId → NumberSet → ℤ → Option Hearing
  by_count reader writer missing count =
      if is_ours reader writer
      then Some (Acks source (record { base = missing.base; asked = members missing; count = count; is_final = has 2 flags }))
      else None

  abbrev by_missing : EntityId → EntityId → NumberSet → Option Hearing
  by_missing reader writer missing = count_at (endian_of flags) octets (20 + 4 * ((missing.bits + 31) / 32)) >>= by_count reader writer missing

  abbrev by_writer : EntityId → EntityId → Option Hearing
  by_writer reader writer = missing_at (endian_of flags) octets 8 >>= by_missing reader writer

  abbrev by_reader : EntityId → Option Hearing
  by_reader reader = entity_at octets 4 >>= by_writer reader

  acks_are : IfSome (ack_heard source flags octets) IsAcks
  unfolding ack_heard
  acks_are =
      if_read (entity_at octets 0) by_reader IsAcks (λ reader.
      if_read (entity_at octets 4) (by_writer reader) IsAcks (λ writer.
      if_read (missing_at (endian_of flags) octets 8) (by_missing reader writer) IsAcks (λ missing.
      if_read (count_at (endian_of flags) octets (20 + 4 * ((missing.bits + 31) / 32))) (by_count reader writer missing) IsAcks (λ count.
      by_test (is_ours reader writer) (Acks source (record { base = missing.base; asked = members missing; count = count; is_final = has 2 flags })) tt))))
    where
      by_test : (b : Bool) (h : Hearing) → IsAcks h → IfSome (if b then Some h else None) IsAcks
      by_test true h is = is
      by_test false h is = tt

module _ (own : GuidPrefix) (r : Rules) (s : State) (owed : GuidPrefix → Bool) (source : GuidPrefix) where
  abbrev If : Known → Option Hearing → Type 0
  If k h = TiedTo own k (state_opt r s h) (owed_opt r s h owed)

  abbrev heard_if : Bool → Option Hearing → Option Hearing
  heard_if b o = if b then o else None

  -- the data of a participant's announcer
  said_tied : (k : Known) (hash : Option KeyHash) (what : Option AnnouncedData) → TiedTo own k s owed
      → If (known_run k (option_to_list (option_and_then (participant_said own source hash) what)))
      (heard_if (not (bytes_eq source.0 own.0)) (option_and_then (λ d. heard_as source d (participant_said own source hash d)) what))
  said_tied k hash None t = by_source (not (bytes_eq source.0 own.0))
    where
      by_source : (b : Bool) → If k (heard_if b None)
      by_source true = t
      by_source false = t
  said_tied k hash (Some (said.Announces st)) t = by_tests (bytes_eq (prefix_of source st.participant).0 source.0) (bytes_eq source.0 own.0) refl
    where
      other : bytes_eq source.0 own.0 ≡ false → same_prefix own source ≡ false
      other is = is_eq-slice_cmp own.0 source.0 ∙ turned own.0 source.0 ∙ is

      by_tests : (a b : Bool) → bytes_eq source.0 own.0 ≡ b
          → If (known_run k (option_to_list (when (a && not b) (news.Comes source (news.facts_of st)))))
          (heard_if (not b) (heard_as source (said.Announces st) (when (a && not b) (news.Comes source (news.facts_of st)))))
      by_tests true true is = t
      by_tests false true is = t
      by_tests false false is = t
      by_tests true false is =
          comes_tied own k.own k.moment k.participants r s owed source (participant.facts_of st) (known.heard_at k.moment (news.facts_of st)) t (sym t.moment_is) refl (other is)
  said_tied k hash (Some (said.Ends named)) t = by_tests (bytes_eq (prefix_of source (or_hash named hash)).0 source.0) (bytes_eq source.0 own.0) refl
    where
      by_tests : (a b : Bool) → bytes_eq source.0 own.0 ≡ b
          → If (known_run k (option_to_list (when a (news.Leave (source ∷ [])))))
          (heard_if (not b) (heard_as source (said.Ends named) (when a (news.Leave (source ∷ [])))))
      by_tests false true is = t
      by_tests false false is = t
      by_tests true false is = leaves_tied own k.own k.moment k.participants r s owed source t
      by_tests true true is =
          own_leaves_tied own k.own k.moment k.participants s owed source (prefix_is source own (is_eq-slice_cmp source.0 own.0 ∙ is)) t

  heard_none : (k : Known) (b : Bool) → TiedTo own k s owed → If k (heard_if b None)
  heard_none k true t = t
  heard_none k false t = t

  data_tied : (k : Known) (place : Place) (time : Option Timestamp) (d : DataView) → 1 ≤ d.number → TiedTo own k s owed
      → If (known_opt k (happening place source time (taken_of (addressed (Data d)))))
      (heard_if (not (bytes_eq source.0 own.0)) (if is_record d then participant_heard own source d.info d.payload else None))
  data_tied k place time d least t =
      rw (le-leb 1 d.number least) (by_tests (bytes_eq d.writer.0 spdp_writer.0) (is_for d.reader spdp_reader) (is_taken d.number) refl refl)
    where
      a : AddressedBody
      a = record {
        writer = d.writer;
        reader = d.reader;
        body = body.Whole (record { number = d.number; info = d.info; payload = d.payload });
      }

      e : EventView
      e = record { place = place; source = source; time = time; writer = d.writer; reader = d.reader; body = a.body }

      heard : Option Hearing
      heard = participant_heard own source d.info d.payload

      what : Option AnnouncedData
      what = said_in participant_guid d.info d.payload

      told : bytes_eq d.writer.0 spdp_writer.0 ≡ true → is_for d.reader spdp_reader ≡ true
          → known_after_event k e ≡ known_run (noted k e) (option_to_list (option_and_then (participant_said own source d.info.hash) what))
      told writer reader =
          spdp_is k e writer
          ∙ ap (λ (b : Bool). known_run (noted k e) (if b then option_to_list (option_and_then (participant_said k.own source d.info.hash) what) else [])) reader
          ∙ ap (λ (p : GuidPrefix). known_run (noted k e) (option_to_list (option_and_then (participant_said p source d.info.hash) what))) t.own_is

      by_tests : (w z n : Bool) → bytes_eq d.writer.0 spdp_writer.0 ≡ w → is_for d.reader spdp_reader ≡ z
          → If (known_opt k (happening place source time (if n && true then Some a else None)))
          (heard_if (not (bytes_eq source.0 own.0)) (if w && (z && n) then heard else None))
      by_tests true true false writer reader = heard_none k (not (bytes_eq source.0 own.0)) t
      by_tests true false false writer reader = heard_none k (not (bytes_eq source.0 own.0)) t
      by_tests false z false writer reader = heard_none k (not (bytes_eq source.0 own.0)) t
      by_tests false z true writer reader =
          heard_none (known_after_event k e) (not (bytes_eq source.0 own.0)) (still_tied own k (known_after_event k e) s owed (other_same k e writer) t)
      by_tests true false true writer reader =
          heard_none (known_after_event k e) (not (bytes_eq source.0 own.0))
          (still_tied own k (known_after_event k e) s owed (quiet_same k e
          (ap (λ (b : Bool). if b then option_to_list (participant_in k.own source a.body) else []) reader)) t)
      by_tests true true true writer reader =
          subst (λ (l : Known). If l (heard_if (not (bytes_eq source.0 own.0)) heard)) (sym (told writer reader))
          (said_tied (noted k e) d.info.hash what (still_tied own k (noted k e) s owed (noted_same k e) t))

  acks_opt : (k : Known) (o : Option Hearing) → IfSome o IsAcks → TiedTo own k s owed → If k o
  acks_opt k None is t = t
  acks_opt k (Some (Passes m)) is t = absurd is
  acks_opt k (Some (Comes p f)) is t = absurd is
  acks_opt k (Some (Leaves p)) is t = absurd is
  acks_opt k (Some (Acks p a)) is t = acks_tied own k.own k.moment k.participants r s owed p a t
  acks_opt k (Some Joins) is t = absurd is
  acks_opt k (Some (Parts rank)) is t = absurd is

  skipped_tied : (k : Known) (raw : Raw) (b c : Bool) → TiedTo own k s owed → If k (heard_if b (if c then ack_heard source raw.flags raw.body else None))
  skipped_tied k raw false c t = t
  skipped_tied k raw true true t = acks_opt k (ack_heard source raw.flags raw.body) (acks_are source raw.flags raw.body) t
  skipped_tied k raw true false t = t

  other_tied : (k : Known) (place : Place) (time : Option Timestamp) (a : AddressedBody) (b : Bool) → ((p : GuidPrefix) → participant_in p source a.body ≡ None) → TiedTo own k s owed
      → If (known_opt k (happening place source time (taken a))) (heard_if b None)
  other_tied k place time a b none t =
      heard_none (known_opt k (happening place source time (taken a))) b (unwhole k place source time a own s owed none t)

  content_tied : (k : Known) (place : Place) (time : Option Timestamp) (destination : GuidPrefix) (raw : Raw) (content : PartsView) → HasBounds content → TiedTo own k s owed
      → If (known_opt k (happening place source time (taken_of (addressed content))))
      (heard_if (not (bytes_eq source.0 own.0)) (heard_by (record { own = own; source = source; destination = destination }) raw content))
  content_tied k place time destination raw (Data d) least t = data_tied k place time d least t
  content_tied k place time destination raw Skipped bounds t = skipped_tied k raw (not (bytes_eq source.0 own.0)) (raw.id == 0x06) t
  content_tied k place time destination raw Pad bounds t = heard_none k (not (bytes_eq source.0 own.0)) t
  content_tied k place time destination raw (InfoTimestamp i) bounds t = heard_none k (not (bytes_eq source.0 own.0)) t
  content_tied k place time destination raw (InfoSource i) bounds t = heard_none k (not (bytes_eq source.0 own.0)) t
  content_tied k place time destination raw (InfoDestination i) bounds t = heard_none k (not (bytes_eq source.0 own.0)) t
  content_tied k place time destination raw (Heartbeat h) bounds t =
      other_tied k place time (record {
        writer = h.writer;
        reader = h.reader;
        body = body.Heartbeat (record { first = h.first; last = h.last; count = h.count; final_flag = h.final_flag; liveliness = h.liveliness });
      }) (not (bytes_eq source.0 own.0)) (λ p. refl) t
  content_tied k place time destination raw (Gap g) bounds t =
      other_tied k place time (record {
        writer = g.writer;
        reader = g.reader;
        body = body.Gap (record { start = g.start; list = g.list });
      }) (not (bytes_eq source.0 own.0)) (λ p. refl) t
  content_tied k place time destination raw (HeartbeatFrag h) bounds t =
      other_tied k place time (record {
        writer = h.writer;
        reader = h.reader;
        body = body.HeartbeatFrag (record { number = h.number; last = h.last; count = h.count });
      }) (not (bytes_eq source.0 own.0)) (λ p. refl) t
  content_tied k place time destination raw (DataFrag d) bounds t =
      other_tied k place time (record {
        writer = d.writer;
        reader = d.reader;
        body = body.Fragment (record {
          number = d.number;
          start = d.start;
          count = d.count;
          size = d.size;
          sample = d.sample;
          info = d.info;
          payload = d.payload;
        });
      }) (not (bytes_eq source.0 own.0)) (λ p. refl) t

  -- what is for another participant is neither heard nor an event
  pub one_tied : (k : Known) (place : Place) (time : Option Timestamp) (destination : GuidPrefix) (raw : Raw) (content : PartsView) → HasBounds content → TiedTo own k s owed
      → If (known_opt k (if bytes_eq destination.0 own.0 then happening place source time (taken_of (addressed content)) else None))
      (heard_if (bytes_eq destination.0 own.0 && not (bytes_eq source.0 own.0)) (heard_by (record { own = own; source = source; destination = destination }) raw content))
  one_tied k place time destination raw content bounds t = by_destination (bytes_eq destination.0 own.0)
    where
      by_destination : (b : Bool) → If (known_opt k (if b then happening place source time (taken_of (addressed content)) else None))
          (heard_if (b && not (bytes_eq source.0 own.0)) (heard_by (record { own = own; source = source; destination = destination }) raw content))
      by_destination true = content_tied k place time destination raw content bounds t
      by_destination false = t
