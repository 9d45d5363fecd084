-- What an event is to discovery.
use Rattle.std.proofs.Common.{◌≡◌, List, [], ◌∷◌, Bool, true, false, ◌&&◌, ◌||◌, Option, Some, None, if◌then◌else◌, refl, sym, ap, ◌∙◌, subst}
use Rattle.std.specs.Prelude.{is_some}
use Rattle.std.specs.List.{AllByRecursion}
use Rattle.std.specs.Str.{bytes_eq}
use Rattle.std.proofs.lemmas.Slice.Eq.{bytes_eq-Decides}
use Rattle.rtps_types.specs.declared.identity.EntityId.{EntityId}
use Rattle.rtps_types.specs.declared.identity.Guid.{Guid}
use Rattle.rtps_receiver.specs.Events.{EventView}
use Rattle.rtps_proxy.specs.History.{MatchEvent, match_event_of}
use Rattle.rtps_proxy.specs.Effects.{AreEffects}
use Rattle.rtps_proxy.specs.Kept as proxy
use Rattle.rtps_proxy.specs.Replies.{ReplyView}
use Rattle.rtps_proxy.specs.declared.effects.Effects.{Effects}
use Rattle.rtps_proxy.specs.Matches.{AllStand, AreTaken, Match, extended, match_with, same_guid}
use Rattle.rtps_discovery.specs.Addressed.{is_for, writer_of}
use Rattle.rtps_discovery.specs.Effects.{extends, match_of}
use Rattle.rtps_discovery.specs.Known.{Known, publications_reader, publications_writer, spdp_writer, subscriptions_reader, subscriptions_writer}
use Rattle.rtps_discovery.specs.Kept.{IsKnown, RegistryView, is_announcer}
use Rattle.rtps_discovery.specs.Records.{announcer_of, answer_by, answered, changes_by, detector_of, known_by, named_match, participants_in, ready_records}
use Rattle.rtps_discovery.specs.Changes.{ChangeAt, changes_run, known_run}

abbrev Announce : List Match → Type 0
Announce ms = AllByRecursion (λ m. is_announcer m ≡ true) ms

extended_announce : (w : Guid) (e : MatchEvent) (ms : List Match) → Announce ms → Announce (extended w e ms)
extended_announce w e [] all = tt
extended_announce w e (m ∷ ms) (is, all) = by_test (same_guid m.pairing.writer w) (extended_announce w e ms all)
  where
    by_test : (t : Bool) → Announce (extended w e ms) → Announce (if t then record { pairing = m.pairing; past = e ∷ m.past } ∷ ms else m ∷ extended w e ms)
    by_test true more = (is, all)
    by_test false more = (is, more)

-- an event came for a match
pub came_for : (k : Known) (d : RegistryView) (e : EventView) (proxies : List (Guid × proxy.ProxyView)) → IsKnown k d → AllStand (extended (writer_of e) (match_event_of e) k.announcers) proxies → IsKnown (extends k e) (record d { announcers = proxies })
came_for k d e proxies is stand = record {
  own = is.own;
  moment = is.moment;
  leases = is.leases;
  in_order = is.in_order;
  readers = is.readers;
  fixed = is.fixed;
  started = is.started;
  participants = is.participants;
  announcers = stand;
  announce = extended_announce (writer_of e) (match_event_of e) k.announcers is.announce;
  writers = is.writers;
  ordered = is.ordered;
  remote_readers = is.remote_readers;
  ranks = is.ranks;
}

extended_none : (w : Guid) (e : MatchEvent) (ms : List Match) → match_with w ms ≡ None → extended w e ms ≡ ms
extended_none w e [] none = refl
extended_none w e (m ∷ ms) none = by_test (same_guid m.pairing.writer w) none (extended_none w e ms)
  where
    by_test : (t : Bool) → (if t then Some m else match_with w ms) ≡ None → (match_with w ms ≡ None → extended w e ms ≡ ms) → (if t then record { pairing = m.pairing; past = e ∷ m.past } ∷ ms else m ∷ extended w e ms) ≡ m ∷ ms
    by_test true bad more = absurd cc
    by_test false left more = ap (λ (l : List Match). m ∷ l) (more left)

-- what is found is there
pub record IsFound (w : Guid) (m : Match) : Type 0 where
  pub announces : is_announcer m ≡ true
  pub writer : same_guid m.pairing.writer w ≡ true

found : (w : Guid) (ms : List Match) (m : Match) → Announce ms → match_with w ms ≡ Some m → IsFound w m
found w [] m all is = absurd cc
found w (n ∷ ms) m (here, all) is = by_test (same_guid n.pairing.writer w) refl is (found w ms m all)
  where
    by_test : (t : Bool) → same_guid n.pairing.writer w ≡ t → (if t then Some n else match_with w ms) ≡ Some m → (match_with w ms ≡ Some m → IsFound w m) → IsFound w m
    by_test true same is more = let one : n ≡ m = cc in subst (IsFound w) one (record { announces = here; writer = same })
    by_test false same is more = more is

and_second : (a b : Bool) → (a && b) ≡ true → b ≡ true
and_second true b h = h
and_second false b h = absurd cc

-- the reader of a match follows from its writer
named_by : (w r e : List _) → e ≡ w → ((bytes_eq e publications_writer.0 && bytes_eq r publications_reader.0) || (bytes_eq e subscriptions_writer.0 && bytes_eq r subscriptions_reader.0)) ≡ true
    → (bytes_eq w publications_writer.0 ≡ true → bytes_eq r publications_reader.0 ≡ true) × ((bytes_eq w subscriptions_writer.0 ≡ true → bytes_eq r subscriptions_reader.0 ≡ true)
    × ((bytes_eq w publications_writer.0 || bytes_eq w subscriptions_writer.0) ≡ true))
named_by w r e same is = by_tests (bytes_eq w publications_writer.0) refl (bytes_eq w subscriptions_writer.0) refl (bytes_eq r publications_reader.0) (bytes_eq r subscriptions_reader.0) (subst (λ x. ((bytes_eq x publications_writer.0 && bytes_eq r publications_reader.0) || (bytes_eq x subscriptions_writer.0 && bytes_eq r subscriptions_reader.0)) ≡ true) same is)
  where
    by_tests : (a : Bool) → bytes_eq w publications_writer.0 ≡ a → (b : Bool) → bytes_eq w subscriptions_writer.0 ≡ b → (x y : Bool) → ((a && x) || (b && y)) ≡ true → (a ≡ true → x ≡ true) × ((b ≡ true → y ≡ true) × ((a || b) ≡ true))
    by_tests true p true s x y h =
        let one : w ≡ publications_writer.0 = (bytes_eq-Decides w publications_writer.0).0 p in
        let bad : bytes_eq publications_writer.0 subscriptions_writer.0 ≡ true = ap (λ l. bytes_eq l subscriptions_writer.0) (sym one) ∙ s in absurd cc
    by_tests true p false s true y h = (λ t. refl, (λ t. absurd cc, refl))
    by_tests true p false s false y h = absurd cc
    by_tests false p true s x true h = (λ t. absurd cc, (λ t. refl, refl))
    by_tests false p true s x false h = absurd cc
    by_tests false p false s x y h = absurd cc

entity_is : (a b : EntityId) → bytes_eq a.0 b.0 ≡ true → a ≡ b
entity_is a b h = let one : a.0 ≡ b.0 = (bytes_eq-Decides a.0 b.0).0 h in let f : List _ → EntityId = λ l. record { 0 = l } in ap f one

-- the reader of a match that is found
detected : (w : Guid) (m : Match) → IsFound w m → detector_of w.entity ≡ Some m.pairing.reader
detected w m is =
    let entity = m.pairing.writer.entity in
    let same : entity.0 ≡ w.entity.0 = (bytes_eq-Decides entity.0 w.entity.0).0 (and_second (bytes_eq m.pairing.writer.prefix.0 w.prefix.0) (bytes_eq entity.0 w.entity.0) is.writer) in
    let named = named_by w.entity.0 m.pairing.reader.0 entity.0 same is.announces in
    by_tests (bytes_eq w.entity.0 publications_writer.0) (bytes_eq w.entity.0 subscriptions_writer.0) (λ t. entity_is m.pairing.reader publications_reader (named.0 t)) (λ t. entity_is m.pairing.reader subscriptions_reader (named.1.0 t)) named.1.1
  where
    by_tests : (a b : Bool) → (a ≡ true → m.pairing.reader ≡ publications_reader) → (b ≡ true → m.pairing.reader ≡ subscriptions_reader) → (a || b) ≡ true
        → (if a then Some publications_reader else (if b then Some subscriptions_reader else None)) ≡ Some m.pairing.reader
    by_tests true b p s h = ap (λ r. Some r) (sym (p refl))
    by_tests false true p s h = ap (λ r. Some r) (sym (s refl))
    by_tests false false p s h = absurd cc

-- no match of ours is with another writer
pub undetected : (w : Guid) (ms : List Match) → Announce ms → detector_of w.entity ≡ None → match_with w ms ≡ None
undetected w ms all none = by_found (match_with w ms) refl
  where
    by_found : (o : Option Match) → match_with w ms ≡ o → o ≡ None
    by_found None e = refl
    by_found (Some m) e = let bad : None ≡ Some m.pairing.reader = sym none ∙ detected w m (found w ms m all e) in absurd cc

pub spdp_undetected : (w : EntityId) → bytes_eq w.0 spdp_writer.0 ≡ true → detector_of w ≡ None
spdp_undetected w h = ap detector_of (entity_is w spdp_writer h)

none_if : (t : Bool) (o : Option Match) → o ≡ None → o ≡ (if t then o else None)
none_if true o none = refl
none_if false o none = none

pub named_if : (k : Known) (e : EventView) (r : EntityId) → Announce k.announcers → detector_of e.writer ≡ Some r → announcer_of k e ≡ (if is_for e.reader r then match_of k e else None)
named_if k e r all is = by_found (match_of k e) refl
  where
    by_found : (o : Option Match) → match_of k e ≡ o → named_match e o ≡ (if is_for e.reader r then o else None)
    by_found None f = none_if (is_for e.reader r) None refl
    by_found (Some m) f =
        let some : Some r ≡ Some m.pairing.reader = sym is ∙ detected (writer_of e) m (found (writer_of e) k.announcers m all f) in
        let one : r ≡ m.pairing.reader = cc in
        ap (λ x. if is_for e.reader x then Some m else None) (sym one)

-- what an event makes of what is known, and what it gives
pub record Gives (k : Known) (e : EventView) (after : Known) (heard : List ChangeAt) (said : Option ReplyView) : Type 0 where
  pub known : after ≡ known_by k e
  pub changes : heard ≡ changes_by k e
  pub answer : said ≡ answered k e

-- an event that nobody of ours is for
pub unheard_of : (k : Known) (e : EventView) → bytes_eq e.writer.0 spdp_writer.0 ≡ false → announcer_of k e ≡ None → Gives k e k [] None
unheard_of k e spdp none = record { known = rw (none, spdp) refl; changes = rw (none, spdp) refl; answer = rw none refl }

-- an event of the participants' announcer
pub of_participants : (k : Known) (e : EventView) → bytes_eq e.writer.0 spdp_writer.0 ≡ true → announcer_of k e ≡ None → Gives k e (known_run k (participants_in k.own e)) (changes_run k (participants_in k.own e)) None
of_participants k e spdp none = record { known = rw (none, spdp) refl; changes = rw (none, spdp) refl; answer = rw none refl }

-- an event of an announcer of endpoints
pub of_endpoints : (k : Known) (e : EventView) → bytes_eq e.writer.0 spdp_writer.0 ≡ false → announcer_of k e ≡ match_of k e
    → Gives k e (known_run (extends k e) (ready_records e (match_of k e))) (changes_run (extends k e) (ready_records e (match_of k e))) (answer_by e (match_of k e))
of_endpoints k e spdp named = record {
  known = rw (named, spdp) (ap (λ x. known_run x (ready_records e (match_of k e))) same);
  changes = rw (named, spdp) (ap (λ x. changes_run x (ready_records e (match_of k e))) same);
  answer = rw named refl;
}
  where
    same : extends k e ≡ (if is_some (match_of k e) then extends k e else k)
    same = by_found (match_of k e) refl
      where
        by_found : (o : Option Match) → match_of k e ≡ o → extends k e ≡ (if is_some o then extends k e else k)
        by_found None f = ap (λ (ms : List Match). record k { announcers = ms }) (extended_none (writer_of e) (match_event_of e) k.announcers f)
        by_found (Some m) f = refl

pub none_taken : (A : Type 0) (o : Option Match) (came : MatchEvent) → AreTaken {A = A} o came None → o ≡ None
none_taken A None came taken = refl
none_taken A (Some m) came taken = absurd taken

pub record Took {A : Type 0} (o : Option Match) (came : MatchEvent) (gave : Effects A) : Type 0 where
  pub match : Match
  pub is : o ≡ Some match
  pub effects : AreEffects match.pairing match.past came gave

pub some_taken : {A : Type 0} (o : Option Match) (came : MatchEvent) (effects : Effects A) → AreTaken o came (Some effects) → Took o came effects
some_taken None came effects taken = absurd taken
some_taken (Some m) came effects taken = record { match = m; is = refl; effects = taken }
