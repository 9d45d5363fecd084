-- The peers of an announcer are among the participants that a run knows over the same inputs.
use Rattle.std.proofs.Common.{◌≡◌, ℕ, ◌+◌, zero, suc, Bool, true, false, List, [], ◌∷◌, ◌++◌, drop, length, map, Option, None, Some, Result, Ok, Err, refl, sym, subst, ◌∙◌, arith}
use Rattle.std.specs.Prelude.{is_some, option_to_list}
use Rattle.std.specs.List.{AllByRecursion}
use Rattle.std.specs.List.Sorted.{IsStrictlySortedBy}
use Rattle.std.specs.Option.{IsSomeAnd}
use Rattle.rtps_types.specs.Field.{number}
use Rattle.rtps_types.specs.declared.identity.GuidPrefix.{GuidPrefix}
use Rattle.rtps_wire.specs.Bounds.{HasBounds}
use Rattle.rtps_wire.specs.Fields.{endian_of}
use Rattle.rtps_wire.specs.MessageHeader.{header_of}
use Rattle.rtps_wire.specs.Reading.{Raw, body_length, raw_of}
use Rattle.rtps_wire.specs.Submessage.{Item, PartsView, parts_of}
use Rattle.rtps_wire.specs.declared.message_header.Header.{Header}
use Rattle.rtps_wire.specs.declared.message_header.HeaderFault.{HeaderFault}
use Rattle.rtps_wire.specs.declared.submessage.SubmessageFault.{SubmessageFault}
use Rattle.rtps_wire.proofs.Bounds.{content_bounds}
use Rattle.rtps_receiver.specs.Context.{destination_of, source_of, time_of}
use Rattle.rtps_receiver.specs.Events.{EventView, event_behind, events_behind, events_of, events_under}
use Rattle.dds_topic.specs.Decoding.{Decoding}
use Rattle.rtps_discovery.specs.declared.config.Config.{Config}
use Rattle.rtps_discovery.specs.Known.{Known, RemoteParticipant}
use Rattle.rtps_discovery.specs.Start.{first_known}
use Rattle.rtps_run.specs.Input.{AddReader, Datagram, Input, RemoveReader, Tick, occurrences_from}
use Rattle.rtps_run.specs.Occurrence.{Occurrence, Came}
use Rattle.rtps_run.specs.Occurrence as occurrence
use Rattle.rtps_run.specs.Run.{first_world, world_run}
use Rattle.rtps_run.specs.World.{World, known_after_event, known_then, world_after}
use Rattle.rtps_announcer.specs.declared.hearing.Hearing.{Hearing}
use Rattle.rtps_announcer.specs.declared.hearing.Hearing.TheVariants.{Passes, Joins}
use Rattle.rtps_announcer.specs.declared.peer.Peer.{Peer}
use Rattle.rtps_announcer.specs.declared.rules.Rules.{Rules}
use Rattle.rtps_announcer.specs.Announcing.{State, first, state_run, step}
use Rattle.rtps_announcer.specs.Hearing.{context_of, heard_behind, heard_in, heard_under, hearing_in}
use Rattle.rtps_announcer.specs.Submessages.{Opened, item_of, opened, opened_then, submessages, submessages_behind}
use Rattle.rtps_announcer.proofs.Opened.{read_alike}
use Rattle.rtps_announcer.proofs.Running.{state_more}
use Rattle.dds_announced.specs.Found.{AreFound, AreMoments, IsFoundAs, PeersAreFound, owed_run, owed_then}
use Rattle.dds_announced.specs.Hearings.{all_heard, heard_at}
use Rattle.dds_announced.proofs.Events.{known_opt, one_tied, owed_opt, state_opt}
use Rattle.dds_announced.proofs.Pairs.{IsPair}
use Rattle.dds_announced.proofs.Peers.{TiedTo, joins_tied, parts_tied, passes_tied}

-- ---- what is known after occurrences

known_all : Known → List Occurrence → Known
known_all k [] = k
known_all k (o ∷ os) = known_all (known_then k o) os

world_knows : {M : Type 0} (decoding : Decoding M) (w : World M) (os : List Occurrence) → (world_run decoding w os).known ≡ known_all w.known os
unfolding known_all
world_knows decoding w [] = refl
world_knows decoding w (o ∷ os) = world_knows decoding (world_after decoding w o) os

known_more : (k : Known) (xs ys : List Occurrence) → known_all k (xs ++ ys) ≡ known_all (known_all k xs) ys
unfolding known_all
known_more k [] ys = refl
known_more k (x ∷ xs) ys = known_more (known_then k x) xs ys

owed_more : (r : Rules) (s : State) (owed : GuidPrefix → Bool) (xs ys : List Hearing) → owed_run r s owed (xs ++ ys) ≡ owed_run r (state_run r s xs) (owed_run r s owed xs) ys
owed_more r s owed [] ys = refl
owed_more r s owed (x ∷ xs) ys = owed_more r (step r x s).state (owed_then r s x owed) xs ys

-- ---- the submessages of a message

Bounded : List Opened → Type 0
Bounded os = AllByRecursion (λ (o : Opened). HasBounds o.content) os

one_bounded : (raw : Raw) (o : Option PartsView) (others : List Opened) → parts_of raw.id raw.flags raw.body ≡ o → Bounded others → Bounded (opened raw o others)
unfolding Bounded
one_bounded raw None others is all = tt
one_bounded raw (Some c) others is all = (content_bounds raw.id raw.flags raw.body c is, all)

then_bounded : (res : Result (Option Raw) SubmessageFault) (others : List Opened) → Bounded others → Bounded (opened_then res others)
unfolding Bounded
then_bounded (Err f) others all = tt
then_bounded (Ok None) others all = tt
then_bounded (Ok (Some raw)) others all = one_bounded raw (parts_of raw.id raw.flags raw.body) others refl all

all_bounded : (n : ℕ) (octets : List ℕ) → Bounded (submessages_behind n octets)
unfolding Bounded submessages_behind
all_bounded (suc n) [] = tt
all_bounded (suc n) (a ∷ more) = all_bounded n more
all_bounded zero [] = tt
all_bounded zero (id ∷ []) = tt
all_bounded zero (id ∷ flags ∷ []) = tt
all_bounded zero (id ∷ flags ∷ a ∷ []) = tt
all_bounded zero (id ∷ flags ∷ a ∷ b ∷ rest) =
    let len = body_length id (number (endian_of flags) 2 (a ∷ b ∷ [])) (length rest) in
    then_bounded (raw_of id flags len rest) (submessages_behind len rest) (all_bounded len rest)

module _ (own : GuidPrefix) (r : Rules) where
  -- both sides have gone on
  abbrev Both : Known → State → (GuidPrefix → Bool) → List Occurrence → List Hearing → Type 0
  Both k s owed os hs = TiedTo own (known_all k os) (state_run r s hs) (owed_run r s owed hs)

  walk : (header : GuidPrefix) (index count : ℕ) (before : List PartsView) (os : List Opened) → Bounded os → (k : Known) (s : State) (owed : GuidPrefix → Bool)
      → TiedTo own k s owed → Both k s owed (map Came (events_behind own header index count before (map item_of os))) (heard_behind own header before os)
  unfolding Bounded known_all
  walk header index count before [] all k s owed t = t
  walk header index count before (o ∷ os) all k s owed t =
      by_both (event_behind own header (record { datagram = index; submessage = count + 1 }) before o.content) (hearing_in (context_of own header before) o)
      (one_tied own r s owed (source_of header before) k (record { datagram = index; submessage = count + 1 }) (time_of before) (destination_of own before) o.raw o.content all.0 t)
      (λ k s owed t. walk header index (count + 1) (o.content ∷ before) os all.1 k s owed t)
    where
      by_both : (e : Option EventView) (h : Option Hearing) → TiedTo own (known_opt k e) (state_opt r s h) (owed_opt r s h owed)
          → ((k : Known) (s : State) (owed : GuidPrefix → Bool) → TiedTo own k s owed
          → Both k s owed (map Came (events_behind own header index (count + 1) (o.content ∷ before) (map item_of os))) (heard_behind own header (o.content ∷ before) os))
          → Both k s owed (map Came (option_to_list e ++ events_behind own header index (count + 1) (o.content ∷ before) (map item_of os)))
          (option_to_list h ++ heard_behind own header (o.content ∷ before) os)
      by_both None None t more = more k s owed t
      by_both (Some e) None t more = more (known_after_event k e) s owed t
      by_both None (Some h) t more = more k (step r h s).state (owed_then r s h owed) t
      by_both (Some e) (Some h) t more = more (known_after_event k e) (step r h s).state (owed_then r s h owed) t

  datagram_tied : (index : ℕ) (octets : List ℕ) (k : Known) (s : State) (owed : GuidPrefix → Bool) → TiedTo own k s owed
      → Both k s owed (map Came (events_of own index octets)) (heard_in own octets)
  unfolding known_all
  datagram_tied index octets k s owed t = by_header (header_of octets)
    where
      by_header : (h : Result Header HeaderFault) → Both k s owed (map Came (events_under own index octets h)) (heard_under own octets h)
      by_header (Err f) = t
      by_header (Ok h) =
          subst (λ (l : List Item). Both k s owed (map Came (events_behind own h.prefix index 0 [] l)) (heard_under own octets (Ok h)))
          (read_alike (drop 20 octets))
          (walk h.prefix index 0 [] (submessages (drop 20 octets)) (all_bounded 0 (drop 20 octets)) k s owed t)

  -- one side after the other
  on : (k : Known) (s : State) (owed : GuidPrefix → Bool) (os ps : List Occurrence) (hs is : List Hearing)
      → Both (known_all k os) (state_run r s hs) (owed_run r s owed hs) ps is → Both k s owed (os ++ ps) (hs ++ is)
  on k s owed os ps hs is t =
      subst (λ (l : Known). TiedTo own l (state_run r s (hs ++ is)) (owed_run r s owed (hs ++ is))) (sym (known_more k os ps))
      (subst (λ (x : State). TiedTo own (known_all (known_all k os) ps) x (owed_run r s owed (hs ++ is))) (sym (state_more r s hs is))
      (subst (λ (f : GuidPrefix → Bool). TiedTo own (known_all (known_all k os) ps) (state_run r (state_run r s hs) is) f) (sym (owed_more r s owed hs is)) t))

  inputs_tied : (index : ℕ) (xs : List Input) → AreMoments xs → (k : Known) (s : State) (owed : GuidPrefix → Bool) → TiedTo own k s owed
      → Both k s owed (occurrences_from own index xs) (all_heard own xs)
  unfolding known_all
  inputs_tied index [] small k s owed t = t
  inputs_tied index (Datagram m octets ∷ xs) small k s owed t =
      let o = occurrence.Passes index m in
      let passed = passes_tied own k r s owed m small.0 t in
      on k s owed (o ∷ map Came (events_of own index octets)) (occurrences_from own (index + 1) xs) (Passes m ∷ heard_in own octets) (all_heard own xs)
      (inputs_tied (index + 1) xs small.1 _ _ _ (datagram_tied index octets (known_then k o) (step r (Passes m) s).state owed passed))
  inputs_tied index (Tick m ∷ xs) small k s owed t = inputs_tied index xs small.1 _ _ _ (passes_tied own k r s owed m small.0 t)
  inputs_tied index (AddReader w ∷ xs) small k s owed t = inputs_tied index xs small _ _ _ (joins_tied own k.own k.moment k.participants r s owed t)
  inputs_tied index (RemoveReader rank ∷ xs) small k s owed t = inputs_tied index xs small _ _ _ (parts_tied own k.own k.moment k.participants r s owed rank t)

  joined_tied : {X : Type 0} (xs : List X) (k : Known) (s : State) (owed : GuidPrefix → Bool) → TiedTo own k s owed → Both k s owed [] (map (λ x. Joins) xs)
  unfolding known_all
  joined_tied [] k s owed t = t
  joined_tied (x ∷ xs) k s owed t = joined_tied xs k _ _ (joins_tied own k.own k.moment k.participants r s owed t)

start_tied : (config : Config) → TiedTo config.own (first_known config) first (λ p. false)
unfolding IsStrictlySortedBy
start_tied config = record {
  own_is = refl;
  moment_is = refl;
  least = omega arith;
  stranger = refl;
  pairs = record { first = tt; second = tt; pairs = λ k. tt };
}

all_tied : (config : Config) (r : Rules) (inputs : List Input) → AreMoments inputs
    → TiedTo config.own (known_all (first_known config) (occurrences_from config.own 0 inputs)) (state_run r first (heard_at config inputs)) (owed_run r first (λ p. false) (heard_at config inputs))
unfolding known_all
all_tied config r inputs small =
    let js = map (λ x. Joins) config.readers.items in
    on config.own r (first_known config) first (λ p. false) [] (occurrences_from config.own 0 inputs) js (all_heard config.own inputs)
    (inputs_tied config.own r 0 inputs small (first_known config) _ _ (joined_tied config.own r config.readers.items (first_known config) first (λ p. false) (start_tied config)))

found_by : (b : Bool) (o : Option Peer) (x : Peer) (k : Option RemoteParticipant) → o ≡ Some x → IsPair IsFoundAs b o k → IsSomeAnd k (IsFoundAs x)
found_by b o x k is pair = by_known k (subst (λ (y : Option Peer). IsPair IsFoundAs b y k) is pair)
  where
    by_known : (k : Option RemoteParticipant) → IsPair IsFoundAs b (Some x) k → IsSomeAnd k (IsFoundAs x)
    by_known None pair = absurd pair
    by_known (Some q) pair = pair

served_by : (b : Bool) (o : Option Peer) (k : Option RemoteParticipant) → b ≡ true → is_some k ≡ true → IsPair IsFoundAs b o k → is_some o ≡ true
served_by b (Some x) k owed there pair = refl
served_by b None None owed there pair = absurd (let bad : false ≡ true = there in cc)
served_by b None (Some q) owed there pair = absurd (let bad : false ≡ true = sym pair ∙ owed in cc)

pub peers_are_found : {C M : Type 0} (decoding : C → Decoding M) → PeersAreFound decoding
peers_are_found decoding catalog config r inputs small =
    let t = all_tied config r inputs small in
    subst (λ (k : Known). AreFound k r (heard_at config inputs))
    (sym (world_knows (decoding catalog) (first_world config) (occurrences_from config.own 0 inputs)))
    (record {
      peers = λ p x is. found_by _ _ x _ is (t.pairs.pairs p);
      served = λ p owed there. served_by _ _ _ owed there (t.pairs.pairs p);
    })
