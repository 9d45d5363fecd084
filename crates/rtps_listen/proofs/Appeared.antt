-- What a participant that announces itself writes, calls and announces; and what is refused before.
use Rattle.std.proofs.Common.{◌≡◌, ◌≢◌, ◌⊎◌, ◌∙◌, ℕ, Bool, true, false, List, Option, Some, Result, Ok, Err, IfErr, ap, inl, inr, refl, subst, sym}
use Rattle.std.specs.Prelude.{IsErrAnd, MatchBool}
use Rattle.std.specs.Str.{bytes_eq}
use Rattle.std.proofs.KnownBytes.{Keeps-refl}
use Rattle.std.specs.declared.net.ipv4_addr.Ipv4Addr.{Ipv4Addr}
use Rattle.rtps_types.specs.declared.identity.GuidPrefix.{GuidPrefix}
use Rattle.rtps_discovery.specs.declared.config.Config.{Config}
use Rattle.rtps_files.specs.Prefixes.{WritesPrefix}
use Rattle.rtps_records.specs.Speech.{HasLeft}
use Rattle.rtps_records.specs.declared.fault.RunFault.TheVariants.{NoMemory}
use Rattle.rtps_records.specs.Traffic.{Traffic}
use Rattle.rtps_text.specs.Listened.{Limits, LiveRun, limits_of}
use Rattle.rtps_listen.specs.Appearing.{Appears, AnyTime, IsAbsent, IsAnnouncedCause, IsAnnouncedConfigOf, IsMadeAt, IsAppearCause, IsReachFault, IsSilent, RefusesReach}
use Rattle.rtps_listen.specs.Configs.{IsCause, Refuses}
use Rattle.rtps_listen.specs.Domain.{IsBefore, IsLive, IsQuiet, ListensBy, live_run_of}
use Rattle.rtps_listen.specs.Line.{own_text}
use Rattle.rtps_listen.specs.Networks.{Networks}
use Rattle.rtps_listen.specs.Printed.{Prints}
use Rattle.rtps_listen.specs.Program.{Does}
use Rattle.rtps_listen.specs.Reaching.{IsReachCause, IsReachOf, RefusesPlaces}
use Rattle.rtps_listen.specs.Request.{RefusesFirst}
use Rattle.rtps_listen.specs.declared.network.Station.{Station}
use Rattle.rtps_listen.specs.declared.fault.ListenFault.{ListenFault}
use Rattle.rtps_listen.specs.declared.fault.ListenFault.TheVariants.{NoText, BadPrefix, BadWriter, BadAddress, BadPeers, OnlyAnnounced, TooLong, NoPorts, Socket, Run}
use Rattle.rtps_listen.specs.declared.options.Options.{Options}
use Rattle.rtps_listen.specs.declared.reach.Reach.{Reach}
use Rattle.rtps_listen.specs.declared.request.Request.TheVariants.{Announce, Stray}
use Rattle.rtps_listen.proofs.Leaving.{by_memory}
use Rattle.rtps_listen.proofs.Printing.{cause_before, ends}
use Rattle.rtps_listen.proofs.Refused.{is_err, refuses_again, refuses_none}

-- ---- why it ends with a fault

appear_cause : (o : Options) (fault : ListenFault) → IsCause o fault → IsAppearCause o fault
appear_cause o BadPrefix h = h
appear_cause o BadWriter h = elim h [ inl bad ↦ inl bad | inr unmatched ↦ inr (inl unmatched) ]
appear_cause o (Run fault) h = tt
appear_cause o NoText h = absurd h
appear_cause o BadAddress h = absurd h
appear_cause o BadPeers h = absurd h
appear_cause o OnlyAnnounced h = absurd h
appear_cause o TooLong h = absurd h
appear_cause o (NoPorts first last) h = absurd h
appear_cause o Socket h = absurd h

reach_cause : (o : Options) (fault : ListenFault) → IsReachCause o fault → IsAppearCause o fault
reach_cause o BadAddress h = h
reach_cause o BadPeers h = h
reach_cause o (Run fault) h = tt
reach_cause o NoText h = absurd h
reach_cause o BadPrefix h = absurd h
reach_cause o BadWriter h = absurd h
reach_cause o OnlyAnnounced h = absurd h
reach_cause o TooLong h = absurd h
reach_cause o (NoPorts first last) h = absurd h
reach_cause o Socket h = absurd h

config_cause : (o : Options) (fault : ListenFault) → IsAnnouncedCause o fault → IsAppearCause o fault
config_cause o BadWriter h = inr (inr h)
config_cause o Socket h = tt
config_cause o BadAddress h = absurd h
config_cause o BadPeers h = absurd h
config_cause o (Run fault) h = absurd h
config_cause o NoText h = absurd h
config_cause o BadPrefix h = absurd h
config_cause o OnlyAnnounced h = absurd h
config_cause o TooLong h = absurd h
config_cause o (NoPorts first last) h = absurd h

-- at whatever time
own_any : (times : ℕ → Type 0) (o : Options) (address : Ipv4Addr) (own : GuidPrefix) (b : Bool)
    → MatchBool b (IsMadeAt times address own) (WritesPrefix o.own.now own)
    → MatchBool b (IsMadeAt AnyTime address own) (WritesPrefix o.own.now own)
own_any times o address own true h = (h.0, tt, h.2)
own_any times o address own false h = h

config_any : (times : ℕ → Type 0) (o : Options) (address : Ipv4Addr) (config : Config) → IsAnnouncedConfigOf times o address config
    → IsAnnouncedConfigOf AnyTime o address config
config_any times o address config h =
    (h.0, h.1, own_any times o address h.0 (bytes_eq o.own.now own_text) h.2, h.3, h.4)

absent : (times : ℕ → Type 0) (o : Options) (reach : Reach) (config : Config) (fault : ListenFault) → IsReachOf o reach
    → IsAnnouncedConfigOf times o reach.address config → IsReachFault reach.domain config fault → IsAbsent o fault
absent times o reach config fault is_reach is_config h =
    (reach.address, config, config_any times o reach.address config is_config, subst (λ d. IsReachFault d config fault) is_reach.domain h)

ports_cause : (times : ℕ → Type 0) (o : Options) (reach : Reach) (config : Config) (fault : ListenFault) → IsReachOf o reach
    → IsAnnouncedConfigOf times o reach.address config → IsReachFault reach.domain config fault → IsAppearCause o fault
ports_cause times o reach config Socket is_reach is_config h = tt
ports_cause times o reach config TooLong is_reach is_config h = absent times o reach config TooLong is_reach is_config h
ports_cause times o reach config (NoPorts first last) is_reach is_config h = absent times o reach config (NoPorts first last) is_reach is_config h
ports_cause times o reach config (Run fault) is_reach is_config h = tt
ports_cause times o reach config BadWriter is_reach is_config h = absurd h
ports_cause times o reach config BadAddress is_reach is_config h = absurd h
ports_cause times o reach config BadPeers is_reach is_config h = absurd h
ports_cause times o reach config NoText is_reach is_config h = absurd h
ports_cause times o reach config BadPrefix is_reach is_config h = absurd h
ports_cause times o reach config OnlyAnnounced is_reach is_config h = absurd h

run_cause : (o : Options) (s : Result (Unit {0}) ListenFault) → IfErr s IsLive → IfErr s (IsAppearCause o)
run_cause o (Ok u) h = tt
run_cause o (Err Socket) h = tt
run_cause o (Err (Run fault)) h = tt
run_cause o (Err TooLong) h = absurd h
run_cause o (Err (NoPorts first last)) h = absurd h
run_cause o (Err BadWriter) h = absurd h
run_cause o (Err BadAddress) h = absurd h
run_cause o (Err BadPeers) h = absurd h
run_cause o (Err NoText) h = absurd h
run_cause o (Err BadPrefix) h = absurd h
run_cause o (Err OnlyAnnounced) h = absurd h

-- ---- what is refused first

before_reach : (o : Options) (s : Result (Unit {0}) ListenFault) (fault : ListenFault) → IsErrAnd s (λ e. e ≡ fault) → IsCause o fault → RefusesReach o s
before_reach o (Ok u) fault is cause = absurd is
before_reach o (Err e) fault is cause = record {
  address = λ bad. inr (subst (IsCause o) (sym is) cause);
  peers = λ bad. inr (inr (subst (IsCause o) (sym is) cause));
}

reach_address : (r : Result Reach ListenFault) (f fault : ListenFault) → r ≡ Err BadAddress → r ≡ Err fault → f ≡ fault → f ≡ BadAddress
reach_address r f fault bad e is = let same : fault ≡ BadAddress = cc in is ∙ same

reach_peers : (o : Options) (f fault : ListenFault) → f ≡ fault → (fault ≡ BadPeers) ⊎ ((fault ≡ BadAddress) ⊎ (fault ≡ Run NoMemory))
    → (f ≡ BadPeers) ⊎ ((f ≡ BadAddress) ⊎ IsCause o f)
reach_peers o f fault is why = elim why [
  | inl peers ↦ inl (is ∙ peers)
  | inr others ↦ inr (elim others [ inl address ↦ inl (is ∙ address) | inr memory ↦ inr (subst (IsCause o) (sym (is ∙ memory)) tt) ])
]

reach_refused : (o : Options) (r : Result Reach ListenFault) (s : Result (Unit {0}) ListenFault) (fault : ListenFault) → RefusesPlaces o r
    → r ≡ Err fault → IsErrAnd s (λ e. e ≡ fault) → RefusesReach o s
reach_refused o r (Ok u) fault h e is = absurd is
reach_refused o r (Err f) fault h e is = record {
  address = λ bad. inl (reach_address r f fault (h.address bad) e is);
  peers = λ bad. reach_peers o f fault is
      (subst (λ x. IsErrAnd x (λ g. (g ≡ BadPeers) ⊎ ((g ≡ BadAddress) ⊎ (g ≡ Run NoMemory)))) e (h.peers bad));
}

reach_taken : (o : Options) (reach : Reach) (s : Result (Unit {0}) ListenFault) → IsReachOf o reach → RefusesReach o s
reach_taken o reach s h = record {
  address = λ bad. absurd (bad (reach.address, h.address));
  peers = λ bad. absurd (bad (reach.peers.items, h.peers));
}

passed : (P Q : ListenFault → Type 0) (s : Result (Unit {0}) ListenFault) (fault : ListenFault) → s ≡ Err fault → P fault → ((e : ListenFault) → P e → Q e) → IfErr s Q
passed P Q s fault e p to = rw e (to fault p)

-- a refusal of the options
pub config_refused : {T : Type 0} (o : Options) (r : Result T ListenFault) (s : Result (Unit {0}) ListenFault) (fault : ListenFault)
    → r ≡ Err fault → IsErrAnd s (λ e. e ≡ fault) → Refuses o r → IsCause o fault → RefusesFirst (Announce o) s
unfolding RefusesFirst
config_refused o r s fault e is h cause =
    (refuses_again o r s fault e (is_err s fault is) h, before_reach o s fault is cause, passed (IsCause o) _ s fault (is_err s fault is) cause (appear_cause o))

-- of where it announces itself
pub places_refused : {T : Type 0} (o : Options) (t : T) (r : Result Reach ListenFault) (s : Result (Unit {0}) ListenFault) (fault : ListenFault)
    → Refuses {T = T} o (Ok t) → RefusesPlaces o r → r ≡ Err fault → IsErrAnd s (λ e. e ≡ fault) → IsReachCause o fault → RefusesFirst (Announce o) s
unfolding RefusesFirst
places_refused o t r s fault h places e is cause =
    (refuses_none o t s h, reach_refused o r s fault places e is, passed (IsReachCause o) _ s fault (is_err s fault is) cause (reach_cause o))

-- of its prefix
pub prefix_refused : {T : Type 0} (o : Options) (t : T) (reach : Reach) (s : Result (Unit {0}) ListenFault) (fault : ListenFault)
    → Refuses {T = T} o (Ok t) → IsReachOf o reach → IsErrAnd s (λ e. e ≡ fault) → IsAnnouncedCause o fault → RefusesFirst (Announce o) s
unfolding RefusesFirst
prefix_refused o t reach s fault h is_reach is cause =
    (refuses_none o t s h, reach_taken o reach s is_reach, passed (IsAnnouncedCause o) _ s fault (is_err s fault is) cause (config_cause o))

-- of its ports
pub ports_refused : {T : Type 0} (times : ℕ → Type 0) (o : Options) (t : T) (reach : Reach) (config : Config) (s : Result (Unit {0}) ListenFault) (fault : ListenFault)
    → Refuses {T = T} o (Ok t) → IsReachOf o reach → IsAnnouncedConfigOf times o reach.address config → IsErrAnd s (λ e. e ≡ fault)
    → IsReachFault reach.domain config fault → RefusesFirst (Announce o) s
unfolding RefusesFirst
ports_refused times o t reach config s fault h is_reach is_config is cause = (
  refuses_none o t s h,
  reach_taken o reach s is_reach,
  passed (IsReachFault reach.domain config) _ s fault (is_err s fault is) cause (λ e. ports_cause times o reach config e is_reach is_config),
)

-- where nothing is refused, the run alone can fail
pub run_refused : {T : Type 0} (o : Options) (t : T) (reach : Reach) (ended s : Result (Unit {0}) ListenFault) → Refuses {T = T} o (Ok t) → IsReachOf o reach
    → IfErr ended IsLive → (s ≡ ended) ⊎ (s ≡ Err (Run NoMemory)) → RefusesFirst (Announce o) s
unfolding RefusesFirst
run_refused o t reach ended s h is_reach live how = (
  refuses_none o t s h,
  reach_taken o reach s is_reach,
  elim how [ inl same ↦ subst (λ r. IfErr r (IsAppearCause o)) (sym same) (run_cause o ended live) | inr memory ↦ rw memory tt ],
)

-- ---- what it leaves

reach_before : (o : Options) (fault : ListenFault) → IsReachCause o fault → IsBefore fault
reach_before o BadAddress h = tt
reach_before o BadPeers h = tt
reach_before o (Run fault) h = h
reach_before o NoText h = tt
reach_before o BadPrefix h = tt
reach_before o BadWriter h = tt
reach_before o OnlyAnnounced h = tt
reach_before o TooLong h = tt
reach_before o (NoPorts first last) h = tt
reach_before o Socket h = tt

config_before : (o : Options) (fault : ListenFault) → IsAnnouncedCause o fault → IsBefore fault
config_before o (Run fault) h = absurd h
config_before o BadAddress h = tt
config_before o BadPeers h = tt
config_before o NoText h = tt
config_before o BadPrefix h = tt
config_before o BadWriter h = tt
config_before o OnlyAnnounced h = tt
config_before o TooLong h = tt
config_before o (NoPorts first last) h = tt
config_before o Socket h = tt

ports_before : (domain : ℕ) (config : Config) (fault : ListenFault) → IsReachFault domain config fault → IsBefore fault
ports_before domain config (Run fault) h = h
ports_before domain config BadAddress h = tt
ports_before domain config BadPeers h = tt
ports_before domain config NoText h = tt
ports_before domain config BadPrefix h = tt
ports_before domain config BadWriter h = tt
ports_before domain config OnlyAnnounced h = tt
ports_before domain config TooLong h = tt
ports_before domain config (NoPorts first last) h = tt
ports_before domain config Socket h = tt

none : {H J A : Type 0} (ways : Networks H J A) (o : Options) (before after : Station H J A) (old : Option (List ℕ)) (s : Result (Unit {0}) ListenFault)
    (fault : ListenFault) → IsErrAnd s (λ e. e ≡ fault) → IsBefore fault → after ≡ before → Appears ways o before after old old s
unfolding Appears
none ways o before after old s fault is h same = inl (ends IsBefore old s fault is h, same)

pub config_none : {H J A : Type 0} (ways : Networks H J A) (o : Options) (station : Station H J A) (old : Option (List ℕ)) (s : Result (Unit {0}) ListenFault)
    (fault : ListenFault) → IsErrAnd s (λ e. e ≡ fault) → IsCause o fault → Appears ways o station station old old s
config_none ways o station old s fault is h = none ways o station station old s fault is (cause_before o fault h) refl

pub places_none : {H J A : Type 0} (ways : Networks H J A) (o : Options) (station : Station H J A) (old : Option (List ℕ)) (s : Result (Unit {0}) ListenFault)
    (fault : ListenFault) → IsErrAnd s (λ e. e ≡ fault) → IsReachCause o fault → Appears ways o station station old old s
places_none ways o station old s fault is h = none ways o station station old s fault is (reach_before o fault h) refl

pub prefix_none : {H J A : Type 0} (ways : Networks H J A) (o : Options) (station : Station H J A) (old : Option (List ℕ)) (s : Result (Unit {0}) ListenFault)
    (fault : ListenFault) → IsErrAnd s (λ e. e ≡ fault) → IsAnnouncedCause o fault → Appears ways o station station old old s
prefix_none ways o station old s fault is h = none ways o station station old s fault is (config_before o fault h) refl

pub ports_none : {H J A : Type 0} (ways : Networks H J A) (o : Options) (before after : Station H J A) (old : Option (List ℕ)) (s : Result (Unit {0}) ListenFault)
    (domain : ℕ) (config : Config) (fault : ListenFault) → IsErrAnd s (λ e. e ≡ fault) → IsReachFault domain config fault → after ≡ before
    → Appears ways o before after old old s
ports_none ways o before after old s domain config fault is h same = none ways o before after old s fault is (ports_before domain config fault h) same

-- what is passed on of how the run ended is what it left
passed_on : (made : LiveRun) (limits : Limits) (before after : Option (List Traffic)) (old new : Option (List ℕ)) (ended s : Result (Unit {0}) ListenFault)
    → ListensBy made limits before after old new ended → (s ≡ ended) ⊎ (s ≡ Err (Run NoMemory)) → ListensBy made limits before after old new s
passed_on made limits before after old new ended s h how = elim how [
  | inl same ↦ subst (ListensBy made limits before after old new) (sym same) h
  | inr memory ↦ rw memory (by_memory made limits before after old new ended h)
]

-- the run over the network by which it announced itself, from its start to the farewell
pub appears_all : {H J A : Type 0} (ways : Networks H J A) (o : Options) (reach : Reach) (config : Config) (before after : Station H J A) (network start last gone : A)
    (old new : Option (List ℕ)) (ended s : Result (Unit {0}) ListenFault) → IsReachOf o reach → IsAnnouncedConfigOf (ways.reads before.host) o reach.address config
    → ways.appears before.host reach config after.host network → IsQuiet (ways.heard network) → IsSilent (ways.announced network) → after.announced ≡ Some gone
    → start ≡ network → ListensBy (live_run_of o.raw config o.summary) (limits_of o.count o.turns) (ways.heard start) (ways.heard last) old new ended
    → ways.speech last ≡ ways.speech start → ways.heard gone ≡ ways.heard last → (s ≡ ended) ⊎ (s ≡ Err (Run NoMemory))
    → (s ≢ Err (Run NoMemory) → HasLeft (ways.speech last) (ways.heard last) (ways.announced gone)) → after.network ≡ before.network
    → Appears ways o before after old new s
unfolding Appears
appears_all ways o reach config before after network start last gone old new ended s is_reach is_config appeared quiet silent is_last starts h same heard how left other =
    let made = live_run_of o.raw config o.summary in
    let limits = limits_of o.count o.turns in
    let begun = subst (λ a. ListensBy made limits (ways.heard a) (ways.heard last) old new ended) starts h in
    let ended_so = subst (λ t. ListensBy made limits (ways.heard network) t old new ended) (sym heard) begun in
    inr (record {
      reach = reach;
      is_reach = is_reach;
      config = config;
      is_config = is_config;
      network = network;
      appeared = appeared;
      quiet = quiet;
      silent = silent;
      last = gone;
      is_last = is_last;
      listens = passed_on made limits (ways.heard network) (ways.heard gone) old new ended s ended_so how;
      left = λ sound. subst (λ t. HasLeft (ways.speech network) t (ways.announced gone)) (sym heard)
          (subst (λ p. HasLeft p (ways.heard last) (ways.announced gone)) (same ∙ ap ways.speech starts) (left sound));
      other = other;
    })

-- an option that only a participant which announces itself has
pub stray_refused : {H J A : Type 0} (o : Options) (holds : List ℕ → Option (List ℕ)) (ways : Networks H J A) (station : Station H J A) (old : Option (List ℕ))
    → Does (Stray o) holds ways station station old old (Err OnlyAnnounced)
unfolding Does Prints RefusesFirst
stray_refused o holds ways station old = (refl, (refl, refl, Keeps-refl old), refl)
