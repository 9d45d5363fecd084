-- What is printed of a file and of the datagrams of a domain.
use Rattle.std.proofs.Common.{◌≡◌, List, ℕ, Bool, true, false, inl, inr, subst, sym, Option, None, Some, Result, Ok, Err, IfErr, refl}
use Rattle.std.specs.Prelude.{IsErrAnd}
use Rattle.std.proofs.KnownBytes.{Keeps-refl}
use Rattle.rtps_discovery.specs.declared.config.Config.{Config}
use Rattle.rtps_records.specs.RecordFile.{Record}
use Rattle.rtps_records.specs.Runs.{Stops, WroteAll}
use Rattle.rtps_records.specs.declared.fault.RunFault.{RunFault}
use Rattle.rtps_records.specs.declared.fault.RunFault.TheVariants.{CannotRead, NotRecordFile, CutRecord, RecordTooLong, TooManyRecords, CannotWrite, CannotReadNorWrite, NoMemory}
use Rattle.rtps_files.specs.Printed.{IsUnopened}
use Rattle.rtps_text.specs.Caches.{StopsLate}
use Rattle.rtps_records.specs.Traffic.{Traffic}
use Rattle.rtps_text.specs.Listened.{Limits, Listened, LiveRun, limits_of}
use Rattle.rtps_text.specs.Taken.{StopsBy}
use Rattle.rtps_text.specs.declared.live_fault.LiveFault.{LiveFault}
use Rattle.rtps_text.specs.declared.live_fault.LiveFault.TheVariants as live_fault
use Rattle.rtps_text.specs.declared.setup.CacheSetup.{CacheSetup}
use Rattle.rtps_text.specs.declared.setup.LiveSetup.{LiveSetup}
use Rattle.rtps_text.specs.declared.setup.Setup.{Setup}
use Rattle.rtps_listen.specs.Addresses.{IsJoinCause}
use Rattle.rtps_listen.specs.Configs.{IsCause, IsConfigOf}
use Rattle.rtps_udp.specs.declared.binding.Binding.{Binding}
use Rattle.rtps_listen.specs.Domain.{Hears, IsBefore, IsLive, IsQuiet, Joins, ListensBy, live_run_of}
use Rattle.rtps_listen.specs.declared.network.Station.{Station}
use Rattle.rtps_listen.specs.Printed.{EndsBy, IsFirst, Prints, Writes, kept_text, run_text}
use Rattle.rtps_listen.specs.Setup.{IsCacheSetupOf, IsLiveSetupOf, IsSetupOf, history_of}
use Rattle.rtps_listen.specs.Status.{live_fault_of}
use Rattle.rtps_listen.specs.declared.fault.ListenFault.{ListenFault}
use Rattle.rtps_listen.specs.declared.fault.ListenFault.TheVariants.{NoText, BadPrefix, BadWriter, BadAddress, BadPeers, OnlyAnnounced, TooLong, NoPorts, Socket, Run}
use Rattle.rtps_listen.specs.declared.options.Options.{Options}
use Rattle.rtps_listen.specs.declared.request.Request.TheVariants.{Replay, Samples}
use Rattle.rtps_listen.proofs.Refused.{IsRun}

-- what is wrong with options is found before a domain is joined
pub cause_before : (o : Options) (fault : ListenFault) → IsCause o fault → IsBefore fault
cause_before o NoText h = tt
cause_before o BadPrefix h = tt
cause_before o BadWriter h = tt
cause_before o BadAddress h = tt
cause_before o Socket h = tt
cause_before o BadPeers h = tt
cause_before o OnlyAnnounced h = tt
cause_before o TooLong h = tt
cause_before o (NoPorts first last) h = tt
cause_before o (Run NoMemory) h = refl
cause_before o (Run CannotRead) h = absurd h
cause_before o (Run NotRecordFile) h = absurd h
cause_before o (Run (CutRecord n)) h = absurd h
cause_before o (Run (RecordTooLong n)) h = absurd h
cause_before o (Run TooManyRecords) h = absurd h
cause_before o (Run CannotWrite) h = absurd h
cause_before o (Run CannotReadNorWrite) h = absurd h

before_first : (fault : ListenFault) → IsBefore fault → IsFirst fault
before_first NoText h = tt
before_first Socket h = tt
before_first BadPrefix h = tt
before_first BadWriter h = tt
before_first BadAddress h = tt
before_first BadPeers h = tt
before_first OnlyAnnounced h = tt
before_first TooLong h = tt
before_first (NoPorts first last) h = tt
before_first (Run fault) h = rw h tt

-- and before a file is read
pub cause_first : (o : Options) (fault : ListenFault) → IsCause o fault → IsFirst fault
cause_first o fault h = before_first fault (cause_before o fault h)

-- so is a file that can't be opened
pub unopened_first : (fault : RunFault) → IsUnopened fault → IsFirst (Run fault)
unopened_first CannotRead h = tt
unopened_first NoMemory h = tt
unopened_first NotRecordFile h = absurd h
unopened_first (CutRecord n) h = absurd h
unopened_first (RecordTooLong n) h = absurd h
unopened_first TooManyRecords h = absurd h
unopened_first CannotWrite h = absurd h
unopened_first CannotReadNorWrite h = absurd h

-- a fault of the run, as it is passed on
pub run_fault : (s : Result (Unit {0}) ListenFault) (fault : RunFault) → IsErrAnd s (λ e. e ≡ Run fault) → IfErr s IsRun
run_fault (Ok u) fault is = absurd is
run_fault (Err e) fault is = rw is tt

pub heard_fault : (s : Result (Unit {0}) ListenFault) (fault : LiveFault) → IsErrAnd s (λ e. e ≡ live_fault_of fault) → IfErr s IsLive
heard_fault (Ok u) fault is = absurd is
heard_fault (Err e) live_fault.Socket is = rw is tt
heard_fault (Err e) (live_fault.Run fault) is = rw is tt

-- what is refused before leaves nothing written
pub ends : (P : ListenFault → Type 0) (old : Option (List ℕ)) (s : Result (Unit {0}) ListenFault) (fault : ListenFault)
    → IsErrAnd s (λ e. e ≡ fault) → P fault → EndsBy P old old s
ends P old (Ok u) fault is h = absurd is
ends P old (Err other) fault is h = (refl, rw is h, Keeps-refl old)

pub replays_none : (o : Options) (holds : List ℕ → Option (List ℕ)) (old : Option (List ℕ)) (s : Result (Unit {0}) ListenFault) (fault : ListenFault)
    → IsErrAnd s (λ e. e ≡ fault) → IsFirst fault → Prints (Replay o) holds old old s
unfolding Prints
replays_none o holds old s fault is h = inl (ends IsFirst old s fault is h)

pub keeps_none : (o : Options) (holds : List ℕ → Option (List ℕ)) (old : Option (List ℕ)) (s : Result (Unit {0}) ListenFault) (fault : ListenFault)
    → IsErrAnd s (λ e. e ≡ fault) → IsFirst fault → Prints (Samples o) holds old old s
unfolding Prints
keeps_none o holds old s fault is h = inl (ends IsFirst old s fault is h)

pub hears_none : {H J A : Type 0} (joins : H → Binding → H → J → Type 0) (traffic : J → Option (List Traffic)) (o : Options)
    (before after : Station H J A) (old : Option (List ℕ)) (s : Result (Unit {0}) ListenFault) (fault : ListenFault)
    → IsErrAnd s (λ e. e ≡ fault) → IsBefore fault → after ≡ before → Hears joins traffic o before after old old s
unfolding Hears
hears_none joins traffic o before after old s fault is h same = inl (ends IsBefore old s fault is h, same)

-- all of the text was written, or what a fault leaves
pub writes_all : (late : Bool) (text : List Record → List ℕ) (file all old new : Option (List ℕ)) → file ≡ all
    → WroteAll text file old new None → Writes late text all old new (Ok tt)
unfolding Writes
writes_all late text file all old new e h = subst (λ f. WroteAll text f old new None) e h

pub writes_front : (text : List Record → List ℕ) (file all after old new : Option (List ℕ)) (s : Result (Unit {0}) ListenFault) (fault : RunFault)
    → file ≡ all → IsErrAnd s (λ e. e ≡ Run fault) → Stops text fault file after old new → Writes false text all old new s
unfolding Writes StopsBy
writes_front text file all after old new (Ok u) fault e is h = absurd is
writes_front text file all after old new (Err other) fault e is h = rw is (after, subst (λ f. Stops text fault f after old new) e h)

pub writes_late_front : (text : List Record → List ℕ) (file all after old new : Option (List ℕ)) (s : Result (Unit {0}) ListenFault) (fault : RunFault)
    → file ≡ all → IsErrAnd s (λ e. e ≡ Run fault) → StopsLate text fault file after old new → Writes true text all old new s
unfolding Writes StopsBy
writes_late_front text file all after old new (Ok u) fault e is h = absurd is
writes_late_front text file all after old new (Err other) fault e is h = rw is (after, subst (λ f. StopsLate text fault f after old new) e h)

-- that is what is printed
pub replays : {C : Type 0} (o : Options) (config : Config) (catalog : C) (setup : Setup C) (raw : Bool) (holds : List ℕ → Option (List ℕ)) (old new : Option (List ℕ))
    (s : Result (Unit {0}) ListenFault) → IsConfigOf o config → o.raw ≡ raw → IsSetupOf o config catalog setup
    → Writes false (run_text raw setup.config setup.summary) (holds o.file.now) old new s → Prints (Replay o) holds old new s
unfolding Prints
replays o config catalog setup raw holds old new s is same by w = inr (
  config,
  is,
  subst (λ r. Writes false (run_text r config o.summary) (holds o.file.now) old new s) (sym same)
      (subst (λ k. Writes false (run_text raw k o.summary) (holds o.file.now) old new s) by.config
      (subst (λ u. Writes false (run_text raw setup.config u) (holds o.file.now) old new s) by.summary w)),
)

pub keeps : {C : Type 0} (o : Options) (config : Config) (catalog : C) (setup : CacheSetup C) (raw : Bool) (holds : List ℕ → Option (List ℕ)) (old new : Option (List ℕ))
    (s : Result (Unit {0}) ListenFault) → IsConfigOf o config → o.raw ≡ raw → IsCacheSetupOf o config catalog setup
    → Writes true (kept_text raw setup.run.config setup.run.summary setup.keep) (holds o.file.now) old new s → Prints (Samples o) holds old new s
unfolding Prints
keeps o config catalog setup raw holds old new s is same by w = inr (
  config,
  is,
  subst (λ r. Writes true (kept_text r config o.summary (history_of o.keep)) (holds o.file.now) old new s) (sym same)
      (subst (λ k. Writes true (kept_text raw k o.summary (history_of o.keep)) (holds o.file.now) old new s) by.run.config
      (subst (λ u. Writes true (kept_text raw setup.run.config u (history_of o.keep)) (holds o.file.now) old new s) by.run.summary
      (subst (λ n. Writes true (kept_text raw setup.run.config setup.run.summary n) (holds o.file.now) old new s) by.keep w))),
)

-- a domain that isn't joined leaves nothing written
pub join_before : (o : Options) (fault : ListenFault) → IsJoinCause o fault → IsBefore fault
join_before o BadAddress h = tt
join_before o Socket h = tt
join_before o NoText h = absurd h
join_before o BadPrefix h = absurd h
join_before o BadWriter h = absurd h
join_before o (Run fault) h = absurd h
join_before o BadPeers h = absurd h
join_before o OnlyAnnounced h = absurd h
join_before o TooLong h = absurd h
join_before o (NoPorts first last) h = absurd h

-- how the run ends is how the program ends
abbrev pub IsPassed : Result (Unit {0}) LiveFault → Result (Unit {0}) ListenFault → Type 0
IsPassed (Ok u) s = s ≡ Ok tt
IsPassed (Err fault) s = s ≡ Err (live_fault_of fault)

listens : (made : LiveRun) (limits : Limits) (before after : Option (List Traffic)) (old new : Option (List ℕ)) (r : Result (Unit {0}) LiveFault)
    (s : Result (Unit {0}) ListenFault) → Listened made limits r before after old new → IsPassed r s → ListensBy made limits before after old new s
unfolding ListensBy
listens made limits before after old new (Ok u) s h e = rw e h
listens made limits before after old new (Err live_fault.Socket) s h e = rw e h
listens made limits before after old new (Err (live_fault.Run fault)) s h e = rw e h

-- the run that the setup asks for is the one that the options ask for
asked_run : {C : Type 0} (o : Options) (config : Config) (catalog : C) (setup : LiveSetup C) (raw : Bool) (before after : Option (List Traffic))
    (old new : Option (List ℕ)) (r : Result (Unit {0}) LiveFault) → o.raw ≡ raw → IsLiveSetupOf o config catalog setup
    → Listened (live_run_of raw setup.run.config setup.run.summary) (limits_of setup.datagrams setup.turns) r before after old new
    → Listened (live_run_of o.raw config o.summary) (limits_of o.count o.turns) r before after old new
asked_run o config catalog setup raw before after old new r same by h =
    subst (λ b. Listened (live_run_of b config o.summary) (limits_of o.count o.turns) r before after old new) (sym same)
    (subst (λ k. Listened (live_run_of raw k o.summary) (limits_of o.count o.turns) r before after old new) by.run.config
    (subst (λ u. Listened (live_run_of raw setup.run.config u) (limits_of o.count o.turns) r before after old new) by.run.summary
    (subst (λ n. Listened (live_run_of raw setup.run.config setup.run.summary) (limits_of n o.turns) r before after old new) by.datagrams
    (subst (λ n. Listened (live_run_of raw setup.run.config setup.run.summary) (limits_of setup.datagrams n) r before after old new) by.turns h))))

-- the run over a network is that of the options
pub listens_by : {C : Type 0} (o : Options) (config : Config) (catalog : C) (setup : LiveSetup C) (raw : Bool)
    (before after : Option (List Traffic)) (old new : Option (List ℕ)) (r : Result (Unit {0}) LiveFault) (s : Result (Unit {0}) ListenFault)
    → o.raw ≡ raw → IsLiveSetupOf o config catalog setup
    → Listened (live_run_of raw setup.run.config setup.run.summary) (limits_of setup.datagrams setup.turns) r before after old new
    → IsPassed r s → ListensBy (live_run_of o.raw config o.summary) (limits_of o.count o.turns) before after old new s
listens_by o config catalog setup raw before after old new r s same by h passed =
    listens (live_run_of o.raw config o.summary) (limits_of o.count o.turns) before after old new r s
    (asked_run o config catalog setup raw before after old new r same by h) passed

-- and over the network that was joined
pub hears : {H J A : Type 0} (o : Options) (config : Config) (joins : H → Binding → H → J → Type 0) (traffic : J → Option (List Traffic))
    (before after : Station H J A) (network start last : J) (old new : Option (List ℕ)) (s : Result (Unit {0}) ListenFault)
    → IsConfigOf o config → Joins joins o before.host after.host network → IsQuiet (traffic network) → after.network ≡ Some last → start ≡ network
    → after.announced ≡ before.announced
    → ListensBy (live_run_of o.raw config o.summary) (limits_of o.count o.turns) (traffic start) (traffic last) old new s
    → Hears joins traffic o before after old new s
unfolding Hears
hears o config joins traffic before after network start last old new s is joined quiet is_last starts other h =
    inr (record {
      config = config;
      is_config = is;
      network = network;
      joined = joined;
      quiet = quiet;
      last = last;
      is_last = is_last;
      other = other;
      listens = subst (λ j. ListensBy (live_run_of o.raw config o.summary) (limits_of o.count o.turns) (traffic j) (traffic last) old new s) starts h;
    })
