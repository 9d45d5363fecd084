-- What is refused before a file is opened or a domain is joined.
use Rattle.std.proofs.Common.{◌≡◌, ◌⊎◌, ◌∙◌, ap, inl, inr, refl, subst, sym, Result, Ok, Err, IfErr}
use Rattle.std.specs.Prelude.{IsErrAnd}
use Rattle.rtps_records.specs.declared.fault.RunFault.TheVariants.{NoMemory}
use Rattle.rtps_listen.specs.Addresses.{IsAddressText, IsJoinCause, IsLiveCause}
use Rattle.rtps_listen.specs.Configs.{IsCause, IsReplayCause, Refuses}
use Rattle.rtps_listen.specs.Domain.{IsLive}
use Rattle.rtps_listen.specs.Request.{RefusesFirst}
use Rattle.rtps_listen.specs.declared.fault.ListenFault.{ListenFault}
use Rattle.rtps_listen.specs.declared.fault.ListenFault.TheVariants.{NoText, BadPrefix, BadWriter, BadAddress, BadPeers, OnlyAnnounced, TooLong, NoPorts, Socket, Run}
use Rattle.rtps_listen.specs.declared.options.Options.{Options}
use Rattle.rtps_listen.specs.declared.request.Request.TheVariants.{Listen, Replay, Samples}

-- a fault of the run
abbrev pub IsRun : ListenFault → Type 0
IsRun (Run fault) = Unit {0}
IsRun fault = ⊥

not_err : {T U E : Type 0} (x : T) (e : E) → Ok x ≡ Err e → U
not_err x e h = absurd (let bad : Ok x ≡ Err e = h in cc)

again : {T U E : Type 0} (r : Result T E) (s : Result U E) (f e : E) → r ≡ Err f → s ≡ Err f → r ≡ Err e → s ≡ Err e
again r s f e h k l = let same : f ≡ e = cc in k ∙ ap Err same

pub is_err : {U E : Type 0} (s : Result U E) (fault : E) → IsErrAnd s (λ e. e ≡ fault) → s ≡ Err fault
is_err (Ok u) fault is = absurd is
is_err (Err other) fault is = ap Err is

-- what was refused is passed on
pub refuses_again : {T U : Type 0} (o : Options) (r : Result T ListenFault) (s : Result U ListenFault) (fault : ListenFault)
    → r ≡ Err fault → s ≡ Err fault → Refuses o r → Refuses o s
refuses_again o r s fault e k h = record {
  prefix = λ bad. again r s fault BadPrefix e k (h.prefix bad);
  fixed = λ good bad. again r s fault BadWriter e k (h.fixed good bad);
  writer = λ good bad. elim (h.writer good bad) [ inl w ↦ inl (again r s fault BadWriter e k w) | inr w ↦ inr (again r s fault (Run NoMemory) e k w) ];
}

-- where nothing is refused, nothing is to be refused
pub refuses_none : {T U : Type 0} (o : Options) (t : T) (s : Result U ListenFault) → Refuses {T = T} o (Ok t) → Refuses o s
refuses_none o t s h = record {
  prefix = λ bad. not_err t BadPrefix (h.prefix bad);
  fixed = λ good bad. not_err t BadWriter (h.fixed good bad);
  writer = λ good bad. elim (h.writer good bad) [ inl e ↦ not_err t BadWriter e | inr e ↦ not_err t (Run NoMemory) e ];
}

-- what is wrong with options is among what is wrong with a run of them
replay_cause : (o : Options) (fault : ListenFault) → IsCause o fault → IsReplayCause o fault
replay_cause o (Run fault) h = tt
replay_cause o BadPrefix h = h
replay_cause o BadWriter h = h
replay_cause o BadAddress h = h
replay_cause o NoText h = h
replay_cause o Socket h = h
replay_cause o BadPeers h = h
replay_cause o OnlyAnnounced h = h
replay_cause o TooLong h = h
replay_cause o (NoPorts first last) h = h

live_cause : (o : Options) (fault : ListenFault) → IsCause o fault → IsLiveCause o fault
live_cause o (Run fault) h = tt
live_cause o BadPrefix h = h
live_cause o BadWriter h = h
live_cause o BadAddress h = absurd h
live_cause o NoText h = h
live_cause o Socket h = tt
live_cause o BadPeers h = absurd h
live_cause o OnlyAnnounced h = absurd h
live_cause o TooLong h = absurd h
live_cause o (NoPorts first last) h = absurd h

run_cause : (o : Options) (s : Result (Unit {0}) ListenFault) → IfErr s IsRun → IfErr s (IsReplayCause o)
run_cause o (Ok u) k = tt
run_cause o (Err (Run fault)) k = tt
run_cause o (Err NoText) k = absurd k
run_cause o (Err Socket) k = absurd k
run_cause o (Err BadPrefix) k = absurd k
run_cause o (Err BadWriter) k = absurd k
run_cause o (Err BadAddress) k = absurd k
run_cause o (Err BadPeers) k = absurd k
run_cause o (Err OnlyAnnounced) k = absurd k
run_cause o (Err TooLong) k = absurd k
run_cause o (Err (NoPorts first last)) k = absurd k

heard_cause : (o : Options) (s : Result (Unit {0}) ListenFault) → IfErr s IsLive → IfErr s (IsLiveCause o)
heard_cause o (Ok u) k = tt
heard_cause o (Err (Run fault)) k = tt
heard_cause o (Err Socket) k = tt
heard_cause o (Err NoText) k = absurd k
heard_cause o (Err BadPrefix) k = absurd k
heard_cause o (Err BadWriter) k = absurd k
heard_cause o (Err BadAddress) k = absurd k
heard_cause o (Err BadPeers) k = absurd k
heard_cause o (Err OnlyAnnounced) k = absurd k
heard_cause o (Err TooLong) k = absurd k
heard_cause o (Err (NoPorts first last)) k = absurd k

passed : (P Q : ListenFault → Type 0) (s : Result (Unit {0}) ListenFault) (fault : ListenFault) → s ≡ Err fault → P fault → ((e : ListenFault) → P e → Q e) → IfErr s Q
passed P Q s fault e p to = rw e (to fault p)

-- a fault that is found before the address is judged
refused_before : (o : Options) (s : Result (Unit {0}) ListenFault) (fault : ListenFault) → IsErrAnd s (λ e. e ≡ fault) → IsCause o fault
    → IsErrAnd s (λ e. (e ≡ BadAddress) ⊎ IsCause o e)
refused_before o (Ok u) fault is cause = absurd is
refused_before o (Err e) fault is cause = inr (subst (IsCause o) (sym is) cause)

-- a refusal of the options
pub replay_refused : {T : Type 0} (o : Options) (r : Result T ListenFault) (s : Result (Unit {0}) ListenFault) (fault : ListenFault)
    → r ≡ Err fault → IsErrAnd s (λ e. e ≡ fault) → Refuses o r → IsCause o fault → RefusesFirst (Replay o) s
unfolding RefusesFirst
replay_refused o r s fault e is h cause =
    (refuses_again o r s fault e (is_err s fault is) h, passed (IsCause o) _ s fault (is_err s fault is) cause (replay_cause o))

pub samples_refused : {T : Type 0} (o : Options) (r : Result T ListenFault) (s : Result (Unit {0}) ListenFault) (fault : ListenFault)
    → r ≡ Err fault → IsErrAnd s (λ e. e ≡ fault) → Refuses o r → IsCause o fault → RefusesFirst (Samples o) s
unfolding RefusesFirst
samples_refused o r s fault e is h cause =
    (refuses_again o r s fault e (is_err s fault is) h, passed (IsCause o) _ s fault (is_err s fault is) cause (replay_cause o))

pub listen_refused : {T : Type 0} (o : Options) (r : Result T ListenFault) (s : Result (Unit {0}) ListenFault) (fault : ListenFault)
    → r ≡ Err fault → IsErrAnd s (λ e. e ≡ fault) → Refuses o r → IsCause o fault → RefusesFirst (Listen o) s
unfolding RefusesFirst
listen_refused o r s fault e is h cause = (
  refuses_again o r s fault e (is_err s fault is) h,
  λ bad. refused_before o s fault is cause,
  passed (IsCause o) _ s fault (is_err s fault is) cause (live_cause o),
)

-- where nothing is refused, the run alone can fail
pub replay_runs : {T : Type 0} (o : Options) (t : T) (s : Result (Unit {0}) ListenFault) → Refuses {T = T} o (Ok t) → IfErr s IsRun → RefusesFirst (Replay o) s
unfolding RefusesFirst
replay_runs o t s h k = (refuses_none o t s h, run_cause o s k)

pub samples_run : {T : Type 0} (o : Options) (t : T) (s : Result (Unit {0}) ListenFault) → Refuses {T = T} o (Ok t) → IfErr s IsRun → RefusesFirst (Samples o) s
unfolding RefusesFirst
samples_run o t s h k = (refuses_none o t s h, run_cause o s k)

pub listen_runs : {T : Type 0} (o : Options) (t : T) (s : Result (Unit {0}) ListenFault) → Refuses {T = T} o (Ok t) → IsAddressText o.address.now
    → IfErr s IsLive → RefusesFirst (Listen o) s
unfolding RefusesFirst
listen_runs o t s h good k = (refuses_none o t s h, λ bad. absurd (bad good), heard_cause o s k)

joined_cause : (o : Options) (fault : ListenFault) → IsJoinCause o fault → IsLiveCause o fault
joined_cause o BadAddress h = h
joined_cause o Socket h = tt
joined_cause o NoText h = absurd h
joined_cause o BadPrefix h = absurd h
joined_cause o BadWriter h = absurd h
joined_cause o (Run fault) h = absurd h
joined_cause o BadPeers h = absurd h
joined_cause o OnlyAnnounced h = absurd h
joined_cause o TooLong h = absurd h
joined_cause o (NoPorts first last) h = absurd h

not_joined : (o : Options) (fault : ListenFault) → IsJoinCause o fault → ¬ IsAddressText o.address.now → fault ≡ BadAddress
not_joined o BadAddress h bad = refl
not_joined o Socket h bad = absurd (bad h)
not_joined o NoText h bad = absurd h
not_joined o BadPrefix h bad = absurd h
not_joined o BadWriter h bad = absurd h
not_joined o (Run fault) h bad = absurd h
not_joined o BadPeers h bad = absurd h
not_joined o OnlyAnnounced h bad = absurd h
not_joined o TooLong h bad = absurd h
not_joined o (NoPorts first last) h bad = absurd h

refused_at : (o : Options) (s : Result (Unit {0}) ListenFault) (fault : ListenFault) → IsErrAnd s (λ e. e ≡ fault) → IsJoinCause o fault
    → ¬ IsAddressText o.address.now → IsErrAnd s (λ e. (e ≡ BadAddress) ⊎ IsCause o e)
refused_at o (Ok u) fault is cause bad = absurd is
refused_at o (Err e) fault is cause bad = inl (is ∙ not_joined o fault cause bad)

-- a domain that isn't joined
pub listen_joins : {T : Type 0} (o : Options) (t : T) (s : Result (Unit {0}) ListenFault) (fault : ListenFault)
    → Refuses {T = T} o (Ok t) → IsErrAnd s (λ e. e ≡ fault) → IsJoinCause o fault → RefusesFirst (Listen o) s
unfolding RefusesFirst
listen_joins o t s fault h is cause =
    (refuses_none o t s h, refused_at o s fault is cause, passed (IsJoinCause o) _ s fault (is_err s fault is) cause (joined_cause o))
