-- What the calls of sockets announce.
use Rattle.std.proofs.Common.{◌≡◌, ℕ, List, [], ◌∷◌, ◌++◌, Option, None, Some, inl, inr, refl, subst, ap, ◌∙◌, append-nil}
use Rattle.std.proofs.lemmas.Grind.{flat_map-append}
use Rattle.std.specs.Prelude.{Bool, true, false, Result, Ok, Err, take}
use Rattle.std.specs.IoError.{error_kind}
use Rattle.std.specs.Net.Addr.{ipv4_octets}
use Rattle.std.specs.declared.io.Error.{Error}
use Rattle.std.specs.declared.io.ErrorKind.{ErrorKind}
use Rattle.std.specs.declared.io.ErrorKind.TheVariants.{WouldBlock}
use Rattle.std.specs.declared.net.ipv4_addr.Ipv4Addr.{Ipv4Addr}
use Rattle.rtps_types.specs.declared.locator.Locator.{Locator}
use Rattle.rtps_udp.specs.Addresses.{is_answered}
use Rattle.rtps_udp.specs.Calls.{Announces, AnnouncesNothing, Call, FailsToReceive, FailsToWait, Logs, Receives, Sends, Waits, Withholds, announced_in, announced_of}
use Rattle.rtps_udp.specs.Ports.{OfEither, ReceivesFirst, SendsAnnouncement, SendsAnswer, WaitsUntil}
use Rattle.rtps_udp.specs.declared.addresses.Purpose.{Purpose}
use Rattle.rtps_udp.specs.declared.addresses.Purpose.TheVariants.{Metatraffic, UserData}
use Rattle.rtps_udp.specs.declared.fault.SocketFault.{SocketFault}
use Rattle.rtps_udp.specs.declared.fault.SocketFault.TheVariants.{Send}

-- the announcements of one call more
pub announced-append : (calls : List Call) (call : Call)
    → announced_in (calls ++ call ∷ []) ≡ announced_in calls ++ announced_of call
announced-append calls call =
    flat_map-append announced_of calls (call ∷ [])
    ∙ ap (λ l. announced_in calls ++ l) (append-nil (announced_of call))

-- an announcement, whatever its outcome
pub announced_given : (old new : List Call) (to : Locator) (octets : List ℕ)
    (result : Result (Unit {0}) SocketFault) → SendsAnnouncement (Some old) (Some new) to octets result
    → announced_in new ≡ announced_in old ++ (to, octets) ∷ []
unfolding SendsAnnouncement
announced_given old new to octets (Ok u) logs =
    ap announced_in logs ∙ announced-append old (Announces to octets None)
announced_given old new to octets (Err (Send kind)) logs =
    ap announced_in logs ∙ announced-append old (Announces to octets (Some kind))
announced_given old new to octets (Err fault) logs = absurd logs

-- a call that is no announcement
pub quiet_call : (a b : Option (List Call)) (call : Call) → announced_of call ≡ [] → Logs a b call
    → AnnouncesNothing a b
quiet_call None b call none logs = logs
quiet_call (Some x) None call none logs = absurd logs
quiet_call (Some x) (Some y) call none logs =
    ap announced_in logs ∙ announced-append x call ∙ ap (λ l. announced_in x ++ l) none
    ∙ append-nil (announced_in x)

-- two parts of the calls
pub quiet_both : (a b c : Option (List Call)) → AnnouncesNothing a b → AnnouncesNothing b c
    → AnnouncesNothing a c
quiet_both None b c first second =
    subst (λ (x : Option (List Call)). AnnouncesNothing x c) first second
quiet_both (Some x) None c first second = absurd first
quiet_both (Some x) (Some y) None first second = absurd second
quiet_both (Some x) (Some y) (Some z) first second = second ∙ first

quiet_either : (a b : Option (List Call)) (call : Purpose → Call)
    → ((p : Purpose) → announced_of (call p) ≡ []) → OfEither call a b → AnnouncesNothing a b
quiet_either a b call none (inl logs) = quiet_call a b (call Metatraffic) (none Metatraffic) logs
quiet_either a b call none (inr (one, first, logs)) =
    quiet_both a one b (quiet_call a one (FailsToReceive Metatraffic WouldBlock) refl first)
    (quiet_call one b (call UserData) (none UserData) logs)

-- receiving of both sockets
pub quiet_first : (a b : Option (List Call)) (room : List ℕ) (result : Result (Option ℕ) Error)
    → ReceivesFirst a b room result → AnnouncesNothing a b
unfolding ReceivesFirst
quiet_first a b room (Ok (Some n)) first =
    quiet_either a b (λ p. Receives p (take n room)) (λ p. refl) first
quiet_first a b room (Ok None) (one, none, logs) =
    quiet_both a one b (quiet_call a one (FailsToReceive Metatraffic WouldBlock) refl none)
    (quiet_call one b (FailsToReceive UserData WouldBlock) refl logs)
quiet_first a b room (Err e) (is, first) =
    quiet_either a b (λ p. FailsToReceive p (error_kind e)) (λ p. refl) first

-- a wait
pub quiet_wait : (most s m : ℕ) (a b : Option (List Call)) → WaitsUntil most s m a b
    → AnnouncesNothing a b
quiet_wait most s m a b (now, logs, is) = quiet_call a b (Waits most now) refl logs

pub quiet_break : (a b : Option (List Call)) (kind : ErrorKind) → Logs a b (FailsToWait kind)
    → AnnouncesNothing a b
quiet_break a b kind logs = quiet_call a b (FailsToWait kind) refl logs

-- an answer, sent or withheld
pub quiet_given : (a b : Option (List Call)) (to : Locator) (octets : List ℕ)
    (result : Result (Unit {0}) SocketFault) → SendsAnswer a b to octets result
    → AnnouncesNothing a b
unfolding SendsAnswer
quiet_given a b to octets (Ok u) logs = quiet_call a b (Sends Metatraffic to octets None) refl logs
quiet_given a b to octets (Err (Send kind)) logs =
    quiet_call a b (Sends Metatraffic to octets (Some kind)) refl logs
quiet_given a b to octets (Err fault) logs = absurd logs

pub quiet_answer : (a b : Option (List Call)) (bound : Ipv4Addr) (to : Locator) (octets : List ℕ)
    (result refused : Result (Unit {0}) SocketFault)
    → (is_answered (ipv4_octets bound) to ≡ false → (result ≡ refused) × Logs a b (Withholds bound to octets))
    → (is_answered (ipv4_octets bound) to ≡ true → SendsAnswer a b to octets result)
    → AnnouncesNothing a b
quiet_answer a b bound to octets result refused withheld given =
    by_answer (is_answered (ipv4_octets bound) to) refl
  where
    by_answer : (answered : Bool) → is_answered (ipv4_octets bound) to ≡ answered
        → AnnouncesNothing a b
    by_answer false is = quiet_call a b (Withholds bound to octets) refl (withheld is).1
    by_answer true is = quiet_given a b to octets result (given is)
