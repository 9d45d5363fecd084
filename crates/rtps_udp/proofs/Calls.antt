-- The calls of sockets to the system as those to a network.
use Rattle.std.proofs.Common.{◌≡◌, ℕ, List, [], ◌∷◌, ◌++◌, Option, None, Some, inl, inr, refl, subst, sym, ap, ◌∙◌, append-nil}
use Rattle.std.proofs.lemmas.Grind.{flat_map-append}
use Rattle.std.specs.Prelude.{◌≢◌, Bool, true, false, if◌then◌else◌, IfOk, IfSome, OnErr, Result, Ok, Err, flat_map, take}
use Rattle.std.specs.IoError.{error_kind}
use Rattle.std.specs.Net.Addr.{ipv4_octets}
use Rattle.std.specs.declared.io.Error.{Error}
use Rattle.std.specs.declared.io.ErrorKind.{ErrorKind}
use Rattle.std.specs.declared.io.ErrorKind.TheVariants.{WouldBlock}
use Rattle.std.specs.declared.net.ipv4_addr.Ipv4Addr.{Ipv4Addr}
use Rattle.rtps_types.specs.declared.locator.Locator.{Locator}
use Rattle.rtps_records.specs.Traffic.{Exhausted, Failed, Grows, Passed, Received, Sent, Traffic, Waited}
use Rattle.rtps_records.proofs.Received.{Grows-trans}
use Rattle.rtps_udp.specs.Addresses.{is_answered}
use Rattle.rtps_udp.specs.Calls.{Announces, Call, FailsToReceive, FailsToWait, Logs, Receives, Sends, Waits, Withholds, traffic_in, traffic_of, unreceived}
use Rattle.rtps_udp.specs.Ports.{OfEither, ReceivesFirst, SendsAnnouncement, SendsAnswer, WaitsUntil}
use Rattle.rtps_udp.specs.declared.addresses.Purpose.{Purpose}
use Rattle.rtps_udp.specs.declared.addresses.Purpose.TheVariants.{Metatraffic, UserData}
use Rattle.rtps_udp.specs.declared.fault.SocketFault.{SocketFault}
use Rattle.rtps_udp.specs.declared.fault.SocketFault.TheVariants.{Send}

-- one call is seen as its traffic
pub seen : (start : ℕ) (a b : Option (List Call)) (call : Call) → Logs a b call
    → Grows (traffic_in start a) (traffic_in start b) (traffic_of start call)
seen start None b call logs = tt
seen start (Some x) None call logs = absurd logs
seen start (Some x) (Some y) call logs =
    ap (flat_map (traffic_of start)) logs ∙ flat_map-append (traffic_of start) x (call ∷ [])
    ∙ ap (λ l. flat_map (traffic_of start) x ++ l) (append-nil (traffic_of start call))

-- two calls
pub seen_both : (start : ℕ) (a b c : Option (List Call)) (one other : Call) → Logs a b one → Logs b c other
    → Grows (traffic_in start a) (traffic_in start c) (traffic_of start one ++ traffic_of start other)
seen_both start a b c one other first second =
    Grows-trans (traffic_in start a) (traffic_in start b) (traffic_in start c) (traffic_of start one) (traffic_of start other)
    (seen start a b one first) (seen start b c other second)

-- the start stays
same_start : (s t : ℕ) (a b : Option (List Call)) (more : List Traffic) → t ≡ s
    → Grows (traffic_in s a) (traffic_in s b) more → Grows (traffic_in s a) (traffic_in t b) more
same_start s t a b more same grows =
    subst (λ (u : ℕ). Grows (traffic_in s a) (traffic_in u b) more) (sym same) grows

-- an error of another kind than that nothing is there
other : (purpose : Purpose) (kind : ErrorKind) → kind ≢ WouldBlock → unreceived purpose kind ≡ Failed ∷ []
other Metatraffic WouldBlock is = absurd (is refl)
other UserData WouldBlock is = absurd (is refl)
other purpose kind is = refl

of_either : (start : ℕ) (a b : Option (List Call)) (call : Purpose → Call) (more : List Traffic)
    → traffic_of start (call Metatraffic) ≡ more → traffic_of start (call UserData) ≡ more → OfEither call a b
    → Grows (traffic_in start a) (traffic_in start b) more
of_either start a b call more first second (inl logs) =
    subst (λ (l : List Traffic). Grows (traffic_in start a) (traffic_in start b) l) first (seen start a b (call Metatraffic) logs)
of_either start a b call more first second (inr (one, none, logs)) =
    subst (λ (l : List Traffic). Grows (traffic_in start a) (traffic_in start b) l) second
    (seen_both start a one b (FailsToReceive Metatraffic WouldBlock) (call UserData) none logs)

-- what was received of both sockets
pub seen_some : (s t : ℕ) → t ≡ s → (a b : Option (List Call)) (room : List ℕ)
    (result : Result (Option ℕ) Error) → ReceivesFirst a b room result
    → IfOk result (λ next. IfSome next (λ n.
    Grows (traffic_in s a) (traffic_in t b) (Received (take n room) ∷ [])))
unfolding ReceivesFirst
seen_some s t same a b room (Err e) first = tt
seen_some s t same a b room (Ok None) first = tt
seen_some s t same a b room (Ok (Some n)) first =
    same_start s t a b (Received (take n room) ∷ []) same
    (of_either s a b (λ p. Receives p (take n room)) (Received (take n room) ∷ []) refl refl first)

pub seen_none : (s t : ℕ) → t ≡ s → (a b : Option (List Call)) (room : List ℕ)
    (result : Result (Option ℕ) Error) → ReceivesFirst a b room result
    → IfOk result (λ next. next ≡ None
    → Grows (traffic_in s a) (traffic_in t b) (Exhausted ∷ []))
unfolding ReceivesFirst
seen_none s t same a b room (Err e) first = tt
seen_none s t same a b room (Ok (Some n)) first = λ is.
    absurd (let bad : Some n ≡ None = is in cc)
seen_none s t same a b room (Ok None) (one, none, logs) = λ is.
    same_start s t a b (Exhausted ∷ []) same
    (seen_both s a one b (FailsToReceive Metatraffic WouldBlock) (FailsToReceive UserData WouldBlock) none logs)

pub seen_fault : (s t : ℕ) → t ≡ s → (a b : Option (List Call)) (room : List ℕ)
    (result : Result (Option ℕ) Error) → ReceivesFirst a b room result
    → OnErr result (Grows (traffic_in s a) (traffic_in t b) (Failed ∷ []))
unfolding ReceivesFirst
seen_fault s t same a b room (Ok next) first = tt
seen_fault s t same a b room (Err e) (is, first) =
    same_start s t a b (Failed ∷ []) same
    (of_either s a b (λ p. FailsToReceive p (error_kind e)) (Failed ∷ []) (other Metatraffic (error_kind e) is) (other UserData (error_kind e) is) first)

-- the wait of a turn
pub seen_turn : (s t m : ℕ) (a b : Option (List Call)) → t ≡ s → WaitsUntil 100_000_000 s m a b
    → Grows (traffic_in s a) (traffic_in t b) (Waited ∷ Passed m ∷ [])
seen_turn s t m a b same (now, logs, is) =
    same_start s t a b (Waited ∷ Passed m ∷ []) same
    (subst (λ (k : ℕ). Grows (traffic_in s a) (traffic_in s b) (Waited ∷ Passed k ∷ [])) (sym is)
    (seen s a b (Waits 100_000_000 now) logs))

pub seen_break : (s t : ℕ) (a b : Option (List Call)) (kind : ErrorKind) → t ≡ s → Logs a b (FailsToWait kind)
    → Grows (traffic_in s a) (traffic_in t b) (Failed ∷ [])
seen_break s t a b kind same logs = same_start s t a b (Failed ∷ []) same (seen s a b (FailsToWait kind) logs)

-- an answer that is sent, whatever comes of it
pub seen_given : (s t : ℕ) (a b : Option (List Call)) (to : Locator) (octets : List ℕ)
    (result : Result (Unit {0}) SocketFault) → t ≡ s → SendsAnswer a b to octets result
    → Grows (traffic_in s a) (traffic_in t b) (Sent to octets ∷ [])
unfolding SendsAnswer
seen_given s t a b to octets (Ok u) same logs =
    same_start s t a b (Sent to octets ∷ []) same (seen s a b (Sends Metatraffic to octets None) logs)
seen_given s t a b to octets (Err (Send kind)) same logs =
    same_start s t a b (Sent to octets ∷ []) same (seen s a b (Sends Metatraffic to octets (Some kind)) logs)
seen_given s t a b to octets (Err fault) same logs = absurd logs

-- an answer that is not
pub seen_withheld : (s t : ℕ) (a b : Option (List Call)) (bound : Ipv4Addr) (to : Locator) (octets : List ℕ)
    → t ≡ s → is_answered (ipv4_octets bound) to ≡ false → Logs a b (Withholds bound to octets)
    → Grows (traffic_in s a) (traffic_in t b) (Sent to octets ∷ [])
seen_withheld s t a b bound to octets same isnt logs =
    same_start s t a b (Sent to octets ∷ []) same
    (subst (λ (l : List Traffic). Grows (traffic_in s a) (traffic_in s b) l)
    (ap (λ (yes : Bool). if yes then [] else Sent to octets ∷ []) isnt) (seen s a b (Withholds bound to octets) logs))

pub seen_answer : (s t : ℕ) (a b : Option (List Call)) (bound : Ipv4Addr) (to : Locator) (octets : List ℕ)
    (result refused : Result (Unit {0}) SocketFault) → t ≡ s
    → (is_answered (ipv4_octets bound) to ≡ false → (result ≡ refused) × Logs a b (Withholds bound to octets))
    → (is_answered (ipv4_octets bound) to ≡ true → SendsAnswer a b to octets result)
    → Grows (traffic_in s a) (traffic_in t b) (Sent to octets ∷ [])
seen_answer s t a b bound to octets result refused same withheld given =
    by_answer (is_answered (ipv4_octets bound) to) refl
  where
    by_answer : (answered : Bool) → is_answered (ipv4_octets bound) to ≡ answered
        → Grows (traffic_in s a) (traffic_in t b) (Sent to octets ∷ [])
    by_answer false is = seen_withheld s t a b bound to octets same is (withheld is).1
    by_answer true is = seen_given s t a b to octets result same (given is)

-- an announcement is nothing to a network
pub seen_announcement : (s t : ℕ) (a b : Option (List Call)) (to : Locator) (octets : List ℕ)
    (result : Result (Unit {0}) SocketFault) → t ≡ s → SendsAnnouncement a b to octets result
    → Grows (traffic_in s a) (traffic_in t b) []
unfolding SendsAnnouncement
seen_announcement s t a b to octets (Ok u) same logs =
    same_start s t a b [] same (seen s a b (Announces to octets None) logs)
seen_announcement s t a b to octets (Err (Send kind)) same logs =
    same_start s t a b [] same (seen s a b (Announces to octets (Some kind)) logs)
seen_announcement s t a b to octets (Err fault) same logs = absurd logs
