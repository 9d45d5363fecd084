-- What a list of calls to the network receives and sends, and how many waits and failures it has.
use Rattle.std.proofs.Common.{◌≡◌, ℕ, suc, ◌+◌, List, [], ◌∷◌, ◌++◌, ◌⊎◌, Option, arith, inl, inr, refl, subst, sym, ap, ◌∙◌, append_assoc, append-nil, length, length-append, map}
use Rattle.std.proofs.lemmas.List.{length-map, map-append}
use Rattle.rtps_types.specs.declared.locator.Locator.{Locator}
use Rattle.rtps_records.specs.RecordFile.{Datagram, Record, Tick}
use Rattle.rtps_records.specs.Traffic.{Exhausted, Failed, Grows, Passed, Received, Sent, Traffic, Waited, failures_in, heard_after, heard_in, last_call, moment_after, receipts, received_in, sent_in, waits_in}
use Rattle.rtps_records.specs.declared.receive_end.ReceiveEnd.{ReceiveEnd}
use Rattle.rtps_records.specs.declared.receive_end.ReceiveEnd.TheVariants.{Drained, Fault, More}
use Rattle.rtps_records.proofs.Heard.{heard-append, moment-append}
use Rattle.rtps_records.proofs.Received.{Grows-nil, Grows-trans, received-append}
use Rattle.rtps_text.specs.Listened.{IsDrained, ReadsClock, WaitsInTurn}
use Rattle.rtps_text.specs.Live.{IsLast}
use Rattle.rtps_text.specs.Sending.{Sends, sendings}

received-count : (xs ys : List Traffic)
    → length (received_in (xs ++ ys)) ≡ length (received_in xs) + length (received_in ys)
received-count xs ys =
    ap length (received-append xs ys) ∙ length-append (received_in xs) (received_in ys)

sent-append : (xs ys : List Traffic) → sent_in (xs ++ ys) ≡ sent_in xs ++ sent_in ys
sent-append [] ys = refl
sent-append (Waited ∷ xs) ys = sent-append xs ys
sent-append (Passed m ∷ xs) ys = sent-append xs ys
sent-append (Received o ∷ xs) ys = sent-append xs ys
sent-append (Exhausted ∷ xs) ys = sent-append xs ys
sent-append (Failed ∷ xs) ys = sent-append xs ys
sent-append (Sent to o ∷ xs) ys = ap (λ l. (to, o) ∷ l) (sent-append xs ys)

waits-append : (xs ys : List Traffic) → waits_in (xs ++ ys) ≡ waits_in xs + waits_in ys
waits-append [] ys = omega arith
waits-append (Waited ∷ xs) ys = omega (arith, waits-append xs ys)
waits-append (Passed m ∷ xs) ys = waits-append xs ys
waits-append (Received o ∷ xs) ys = waits-append xs ys
waits-append (Exhausted ∷ xs) ys = waits-append xs ys
waits-append (Failed ∷ xs) ys = waits-append xs ys
waits-append (Sent to o ∷ xs) ys = waits-append xs ys

failures-append : (xs ys : List Traffic)
    → failures_in (xs ++ ys) ≡ failures_in xs + failures_in ys
failures-append [] ys = omega arith
failures-append (Waited ∷ xs) ys = failures-append xs ys
failures-append (Passed m ∷ xs) ys = failures-append xs ys
failures-append (Received o ∷ xs) ys = failures-append xs ys
failures-append (Exhausted ∷ xs) ys = failures-append xs ys
failures-append (Failed ∷ xs) ys = omega (arith, failures-append xs ys)
failures-append (Sent to o ∷ xs) ys = failures-append xs ys

-- By these calls this is heard from one moment on, up to another moment, with this number of
-- datagrams; these are sent; and this is the number of waits and of failures.
pub record Comes (from to : ℕ) (calls : List Traffic) (records : List Record) (count : ℕ)
    (sends : List (Locator × List ℕ)) (waited failed : ℕ) : Type 0 where
  pub heard : heard_after from calls ≡ records
  pub at : moment_after from calls ≡ to
  pub received : length (received_in calls) ≡ count
  pub sent : sent_in calls ≡ sends
  pub waits : waits_in calls ≡ waited
  pub failures : failures_in calls ≡ failed

-- two lists of calls, one after the other
pub comes_both : (m n o : ℕ) (xs ys : List Traffic) (r s : List Record) (c d : ℕ)
    (t u : List (Locator × List ℕ)) (v w f g : ℕ) → Comes m n xs r c t v f
    → Comes n o ys s d u w g → Comes m o (xs ++ ys) (r ++ s) (c + d) (t ++ u) (v + w) (f + g)
comes_both m n o xs ys r s c d t u v w f g a b = record {
  heard = heard-append m xs ys ∙ ap (λ l. l ++ heard_after (moment_after m xs) ys) a.heard
      ∙ ap (λ k. r ++ heard_after k ys) a.at ∙ ap (λ l. r ++ l) b.heard;
  at = moment-append m xs ys ∙ ap (λ k. moment_after k ys) a.at ∙ b.at;
  received = omega (arith, received-count xs ys, a.received, b.received);
  sent = sent-append xs ys ∙ ap (λ l. l ++ sent_in ys) a.sent ∙ ap (λ l. t ++ l) b.sent;
  waits = omega (arith, waits-append xs ys, a.waits, b.waits);
  failures = omega (arith, failures-append xs ys, a.failures, b.failures);
}

-- the clock is read
pub comes_passed : (m n : ℕ) → Comes m n (Passed n ∷ []) (Tick n ∷ []) 0 [] 0 0
comes_passed m n = record {
  heard = refl;
  at = refl;
  received = refl;
  sent = refl;
  waits = refl;
  failures = refl;
}

-- one wait
pub comes_waited : (m : ℕ) → Comes m m (Waited ∷ []) [] 0 [] 1 0
comes_waited m = record {
  heard = refl;
  at = refl;
  received = refl;
  sent = refl;
  waits = refl;
  failures = refl;
}

-- one failure
pub comes_failed : (m : ℕ) → Comes m m (Failed ∷ []) [] 0 [] 0 1
comes_failed m = record {
  heard = refl;
  at = refl;
  received = refl;
  sent = refl;
  waits = refl;
  failures = refl;
}

pub comes_receipts : (m : ℕ) (datagrams : List (List ℕ))
    → Comes m m (receipts datagrams) (map (Datagram m) datagrams) (length datagrams) [] 0 0
comes_receipts m [] = record {
  heard = refl;
  at = refl;
  received = refl;
  sent = refl;
  waits = refl;
  failures = refl;
}
comes_receipts m (d ∷ ds) =
    let rest = comes_receipts m ds in
    record {
      heard = ap (λ l. Datagram m d ∷ l) rest.heard;
      at = rest.at;
      received = ap suc rest.received;
      sent = rest.sent;
      waits = rest.waits;
      failures = rest.failures;
    }

comes_last : (m : ℕ) (end : ReceiveEnd)
    → Comes m m (last_call end) [] 0 [] 0 (failures_in (last_call end))
comes_last m More = record {
  heard = refl;
  at = refl;
  received = refl;
  sent = refl;
  waits = refl;
  failures = refl;
}
comes_last m Drained = record {
  heard = refl;
  at = refl;
  received = refl;
  sent = refl;
  waits = refl;
  failures = refl;
}
comes_last m Fault = comes_failed m

pub comes_sendings : (m : ℕ) (sends : List (Locator × List ℕ))
    → Comes m m (sendings sends) [] 0 sends 0 0
comes_sendings m [] = record {
  heard = refl;
  at = refl;
  received = refl;
  sent = refl;
  waits = refl;
  failures = refl;
}
comes_sendings m (s ∷ ss) =
    let rest = comes_sendings m ss in
    record {
      heard = rest.heard;
      at = rest.at;
      received = rest.received;
      sent = ap (λ l. (s.0, s.1) ∷ l) rest.sent;
      waits = rest.waits;
      failures = rest.failures;
    }

-- the calls that receive a batch
comes_batch : (m : ℕ) (datagrams : List (List ℕ)) (end : ReceiveEnd)
    → Comes m m (receipts datagrams ++ last_call end) (map (Datagram m) datagrams)
    (length datagrams) [] 0 (failures_in (last_call end))
comes_batch m datagrams end =
    let all = comes_both m m m _ _ _ _ _ _ _ _ _ _ _ _ (comes_receipts m datagrams)
    (comes_last m end) in
    record {
      heard = all.heard ∙ append-nil (map (Datagram m) datagrams);
      at = all.at;
      received = omega (arith, all.received);
      sent = all.sent;
      waits = all.waits;
      failures = omega (arith, all.failures);
    }

-- the same, with the records that the batch has
pub comes_received : (m : ℕ) (records : List Record) (datagrams : List (List ℕ)) (end : ReceiveEnd)
    → records ≡ map (Datagram m) datagrams
    → Comes m m (receipts datagrams ++ last_call end) records (length records) [] 0
    (failures_in (last_call end))
comes_received m records datagrams end are =
    let many : length records ≡ length datagrams = ap length are ∙ length-map datagrams (Datagram m) in
    let all = comes_batch m datagrams end in
    record {
      heard = all.heard ∙ sym are;
      at = all.at;
      received = all.received ∙ sym many;
      sent = all.sent;
      waits = all.waits;
      failures = all.failures;
    }

-- the calls that receive a batch for which memory ran out
pub comes_begun : (m : ℕ) (records : List Record) (datagrams : List (List ℕ))
    → records ≡ map (Datagram m) datagrams
    → Comes m m (receipts datagrams ++ []) records (length records) [] 0 0
comes_begun m records datagrams are = comes_received m records datagrams More are

-- calls without a send, and then those that send answers
pub comes_answered : (m n : ℕ) (calls : List Traffic) (records : List Record)
    (count waited failed : ℕ) (sends : List (Locator × List ℕ))
    → Comes m n calls records count [] waited failed
    → Comes m n (calls ++ sendings sends) records count sends waited failed
comes_answered m n calls records count waited failed sends c =
    let all = comes_both m n n _ _ _ _ _ _ _ _ _ _ _ _ c (comes_sendings n sends) in
    record {
      heard = all.heard ∙ append-nil records;
      at = all.at;
      received = omega (arith, all.received);
      sent = all.sent;
      waits = omega (arith, all.waits);
      failures = omega (arith, all.failures);
    }

-- one wait, after which the clock is read
pub comes_turned : (m n : ℕ) → Comes m n (Waited ∷ Passed n ∷ []) (Tick n ∷ []) 0 [] 1 0
comes_turned m n = comes_both m m n _ _ _ _ _ _ _ _ _ _ _ _ (comes_waited m) (comes_passed m n)

-- ---- waits

cons-head : (x y : Traffic) (xs ys : List Traffic) → x ∷ xs ≡ y ∷ ys → x ≡ y
cons-head x y xs ys e = cc

cons-tail : (x y : Traffic) (xs ys : List Traffic) → x ∷ xs ≡ y ∷ ys → xs ≡ ys
cons-tail x y xs ys e = cc

-- a call in two joined lists of calls is in the first one or in the second one
split : (xs ys past later : List Traffic) (c : Traffic) → xs ++ ys ≡ past ++ c ∷ later
    → ((rest : List Traffic) × (xs ≡ past ++ c ∷ rest) × (later ≡ rest ++ ys))
    ⊎ ((front : List Traffic) × (past ≡ xs ++ front) × (ys ≡ front ++ c ∷ later))
split [] ys past later c e = inr (past, refl, e)
split (x ∷ xs) ys [] later c e =
    inl (
      xs,
      ap (λ y. y ∷ xs) (cons-head x c (xs ++ ys) later e),
      sym (cons-tail x c (xs ++ ys) later e),
    )
split (x ∷ xs) ys (p ∷ past) later c e =
    let head = cons-head x p (xs ++ ys) (past ++ c ∷ later) e in
    elim (split xs ys past later c (cons-tail x p (xs ++ ys) (past ++ c ∷ later) e)) [
      | inl one ↦ inl (one.0, ap (λ y. y ∷ xs) head ∙ ap (λ l. p ∷ l) one.1, one.2)
      | inr other ↦
          inr (other.0, ap (λ l. p ∷ l) other.1 ∙ ap (λ y. y ∷ (xs ++ other.0)) (sym head), other.2)
    ]

-- if the next call reads the clock, it does so whatever calls follow
reads_on : (rest more later : List Traffic) → ReadsClock rest → later ≡ rest ++ more
    → ReadsClock later
reads_on rest more later r is = record {
  moment = r.moment;
  rest = r.rest ++ more;
  first = is ∙ ap (λ l. l ++ more) r.first;
}

module _ (sends : List Record → List (Locator × List ℕ)) where
  -- more calls, without a wait among them
  pub in_turn_more : (calls more : List Traffic) → WaitsInTurn sends calls → waits_in more ≡ 0
      → WaitsInTurn sends (calls ++ more)
  in_turn_more calls more h none past later e = elim (split calls more past later Waited e) [
    | inl one ↦
        let was = h past one.0 one.1 in
        (was.0, was.1, reads_on one.0 more later was.2 one.2)
    | inr other ↦
        let bad = waits-append other.0 (Waited ∷ later) in
        absurd (omega (arith, none, ap waits_in other.2, bad))
  ]

  -- one more wait, a reading of the clock, and more calls without a wait among them
  pub in_turn_wait : (calls : List Traffic) (moment : ℕ) (more : List Traffic)
      → WaitsInTurn sends calls → IsDrained calls → sent_in calls ≡ sends (heard_in calls)
      → waits_in more ≡ 0 → WaitsInTurn sends (calls ++ Waited ∷ Passed moment ∷ more)
  in_turn_wait calls moment more h drained sent none past later e =
      elim (split calls (Waited ∷ Passed moment ∷ more) past later Waited e) [
        | inl one ↦
            let was = h past one.0 one.1 in
            (was.0, was.1, reads_on one.0 (Waited ∷ Passed moment ∷ more) later was.2 one.2)
        | inr other ↦ here other.0 other.1 other.2
      ]
    where
      here : (front : List Traffic) → past ≡ calls ++ front
          → Waited ∷ Passed moment ∷ more ≡ front ++ Waited ∷ later
          → IsDrained past × (sent_in past ≡ sends (heard_in past)) × ReadsClock later
      here [] is last =
          let same : calls ≡ past = sym (append-nil calls) ∙ sym is in
          let next : ReadsClock later = record {
            moment = moment;
            rest = more;
            first = sym (cons-tail Waited Waited (Passed moment ∷ more) later last);
          } in
          subst (λ c. IsDrained c × (sent_in c ≡ sends (heard_in c)) × ReadsClock later) same
          (drained, sent, next)
      here (c ∷ front) is last =
          let tail = cons-tail Waited c (Passed moment ∷ more) (front ++ Waited ∷ later) last in
          let bad = waits-append front (Waited ∷ later) in
          absurd (omega (arith, none, ap waits_in tail, bad))

-- the last call of a batch tells whether all datagrams that came were received
pub last_is : (end : ReceiveEnd) (calls : List Traffic) (datagrams : List (List ℕ))
    (sends : List (Locator × List ℕ))
    → IsLast end (calls ++ ((receipts datagrams ++ last_call end) ++ sendings sends))
last_is More calls datagrams sends = tt
last_is Fault calls datagrams sends = tt
last_is Drained calls datagrams sends = inr (
  calls ++ receipts datagrams,
  sends,
  ap (λ l. calls ++ l) (append_assoc (receipts datagrams) (Exhausted ∷ []) (sendings sends))
      ∙ sym (append_assoc calls (receipts datagrams) (Exhausted ∷ sendings sends)),
)

-- ---- what was sent

-- nothing was sent
pub sends_none : (where_so : Type 0) (now : Option (List Traffic))
    (sends : List (Locator × List ℕ)) → (where_so → [] ≡ sends) → Sends where_so now now sends
sends_none where_so now sends are = record { sent = []; grows = Grows-nil now; are = are }

-- more was sent
pub sends_more : (so more_so where_so : Type 0) (first now after : Option (List Traffic))
    (sends more all : List (Locator × List ℕ)) → Sends so first now sends
    → Sends more_so now after more → (where_so → so) → (where_so → more_so)
    → (where_so → sends ++ more ≡ all) → Sends where_so first after all
sends_more so more_so where_so first now after sends more all a b one other both = record {
  sent = a.sent ++ b.sent;
  grows = subst (Grows first after) (sym (map-append (λ (s : Locator × List ℕ). Sent s.0 s.1) a.sent b.sent))
      (Grows-trans first now after (sendings a.sent) (sendings b.sent) a.grows b.grows);
  are = λ here. ap (λ l. l ++ b.sent) (a.are (one here)) ∙ ap (λ l. sends ++ l) (b.are (other here))
      ∙ both here;
}

-- calls that only sent these
pub sends_by : (where_so : Type 0) (old new : Option (List Traffic))
    (sends : List (Locator × List ℕ)) → Grows old new (sendings sends)
    → Sends where_so old new sends
sends_by where_so old new sends grows = record { sent = sends; grows = grows; are = λ here. refl }
