-- The batches that sockets receive.
use Rattle.std.proofs.Common.{◌≡◌, ℕ, List, [], ◌∷◌, ◌++◌, Option, Bool, true, false, arith, map, refl, subst, sym, ap, ◌∙◌}
use Rattle.std.specs.Prelude.{◌<◌, length, nat_eq, if◌then◌else◌, IfOk, Result, Ok, Err}
use Rattle.std.specs.declared.io.ErrorKind.{ErrorKind}
use Rattle.rtps_records.specs.RecordFile.{Datagram, Record}
use Rattle.rtps_records.specs.Traffic.{Exhausted, Grows, Passed, ReceivesAll, Traffic, Waited, last_call, receipts, received_in}
use Rattle.rtps_records.specs.declared.receive_end.ReceiveEnd.{ReceiveEnd}
use Rattle.rtps_records.specs.declared.receive_end.ReceiveEnd.TheVariants.{Drained, Fault, More}
use Rattle.rtps_records.proofs.Received.{Grows-trans, received-append, received-receipts}
use Rattle.rtps_udp.specs.Calls.{Call, FailsToWait, Logs, ReadsClock, Waits, traffic_in}
use Rattle.rtps_udp.specs.Moments.{millis_between}
use Rattle.rtps_udp.specs.Ports.{ReadsMoment, WaitsUntil}
use Rattle.rtps_udp.specs.Receiving.{Fills, HoldsAll, TakesAfterWait, TakesAtOnce, TakesLater}
use Rattle.rtps_udp.proofs.Calls.{seen, seen_break}

pub at_once : (s t : ℕ) (a b : Option (List Call)) (after : Option (List Traffic)) (m n : ℕ)
    (records : List Record) (full : Type 0) (end : ReceiveEnd) → t ≡ s → n ≡ m → ReadsMoment s m a b
    → Fills end (traffic_in t b) after m records full → (end ≡ Drained → 0 < length records)
    → TakesAtOnce s a after n records full
at_once s t a b after m n records full end same now reads fills some =
    subst (λ (k : ℕ). TakesAtOnce s a after k records full) (sym now) (record {
      here = b;
      reads = reads;
      end = end;
      some = some;
      fills = subst (λ (u : ℕ). Fills end (traffic_in u b) after m records full) same fills;
    })

pub takes_later : (within s t : ℕ) (a b : Option (List Call)) (after : Option (List Traffic)) (m n : ℕ)
    (records : List Record) (full : Type 0) (end : ReceiveEnd) → t ≡ s → n ≡ m → WaitsUntil within s m a b
    → Fills end (traffic_in t b) after m records full → TakesLater within s a after n records full
takes_later within s t a b after m n records full end same now waits fills =
    subst (λ (k : ℕ). TakesLater within s a after k records full) (sym now) (record {
      there = b;
      waits = waits;
      end = end;
      fills = subst (λ (u : ℕ). Fills end (traffic_in u b) after m records full) same fills;
    })

pub after_wait : (within s t l : ℕ) (a b here : Option (List Call)) (after : Option (List Traffic)) (first moment : ℕ)
    (nothing records : List Record) (full : Type 0) (end : ReceiveEnd) → t ≡ s → nothing ≡ [] → end ≡ Drained
    → ReadsMoment s first a b
    → ReceivesAll (traffic_in t b) (traffic_in l here) first nothing (last_call end)
    → TakesLater within l here after moment records full
    → TakesAfterWait within s a after moment records full
after_wait within s t l a b here after first moment nothing records full end same none drained reads empty rest = record {
  first = first;
  none = b;
  reads = reads;
  later = l;
  here = here;
  empty = subst (λ (u : ℕ). ReceivesAll (traffic_in u b) (traffic_in l here) first [] (Exhausted ∷ [])) same
      (subst (λ (r : List Record). ReceivesAll (traffic_in t b) (traffic_in l here) first r (Exhausted ∷ [])) none
      (subst (λ (e : ReceiveEnd). ReceivesAll (traffic_in t b) (traffic_in l here) first nothing (last_call e)) drained empty));
  rest = rest;
}

-- a list that isn't empty, and one that is
pub empty_list : (l : List Record) → length l ≡ 0 → l ≡ []
empty_list [] is = refl
empty_list (x ∷ xs) is = absurd (let bad : length (x ∷ xs) ≡ 0 = is in cc)

pub some_here : (l : List Record) → ¬ (length l ≡ 0) → 0 < length l
some_here l is = omega (arith, is)

pub if_ok : {X E : Type 0} (r : Result X E) (P Q : X → Type 0) → ((x : X) → P x → Q x) → IfOk r P → IfOk r Q
if_ok (Ok x) P Q f p = f x p
if_ok (Err e) P Q f p = tt

-- nothing is received by the call that ends a batch
none_last : (end : ReceiveEnd) → received_in (last_call end) ≡ []
none_last More = refl
none_last Drained = refl
none_last Fault = refl

none_mapped : (m : ℕ) (octets : List (List ℕ)) → [] ≡ map (Datagram m) octets → octets ≡ []
none_mapped m [] e = refl
none_mapped m (x ∷ xs) e = absurd (let bad : [] ≡ map (Datagram m) (x ∷ xs) = e in cc)

-- a batch as it was filled
pub holds_filled : (a b : Option (List Traffic)) (m : ℕ) (records : List Record) (end : ReceiveEnd)
    → ReceivesAll a b m records (last_call end) → HoldsAll a b m records
holds_filled a b m records end all = record {
  calls = receipts all.datagrams ++ last_call end;
  grows = all.grows;
  are = all.are ∙ ap (map (Datagram m)) (sym (received-receipts all.datagrams (last_call end) (none_last end)));
}

-- the same where a growth was refused
pub holds_refused : (a b : Option (List Traffic)) (m : ℕ) (records : List Record)
    → ReceivesAll a b m records [] → HoldsAll a b m records
holds_refused a b m records all = holds_filled a b m records More all

-- nothing was received, and then a batch
pub holds_after : (a b c : Option (List Traffic)) (k m : ℕ) (records : List Record)
    → HoldsAll a b k [] → HoldsAll b c m records → HoldsAll a c m records
holds_after a b c k m records none all = record {
  calls = none.calls ++ all.calls;
  grows = Grows-trans a b c none.calls all.calls none.grows all.grows;
  are =
      let nothing = none_mapped k (received_in none.calls) none.are in
      all.are ∙ ap (map (Datagram m)) (sym (received-append none.calls all.calls
      ∙ ap (λ l. l ++ received_in all.calls) nothing));
}

-- nothing was received
holds_none : (a b : Option (List Traffic)) (m : ℕ) (calls : List Traffic) → Grows a b calls
    → received_in calls ≡ [] → HoldsAll a b m []
holds_none a b m calls grows none = record {
  calls = calls;
  grows = grows;
  are = ap (map (Datagram m)) (sym none);
}

pub holds_read : (s t m k : ℕ) (a b : Option (List Call)) → t ≡ s → ReadsMoment s m a b
    → HoldsAll (traffic_in s a) (traffic_in t b) k []
holds_read s t m k a b same (now, logs, is) =
    subst (λ (u : ℕ). HoldsAll (traffic_in s a) (traffic_in u b) k []) (sym same)
    (holds_none _ _ k _ (seen s a b (ReadsClock now) logs) refl)

none_waited : (turn : Bool) (m : ℕ)
    → received_in ((if turn then Waited ∷ [] else []) ++ Passed m ∷ []) ≡ []
none_waited true m = refl
none_waited false m = refl

pub holds_waited : (most s t m k : ℕ) (a b : Option (List Call)) → t ≡ s → WaitsUntil most s m a b
    → HoldsAll (traffic_in s a) (traffic_in t b) k []
holds_waited most s t m k a b same (now, logs, is) =
    subst (λ (u : ℕ). HoldsAll (traffic_in s a) (traffic_in u b) k []) (sym same)
    (holds_none _ _ k _ (seen s a b (Waits most now) logs)
    (none_waited (nat_eq most 100_000_000) (millis_between s now)))

pub holds_failed : (s t k : ℕ) (a b : Option (List Call)) (kind : ErrorKind) → t ≡ s
    → Logs a b (FailsToWait kind) → HoldsAll (traffic_in s a) (traffic_in t b) k []
holds_failed s t k a b kind same logs = holds_none _ _ k _ (seen_break s t a b kind same logs) refl
