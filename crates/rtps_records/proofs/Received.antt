-- The receiving of a batch, one datagram after the other.
use Rattle.std.proofs.Common.{◌≡◌, ℕ, ◌+◌, List, [], ◌∷◌, ◌++◌, Option, None, Some, refl, length, map, subst, sym, ap, ◌∙◌, length-append, append-nil, append_assoc}
use Rattle.rtps_records.specs.RecordFile.{Datagram, Record}
use Rattle.rtps_records.specs.Traffic.{Exhausted, Failed, Grows, Passed, Received, ReceivesAll, ReceivesNext, Sent, Traffic, Waited, last_call, receipts, received_in}
use Rattle.rtps_records.specs.declared.receive_end.ReceiveEnd.{ReceiveEnd}
use Rattle.rtps_records.specs.declared.receive_end.ReceiveEnd.TheVariants.{Drained, Fault, More}

pub Grows-nil : (a : Option (List Traffic)) → Grows a a []
Grows-nil None = tt
Grows-nil (Some x) = sym (append-nil x)

pub Grows-trans : (a b c : Option (List Traffic)) (xs ys : List Traffic)
    → Grows a b xs → Grows b c ys → Grows a c (xs ++ ys)
Grows-trans None b c xs ys p q = tt
Grows-trans (Some x) None c xs ys p q = absurd p
Grows-trans (Some x) (Some y) None xs ys p q = absurd q
Grows-trans (Some x) (Some y) (Some z) xs ys p q = q ∙ ap (λ l. l ++ ys) p ∙ append_assoc x xs ys

pub receipts-append : (xs ys : List (List ℕ)) → receipts (xs ++ ys) ≡ receipts xs ++ receipts ys
receipts-append [] ys = refl
receipts-append (x ∷ xs) ys = ap (λ l. Received x ∷ l) (receipts-append xs ys)

-- what was received by some calls and then by others
pub received-append : (xs ys : List Traffic)
    → received_in (xs ++ ys) ≡ received_in xs ++ received_in ys
received-append [] ys = refl
received-append (Waited ∷ xs) ys = received-append xs ys
received-append (Passed m ∷ xs) ys = received-append xs ys
received-append (Received o ∷ xs) ys = ap (λ l. o ∷ l) (received-append xs ys)
received-append (Exhausted ∷ xs) ys = received-append xs ys
received-append (Failed ∷ xs) ys = received-append xs ys
received-append (Sent to o ∷ xs) ys = received-append xs ys

-- what is received is received, and nothing by what follows
pub received-receipts : (octets : List (List ℕ)) (last : List Traffic) → received_in last ≡ []
    → received_in (receipts octets ++ last) ≡ octets
received-receipts [] last none = none
received-receipts (x ∷ xs) last none = ap (λ l. x ∷ l) (received-receipts xs last none)

datagrams-append : (moment : ℕ) (xs ys : List (List ℕ)) → map (Datagram moment) (xs ++ ys) ≡ map (Datagram moment) xs ++ map (Datagram moment) ys
datagrams-append moment [] ys = refl
datagrams-append moment (x ∷ xs) ys = ap (λ l. Datagram moment x ∷ l) (datagrams-append moment xs ys)

one_more : (first now after : Option (List Traffic)) (moment : ℕ) (records new : List Record) (octets : List ℕ)
    → ReceivesAll first now moment records [] → Grows now after (Received octets ∷ []) → new ≡ records ++ Datagram moment octets ∷ [] → ReceivesAll first after moment new []
one_more first now after moment records new octets h grows e =
    let calls : (receipts h.datagrams ++ []) ++ Received octets ∷ [] ≡ receipts (h.datagrams ++ octets ∷ []) ++ [] =
    ap (λ l. l ++ Received octets ∷ []) (append-nil (receipts h.datagrams)) ∙ sym (receipts-append h.datagrams (octets ∷ [])) ∙ sym (append-nil (receipts (h.datagrams ++ octets ∷ []))) in
    record {
      datagrams = h.datagrams ++ octets ∷ [];
      are = e ∙ ap (λ l. l ++ Datagram moment octets ∷ []) h.are ∙ sym (datagrams-append moment h.datagrams (octets ∷ []));
      grows = subst (Grows first after) calls (Grows-trans first now after (receipts h.datagrams ++ []) (Received octets ∷ []) h.grows grows);
    }

-- one more
pub more : (first now after : Option (List Traffic)) (moment : ℕ) (records new : List Record)
    (end : ReceiveEnd) → ReceivesAll first now moment records [] → end ≡ More
    → ReceivesNext end moment now after records new
    → (length new ≡ length records + 1) × ReceivesAll first after moment new []
unfolding ReceivesNext
more first now after moment records new Drained h is next = absurd (let bad : Drained ≡ More = is in cc)
more first now after moment records new Fault h is next = absurd (let bad : Fault ≡ More = is in cc)
more first now after moment records new More h is (octets, grows, e) =
    (ap length e ∙ length-append records (Datagram moment octets ∷ []), one_more first now after moment records new octets h grows e)

ends_by : (first now after : Option (List Traffic)) (moment : ℕ) (records new : List Record) (last : List Traffic)
    → ReceivesAll first now moment records [] → Grows now after last × (new ≡ records)
    → (new ≡ records) × ReceivesAll first after moment new last
ends_by first now after moment records new last h (grows, e) = (
  e,
  record {
    datagrams = h.datagrams;
    are = e ∙ h.are;
    grows = subst (λ l. Grows first after (l ++ last)) (append-nil (receipts h.datagrams)) (Grows-trans first now after (receipts h.datagrams ++ []) last h.grows grows);
  },
)

-- no more: all that came was received, or the source failed
pub ends : (first now after : Option (List Traffic)) (moment : ℕ) (records new : List Record)
    (end : ReceiveEnd) → ReceivesAll first now moment records [] → ¬ (end ≡ More)
    → ReceivesNext end moment now after records new → (new ≡ records) × ReceivesAll first after moment new (last_call end)
unfolding ReceivesNext
ends first now after moment records new More h other next = absurd (other refl)
ends first now after moment records new Drained h other next = ends_by _ _ _ _ _ _ _ h next
ends first now after moment records new Fault h other next = ends_by _ _ _ _ _ _ _ h next
