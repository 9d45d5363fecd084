-- The events of datagrams, piece by piece.
use Rattle.std.proofs.Common.{◌≡◌, ℕ, zero, suc, ◌+◌, ◌*◌, ◌≤◌, List, [], ◌∷◌, ◌++◌, Result, Ok, Err, IfOk, OnOk, Vec, Global, length, map, take, drop, refl, sym, ap, ◌∙◌, arith, append_assoc}
use Rattle.std.proofs.lemmas.Grind.{div_ceil_times}
use Rattle.std.proofs.lemmas.List.{drop-drop, drop_all, map-append}
use Rattle.std.specs.Int.{div_ceil}
use Rattle.std.specs.List.{AllZip, flat_map, range_with_len}
use Rattle.rtps_types.specs.declared.datagram.Datagram.{Datagram}
use Rattle.rtps_types.specs.declared.identity.GuidPrefix.{GuidPrefix}
use Rattle.rtps_receiver.specs.declared.event.Event.{Event}
use Rattle.rtps_receiver.specs.Events.{events_of, view}
use Rattle.rtps_run.specs.Input.{arrived, events_from}
use Rattle.rtps_receiver.specs.declared.counters.Counters.{Counters}
use Rattle.rtps_receiver.specs.Counters.{all_counted, counted, none_counted, plus}
use Rattle.rtps_receiver.proofs.Summing.{all_counted_plus, counts_after, nothing_added, sum_counts}
use Rattle.dds_participant.specs.declared.decode.Received.{Received}
use Rattle.dds_participant.specs.Decode.{AllOk, IsDecoded, IsPiece, all_added, events_given, octets_of}

-- so many datagrams first, and then the others
events_apart : (own : GuidPrefix) (first m : ℕ) (ds : List Datagram) → events_from own first (map arrived ds) ≡ events_from own first (map arrived (take m ds)) ++ events_from own (first + m) (map arrived (drop m ds))
events_apart own first zero ds = let same : first ≡ first + 0 = omega arith in ap (λ n. events_from own n (map arrived ds)) same
events_apart own first (suc m) [] = refl
events_apart own first (suc m) (d ∷ ds) =
    let same : first + 1 + m ≡ first + suc m = omega arith in
    let rest : List Datagram = drop m ds in
    ap (λ l. events_of own first d.bytes.now ++ l) (events_apart own (first + 1) m ds ∙ ap (λ n. events_from own (first + 1) (map arrived (take m ds)) ++ events_from own n (map arrived rest)) same)
    ∙ sym (append_assoc (events_of own first d.bytes.now) (events_from own (first + 1) (map arrived (take m ds))) (events_from own (first + suc m) (map arrived rest)))

-- the octets of datagrams, counted
counted_apart : (own : GuidPrefix) (m : ℕ) (ds : List Datagram) (c : Counters) → all_counted own (octets_of ds) c ≡ all_counted own (octets_of (drop m ds)) (all_counted own (octets_of (take m ds)) c)
counted_apart own zero ds c = refl
counted_apart own (suc m) [] c = refl
counted_apart own (suc m) (d ∷ ds) c = counted_apart own m ds (counted own d.bytes.now c)

-- all pieces from one on have the events of the datagrams from there on
pub pieces_given : {E : Type 0} (own : GuidPrefix) (first k n : ℕ) (ds : List Datagram) (rs : List (Result Received E)) → length ds ≤ (k + n) * 64
    → AllZip (IsPiece own first ds) (range_with_len k n) rs → AllOk rs → map view (flat_map events_given rs) ≡ events_from own (first + k * 64) (map arrived (drop (k * 64) ds))
pieces_given own first k zero ds [] enough each ok = sym (ap (λ l. events_from own (first + k * 64) (map arrived l)) (drop_all (k * 64) ds (omega (arith, enough))))
pieces_given own first k zero ds (r ∷ rs) enough each ok = absurd each
pieces_given own first k (suc n) ds [] enough each ok = absurd each
pieces_given own first k (suc n) ds (Err e ∷ rs) enough each ok = absurd ok
pieces_given own first k (suc n) ds (Ok v ∷ rs) enough each ok =
    let at : ℕ = first + k * 64 in
    let left : List Datagram = drop (k * 64) ds in
    let next : first + (k + 1) * 64 ≡ at + 64 = omega arith in
    let place : (k + 1) * 64 ≡ k * 64 + 64 = omega arith in
    let others = pieces_given own first (k + 1) n ds rs (omega (arith, enough)) each.1 ok in
    map-append view v.events.items (flat_map events_given rs)
    ∙ ap (λ l. l ++ map view (flat_map events_given rs)) each.0.events
    ∙ ap (λ l. events_from own at (map arrived (take 64 left)) ++ l) (others ∙ ap (λ m. events_from own m (map arrived (drop ((k + 1) * 64) ds))) next ∙ ap (λ m. events_from own (at + 64) (map arrived (drop m ds))) place ∙ ap (λ l. events_from own (at + 64) (map arrived l)) (sym (drop-drop 64 (k * 64) ds)))
    ∙ sym (events_apart own at 64 left)

-- added up they are the counters of the datagrams from there on
pub pieces_added : {E : Type 0} (own : GuidPrefix) (first k n : ℕ) (ds : List Datagram) (rs : List (Result Received E)) (c : Counters) → length ds ≤ (k + n) * 64
    → AllZip (IsPiece own first ds) (range_with_len k n) rs → AllOk rs → plus c none_counted ≡ c → all_added rs c ≡ all_counted own (octets_of (drop (k * 64) ds)) c
pieces_added own first k zero ds [] c enough each ok is = sym (ap (λ l. all_counted own (octets_of l) c) (drop_all (k * 64) ds (omega (arith, enough))))
pieces_added own first k zero ds (r ∷ rs) c enough each ok is = absurd each
pieces_added own first k (suc n) ds [] c enough each ok is = absurd each
pieces_added own first k (suc n) ds (Err e ∷ rs) c enough each ok is = absurd ok
pieces_added own first k (suc n) ds (Ok v ∷ rs) c enough each ok is =
    let left : List Datagram = drop (k * 64) ds in
    let place : (k + 1) * 64 ≡ k * 64 + 64 = omega arith in
    let here : plus c v.counters ≡ all_counted own (octets_of (take 64 left)) c =
    ap (plus c) each.0.counters ∙ sym (all_counted_plus own (octets_of (take 64 left)) c none_counted) ∙ ap (all_counted own (octets_of (take 64 left))) is in
    pieces_added own first (k + 1) n ds rs (plus c v.counters) (omega (arith, enough)) each.1 ok (sum_counts c v.counters)
    ∙ ap (λ m. all_counted own (octets_of (drop m ds)) (plus c v.counters)) place
    ∙ ap (λ l. all_counted own (octets_of l) (plus c v.counters)) (sym (drop-drop 64 (k * 64) ds))
    ∙ ap (all_counted own (octets_of (drop 64 left))) here
    ∙ sym (counted_apart own 64 left c)

-- pieces, where what is known of each result says that it is one
pub pieces_of : {E : Type 0} (P : ℕ → Result Received E → Type 0) (own : GuidPrefix) (first : ℕ) (ds : List Datagram) (indices : List ℕ) (rs : List (Result Received E))
    → ((index : ℕ) (r : Result Received E) → P index r → IsPiece own first ds index r) → AllZip P indices rs → AllZip (IsPiece own first ds) indices rs
pieces_of P own first ds [] [] is each = tt
pieces_of P own first ds [] (r ∷ rs) is each = absurd each
pieces_of P own first ds (i ∷ is) [] known each = absurd each
pieces_of P own first ds (i ∷ is) (r ∷ rs) known each = (known i r each.0, pieces_of P own first ds is rs known each.1)

-- joined they are the events of all datagrams, and the counters after them
pub pieces_joined : {E F : Type 0} (own : GuidPrefix) (first : ℕ) (ds : List Datagram) (rs : List (Result Received E)) (c : Counters) (all : Result Received F)
    → AllZip (IsPiece own first ds) (range_with_len 0 (div_ceil (length ds) 64)) rs → plus c none_counted ≡ c → OnOk all (AllOk rs) → IfOk all (λ d. d.events.items ≡ flat_map events_given rs) → IfOk all (λ d. d.counters ≡ all_added rs c)
    → IfOk all (IsDecoded own first ds c)
pieces_joined own first ds rs c (Err e) each is ok events counters = tt
pieces_joined own first ds rs c (Ok v) each is ok events counters =
    let bounds = div_ceil_times (length ds) 64 (omega arith) in
    let same : first + 0 * 64 ≡ first = omega arith in
    let enough : length ds ≤ (0 + div_ceil (length ds) 64) * 64 = omega (arith, bounds.0) in
    record {
      events = ap (map view) events ∙ pieces_given own first 0 (div_ceil (length ds) 64) ds rs enough each ok ∙ ap (λ n. events_from own n (map arrived ds)) same;
      counters = counters ∙ pieces_added own first 0 (div_ceil (length ds) 64) ds rs c enough each ok is;
    }
