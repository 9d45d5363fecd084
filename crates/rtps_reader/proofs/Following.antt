-- What steps do to the match with a writer, and to the order of the matches.
use Rattle.std.proofs.Common.{◌≡◌, Bool, true, false, not, if◌then◌else◌, List, [], ◌∷◌, map, Option, Some, None, refl, sym, ap, ◌∙◌, subst, true≢false}
use Rattle.std.specs.Prelude.{filter}
use Rattle.std.specs.Option.{option_map}
use Rattle.std.specs.BTreeSet.{insert_key}
use Rattle.std.specs.Cmp.{IsTotalOrder}
use Rattle.std.specs.List.{AllByRecursion}
use Rattle.std.specs.List.Sorted.{IsStrictlySortedBy}
use Rattle.std.specs.Ordering.{match_ordering, ordering_reverse}
use Rattle.std.specs.declared.cmp.Ordering.{Ordering}
use Rattle.std.specs.declared.cmp.Ordering.TheVariants.{Less, Equal, Greater}
use Rattle.std.proofs.lemmas.Cmp.{nat_list_cmp_total, on_total, then_total}
use Rattle.std.proofs.lemmas.List.Kept.{IsStrictlySortedBy-filter}
use Rattle.rtps_types.specs.MatchChange.{Matches, Unmatches, Refuses}
use Rattle.rtps_types.specs.Order.{guid_order}
use Rattle.rtps_types.specs.declared.identity.EntityId.{EntityId}
use Rattle.rtps_types.specs.declared.identity.Guid.{Guid}
use Rattle.rtps_types.specs.declared.identity.GuidPrefix.{GuidPrefix}
use Rattle.rtps_proxy.specs.History.{MatchEvent}
use Rattle.rtps_proxy.specs.Kept.{Pairing}
use Rattle.rtps_proxy.specs.Matches.{Match, begun, ended, extended, fresh, match_with, same_guid}
use Rattle.rtps_proxy.proofs.Matching.{exact, same_is}
use Rattle.rtps_reader.specs.Reader.{Facts, Reader, all_begun, extended_by, first_reader, fresh_with, reader_after, reader_run, pairing_of}
use Rattle.rtps_reader.specs.Step.{StepView, Takes, Changes, Starts, Stops}
use Rattle.rtps_reader.proofs.Begun.{swapped}

-- two writers that are one with a third are one
apart : (m w g : Guid) → same_guid m w ≡ false → same_guid m g ≡ true → same_guid w g ≡ true → true ≡ false
apart m w g differ this that = sym (subst (λ h. same_guid m h ≡ true) (sym (same_is w g that)) this) ∙ differ

-- an end leaves no match with its writer, and the others as they were
pub match_ended : (g w : Guid) (ms : List Match) → match_with g (ended w ms) ≡ (if same_guid w g then None else match_with g ms)
match_ended g w [] = by_test (same_guid w g)
  where
    by_test : (b : Bool) → match_with g [] ≡ (if b then None else match_with g [])
    by_test true = refl
    by_test false = refl
match_ended g w (m ∷ ms) = by_match (same_guid m.pairing.writer w) refl (match_ended g w ms)
  where
    gone : same_guid m.pairing.writer w ≡ true → (t : Bool) → same_guid w g ≡ t → (if t then None else match_with g ms) ≡ (if t then None else match_with g (m ∷ ms))
    gone is true e = refl
    gone is false e =
        let other : same_guid m.pairing.writer g ≡ false = ap (λ h. same_guid h g) (same_is m.pairing.writer w is) ∙ e in
        rw other refl

    by_match : (b : Bool) → same_guid m.pairing.writer w ≡ b → match_with g (ended w ms) ≡ (if same_guid w g then None else match_with g ms)
        → match_with g (ended w (m ∷ ms)) ≡ (if same_guid w g then None else match_with g (m ∷ ms))
    by_match true is rest = rw is (rest ∙ gone is (same_guid w g) refl)
    by_match false is rest =
        rw is (ap (λ o. if same_guid m.pairing.writer g then Some m else o) rest
        ∙ swapped (same_guid m.pairing.writer g) (same_guid w g) (Some m) None (match_with g ms) (λ this that. absurd (true≢false (apart m.pairing.writer w g is this that))))

kept_apart : (a t : Bool) (m : Match) (e : MatchEvent) (z : Option Match) → (a ≡ true → t ≡ true → true ≡ false)
    → (if a then Some m else (if t then option_map (extended_by e) z else z)) ≡ (if t then option_map (extended_by e) (if a then Some m else z) else (if a then Some m else z))
kept_apart true true m e z h = absurd (true≢false (h refl refl))
kept_apart true false m e z h = refl
kept_apart false t m e z h = refl

-- an event extends the match with its writer, and leaves the others as they were
pub match_extended : (g w : Guid) (e : MatchEvent) (ms : List Match) → match_with g (extended w e ms) ≡ (if same_guid w g then option_map (extended_by e) (match_with g ms) else match_with g ms)
match_extended g w e [] = by_test (same_guid w g)
  where
    by_test : (b : Bool) → match_with g [] ≡ (if b then option_map (extended_by e) (match_with g []) else match_with g [])
    by_test true = refl
    by_test false = refl
match_extended g w e (m ∷ ms) = by_match (same_guid m.pairing.writer w) refl (match_extended g w e ms)
  where
    here : same_guid m.pairing.writer w ≡ true → (t : Bool) → same_guid w g ≡ t
        → match_with g (extended_by e m ∷ ms) ≡ (if t then option_map (extended_by e) (match_with g (m ∷ ms)) else match_with g (m ∷ ms))
    here is true same =
        let this : same_guid m.pairing.writer g ≡ true = ap (λ h. same_guid h g) (same_is m.pairing.writer w is) ∙ same in
        rw this refl
    here is false same =
        let other : same_guid m.pairing.writer g ≡ false = ap (λ h. same_guid h g) (same_is m.pairing.writer w is) ∙ same in
        rw other refl

    by_match : (b : Bool) → same_guid m.pairing.writer w ≡ b → match_with g (extended w e ms) ≡ (if same_guid w g then option_map (extended_by e) (match_with g ms) else match_with g ms)
        → match_with g (extended w e (m ∷ ms)) ≡ (if same_guid w g then option_map (extended_by e) (match_with g (m ∷ ms)) else match_with g (m ∷ ms))
    by_match true is rest = rw is (here is (same_guid w g) refl)
    by_match false is rest =
        rw is (ap (λ o. if same_guid m.pairing.writer g then Some m else o) rest
        ∙ kept_apart (same_guid m.pairing.writer g) (same_guid w g) m e (match_with g ms) (apart m.pairing.writer w g is))

-- ---- the order of the matches

abbrev writers_of : List Match → List Guid
writers_of ms = map (λ (m : Match). m.pairing.writer) ms

abbrev InOrder : List Match → Type 0
InOrder ms = IsStrictlySortedBy guid_order (writers_of ms)

guid_total : IsTotalOrder guid_order
guid_total = then_total (on_total (λ (g : Guid). g.prefix.0) nat_list_cmp_total) (on_total (λ (g : Guid). g.entity.0) nat_list_cmp_total)

-- a key that is put in its place keeps the order
module _ {K : Type 0} (R : K → K → Ordering) (o : IsTotalOrder R) where
  all_above : (k x : K) (ys : List K) → R k x ≡ Less → AllByRecursion (λ y. R x y ≡ Less) ys → AllByRecursion (λ y. R k y ≡ Less) ys
  all_above k x [] less above = tt
  all_above k x (y ∷ ys) less above = (o.trans k x y less above.0, all_above k x ys less above.1)

  all_inserted : (P : K → Type 0) (ks : List K) (k : K) → AllByRecursion P ks → P k → AllByRecursion P (insert_key R ks k)
  all_inserted P [] k all p = (p, tt)
  all_inserted P (x ∷ xs) k all p = by_order (R k x) (all_inserted P xs k all.1 p)
    where
      by_order : (r : Ordering) → AllByRecursion P (insert_key R xs k) → AllByRecursion P (match_ordering r (k ∷ x ∷ xs) (x ∷ xs) (x ∷ insert_key R xs k))
      by_order Less rest = (p, all)
      by_order Equal rest = all
      by_order Greater rest = (all.0, rest)

  after_key : (k x : K) → R k x ≡ Greater → R x k ≡ Less
  after_key k x is = o.antisymm x k ∙ ap ordering_reverse is

  pub inserted : (ks : List K) (k : K) → IsStrictlySortedBy R ks → IsStrictlySortedBy R (insert_key R ks k)
  unfolding IsStrictlySortedBy
  inserted [] k up = (tt, tt)
  inserted (x ∷ xs) k up = by_order (R k x) refl (inserted xs k up.1)
    where
      by_order : (r : Ordering) → R k x ≡ r → IsStrictlySortedBy R (insert_key R xs k) → IsStrictlySortedBy R (match_ordering r (k ∷ x ∷ xs) (x ∷ xs) (x ∷ insert_key R xs k))
      by_order Less is rest = ((is, all_above k x xs is up.0), up)
      by_order Equal is rest = up
      by_order Greater is rest = (all_inserted (λ y. R x y ≡ Less) xs k up.0 (after_key k x is), rest)

writers_begun : (m : Match) (ms : List Match) → writers_of (begun m ms) ≡ insert_key guid_order (writers_of ms) m.pairing.writer
writers_begun m [] = refl
writers_begun m (n ∷ ms) = by_order (guid_order m.pairing.writer n.pairing.writer) refl (writers_begun m ms)
  where
    by_order : (o : Ordering) → guid_order m.pairing.writer n.pairing.writer ≡ o → writers_of (begun m ms) ≡ insert_key guid_order (writers_of ms) m.pairing.writer
        → writers_of (begun m (n ∷ ms)) ≡ insert_key guid_order (writers_of (n ∷ ms)) m.pairing.writer
    by_order Less is rest = rw is refl
    by_order Equal is rest = rw is (ap (λ (g : Guid). g ∷ writers_of ms) (sym (exact m.pairing.writer n.pairing.writer is)))
    by_order Greater is rest = rw is (ap (λ (l : List Guid). n.pairing.writer ∷ l) rest)

writers_ended : (w : Guid) (ms : List Match) → writers_of (ended w ms) ≡ filter (λ g. not (same_guid g w)) (writers_of ms)
writers_ended w [] = refl
writers_ended w (m ∷ ms) = by_test (same_guid m.pairing.writer w) refl (writers_ended w ms)
  where
    by_test : (b : Bool) → same_guid m.pairing.writer w ≡ b → writers_of (ended w ms) ≡ filter (λ g. not (same_guid g w)) (writers_of ms)
        → writers_of (ended w (m ∷ ms)) ≡ filter (λ g. not (same_guid g w)) (writers_of (m ∷ ms))
    by_test true is rest = rw is rest
    by_test false is rest = rw is (ap (λ (l : List Guid). m.pairing.writer ∷ l) rest)

writers_extended : (w : Guid) (e : MatchEvent) (ms : List Match) → writers_of (extended w e ms) ≡ writers_of ms
writers_extended w e [] = refl
writers_extended w e (m ∷ ms) = by_test (same_guid m.pairing.writer w) refl (writers_extended w e ms)
  where
    by_test : (b : Bool) → same_guid m.pairing.writer w ≡ b → writers_of (extended w e ms) ≡ writers_of ms → writers_of (extended w e (m ∷ ms)) ≡ writers_of (m ∷ ms)
    by_test true is rest = rw is refl
    by_test false is rest = rw is (ap (λ (l : List Guid). m.pairing.writer ∷ l) rest)

order_begun : (m : Match) (ms : List Match) → InOrder ms → InOrder (begun m ms)
order_begun m ms up = subst (IsStrictlySortedBy guid_order) (sym (writers_begun m ms)) (inserted guid_order guid_total (writers_of ms) m.pairing.writer up)

none_in_order : InOrder []
unfolding IsStrictlySortedBy
none_in_order = tt

order_after : (r : Reader) (d : StepView) → InOrder r.matches → InOrder (reader_after r d).matches
order_after r (Takes w e) up = subst (IsStrictlySortedBy guid_order) (sym (writers_extended w e r.matches)) up
order_after r (Changes (Matches w locators)) up = order_begun (fresh_with r (w, locators)) r.matches up
order_after r (Changes (Unmatches w)) up = subst (IsStrictlySortedBy guid_order) (sym (writers_ended w r.matches)) (IsStrictlySortedBy-filter guid_order (λ g. not (same_guid g w)) (writers_of r.matches) up)
order_after r (Changes (Refuses w policy)) up = up
order_after r (Starts own entity is_reliable) up = none_in_order
order_after r Stops up = none_in_order

order_run : (r : Reader) (ds : List StepView) → InOrder r.matches → InOrder (reader_run r ds).matches
order_run r [] up = up
order_run r (d ∷ ds) up = order_run (reader_after r d) ds (order_after r d up)

order_all : (ms : List Match) (ws : List Pairing) → InOrder ms → InOrder (all_begun ms ws)
order_all ms [] up = up
order_all ms (w ∷ ws) up = order_all (begun (fresh w) ms) ws (order_begun (fresh w) ms up)

pub run_in_order : (own : GuidPrefix) (entity : EntityId) (is_reliable : Bool) (fixed : List Facts) (ds : List StepView) → InOrder (reader_run (first_reader own entity is_reliable fixed) ds).matches
run_in_order own entity is_reliable fixed ds =
    order_run (first_reader own entity is_reliable fixed) ds (order_all [] (map (pairing_of own entity is_reliable) fixed) none_in_order)
