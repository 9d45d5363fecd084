-- The events of one datagram more, and the events of datagrams, cut by datagram.
use Rattle.std.proofs.Common.{◌≡◌, ◌==◌, ℕ, zero, suc, ◌+◌, ◌<◌, ◌≤◌, List, [], ◌∷◌, ◌++◌, false, length, map, take, get_or, refl, sym, ap, ◌∙◌, subst, arith, append-nil, length-take}
use Rattle.std.specs.Prelude.{drop}
use Rattle.std.specs.List.{AllByRecursion}
use Rattle.std.proofs.lemmas.Bool.Decides.{nat_tests}
use Rattle.std.proofs.lemmas.List.{drop_more, map-append, take_more}
use Rattle.rtps_types.specs.declared.datagram.Datagram.{Datagram}
use Rattle.rtps_types.specs.declared.identity.GuidPrefix.{GuidPrefix}
use Rattle.rtps_receiver.specs.declared.counters.Counters.{Counters}
use Rattle.rtps_receiver.specs.Counters.{all_counted, counted}
use Rattle.rtps_receiver.specs.Events.{EventView, events_of}
use Rattle.rtps_receiver.proofs.Summing.{all_counted_apart}
use Rattle.dds_participant.specs.Decode.{octets_of}
use Rattle.rtps_run.specs.Input.{arrived, events_from, index_after_all}
use Rattle.rtps_run.proofs.Running.{events_more}
use Rattle.rtps_planner.specs.Stamped.{AreStamped, IsStamped, events_in}
use Rattle.rtps_planner.proofs.Stamping.{arrived_from, of_one}
use Rattle.rtps_planner.specs.declared.stamped.Stamped.{Stamped}
use Rattle.dds_participant.proofs.Taken.{datagrams_counted}

pub decoded_more : (own : GuidPrefix) (first at : ℕ) (ds : List Datagram) (d : Datagram) (new old : List EventView) → at < length ds
    → new ≡ old ++ events_of own (first + at) (get_or ds at d).bytes.now → old ≡ events_from own first (map arrived (take at ds)) → new ≡ events_from own first (map arrived (take (at + 1) ds))
decoded_more own first at ds d new old below added before =
    let x : Datagram = get_or ds at d in
    let front = take at ds in
    let count : index_after_all first (map arrived front) ≡ first + at =
    datagrams_counted first front ∙ (let n : length front ≡ at = omega (arith, below, length-take at ds) in ap (λ k. first + k) n) in
    added
    ∙ ap (λ l. l ++ events_of own (first + at) x.bytes.now) before
    ∙ ap (λ l. events_from own first (map arrived front) ++ l) (sym (append-nil (events_of own (first + at) x.bytes.now)) ∙ ap (λ k. events_of own k x.bytes.now ++ []) (sym count))
    ∙ sym (events_more own first (map arrived front) (arrived x ∷ []))
    ∙ ap (events_from own first) (sym (map-append arrived front (x ∷ [])) ∙ ap (map arrived) (sym (take_more ds at d below)))

-- one datagram more is counted
pub counted_more : (own : GuidPrefix) (at : ℕ) (ds : List Datagram) (d : Datagram) (c : Counters) → at < length ds
    → all_counted own (octets_of (take (at + 1) ds)) c ≡ counted own (get_or ds at d).bytes.now (all_counted own (octets_of (take at ds)) c)
counted_more own at ds d c below =
    ap (λ l. all_counted own (octets_of l) c) (take_more ds at d below)
    ∙ ap (λ l. all_counted own l c) (map-append (λ (e : Datagram). e.bytes.now) (take at ds) (get_or ds at d ∷ []))
    ∙ all_counted_apart own (octets_of (take at ds)) ((get_or ds at d).bytes.now ∷ []) c

-- ---- the events of one datagram, before those of later ones

abbrev AllAt : ℕ → List EventView → Type 0
AllAt index es = AllByRecursion (λ (e : EventView). e.place.datagram ≡ index) es

-- the next event, if there is one, is none of a datagram
abbrev Ends : ℕ → ℕ → List EventView → Type 0
Ends index n es = (d : EventView) → n < length es → ((get_or es n d).place.datagram == index) ≡ false

-- those at the front that are of a datagram
front_is : (index n : ℕ) (xs ys : List EventView) → n ≤ length (xs ++ ys) → AllAt index xs → AllByRecursion (λ (e : EventView). index + 1 ≤ e.place.datagram) ys
    → AllAt index (take n (xs ++ ys)) → Ends index n (xs ++ ys) → (take n (xs ++ ys) ≡ xs) × (drop n (xs ++ ys) ≡ ys)
front_is index zero [] ys within here later alike ends = (refl, refl)
front_is index (suc n) [] [] within here later alike ends = absurd (omega (arith, within))
front_is index (suc n) [] (y ∷ ys) within here later alike ends = absurd (omega (arith, later.0, alike.0))
front_is index zero (x ∷ xs) ys within here later alike ends =
    let first : (x.place.datagram == index) ≡ false = ends x (omega arith) in
    let is : x.place.datagram ≡ index = here.0 in
    absurd (grind (arith, nat_tests))
front_is index (suc n) (x ∷ xs) ys within here later alike ends =
    let rest = front_is index n xs ys (omega (arith, within)) here.1 later alike.1 (λ d less. ends d (omega (arith, less))) in
    (ap (λ l. x ∷ l) rest.0, rest.1)

-- one datagram more
stamped_more : (own : GuidPrefix) (first : ℕ) (ds : List Datagram) (all : List Stamped) (d : Datagram) (s : Stamped) → AreStamped own first ds all → IsStamped own (first + length ds) d s → AreStamped own first (ds ++ d ∷ []) (all ++ s ∷ [])
stamped_more own first [] [] d s are one = let same : first + 0 ≡ first = omega arith in (subst (λ n. IsStamped own n d s) same one, tt)
stamped_more own first [] (t ∷ all) d s are one = absurd are
stamped_more own first (e ∷ ds) [] d s are one = absurd are
stamped_more own first (e ∷ ds) (t ∷ all) d s are one =
    let same : first + length (e ∷ ds) ≡ first + 1 + length ds = omega arith in
    (are.0, stamped_more own (first + 1) ds all d s are.1 (subst (λ n. IsStamped own n d s) same one))

module _ (own : GuidPrefix) (first at count : ℕ) (ds : List Datagram) (rest : List EventView) (x : Datagram) (below : at < length ds) (left : rest ≡ events_from own (first + at) (map arrived (drop at ds)))
    (within : count ≤ length rest) (alike : AllAt (first + at) (take count rest)) (ends : Ends (first + at) count rest) where
  abbrev here : List EventView
  here = events_of own (first + at) (get_or ds at x).bytes.now

  abbrev later : List EventView
  later = events_from own (first + at + 1) (map arrived (drop (at + 1) ds))

  split : rest ≡ here ++ later
  split = left ∙ ap (λ l. events_from own (first + at) (map arrived l)) (drop_more ds at x below)

  both : (take count (here ++ later) ≡ here) × (drop count (here ++ later) ≡ later)
  both =
      let known = subst (λ l. (count ≤ length l) × (AllAt (first + at) (take count l) × Ends (first + at) count l)) split (within, (alike, ends)) in
      front_is (first + at) count here later known.0 (of_one own (first + at) (get_or ds at x).bytes.now) (arrived_from own (first + at + 1) (drop (at + 1) ds)) known.1.0 known.1.1

  -- the events of the next datagram come first, and those of the others are left
  pub left_more : drop count rest ≡ events_from own (first + (at + 1)) (map arrived (drop (at + 1) ds))
  left_more = let next : first + at + 1 ≡ first + (at + 1) = omega arith in ap (drop count) split ∙ both.1 ∙ ap (λ n. events_from own n (map arrived (drop (at + 1) ds))) next

  pub cut_more : (all : List Stamped) (s : Stamped) → AreStamped own first (take at ds) all → s.moment ≡ (get_or ds at x).moment → s.index ≡ first + at → events_in s ≡ take count rest → AreStamped own first (take (at + 1) ds) (all ++ s ∷ [])
  cut_more all s are moment index events =
      let n : length (take at ds) ≡ at = omega (arith, below, length-take at ds) in
      let one : IsStamped own (first + at) (get_or ds at x) s = record { moment = moment; index = index; events = events ∙ ap (take count) split ∙ both.0 } in
      subst (λ l. AreStamped own first l (all ++ s ∷ [])) (sym (take_more ds at x below))
      (stamped_more own first (take at ds) all (get_or ds at x) s are (subst (λ m. IsStamped own m (get_or ds at x) s) (ap (λ k. first + k) (sym n)) one))
