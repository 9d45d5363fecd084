use Rattle.std.proofs.Common.{◌≡◌, ◌==◌, ◌<◌, ◌≤◌, ◌+◌, ◌-◌, ℕ, List, [], ◌∷◌, ◌∙◌, false, ap, arith, get_or, length, map, refl, rules, subst, sym, take}
use Rattle.std.specs.Prelude.{drop}
use Rattle.std.specs.List.{AllByRecursion}
use Rattle.std.proofs.lemmas.List.{drop-drop, drop-map, get_or-map, length-drop, length-map, length-take, take-map, take_rest}
use Rattle.rtps_receiver.specs.declared.event.Event.{Event}
use Rattle.rtps_receiver.specs.Events.{EventView, view}
use Rattle.rtps_run.specs.Input.{arrived, events_from}
use Rattle.rtps_planner.specs.Stamped.{AreStamped}
use Rattle.dds_participant.proofs.Decoding.{cut_more, left_more}
use Rattle.dds_participant.proofs.decode.stamped.Goals as goal

some_event : (es : List Event) (n : ℕ) → n < length es → Event
some_event [] n less = absurd (omega (arith, less))
some_event (e ∷ es) n less = e

pub loop-at-preserved : goal.loop-at-preserved
loop-at-preserved c =
    let i = c.loop-at.at in
    let n = c.loop-at.next in
    let k = c.count_at.result in
    let first = c.args.first in
    let ds = c.args.datagrams.now in
    let items = c.args.events.now in
    let part = take (length items - n) (drop n items) in
    let rest = drop n (map view items) in
    let seen : map view part ≡ rest = ap (map view) (take_rest items n) ∙ sym (drop-map view n items) in
    let size : length part ≡ length rest = sym (length-map part view) ∙ ap (λ (l : List EventView). length l) seen in
    let below : i < length ds = search rules in
    let fits : k ≤ length part = c.count_at.ensures.within in
    let within : k ≤ length rest = omega (arith, fits, size) in
    let alike : AllByRecursion (λ (e : EventView). e.place.datagram ≡ first + i) (take k rest) = subst (λ (l : List EventView). AllByRecursion (λ (e : EventView). e.place.datagram ≡ first + i) (take k l)) seen c.count_at.ensures.alike in
    let ends : (d : EventView) → k < length rest → ((get_or rest k d).place.datagram == (first + i)) ≡ false =
    λ d less.
    let inside : k < length part = omega (arith, less, size) in
    let other = some_event part k inside in
    let here : get_or rest k d ≡ view (get_or part k other) = ap (λ (l : List EventView). get_or l k d) (sym seen) ∙ get_or-map view part k other d inside in
    ap (λ (e : EventView). e.place.datagram == (first + i)) here ∙ c.count_at.ensures.ends other inside in
    record {
      within = omega (arith, fits, length-take (length items - n) (drop n items), length-drop n items, c.loop-at.invariant.within);
      cut = λ own e.
          let left : rest ≡ events_from own (first + i) (map arrived (drop i ds)) = drop-map view n items ∙ c.loop-at.invariant.left own e in
          let same : n + k - n ≡ k = omega arith in
          subst (AreStamped own first (take (i + 1) ds)) (sym c.in_ok-push_stamped.ensures)
          (cut_more own first i k ds rest _ below left within alike ends c.loop-at.all.items _ (c.loop-at.invariant.cut own e) refl refl
          (ap (λ m. map view (take m (drop n items))) same ∙ sym (take-map view k (drop n items)) ∙ ap (take k) (sym (drop-map view n items))));
      left = λ own e.
          let left : rest ≡ events_from own (first + i) (map arrived (drop i ds)) = drop-map view n items ∙ c.loop-at.invariant.left own e in
          sym (drop-map view (n + k) items) ∙ sym (drop-drop k n (map view items))
          ∙ left_more own first i k ds rest (record { moment = 0; bytes = record { ref_ptr = (0, 0); now = [] } }) below left within alike ends;
    }
