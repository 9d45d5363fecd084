use Rattle.std.proofs.Common.{◌≡◌, ◌<◌, ◌+◌, ◌++◌, ◌∷◌, [], ◌∙◌, ap, arith, get_or, length, map, rules, subst, sym, take}
use Rattle.std.specs.List.{AllByRecursion}
use Rattle.std.proofs.Math.ListN.{get_or-map}
use Rattle.std.proofs.lemmas.List.{length-map, take_more}
use Rattle.rtps_receiver.specs.Events.{EventView, view}
use Rattle.rtps_run.proofs.Places.{all_append}
use Rattle.dds_participant.proofs.decode.count_at.Goals as goal

pub loop-event-preserved : goal.loop-event-preserved
loop-event-preserved c =
    let i = c.loop-event.event-index in
    let items = c.args.events.now in
    let event = c.event-item.result in
    let all = map view items in
    let less : i < length items = search rules in
    let below : i < length all = omega (arith, less, length-map items view) in
    let read : get_or items i event ≡ event = search rules in
    let here : get_or all i (view event) ≡ view event = get_or-map view items i event ∙ ap view read in
    let more : take (i + 1) all ≡ take i all ++ view event ∷ [] = take_more all i (view event) below ∙ ap (λ e. take i all ++ e ∷ []) here in
    let yes : (view event).place.datagram ≡ c.args.index = search rules in
    record {
      count = ap (λ n. n + 1) c.loop-event.invariant.count;
      alike = subst (AllByRecursion (λ (e : EventView). e.place.datagram ≡ c.args.index)) (sym more) (all_append (λ (e : EventView). e.place.datagram ≡ c.args.index) (take i all) (view event ∷ []) c.loop-event.invariant.alike (yes, tt));
    }
