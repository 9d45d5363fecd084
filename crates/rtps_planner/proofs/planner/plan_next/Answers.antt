use Rattle.std.proofs.Common.{◌≡◌, ◌<◌, ◌≤◌, ◌+◌, ◌++◌, ◌∷◌, [], ◌∙◌, ap, arith, get_or, length, map, refl, rules, subst, sym}
use Rattle.std.specs.Prelude.{take}
use Rattle.std.proofs.Math.ListN.{get_or-map}
use Rattle.std.proofs.lemmas.List.{get_or-take, length-map, length-take, take-map}
use Rattle.rtps_receiver.specs.Events.{EventView, view}
use Rattle.rtps_run.specs.Occurrence.{Came}
use Rattle.rtps_planner.specs.Plan.{EndsAt, IsPlanned, ReadsAs, longer}
use Rattle.rtps_planner.proofs.Bursts.{one_of}
use Rattle.rtps_planner.proofs.Going.{ends_longer, goes_on, longer_not, users_open}
use Rattle.rtps_planner.proofs.planner.plan_next.Goals as goal

pub returns-clause-ends : goal.returns-clause-ends
returns-clause-ends g c = subst (λ o. EndsAt o (c.args.first + c.go_on-count.result)) (sym c.go_on-count.ensures.longer) (ends_longer c.args.planning.now.burst c.args.first c.go_on-count.result c.requires.ends)

pub returns-then-is_discovery-clause-planned : goal.returns-then-is_discovery-clause-planned
returns-then-is_discovery-clause-planned g c = λ k es known reads.
    let items = c.args.rest.now in
    let all = map view items in
    let event = c.index-rest-0.result in
    let less : 0 < length items = search rules in
    let below : 0 < length all = omega (arith, less, length-map items view) in
    let read : get_or items 0 event ≡ event = search rules in
    let here : get_or all 0 (view event) ≡ view event = get_or-map view items 0 event ∙ ap view read in
    let one : take 1 all ≡ view event ∷ [] = one_of all 0 (view event) below here in
    subst (λ run. IsPlanned es k (map Came run) c.args.planning.now c.plan_announcement.new.planning c.plan_announcement.new.discovery.kept) (sym one)
    (c.in_ok-plan_announcement.ensures.planned k es known (sym c.is_discovery.ensures ∙ c.if-is_discovery.true))

pub returns-then-count-eq0-clause-planned : goal.returns-then-count-eq0-clause-planned
returns-then-count-eq0-clause-planned g c = λ k es known reads.
    let items = c.args.rest.now in
    let all = map view items in
    let event = c.index-rest-0.result in
    let old = c.args.planning.now in
    let new = c.open_burst.new.planning in
    let kept = c.args.discovery.now.kept in
    let less : 0 < length items = search rules in
    let below : 0 < length all = omega (arith, less, length-map items view) in
    let read : get_or items 0 event ≡ event = search rules in
    let here : get_or all 0 (view event) ≡ view event = get_or-map view items 0 event ∙ ap view read in
    let one : take 1 all ≡ view event ∷ [] = one_of all 0 (view event) below here in
    let zero : c.go_on-count.result ≡ 0 = search rules in
    let burst : c.go_on-count.new.burst ≡ old.burst = c.go_on-count.ensures.longer ∙ ap (λ n. longer n old.burst) zero ∙ longer_not old.burst in
    let same : record old { burst = c.go_on-count.new.burst } ≡ old = ap (λ o. record old { burst = o }) burst in
    subst (λ run. IsPlanned es k (map Came run) old new kept) (sym one)
    (subst (λ p. IsPlanned es k (Came (view event) ∷ []) p new kept) same
    (c.in_ok-open_burst.ensures.planned k es known (sym c.is_discovery.ensures ∙ c.if-is_discovery.false) (subst (λ run. ReadsAs run es c.args.first) one reads)))

pub returns-clause-planned : goal.returns-clause-planned
returns-clause-planned g c = λ k es known reads.
    let items = c.args.rest.now in
    let all = map view items in
    let event = c.index-rest-0.result in
    let old = c.args.planning.now in
    let kept = c.args.discovery.now.kept in
    let n = c.go_on-count.result in
    let run = take n all in
    let some : 0 < n = search rules in
    let fits : n ≤ length items = c.go_on-count.ensures.within in
    let counted : length run ≡ n = omega (arith, length-take n all, fits, length-map items view) in
    let read : get_or items 0 event ≡ event = search rules in
    let first : get_or run 0 (view event) ≡ view event = get_or-take n all 0 (view event) some ∙ get_or-map view items 0 event ∙ ap view read in
    let others = sym c.is_discovery.ensures ∙ c.if-is_discovery.false in
    let users = users_open old.burst run (view event) (omega (arith, some, counted)) first c.go_on-count.ensures.alike others in
    let places = c.in_ok-add_places.ensures ∙ ap (λ l. old.places.items ++ map (λ (e : EventView). e.place) l) (sym (take-map view n items)) in
    goes_on es k old _ kept old.burst run c.args.first n refl c.go_on-count.ensures.longer refl some counted c.go_on-count.ensures.alike c.requires.ends users known reads refl places refl
