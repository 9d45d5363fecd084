use Rattle.std.proofs.Common.{◌≡◌, ◌+◌, ◌<◌, ◌^◌, ◌∷◌, [], List, Option, arith, drop, length, map, sym, ap, ◌∙◌, rules, subst}
use Rattle.std.specs.Prelude.{option_to_list}
use Rattle.std.specs.List.{flat_map}
use Rattle.std.proofs.lemmas.List.{at_drop_all, drop_more}
use Rattle.rtps_proxy.specs.Change.{change_view, ChangeView}
use Rattle.rtps_proxy.specs.declared.change.Change.{Change}
use Rattle.rtps_discovery.specs.Announcement.{Announcement}
use Rattle.rtps_discovery.specs.Ignored.{silent_among}
use Rattle.rtps_discovery.specs.Kept.{kept}
use Rattle.rtps_discovery.specs.Records.{endpoint_in}
use Rattle.rtps_discovery.specs.Seen.{change_seen}
use Rattle.rtps_discovery.proofs.Applying.{Onward, ends, some_more, starts}
use Rattle.rtps_discovery.proofs.Ignoring.{silent_few, silent_next}
use Rattle.rtps_discovery.proofs.registry.Registry.apply_ready.Goals as goal

pub loop-change-init : goal.loop-change-init
loop-change-init g c = record {
  onward = λ k is. starts k (flat_map (λ s. option_to_list (endpoint_in c.args.writer.prefix c.args.writer.entity s)) (map change_view c.args.ready.now)) (kept c.args.self.now) (map change_seen c.args.changes.now.items) is;
  ignored = omega arith;
  few = omega arith;
}

pub loop-change-preserved : goal.loop-change-preserved
loop-change-preserved g c =
    let i = c.loop-change.change-index in
    let change = c.change-item.result in
    let ready = c.args.ready.now in
    let left = drop (i + 1) ready in
    let cut : drop i ready ≡ change ∷ left = drop_more ready i change c.loop-change-test.true ∙ ap (λ (x : Change g.row.A.Denot). x ∷ left) (sym c.change-item.is) in
    let said : ChangeView → List Announcement = λ s. option_to_list (endpoint_in c.args.writer.prefix c.args.writer.entity s) in
    let record_of : ChangeView → Option Announcement = endpoint_in c.args.writer.prefix c.args.writer.entity in
    let all = flat_map said (map change_view ready) in
    let earlier = map change_seen c.args.changes.now.items in
    let told = map change_seen c.loop-change.changes.items in
    let before = kept c.loop-change.self in
    record {
      onward = λ k is.
          let on : Onward k (flat_map said (map change_view (change ∷ left))) all before earlier told =
          subst (λ (l : List (Change g.row.A.Denot)). Onward k (flat_map said (map change_view l)) all before earlier told) cut (c.loop-change.invariant.onward k is) in
          some_more k (said (change_view change)) (flat_map said (map change_view left)) all before (kept c.apply_change.new.self) earlier told (map change_seen c.apply_change.new.changes.items) c.in_ok-ignored.ensures.applied on;
      ignored =
          let here = c.in_ok-ignored.ensures.ignored in
          let next : silent_among (map record_of (map change_view (drop i ready))) ≡ silent_among (record_of (change_view change) ∷ []) + silent_among (map record_of (map change_view left))
          = ap (λ (l : List (Change g.row.A.Denot)). silent_among (map record_of (map change_view l))) cut ∙ silent_next (record_of (change_view change)) (map record_of (map change_view left)) in
          omega (arith, here, next, c.loop-change.invariant.ignored);
      few = omega (arith, c.in_ok-ignored.ensures.ignored, silent_few (record_of (change_view change) ∷ []), c.loop-change.invariant.few);
    }

pub overflow_add-ignored : goal.overflow_add-ignored
overflow_add-ignored g c =
    let ready = c.args.ready.now in
    let record_of : ChangeView → Option Announcement = endpoint_in c.args.writer.prefix c.args.writer.entity in
    let less : c.loop-change.change-index < length ready = c.loop-change-test.true in
    let bound : length ready < 2 ^ 64 = search rules in
    omega (arith, c.in_ok-ignored.ensures.ignored, silent_few (record_of (change_view c.change-item.result) ∷ []), c.loop-change.invariant.few, less, bound)

pub returns-clause-applied : goal.returns-clause-applied
returns-clause-applied g c =
    let i = c.loop-change.change-index in
    let ready = c.args.ready.now in
    let said : ChangeView → List Announcement = λ s. option_to_list (endpoint_in c.args.writer.prefix c.args.writer.entity s) in
    let all = flat_map said (map change_view ready) in
    let earlier = map change_seen c.args.changes.now.items in
    let told = map change_seen c.loop-change.changes.items in
    let now = kept c.loop-change.self in
    let none : drop i ready ≡ [] = at_drop_all (λ (l : List (Change g.row.A.Denot)). l) ready i c.loop-change-test.false in
    ends all (kept c.args.self.now) now earlier told (λ k is. subst (λ (l : List (Change g.row.A.Denot)). Onward k (flat_map said (map change_view l)) all now earlier told) none (c.loop-change.invariant.onward k is))

pub returns-clause-ignored : goal.returns-clause-ignored
returns-clause-ignored g c =
    let i = c.loop-change.change-index in
    let ready = c.args.ready.now in
    let record_of : ChangeView → Option Announcement = endpoint_in c.args.writer.prefix c.args.writer.entity in
    let none : drop i ready ≡ [] = at_drop_all (λ (l : List (Change g.row.A.Denot)). l) ready i c.loop-change-test.false in
    let left : silent_among (map record_of (map change_view (drop i ready))) ≡ 0 = ap (λ (l : List (Change g.row.A.Denot)). silent_among (map record_of (map change_view l))) none in
    omega (arith, left, c.loop-change.invariant.ignored)
