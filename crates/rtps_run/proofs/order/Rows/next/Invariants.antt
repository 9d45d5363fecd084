use Rattle.std.proofs.Common.{◌≡◌, ◌∷◌, ◌-◌, List, [], length, map}
use Rattle.rtps_types.specs.declared.place.Place.{Place}
use Rattle.rtps_reader.specs.Notice.{answer_view}
use Rattle.rtps_run.specs.Order.{answer_place, front, left}
use Rattle.rtps_run.proofs.order.Rows.next.Given as goal

abbrev pub invariant-loop-self : goal.invariant-loop-self
invariant-loop-self g l = record {
  silent : front answer_place l.place (map answer_view l.self.said.now) ≡ [];
  left : (places : List Place)
      → left (l.place ∷ places) (map answer_view l.fn.self.said.now) l.fn.self.rows.items
      l.fn.self.at
      ≡ left (l.place ∷ places) (map answer_view l.self.said.now) l.self.rows.items l.self.at;
}

abbrev pub decreases-loop-self : goal.decreases-loop-self
decreases-loop-self g l = length l.self.rows.items - l.self.at
