use Rattle.std.proofs.Common.{◌+◌, ◌∙◌, ap, refl, subst, sym}
use Rattle.rtps_reader.specs.declared.stateful.StatefulReader.{StatefulReader}
use Rattle.rtps_reader.proofs.Stopping.{Left, all_gone, none_less, one_less, some_left}
use Rattle.rtps_reader.proofs.stateful.StatefulReader.stop.Goals as goal
use Rattle.rtps_reader.proofs.stateful.StatefulReader.stop.Goals.{in-Some, in_default}

pub loop-init : goal.loop-init
loop-init g c = record {
  left = λ ms all. some_left ms c.args.self.now.matches all;
  counts = refl;
  reader = record { rank = refl; own = refl; entity = refl; reliable = refl };
}

pub loop-preserved : goal.loop-preserved
loop-preserved g c =
    let inv = c.loop.invariant in
    elim c.match-next.branch [
      | in-Some w ↦ record {
        left = λ ms all. subst (λ (s : StatefulReader g.row.A.Denot). Left (c.loop.counter + 1) ms s.matches) (sym w.self-is)
            (one_less c.loop.counter ms w.in-Some.first.now c.next.new.self c.loop.self.matches w.end.new.self (sym c.writers.ensures ∙ w.in-Some.ensures.steps) w.end.ensures (inv.left ms all));
        counts = ap (λ (s : StatefulReader g.row.A.Denot). s.counts) w.self-is ∙ inv.counts;
        reader = record {
          rank = ap (λ (s : StatefulReader g.row.A.Denot). s.rank) w.self-is ∙ inv.reader.rank;
          own = ap (λ (s : StatefulReader g.row.A.Denot). s.own) w.self-is ∙ inv.reader.own;
          entity = ap (λ (s : StatefulReader g.row.A.Denot). s.entity) w.self-is ∙ inv.reader.entity;
          reliable = ap (λ (s : StatefulReader g.row.A.Denot). s.reliable) w.self-is ∙ inv.reader.reliable;
        };
      }
      | in_default w ↦ (let none = rw w.in_default.is at c.next.ensures.steps in record {
        left = λ ms all. subst (λ (s : StatefulReader g.row.A.Denot). Left (c.loop.counter + 1) ms s.matches) (sym w.self-is)
            (none_less c.loop.counter ms c.loop.self.matches (sym c.writers.ensures ∙ none.0) (inv.left ms all));
        counts = ap (λ (s : StatefulReader g.row.A.Denot). s.counts) w.self-is ∙ inv.counts;
        reader = record {
          rank = ap (λ (s : StatefulReader g.row.A.Denot). s.rank) w.self-is ∙ inv.reader.rank;
          own = ap (λ (s : StatefulReader g.row.A.Denot). s.own) w.self-is ∙ inv.reader.own;
          entity = ap (λ (s : StatefulReader g.row.A.Denot). s.entity) w.self-is ∙ inv.reader.entity;
          reliable = ap (λ (s : StatefulReader g.row.A.Denot). s.reliable) w.self-is ∙ inv.reader.reliable;
        };
      })
    ]

pub returns-clause-matches : goal.returns-clause-matches
returns-clause-matches g c = λ ms all. all_gone c.loop.counter ms c.args.self.now.matches c.loop.self.matches all (rw c.len-end.ensures at c.loop-test.false) (c.loop.invariant.left ms all)
