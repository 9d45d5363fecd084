use Rattle.std.proofs.Common.{◌≡◌, ◌+◌, ◌-◌, ◌∷◌, ◌++◌, ◌≤◌, ◌∙◌, sym, ap, length, take, drop, arith, length-drop}
use Rattle.std.proofs.lemmas.List.{drop-drop}
use Rattle.rtps_proxy.proofs.Moved.{behind_room}
use Rattle.rtps_proxy.proofs.runs.Runs.insert.Goals as goal

pub returns-then-count-at : goal.returns-then-count-at
returns-then-count-at g c =
    let all = c.self.inside.list.items in
    let room = c.self.inside.room in
    let size : length c.args.self.now ≡ length all - room = ap length (sym c.self.view_is) ∙ length-drop room all in
    let fits : room + c.args.at ≤ length all = omega (arith, size, c.requires, c.self.inside.within) in
    record { items = rw (c.in_ok-insert.ensures.items, ← c.self.view_is) (behind_room room c.args.at c.args.at all c.args.run fits) }

pub returns : goal.returns
returns g c =
    let place = c.in_ok-place.place in
    let all = c.place_before.new.list.items in
    record {
      items = c.put_down.ensures.items
          ∙ ap (λ r. take c.args.at (drop (place + 1) all) ++ c.args.run ∷ r) (sym (drop-drop c.args.at (place + 1) all))
          ∙ ap (λ v. take c.args.at v ++ c.args.run ∷ drop c.args.at v) (c.in_ok-place.ensures.behind ∙ c.self.view_is);
    }
