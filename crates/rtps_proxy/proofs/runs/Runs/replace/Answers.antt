use Rattle.std.proofs.Common.{◌≡◌, ◌+◌, ◌-◌, ◌<◌, ◌≤◌, ◌∙◌, ◌∷◌, ◌++◌, sym, ap, ap₂, length, take, drop, set, arith, length-drop}
use Rattle.std.proofs.lemmas.List.{drop-drop}
use Rattle.rtps_proxy.proofs.Moved.{behind_room, replaced}
use Rattle.rtps_proxy.proofs.runs.Runs.replace.Goals as goal

pub returns-then-len-last : goal.returns-then-len-last
returns-then-len-last g c =
    let all = c.self.inside.list.items in
    let room = c.self.inside.room in
    let from = c.args.from in
    let run = c.args.run in
    let size : length c.args.self.now ≡ length all - room = ap length (sym c.self.view_is) ∙ length-drop room all in
    let fits : room + c.args.to ≤ length all = omega (arith, size, c.requires.within, c.self.inside.within) in
    let some : room + from < room + c.args.to = omega (arith, c.requires.some) in
    let same : room + c.args.to - 1 + 1 ≡ room + c.args.to = omega arith in
    c.less_room-self-inside.ensures.same
    ∙ ap (drop room) (c.cut.ensures ∙ ap (λ k. take (room + from + 1) (set all (room + from) run) ++ drop k (set all (room + from) run)) same ∙ replaced all (room + from) (room + c.args.to) run some fits)
    ∙ behind_room room from c.args.to all run (omega arith)
    ∙ ap (λ v. take from v ++ run ∷ drop c.args.to v) c.self.view_is

pub returns : goal.returns
returns g c =
    let all = c.self.inside.list.items in
    let room = c.self.inside.room in
    let to = c.args.to in
    let run = c.args.run in
    let before : room + c.args.from - room ≡ c.args.from = omega arith in
    let behind : room + to - 1 + 1 ≡ room + to = omega (arith, c.requires.some) in
    c.less_room-self-inside-2.ensures.same
    ∙ c.lift.ensures.items
    ∙ ap₂ (λ k m. take k (drop room all) ++ run ∷ drop m all) before behind
    ∙ ap (λ r. take c.args.from (drop room all) ++ run ∷ r) (sym (drop-drop to room all))
    ∙ ap (λ v. take c.args.from v ++ run ∷ drop to v) c.self.view_is
