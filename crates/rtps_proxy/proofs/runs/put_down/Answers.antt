use Rattle.std.proofs.Common.{◌≡◌, ◌∙◌, ◌+◌, ◌-◌, ◌<◌, drop, length, set, ap, arith, rules}
use Rattle.std.proofs.Math.Seq.{paste}
use Rattle.rtps_proxy.proofs.Moved.{moved_down}
use Rattle.rtps_proxy.proofs.runs.put_down.Goals as goal

pub returns-clause-items : goal.returns-clause-items
returns-clause-items g c =
    let all = c.args.list.now.items in
    let place = c.args.place in
    let count : (place + 1 + c.args.count) - (place + 1) ≡ c.args.count = omega arith in
    let within : place + c.args.count < length all = search rules in
    ap (λ l. drop place (set l (place + c.args.count) c.args.run)) (c.copy_within.ensures.items ∙ ap (λ k. paste all place (drop (place + 1) all) k) count)
    ∙ moved_down place c.args.count all c.args.run within
