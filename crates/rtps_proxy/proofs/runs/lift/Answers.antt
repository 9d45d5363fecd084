use Rattle.std.proofs.Common.{◌∙◌, ◌+◌, ◌-◌, ◌<◌, drop, length, ap, rules}
use Rattle.rtps_proxy.proofs.Moved.{moved_up}
use Rattle.rtps_proxy.proofs.runs.lift.Goals as goal

pub returns-clause-items : goal.returns-clause-items
returns-clause-items g c =
    let all = c.args.list.now.items in
    let within : c.args.last < length all = search rules in
    ap (drop (c.args.place + (c.args.last - c.args.first))) c.copy_within.ensures.items
    ∙ moved_up c.args.place c.args.first c.args.last all c.args.run c.requires.before c.requires.order within
