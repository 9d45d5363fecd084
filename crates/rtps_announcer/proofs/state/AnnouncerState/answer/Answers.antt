use Rattle.std.proofs.Common.{◌≡◌, Some, ap, sym, ◌∙◌, rules}
use Rattle.std.specs.Map.{lookup}
use Rattle.std.specs.Option.{option_copied}
use Rattle.rtps_discovery.specs.Known.{same_prefix}
use Rattle.rtps_announcer.proofs.Answering.{answered}
use Rattle.rtps_announcer.proofs.state.AnnouncerState.answer.Goals as goal

pub returns : goal.returns
returns g c =
    let some : lookup (same_prefix c.args.prefix) c.self.inside.peers.entries ≡ Some c.in-Some.peer.now = sym c.get.ensures.value ∙ ap option_copied c.in-Some.is in
    let there : lookup (same_prefix c.args.prefix) c.args.self.now.peers ≡ Some c.in-Some.peer.now = search rules in
    answered c.args.rules c.args.prefix c.args.ack.now c.args.self.now c.in-Some.peer.now c.in_ok-sends.sends.items there (search rules) (search rules)
