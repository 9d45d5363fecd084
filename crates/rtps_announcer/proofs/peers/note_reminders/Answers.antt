use Rattle.std.proofs.Common.{rules}
use Rattle.std.proofs.lemmas.Map.Made.{map_same_pairs}
use Rattle.rtps_announcer.specs.Peer.{reminded}
use Rattle.rtps_announcer.proofs.peers.note_reminders.Goals as goal

pub returns : goal.returns
returns g c = map_same_pairs _ (reminded c.args.rules c.args.now) _ (λ k v b w f' t. search rules) c.args.peers.now.entries c.retain.new.self.entries c.retain.ensures.filtered
