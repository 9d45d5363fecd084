use Rattle.std.proofs.Common.{◌≡◌, ◌++◌, length}
use Rattle.std.specs.List.{flat_map}
use Rattle.rtps_announcer.specs.Announcing.{news_to}
use Rattle.rtps_announcer.proofs.peers.send_news.Given as goal

-- what was said so far, with what is said to the peers that are left, is all
abbrev pub invariant-entries : goal.invariant-entries
invariant-entries g l =
    l.sends.items ++ flat_map (news_to l.now l.change) l.entries
    ≡ l.fn.sends.items ++ flat_map (news_to l.now l.change) l.peers.entries

abbrev pub decreases-entries : goal.decreases-entries
decreases-entries g l = length l.entries
