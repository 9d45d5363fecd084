use Rattle.std.proofs.Common.{◌≡◌, ◌-◌, ◌++◌, length}
use Rattle.std.specs.Prelude.{filter, nat_le, take, vec_len}
use Rattle.rtps_announcer.specs.Telling.{wanted}
use Rattle.rtps_announcer.proofs.telling.wanted.Given as goal

-- those so far, with the number of the rest that may follow, are all
abbrev pub invariant-left : goal.invariant-left
invariant-left g l =
    l.numbers.items ++ take (l.most - vec_len l.numbers) (filter (λ n. nat_le n l.last) l.left)
    ≡ wanted l.most l.last l.ack

abbrev pub decreases-left : goal.decreases-left
decreases-left g l = length l.left
