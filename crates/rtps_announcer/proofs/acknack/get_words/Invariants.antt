use Rattle.std.proofs.Common.{◌≡◌, ◌+◌, ◌-◌, ◌*◌, ◌≤◌, ◌++◌, length, drop}
use Rattle.std.specs.Prelude.{replicate}
use Rattle.rtps_wire.specs.NumberSet.{words_in}
use Rattle.rtps_announcer.proofs.acknack.get_words.Given as goal

abbrev pub invariant-loop-k : goal.invariant-loop-k
invariant-loop-k l =
    (l.at + 4 * l.k ≤ length l.octets) × (l.words ≡ words_in l.endian l.k (drop l.at l.octets) ++ replicate (8 - l.k) 0)
