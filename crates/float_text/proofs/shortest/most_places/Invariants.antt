use Rattle.std.proofs.Common.{◌≡◌, ◌*◌, ◌^◌, ◌<◌, ◌≤◌, length}
use Rattle.float_text.specs.Digits.{number_of}
use Rattle.float_text.specs.Shortest.{places_of, places_up_to}
use Rattle.float_text.specs.Held.{held}
use Rattle.float_text.proofs.shortest.most_places.Given as goal

abbrev pub invariant-loop-places : goal.invariant-loop-places
invariant-loop-places l =
    (places_of (held l.twice l.low l.high l.even) ≡ places_up_to (held l.twice l.low l.high l.even) l.places)
    × (number_of l.high < 2 ^ 62 * 10 ^ l.places) × (l.places ≤ length l.high)

abbrev pub decreases-loop-places : goal.decreases-loop-places
decreases-loop-places l = l.places
