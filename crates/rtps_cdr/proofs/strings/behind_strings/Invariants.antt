use Rattle.std.proofs.Common.{◌≡◌, ◌-◌, ◌≤◌, length}
use Rattle.rtps_cdr.specs.Reading.{start, placed, place_of, items_in, text_in}
use Rattle.rtps_cdr.proofs.strings.behind_strings.Given as goal

abbrev pub invariant-texts : goal.invariant-texts
invariant-texts l = record {
  within : l.at ≤ length l.octets;
  leads : place_of (items_in text_in (l.count - l.i) (placed (start l.endian l.octets) l.at)) ≡ place_of (items_in text_in l.count (placed (start l.endian l.octets) l.position));
}
