use Rattle.std.proofs.Common.{◌≡◌, All, length}
use Rattle.rtps_text.specs.Caches.{IsEmpty}
use Rattle.rtps_text.proofs.caches.new_caches.Given as goal

abbrev pub invariant-loop-rank : goal.invariant-loop-rank
invariant-loop-rank g l = record {
  count : length l.caches.items ≡ l._rank;
  empty : All (IsEmpty l.keep) l.caches.items;
}
