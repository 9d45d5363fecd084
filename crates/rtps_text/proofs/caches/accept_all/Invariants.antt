use Rattle.std.specs.Vec.Iter.{drain_items}
use Rattle.rtps_text.proofs.Caching.{GoesOn}
use Rattle.rtps_text.proofs.caches.accept_all.Given as goal

abbrev pub invariant-loop-notice : goal.invariant-loop-notice
invariant-loop-notice g l = GoesOn l.fn.notices.items (drain_items l.notice-iterator) l.fn.cache l.cache
