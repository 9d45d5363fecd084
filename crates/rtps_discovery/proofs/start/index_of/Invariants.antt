use Rattle.std.proofs.Common.{◌≡◌, drop, map, false}
use Rattle.std.specs.List.{list_any}
use Rattle.rtps_types.specs.declared.identity.Guid.{Guid}
use Rattle.rtps_proxy.specs.Matches.{is_at}
use Rattle.rtps_discovery.specs.Kept.{ranks_at}
use Rattle.rtps_discovery.specs.Start.{fixed_ranks, pair_of}
use Rattle.rtps_discovery.specs.declared.config.FixedMatch.{FixedMatch}
use Rattle.rtps_discovery.proofs.start.index_of.Given as goal

-- the ranks are there of each writer that no pair that is left names
abbrev pub invariant-loop-pair : goal.invariant-loop-pair
invariant-loop-pair g l = (q : Guid) → list_any (λ (p : FixedMatch). is_at p.writer q) (drop l.pair-index l.pairs) ≡ false
    → ranks_at q l.index.entries ≡ fixed_ranks (map pair_of l.fn.pairs) l.fn.readers q
