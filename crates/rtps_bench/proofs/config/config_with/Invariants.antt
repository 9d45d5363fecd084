use Rattle.std.proofs.Common.{◌≡◌, map}
use Rattle.rtps_discovery.specs.Start.{wish_of}
use Rattle.rtps_bench.specs.Configs.{matches_of, own, readers_of}
use Rattle.rtps_bench.proofs.config.config_with.Given as goal

abbrev pub invariant-loop-rank : goal.invariant-loop-rank
invariant-loop-rank l =
    (l.config.own ≡ own)
    × (map wish_of l.config.readers.items ≡ readers_of l.options.topic.now l.options.topics l.rank)
    × (l.config.fixed.items ≡ matches_of l.writer l.rank)
