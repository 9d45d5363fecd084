-- Batches: a cut of a list of inputs.
use Rattle.std.specs.Prelude.{◌≡◌, ℕ, List, [], ◌∷◌}
use Rattle.std.specs.List.{flat_map}
use Rattle.rtps_types.specs.declared.identity.GuidPrefix.{GuidPrefix}
use Rattle.rtps_discovery.specs.declared.config.Config.{Config}
use Rattle.dds_topic.specs.Decoding.{Decoding}
use Rattle.rtps_run.specs.Input.{Input, index_after_all, occurrences_from}
use Rattle.rtps_run.specs.Run.{first_world, run, world_run}
use Rattle.rtps_run.specs.World.{World}

-- the run that takes batch after batch, from a world after `index` datagrams
abbrev pub batch_run : {M : Type 0} → Decoding M → GuidPrefix → ℕ → World M → List (List Input)
    → World M
batch_run decoding own index w [] = w
batch_run decoding own index w (batch ∷ batches) =
    batch_run decoding own (index_after_all index batch)
    (world_run decoding w (occurrences_from own index batch)) batches

-- every cut of a list of inputs into batches gives the run of the list
abbrev pub EveryCut : {M : Type 0} → Decoding M → Type 0
EveryCut decoding = (config : Config) (batches : List (List Input))
    → batch_run decoding config.own 0 (first_world config) batches
    ≡ run decoding config (flat_map (λ batch. batch) batches)
