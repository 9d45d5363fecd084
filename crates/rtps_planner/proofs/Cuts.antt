-- Batches, one after the other.
use Rattle.std.proofs.Common.{◌≡◌, ℕ, List, [], ◌∷◌, refl, sym, ap, ◌∙◌}
use Rattle.std.specs.List.{flat_map}
use Rattle.rtps_types.specs.declared.identity.GuidPrefix.{GuidPrefix}
use Rattle.dds_topic.specs.Decoding.{Decoding}
use Rattle.rtps_run.specs.Input.{Input, index_after_all, occurrences_from}
use Rattle.rtps_run.specs.Run.{first_world, world_run}
use Rattle.rtps_run.specs.World.{World}
use Rattle.rtps_run.proofs.Running.{occurrences_more, world_run-append}
use Rattle.rtps_planner.specs.Cut.{EveryCut, batch_run}

batches_run : {M : Type 0} (decoding : Decoding M) (own : GuidPrefix) (index : ℕ) (w : World M) (batches : List (List Input))
    → batch_run decoding own index w batches ≡ world_run decoding w (occurrences_from own index (flat_map (λ batch. batch) batches))
batches_run decoding own index w [] = refl
batches_run decoding own index w (batch ∷ batches) =
    batches_run decoding own (index_after_all index batch) (world_run decoding w (occurrences_from own index batch)) batches
    ∙ sym (world_run-append decoding w (occurrences_from own index batch) (occurrences_from own (index_after_all index batch) (flat_map (λ batch. batch) batches)))
    ∙ ap (world_run decoding w) (sym (occurrences_more own index batch (flat_map (λ batch. batch) batches)))

pub cuts : {M : Type 0} (decoding : Decoding M) → EveryCut decoding
cuts decoding config batches = batches_run decoding config.own 0 (first_world config) batches
