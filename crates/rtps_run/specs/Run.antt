-- The run of one thread, which processes the occurrences of all inputs one by one.
use Rattle.std.specs.Prelude.{ℕ, Bool, false, List, [], ◌∷◌, map, filter, slice_index_or, ◌==◌}
use Rattle.rtps_types.specs.declared.identity.EntityId.{EntityId}
use Rattle.rtps_types.specs.declared.identity.GuidPrefix.{GuidPrefix}
use Rattle.rtps_discovery.specs.Addressed.{unknown_entity}
use Rattle.rtps_discovery.specs.declared.config.Config.{Config}
use Rattle.rtps_discovery.specs.declared.config.FixedMatch.{FixedMatch}
use Rattle.rtps_discovery.specs.declared.config.ReaderConfig.{ReaderConfig}
use Rattle.rtps_discovery.specs.Start.{first_known}
use Rattle.dds_topic.specs.Decoding.{Decoding}
use Rattle.rtps_reader.specs.Reader.{Facts, Reader, first_reader}
use Rattle.rtps_run.specs.Input.{Input, occurrences_from}
use Rattle.rtps_run.specs.Occurrence.{Occurrence}
use Rattle.rtps_run.specs.World.{World, is_reliable, world_after}

-- the entity of the reader of a rank
abbrev pub entity_of : List ReaderConfig → ℕ → EntityId
entity_of readers rank = slice_index_or (map (λ r. r.entity) readers) rank unknown_entity

-- the reader of a rank is reliable
abbrev pub is_reliable_at : List ReaderConfig → ℕ → Bool
is_reliable_at readers rank =
    slice_index_or (map (λ r. is_reliable r.requested.policies.reliability) readers) rank false

-- the writers that the reader of a rank has fixed matches with
abbrev pub fixed_of : List FixedMatch → ℕ → List Facts
fixed_of fixed rank = map (λ m. (m.writer, m.locators)) (filter (λ m. m.rank == rank) fixed)

-- the reader of a rank at the start, with these fixed matches
abbrev pub reader_first : GuidPrefix → List ReaderConfig → ℕ → List Facts → Reader
reader_first own readers rank fixed =
    first_reader own (entity_of readers rank) (is_reliable_at readers rank) fixed

-- the world at the start: only our readers and the fixed matches are known, and there were no
-- events
abbrev pub first_world : {M : Type 0} → Config → World M
first_world config = record {
  known = first_known config;
  readers = λ rank.
      reader_first config.own config.readers.items rank (fixed_of config.fixed.items rank);
  put = [];
}

-- the world after these occurrences, one by one
abbrev pub world_run : {M : Type 0} → Decoding M → World M → List Occurrence → World M
world_run decoding w [] = w
world_run decoding w (o ∷ os) = world_run decoding (world_after decoding w o) os

-- the world after a list of inputs
abbrev pub run : {M : Type 0} → Decoding M → Config → List Input → World M
run decoding config inputs =
    world_run decoding (first_world config) (occurrences_from config.own 0 inputs)
