-- The readers that come at first.
use Rattle.std.proofs.Common.{◌≡◌, List, [], ◌∷◌, map, refl, ap}
use Rattle.rtps_types.specs.declared.identity.GuidPrefix.{GuidPrefix}
use Rattle.rtps_discovery.specs.declared.config.ReaderConfig.{ReaderConfig}
use Rattle.rtps_announcer.specs.declared.hearing.Hearing.{Hearing}
use Rattle.rtps_announcer.specs.declared.hearing.Hearing.TheVariants.{Joins}
use Rattle.dds_announced.specs.Speaker.{own_readers}

-- one comes for each reader of a configuration
pub joins_each : (own : GuidPrefix) (rs : List ReaderConfig)
    → map (λ r. Joins) (own_readers own rs) ≡ map (λ r. Joins) rs
unfolding own_readers
joins_each own [] = refl
joins_each own (r ∷ rs) = ap (λ (l : List Hearing). Joins ∷ l) (joins_each own rs)
