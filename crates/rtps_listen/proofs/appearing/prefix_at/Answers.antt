use Rattle.std.proofs.Common.{List, ℕ, [], ◌∷◌, ◌++◌, ap₂, map}
use Rattle.std.specs.Prelude.{slice_index}
use Rattle.rtps_types.specs.declared.identity.GuidPrefix.{GuidPrefix}
use Rattle.rtps_listen.proofs.appearing.prefix_at.Goals as goal

pub returns : goal.returns
returns c =
    let four : List ℕ → List ℕ = λ octets. map (slice_index octets) (0 ∷ 1 ∷ 2 ∷ 3 ∷ []) in
    let six : List ℕ → List ℕ = λ octets. map (slice_index octets) (2 ∷ 3 ∷ 4 ∷ 5 ∷ 6 ∷ 7 ∷ []) in
    let made : List ℕ → List ℕ → GuidPrefix = λ a t. record { 0 = 0x0b ∷ 0x0b ∷ (four a ++ six t) } in
    ap₂ made c.octets.ensures c.to_be_bytes.ensures
