-- The dimensions of arrays (DDS-XTypes 7.2.2.4.3).
use Rattle.std.specs.Prelude.{◌≡◌, ◌≤◌, ◌^◌, ◌⊎◌, ℕ, List, []}
use Rattle.dds_xcdr.specs.Product.{product}

-- there is no dimension, no item, or no number of 32 bits for how many items there are
abbrev pub HasNoCount : List ℕ → Type 0
HasNoCount sizes = (sizes ≡ []) ⊎ (product sizes ≡ 0) ⊎ (2 ^ 32 ≤ product sizes)
