-- What contracts see of an ACKNACK (DDSI-RTPS 8.3.7.1).
use Rattle.std.specs.Prelude.{ℕ, ℤ, List, Bool}
use Rattle.rtps_types.specs.NumberSet.{members}
use Rattle.rtps_types.specs.Sets.{sn_view}
use Rattle.rtps_types.specs.declared.set.SnSet.{SnSet}

-- all numbers below its base are acknowledged, and these are asked for
pub record AckView : Type 0 where
  pub base : ℕ
  pub asked : List ℕ
  pub count : ℤ
  -- no answer is wanted
  pub is_final : Bool

-- the ACKNACK with a set of missing numbers
abbrev pub ack_with : SnSet → ℤ → Bool → AckView
ack_with missing count is_final = record {
  base = missing.base;
  asked = members (sn_view missing);
  count = count;
  is_final = is_final;
}
