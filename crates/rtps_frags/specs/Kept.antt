-- The state of an assembly.
use Rattle.std.specs.Prelude.{◌≡◌, ℕ, Bool, true, false, not, ◌&&◌, List, Option, Some}
use Rattle.rtps_frags.specs.declared.sizes.Sizes.{Sizes}
use Rattle.rtps_frags.specs.declared.fault.AddError.{AddError}
use Rattle.rtps_frags.specs.declared.fault.AddError.TheVariants.{Fault, NoMemory}
use Rattle.rtps_frags.specs.declared.fault.FragFault.{FragFault}
use Rattle.rtps_frags.specs.Fragments.{There, is_whole, with_fragments}

-- an assembly: the sizes, the received fragments, and whether it is spent
pub record AssemblyView : Type 0 where
  pub sizes : Sizes
  pub there : There
  -- the allocator refused a growth: fragments may be stored in part
  pub spent : Bool

-- the assembly with `count` more fragments from `start` on
abbrev pub with_part : AssemblyView → ℕ → ℕ → List ℕ → AssemblyView
with_part a start count octets =
    record {
      sizes = a.sizes;
      there = with_fragments a.sizes start octets a.there start count;
      spent = false;
    }

-- the state after an error: a fault changes nothing, and a refused growth leaves the assembly spent
abbrev pub Leaves : AssemblyView → AssemblyView → Option FragFault → AddError → Type 0
Leaves old new fault (Fault f) = (fault ≡ Some f) × (new ≡ old)
Leaves old new fault NoMemory = new.spent ≡ true

-- the sample is complete, and no growth was refused
abbrev pub has_come : AssemblyView → Bool
has_come a = not a.spent && is_whole a.sizes a.there
