-- The members of a set, one offset after the other.
use Rattle.std.proofs.Common.{◌≡◌, ℕ, suc, ◌+◌, ◌-◌, ◌<◌, ◌≤◌, true, false, List, [], ◌∷◌, refl, ◌∙◌, arith}
use Rattle.rtps_types.specs.NumberSet.{names, members_from}

one_offset : (base k bits : ℕ) (words : List ℕ) → k < bits → members_from base words k (bits - k) ≡ members_from base words k (suc (bits - (k + 1)))
one_offset base k bits words h = let e : bits - k ≡ suc (bits - (k + 1)) = omega arith in rw e refl

-- an offset that is named is the next member
pub members_named : (base k bits : ℕ) (words : List ℕ) → k < bits → names words k ≡ true → members_from base words k (bits - k) ≡ (base + k) ∷ members_from base words (k + 1) (bits - (k + 1))
members_named base k bits words h named = one_offset base k bits words h ∙ rw named refl

-- an offset that isn't named is passed over
pub members_unnamed : (base k bits : ℕ) (words : List ℕ) → k < bits → names words k ≡ false → members_from base words k (bits - k) ≡ members_from base words (k + 1) (bits - (k + 1))
members_unnamed base k bits words h named = one_offset base k bits words h ∙ rw named refl

-- after the last offset there is no member
pub members_end : (base k bits : ℕ) (words : List ℕ) → bits ≤ k → members_from base words k (bits - k) ≡ []
members_end base k bits words h = let e : bits - k ≡ 0 = omega arith in rw e refl
