-- The payload of a complete sample (DDSI-RTPS 8.4.14.1).
use Rattle.std.specs.Prelude.{◌≡◌, ℕ, ◌+◌, ◌-◌, ◌<◌, ◌≤◌, List, [], ◌∷◌, length, None, true}
use Rattle.std.specs.List.{AllByRecursion}
use Rattle.rtps_frags.specs.declared.sizes.Sizes.{Sizes}
use Rattle.rtps_frags.specs.Fragments.{There, before, fault_of, fragment_in, is_whole, last_of, payload_of, upto, with_fragments}

-- fragments of the right lengths, by rising number
abbrev pub AreFragments : Sizes → ℕ → There → Type 0
AreFragments z low [] = Unit {0}
AreFragments z low (f ∷ fs) =
    (low < f.0) × (f.0 ≤ last_of z) × (length f.1 ≡ upto z f.0 - before z f.0)
    × AreFragments z f.0 fs

-- the contents of a DATA_FRAG: `count` fragments from `start` on, and octets that begin with theirs
pub record Part : Type 0 where
  pub start : ℕ
  pub count : ℕ
  pub octets : List ℕ

-- the received fragments after these parts, the newest part first
abbrev pub there_after : Sizes → List Part → There
there_after z [] = []
there_after z (p ∷ ps) = with_fragments z p.start p.octets (there_after z ps) p.start p.count

-- a part without a fault, whose fragments are those of a payload
pub record IsPartOf (z : Sizes) (payload : List ℕ) (p : Part) : Type 0 where
  pub faultless : fault_of z p.start p.count (length p.octets) ≡ None
  pub same : (k : ℕ) → p.start ≤ k → k < p.start + p.count
      → fragment_in z p.start p.octets k ≡ fragment_in z 1 payload k

-- parts of one payload, in any order and with any repetitions, give that payload once all fragments
-- were received
abbrev pub AnyOrderGivesThePayload : Type 0
AnyOrderGivesThePayload =
    (z : Sizes) (payload : List ℕ) (chunks : List Part) → length payload ≡ z.sample
    → AllByRecursion (IsPartOf z payload) chunks
    → is_whole z (there_after z chunks) ≡ true → payload_of (there_after z chunks) ≡ payload
