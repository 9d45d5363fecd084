-- A sample that is sent in fragments (DDSI-RTPS 8.3.7.3, 8.4.14.1).
use Rattle.std.specs.Prelude.{ℕ, zero, suc, ◌+◌, ◌-◌, ◌*◌, min, Bool, true, not, ◌&&◌, ◌||◌, ◌==◌, nat_lt, List, [], ◌∷◌, take, drop, Option, Some, None, if◌then◌else◌}
use Rattle.std.specs.Int.{div_ceil}
use Rattle.std.specs.List.{flat_map, list_any}
use Rattle.rtps_frags.specs.declared.sizes.Sizes.{Sizes}
use Rattle.rtps_frags.specs.declared.fault.FragFault.{FragFault}
use Rattle.rtps_frags.specs.declared.fault.FragFault.TheVariants.{Sizes as BadSizes, Number, ShortPayload, TooLarge}

-- the number of the last fragment; the first has number 1
abbrev pub last_of : Sizes → ℕ
last_of z = div_ceil z.sample z.fragment

-- the number of octets before fragment k, and up to its end
abbrev pub before : Sizes → ℕ → ℕ
before z zero = 0
before z (suc k) = k * z.fragment

abbrev pub upto : Sizes → ℕ → ℕ
upto z k = min (k * z.fragment) z.sample

-- fragment k in octets that begin with fragment `start`
abbrev pub fragment_in : Sizes → ℕ → List ℕ → ℕ → List ℕ
fragment_in z start octets k =
    take (upto z k - before z k) (drop (before z k - before z start) octets)

-- the size of the sample or of its fragments is 0
abbrev pub is_empty : Sizes → Bool
is_empty z = z.sample == 0 || z.fragment == 0

-- the sample has no `count` fragments from `start` on
abbrev pub is_outside : Sizes → ℕ → ℕ → Bool
is_outside z start count = start == 0 || (count == 0 || nat_lt (last_of z) (start + count - 1))

-- the number of octets in these fragments
abbrev pub length_of : Sizes → ℕ → ℕ → ℕ
length_of z start count = upto z (start + count - 1) - before z start

-- the first fault of these fragments, in a payload of this length
unfoldable pub fault_of : Sizes → ℕ → ℕ → ℕ → Option FragFault
fault_of z start count octets =
    if is_empty z then Some BadSizes
    else if nat_lt 67108864 z.sample then Some TooLarge
    else if is_outside z start count then Some Number
    else if nat_lt octets (length_of z start count) then Some ShortPayload
    else None

-- the received fragments, by rising number, each with its octets
abbrev pub There : Type 0
There = List (ℕ × List ℕ)

-- fragment k was received
abbrev pub has : There → ℕ → Bool
has there k = list_any (λ f. f.0 == k) there

-- the fragments with fragment k too; if it was received before, it stays as it is
abbrev pub with_fragment : There → ℕ → List ℕ → There
with_fragment [] k octets = (k, octets) ∷ []
with_fragment (f ∷ fs) k octets =
    if nat_lt f.0 k then f ∷ with_fragment fs k octets else if f.0 == k then f ∷ fs
    else (k, octets) ∷ f ∷ fs

-- the fragments with `count` more from k on, from octets that begin with fragment `start`
abbrev pub with_fragments : Sizes → ℕ → List ℕ → There → ℕ → ℕ → There
with_fragments z start octets there k zero = there
with_fragments z start octets there k (suc count) =
    with_fragments z start octets (with_fragment there k (fragment_in z start octets k))
    (suc k) count

-- `count` fragments from k on were received
abbrev pub has_all : There → ℕ → ℕ → Bool
has_all there k zero = true
has_all there k (suc count) = has there k && has_all there (suc k) count

-- a sample is complete if it isn't empty and all its fragments were received
abbrev pub is_whole : Sizes → There → Bool
is_whole z there = not (is_empty z) && has_all there 1 (last_of z)

-- the octets of the fragments, in order
abbrev pub payload_of : There → List ℕ
payload_of there = flat_map (λ f. f.1) there
