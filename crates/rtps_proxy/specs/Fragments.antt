-- Samples of a match that are sent in fragments (DDSI-RTPS 8.3.7.3, 8.4.14.1).
use Rattle.std.specs.Prelude.{ℕ, Bool, true, not, ◌&&◌, ◌==◌, nat_lt, List, [], ◌∷◌, length, Option, Some, None, is_some, if◌then◌else◌}
use Rattle.std.specs.List.{list_any}
use Rattle.rtps_types.specs.declared.time.Timestamp.{Timestamp}
use Rattle.rtps_wire.specs.declared.data.ChangeInfo.{ChangeInfo}
use Rattle.rtps_receiver.specs.EventBody.{FragmentView}
use Rattle.rtps_frags.specs.declared.sizes.Sizes.{Sizes}
use Rattle.rtps_frags.specs.Fragments.{There, fault_of, is_whole, payload_of, with_fragments}
use Rattle.rtps_proxy.specs.Change.{ChangeView}

-- a begun sample: what its first accepted DATA_FRAG said, and the fragments that were received
pub record Begun : Type 0 where
  pub number : ℕ
  pub time : Option Timestamp
  pub info : ChangeInfo
  pub sizes : Sizes
  pub there : There

-- the sizes that a DATA_FRAG gives: of the sample, and of each fragment
abbrev pub sizes_of : FragmentView → Sizes
sizes_of f = record { sample = f.sample; fragment = f.size }

-- a DATA_FRAG has a fault
abbrev pub is_faulty : FragmentView → Bool
is_faulty f = is_some (fault_of (sizes_of f) f.start f.count (length f.payload))

-- the sample with the fragments of a DATA_FRAG too; a fragment that it has already stays as it is
abbrev pub grown : Begun → FragmentView → Begun
grown b f =
    record {
      number = b.number;
      time = b.time;
      info = b.info;
      sizes = b.sizes;
      there = with_fragments b.sizes f.start f.payload b.there f.start f.count;
    }

-- a sample without fragments, with what its first DATA_FRAG says
abbrev pub opened : Option Timestamp → FragmentView → Begun
opened time f =
    record { number = f.number; time = time; info = f.info; sizes = sizes_of f; there = [] }

-- the sample with a number
abbrev pub begun_at : ℕ → List Begun → Option Begun
begun_at n [] = None
begun_at n (b ∷ bs) = if b.number == n then Some b else begun_at n bs

-- fragments of a number were accepted
abbrev pub is_begun : List Begun → ℕ → Bool
is_begun bs n = list_any (λ b. b.number == n) bs

-- the samples with the fragments of a DATA_FRAG too, by rising number
abbrev pub with_fragments_of : Option Timestamp → FragmentView → List Begun → List Begun
with_fragments_of time f [] = grown (opened time f) f ∷ []
with_fragments_of time f (b ∷ bs) =
    if nat_lt b.number f.number then b ∷ with_fragments_of time f bs
    else if b.number == f.number then grown b f ∷ bs
    else grown (opened time f) f ∷ b ∷ bs

-- two pairs of sizes are the same
abbrev pub is_cut_so : Sizes → Sizes → Bool
is_cut_so y z = y.sample == z.sample && y.fragment == z.fragment

-- a DATA_FRAG has the sizes of the sample, if the sample was begun
abbrev pub fits_in : Option Begun → FragmentView → Bool
fits_in None f = true
fits_in (Some b) f = is_cut_so b.sizes (sizes_of f)

-- a DATA_FRAG fits if it has no fault, and the sizes of the first DATA_FRAG of its number
abbrev pub fits : List Begun → FragmentView → Bool
fits bs f = not (is_faulty f) && fits_in (begun_at f.number bs) f

-- the change that a complete sample is
abbrev pub sample_in : Begun → ChangeView
sample_in b =
    record { number = b.number; time = b.time; info = b.info; payload = payload_of b.there }

-- the change, if the sample is complete
abbrev pub whole_of : Option Begun → List ChangeView
whole_of None = []
whole_of (Some b) = if is_whole b.sizes b.there then sample_in b ∷ [] else []

-- the change of a number, if its sample is among these and complete
abbrev pub whole_at : ℕ → List Begun → List ChangeView
whole_at n bs = whole_of (begun_at n bs)
