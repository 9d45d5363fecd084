-- Pending samples, which have missing fragments, in order of their numbers.
use Rattle.std.specs.Prelude.{ℕ, suc, Bool, not, ◌&&◌, ◌==◌, nat_lt, List, [], ◌∷◌, drop, length, map, Option, Some, None, if◌then◌else◌}
use Rattle.std.specs.List.{list_all}
use Rattle.rtps_types.specs.Number.{value_of}
use Rattle.rtps_receiver.specs.EventBody.{FragmentView}
use Rattle.rtps_frags.specs.Fragments.{is_whole}
use Rattle.rtps_proxy.specs.declared.pending.Pending.{Pending}
use Rattle.rtps_proxy.specs.Fragments.{Begun, fits_in, is_faulty, sample_in}
use Rattle.rtps_proxy.specs.Change.{ChangeView}

-- what contracts see of a pending sample
abbrev pub pending_view : {A : Type 0} → Pending A → Begun
pending_view p =
    record {
      number = value_of p.number;
      time = p.time;
      info = p.info;
      sizes = p.sample.sizes;
      there = p.sample.there;
    }

-- what contracts see of the pending samples
abbrev pub pending_views : {A : Type 0} → List (Pending A) → List Begun
pending_views = map pending_view

-- no growth of them was refused
abbrev pub are_sound : {A : Type 0} → List (Pending A) → Bool
are_sound ps = list_all (λ p. not p.sample.spent) ps

-- the number of leading samples with lesser numbers
abbrev pub place_in : ℕ → List Begun → ℕ
place_in n [] = 0
place_in n (b ∷ bs) = if nat_lt b.number n then suc (place_in n bs) else 0

-- the sample with a number, in a list with rising numbers
abbrev pub found_at : ℕ → List Begun → Option Begun
found_at n [] = None
found_at n (b ∷ bs) =
    if nat_lt b.number n then found_at n bs else if b.number == n then Some b else None

-- a DATA_FRAG fits, in a list with rising numbers
abbrev pub fits_found : List Begun → FragmentView → Bool
fits_found bs f = not (is_faulty f) && fits_in (found_at f.number bs) f

-- the change, if the sample is complete
abbrev pub whole_found : Option Begun → Option ChangeView
whole_found None = None
whole_found (Some b) = if is_whole b.sizes b.there then Some (sample_in b) else None

-- the samples without the first one, if there are more than 64
abbrev pub last_64 : List Begun → List Begun
last_64 bs = if nat_lt 64 (length bs) then drop 1 bs else bs
