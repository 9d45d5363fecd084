-- A buffer with octets of a sample at their places.
use Rattle.std.specs.Prelude.{◌≡◌, ℕ, suc, ◌+◌, ◌-◌, ◌*◌, ◌<◌, ◌≤◌, ◌⊎◌, max, List, [], ◌∷◌, length, take, drop, Option, None}
use Rattle.rtps_frags.specs.declared.sizes.Sizes.{Sizes}
use Rattle.rtps_frags.specs.Fragments.{before, last_of, length_of, upto}
use Rattle.rtps_frags.specs.Runs.{AreKept, Run, Runs, kept_at}

-- n octets from a place on
abbrev pub stretch : ℕ → ℕ → List ℕ → List ℕ
stretch at n octets = take n (drop at octets)

-- octets were written at a place: they are there, and octets before and after them are unchanged
pub record IsPutAt (at : ℕ) (octets old new : List ℕ) : Type 0 where
  pub there : stretch at (length octets) new ≡ octets
  pub others : (k n : ℕ) → length (stretch k n old) ≡ n → (k + n ≤ at) ⊎ (at + length octets ≤ k)
      → stretch k n new ≡ stretch k n old
  pub size : length new ≡ max (length old) (at + length octets)

-- the octets of the fragments before `next`
abbrev pub front_in : Sizes → ℕ → List ℕ → List ℕ
front_in z next buffer = take (upto z (next - 1)) buffer

-- the octets of a run: its own, or, if it has none, those at its place
abbrev pub own_or : List ℕ → List ℕ → List ℕ
own_or [] placed = placed
own_or (octet ∷ octets) placed = octet ∷ octets

-- the octets of a run, its own or those at its place in the buffer
abbrev pub octets_in : Sizes → List ℕ → ℕ × Run → List ℕ
octets_in z buffer r = own_or r.1.octets (stretch (before z r.0) (length_of z r.0 r.1.count) buffer)

-- the runs with their octets, from the buffer or their own
abbrev pub runs_in : Sizes → List ℕ → Runs → Runs
runs_in z buffer [] = []
runs_in z buffer (r ∷ rs) =
    (r.0, record { count = r.1.count; octets = octets_in z buffer r }) ∷ runs_in z buffer rs

-- n for a run without octets of its own, and 0 for any other
abbrev pub if_none : List ℕ → ℕ → ℕ
if_none [] n = n
if_none (octet ∷ octets) n = 0

-- the number of octets in the buffer that belong to runs
abbrev pub placed : Sizes → Runs → ℕ
placed z [] = 0
placed z (r ∷ rs) = if_none r.1.octets (length_of z r.0 r.1.count) + placed z rs

-- the front and the runs, with `there` of their octets in the buffer, whose holes are no longer
-- than those
pub record AreStored (z : Sizes) (low next there : ℕ) (buffer : List ℕ) (runs : Runs) : Type 0 where
  pub kept : AreKept z low next (front_in z next buffer) (runs_in z buffer runs)
  pub counted : there ≡ upto z (next - 1) + placed z runs
  pub within : length buffer ≤ z.sample
  pub filled : length buffer ≤ 2 * there

-- the octets of a fragment, if it is stored
abbrev pub stored_at : Sizes → ℕ → List ℕ → Runs → ℕ → Option (List ℕ)
stored_at z next buffer runs = kept_at z next (front_in z next buffer) (runs_in z buffer runs)

-- fragments of the sample that aren't stored yet, with exactly their octets
pub record AreNew (z : Sizes) (next : ℕ) (buffer : List ℕ) (runs : Runs) (start count : ℕ)
    (octets : List ℕ) : Type 0 where
  pub first : 1 ≤ start
  pub some : 1 ≤ count
  pub within : start + count ≤ suc (last_of z)
  pub fits : length octets ≡ length_of z start count
  pub none : (k : ℕ) → start ≤ k → k < start + count → stored_at z next buffer runs k ≡ None
