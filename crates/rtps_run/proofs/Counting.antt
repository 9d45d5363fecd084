-- How many ranks were given, after each occurrence.
use Rattle.std.proofs.Common.{◌≡◌, ℕ, zero, suc, ◌+◌, ◌<◌, ◌≤◌, List, [], ◌∷◌, ◌++◌, length, Option, Some, refl, ap, arith}
use Rattle.std.proofs.lemmas.List.{length-append}
use Rattle.rtps_discovery.specs.Joining.{vacated}
use Rattle.rtps_discovery.specs.Known.{Known, Wish}
use Rattle.dds_topic.specs.Decoding.{Decoding}
use Rattle.rtps_run.specs.Occurrence.{Occurrence, Passes, Came, Joins, Parts}
use Rattle.rtps_run.specs.Rising.{IsSteady}
use Rattle.rtps_run.specs.Run.{world_run}
use Rattle.rtps_run.specs.Seen.{reader_count}
use Rattle.rtps_run.specs.World.{World, count_after, known_after_event, known_then, world_after}
use Rattle.rtps_run.proofs.Routed.{readers_stay}

-- counts, one after the other
pub within : (m n i : ℕ) → m ≤ n → i < m → i < n
within m n i le less = omega (arith, le, less)

pub no_more : (m n o : ℕ) → m ≤ n → n ≤ o → m ≤ o
no_more m n o one two = omega (arith, one, two)

pub vacated_length : (rank : ℕ) (rs : List (Option Wish)) → length (vacated rank rs) ≡ length rs
vacated_length rank [] = refl
vacated_length zero (r ∷ rs) = refl
vacated_length (suc rank) (r ∷ rs) = ap (λ n. suc n) (vacated_length rank rs)

-- no rank is taken back
pub no_fewer : (k : Known) (o : Occurrence) → length k.readers ≤ length (known_then k o).readers
no_fewer k (Passes index moment) = let same : length (known_then k (Passes index moment)).readers ≡ length k.readers = refl in omega (arith, same)
no_fewer k (Came e) = let same : length (known_after_event k e).readers ≡ length k.readers = ap (λ (rs : List (Option Wish)). length rs) (readers_stay k e) in omega (arith, same)
no_fewer k (Joins index r) = let more : length (k.readers ++ Some r ∷ []) ≡ length k.readers + 1 = length-append k.readers (Some r ∷ []) in omega (arith, more)
no_fewer k (Parts index gone) = let same : length (vacated gone k.readers) ≡ length k.readers = vacated_length gone k.readers in omega (arith, same)

pub no_fewer_run : {M : Type 0} (decoding : Decoding M) (w : World M) (os : List Occurrence) → reader_count w ≤ reader_count (world_run decoding w os)
no_fewer_run decoding w [] = itself (reader_count w)
  where
    itself : (n : ℕ) → n ≤ n
    itself n = omega arith
no_fewer_run decoding w (o ∷ os) =
    no_more (reader_count w) (count_after w o) (reader_count (world_run decoding (world_after decoding w o) os)) (no_fewer w.known o) (no_fewer_run decoding (world_after decoding w o) os)

-- where no reader comes, no rank is given
pub steady_count : (k : Known) (o : Occurrence) (os : List Occurrence) → IsSteady (o ∷ os) → length (known_then k o).readers ≡ length k.readers
steady_count k (Passes index moment) os steady = refl
steady_count k (Came e) os steady = ap (λ (rs : List (Option Wish)). length rs) (readers_stay k e)
steady_count k (Joins index r) os steady = absurd steady
steady_count k (Parts index gone) os steady = vacated_length gone k.readers

pub steady_rest : (o : Occurrence) (os : List Occurrence) → IsSteady (o ∷ os) → IsSteady os
steady_rest (Passes index moment) os steady = steady
steady_rest (Came e) os steady = steady
steady_rest (Joins index r) os steady = absurd steady
steady_rest (Parts index gone) os steady = steady
