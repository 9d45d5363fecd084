-- What is heard by some calls, and then by others.
use Rattle.std.proofs.Common.{◌≡◌, ℕ, List, [], ◌∷◌, ◌++◌, refl, ap}
use Rattle.rtps_records.specs.RecordFile.{Datagram, Tick}
use Rattle.rtps_records.specs.Traffic.{Exhausted, Failed, Passed, Received, Sent, Traffic, Waited, heard_after, moment_after}

pub heard-append : (m : ℕ) (xs ys : List Traffic)
    → heard_after m (xs ++ ys) ≡ heard_after m xs ++ heard_after (moment_after m xs) ys
heard-append m [] ys = refl
heard-append m (Waited ∷ xs) ys = heard-append m xs ys
heard-append m (Passed n ∷ xs) ys = ap (λ l. Tick n ∷ l) (heard-append n xs ys)
heard-append m (Received o ∷ xs) ys = ap (λ l. Datagram m o ∷ l) (heard-append m xs ys)
heard-append m (Exhausted ∷ xs) ys = heard-append m xs ys
heard-append m (Failed ∷ xs) ys = heard-append m xs ys
heard-append m (Sent to o ∷ xs) ys = heard-append m xs ys

-- the moment that the clock gave last
pub moment-append : (m : ℕ) (xs ys : List Traffic)
    → moment_after m (xs ++ ys) ≡ moment_after (moment_after m xs) ys
moment-append m [] ys = refl
moment-append m (Waited ∷ xs) ys = moment-append m xs ys
moment-append m (Passed n ∷ xs) ys = moment-append n xs ys
moment-append m (Received o ∷ xs) ys = moment-append m xs ys
moment-append m (Exhausted ∷ xs) ys = moment-append m xs ys
moment-append m (Failed ∷ xs) ys = moment-append m xs ys
moment-append m (Sent to o ∷ xs) ys = moment-append m xs ys
