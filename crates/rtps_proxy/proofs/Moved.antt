-- Lemmas on runs that are moved in their list.
use Rattle.std.proofs.Common.{◌≡◌, ◌∙◌, ℕ, ◌+◌, ◌-◌, ◌<◌, ◌≤◌, List, [], ◌∷◌, ◌++◌, sym, ap, ap₂, arith, length, take, drop, get_or, set, append_assoc, length-drop, length-take-le}
use Rattle.std.proofs.Math.Seq.{paste, set-append_seam}
use Rattle.std.proofs.lemmas.List.{drop-append-le, drop-drop, drop-set, drop-set-add, drop-set-lt, drop-take, drop_at, length-set, take-set-le, take_more_set}
use Rattle.rtps_proxy.specs.Runs.{Run}
use Rattle.rtps_proxy.proofs.Apart.{next_of}

-- a run in the place of those from at on and before next
pub replaced : (rs : List Run) (at next : ℕ) (j : Run) → at < next → next ≤ length rs → take (at + 1) (set rs at j) ++ drop next (set rs at j) ≡ take at rs ++ j ∷ drop next rs
replaced rs at next j lt le =
    let within : at < length rs = omega arith in
    rw (take_more_set rs at j within, drop-set-lt next rs at j lt) (append_assoc (take at rs) (j ∷ []) (drop next rs))

-- after some room, a list with one run for those from at on and before next
pub behind_room : (room at next : ℕ) (rs : List Run) (j : Run) → room + at ≤ length rs → drop room (take (room + at) rs ++ j ∷ drop (room + next) rs) ≡ take at (drop room rs) ++ j ∷ drop next (drop room rs)
behind_room room at next rs j le =
    let long : length (take (room + at) rs) ≡ room + at = length-take-le (room + at) rs le in
    drop-append-le room (take (room + at) rs) (j ∷ drop (room + next) rs) (omega arith)
    ∙ ap₂ (λ (a b : List Run). a ++ j ∷ b) (drop-take room at rs) (sym (drop-drop next room rs))

-- count runs moved down by one, and a run after them
pub moved_down : (place count : ℕ) (rs : List Run) (j : Run) → place + count < length rs
    → drop place (set (paste rs place (drop (place + 1) rs) count) (place + count) j) ≡ take count (drop (place + 1) rs) ++ j ∷ drop (place + 1 + count) rs
moved_down place count rs j lt =
    let moved = take count (drop (place + 1) rs) in
    let rest = drop (place + count + 1) rs in
    let long : length (take place rs) ≡ place = length-take-le place rs (omega arith) in
    let left : length (drop (place + 1) rs) ≡ length rs - (place + 1) = length-drop (place + 1) rs in
    let full : length moved ≡ count = length-take-le count (drop (place + 1) rs) (omega arith) in
    let next : drop (place + count) rs ≡ get_or rs (place + count) j ∷ rest = next_of rs (place + count) j lt in
    let same : place + count + 1 ≡ place + 1 + count = omega arith in
    let behind : drop place (paste rs place (drop (place + 1) rs) count) ≡ moved ++ get_or rs (place + count) j ∷ rest =
    ap (drop place) (append_assoc (take place rs) moved (drop (place + count) rs))
    ∙ drop_at (take place rs) (moved ++ drop (place + count) rs) place long ∙ ap (λ (r : List Run). moved ++ r) next in
    drop-set-add place (paste rs place (drop (place + 1) rs) count) count j
    ∙ ap (λ (r : List Run). set r count j) behind
    ∙ ap (λ (k : ℕ). set (moved ++ get_or rs (place + count) j ∷ rest) k j) (sym full)
    ∙ set-append_seam moved (get_or rs (place + count) j) rest j
    ∙ ap (λ (k : ℕ). moved ++ j ∷ drop k rs) same

-- the runs from place on and before first moved up before a run that was put at last
pub moved_up : (place first last : ℕ) (rs : List Run) (j : Run) → place ≤ first → first ≤ last → last < length rs
    → drop (place + (last - first)) (paste (set rs last j) (place + (last - first)) (drop place (set rs last j)) (first - place)) ≡ take (first - place) (drop place rs) ++ j ∷ drop (last + 1) rs
moved_up place first last rs j before order lt =
    let dest = place + (last - first) in
    let count = first - place in
    let xs = set rs last j in
    let size : length xs ≡ length rs = length-set rs last j in
    let long : length (take dest xs) ≡ dest = length-take-le dest xs (omega arith) in
    let end : dest + count ≡ last = omega arith in
    let at : place + (last - place) ≡ last = omega arith in
    let kept : take count (drop place xs) ≡ take count (drop place rs) =
    ap (λ (k : ℕ). take count (drop place (set rs k j))) (sym at) ∙ ap (take count) (drop-set-add place rs (last - place) j) ∙ take-set-le count (drop place rs) (last - place) j (omega arith) in
    ap (drop dest) (append_assoc (take dest xs) (take count (drop place xs)) (drop (dest + count) xs))
    ∙ drop_at (take dest xs) (take count (drop place xs) ++ drop (dest + count) xs) dest long
    ∙ ap₂ (λ (a b : List Run). a ++ b) kept (ap (λ (k : ℕ). drop k xs) end ∙ drop-set rs last j lt)
