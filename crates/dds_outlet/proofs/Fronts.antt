-- Beginnings of one list.
use Rattle.std.proofs.Common.{◌≡◌, ◌≤◌, ◌∙◌, List, [], ◌∷◌, ◌++◌, length, refl, sym, ap, arith, ◌⊎◌, ⊎_elim, inl, inr}
use mathlib.Core.List.{IsPrefix}
use Rattle.dds_outlet.specs.declared.history.Entry.{Entry}
use Rattle.dds_outlet.specs.History.{rows_of}

-- of two beginnings of one list the shorter begins the longer
pub prefix_shorter : {A : Type 0} (xs ys zs : List A)
    → IsPrefix xs zs → IsPrefix ys zs → length xs ≤ length ys → IsPrefix xs ys
prefix_shorter [] ys zs p q short = (ys, refl)
prefix_shorter (x ∷ xs) [] zs p q short = absurd (omega arith)
prefix_shorter (x ∷ xs) (y ∷ ys) [] p q short = absurd (cc (p.1))
prefix_shorter (x ∷ xs) (y ∷ ys) (z ∷ zs) p q short =
    let heads : x ≡ y = cc (p.1, q.1) in
    let rest = prefix_shorter xs ys zs (p.0, cc (p.1)) (q.0, cc (q.1)) (omega arith) in
    (rest.0, cc (heads, rest.1))

-- of two beginnings of one list one begins the other
pub prefix_either : {A : Type 0} (xs ys zs : List A)
    → IsPrefix xs zs → IsPrefix ys zs → IsPrefix ys xs ⊎ IsPrefix xs ys
prefix_either [] ys zs p q = inr (ys, refl)
prefix_either (x ∷ xs) [] zs p q = inl (x ∷ xs, refl)
prefix_either (x ∷ xs) (y ∷ ys) [] p q = absurd (cc (p.1))
prefix_either (x ∷ xs) (y ∷ ys) (z ∷ zs) p q =
    let heads : x ≡ y = cc (p.1, q.1) in
    ⊎_elim
    (λ (r : IsPrefix ys xs). inl (r.0, cc (heads, r.1)))
    (λ (r : IsPrefix xs ys). inr (r.0, cc (heads, r.1)))
    (prefix_either xs ys zs (p.0, cc (p.1)) (q.0, cc (q.1)))

-- the rows of two lists of entries
rows_append : (log rest : List Entry) → rows_of (log ++ rest) ≡ rows_of log ++ rows_of rest
rows_append [] rest = refl
rows_append (e ∷ log) rest = ap (λ rows. e.row ∷ rows) (rows_append log rest)

-- the rows of a beginning are a beginning of the rows
pub prefix_rows : (log whole : List Entry) → IsPrefix log whole
    → IsPrefix (rows_of log) (rows_of whole)
prefix_rows log whole p = (rows_of p.0, sym (rows_append log p.0) ∙ ap rows_of p.1)

-- there are as many rows as entries
pub length_rows : (log : List Entry) → length (rows_of log) ≡ length log
length_rows [] = refl
length_rows (e ∷ log) = omega (arith, length_rows log)
