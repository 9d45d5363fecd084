-- Texts that grow by what each of the items left gives.
use Rattle.std.proofs.Common.{◌≡◌, ℕ, ◌+◌, ◌≤◌, ◌<◌, List, ◌++◌, length, get_or, drop, sym, ap, ◌∙◌, append_assoc, append-nil}
use Rattle.std.proofs.lemmas.List.{at_drop_more, at_drop_all}
use Rattle.std.specs.List.{flat_map}

-- one item more was put
pub char_put : (f : ℕ → List ℕ) (old put next : List ℕ) (cs : List ℕ) (i j c : ℕ) → i < length cs
    → c ≡ get_or cs i c → j ≡ i + 1 → next ≡ put ++ f c
    → put ++ flat_map f (drop i cs) ≡ old ++ flat_map f cs
    → next ++ flat_map f (drop j cs) ≡ old ++ flat_map f cs
char_put f old put next cs i j c more is after wrote left =
    let step : flat_map f (drop i cs) ≡ f (get_or cs i c) ++ flat_map f (drop (i + 1) cs) =
    at_drop_more (λ (xs : List ℕ). flat_map f xs) cs i c more in
    ap (λ (k : ℕ). next ++ flat_map f (drop k cs)) after
    ∙ ap (λ (xs : List ℕ). xs ++ flat_map f (drop (i + 1) cs)) wrote
    ∙ append_assoc put (f c) (flat_map f (drop (i + 1) cs))
    ∙ ap (λ (x : ℕ). put ++ (f x ++ flat_map f (drop (i + 1) cs))) is
    ∙ ap (λ (xs : List ℕ). put ++ xs) (sym step) ∙ left

-- all were put
pub chars_done : (f : ℕ → List ℕ) (old put : List ℕ) (cs : List ℕ) (i : ℕ) → length cs ≤ i
    → put ++ flat_map f (drop i cs) ≡ old ++ flat_map f cs → put ≡ old ++ flat_map f cs
chars_done f old put cs i all left =
    sym (append-nil put)
    ∙ ap (λ (xs : List ℕ). put ++ xs) (sym (at_drop_all (λ (xs : List ℕ). flat_map f xs) cs i all))
    ∙ left
