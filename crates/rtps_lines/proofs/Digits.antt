-- The line of a notice, whose reader's rank has one digit.
use Rattle.std.proofs.Common.{◌≡◌, ℕ, ◌+◌, ◌<◌, List, ◌∷◌, ◌++◌, length, slice_set, codes, append_assoc, sym, ap, ◌∙◌, arith}
use Rattle.std.specs.Fmt.{decimal}
use Rattle.std.proofs.Math.Seq.{set-append_seam}
use Rattle.std.proofs.lemmas.List.{set-set}
use Rattle.std.proofs.lemmas.Fmt.{decimal_digit}
use Rattle.rtps_types.specs.NumberText.{place_text}
use Rattle.rtps_reader.specs.declared.notice.Notice.{Notice}
use Rattle.rtps_lines.specs.Notice.{heard_line, start_text, told_text}

-- the digit is between a start and an end, which do not depend on it
heard_by_digit : {M : Type 0} (text : M → List ℕ) (r : ℕ) (n : Notice M) → r < 10
    → heard_line text r n ≡ start_text n.place ++ (48 + r) ∷ (codes " " ++ told_text text n)
heard_by_digit text r n few =
    rw (decimal_digit r few) (sym (append_assoc (place_text n.place) (codes " reader ") ((48 + r) ∷ (codes " " ++ told_text text n))))

-- one digit is written over the other
pub other_digit : {M : Type 0} (text : M → List ℕ) (a b : ℕ) (n : Notice M) → a < 10 → b < 10
    → slice_set (heard_line text a n) (length (start_text n.place)) (48 + b) ≡ heard_line text b n
other_digit text a b n one other =
    rw (heard_by_digit text a n one, heard_by_digit text b n other)
    (set-append_seam (start_text n.place) (48 + a) (codes " " ++ told_text text n) (48 + b))

-- a digit is written into a line that is that of reader 0, with another digit
pub any_digit : {M : Type 0} (text : M → List ℕ) (b : ℕ) (n : Notice M) (octets : List ℕ) (at : ℕ) → b < 10
    → at ≡ length (start_text n.place) → slice_set octets at 48 ≡ heard_line text 0 n
    → slice_set octets at (48 + b) ≡ heard_line text b n
any_digit text b n octets at few is zero =
    sym (set-set octets at 48 (48 + b))
    ∙ ap (λ l. slice_set l at (48 + b)) zero
    ∙ ap (λ i. slice_set (heard_line text 0 n) i (48 + b)) is
    ∙ other_digit text 0 b n (omega arith) few

-- notices of one place and one text have one line
pub same_line : {M : Type 0} (text : M → List ℕ) (r : ℕ) (n m : Notice M) → n.place ≡ m.place
    → told_text text n ≡ told_text text m → heard_line text r n ≡ heard_line text r m
same_line text r n m place told =
    ap (λ p. place_text p ++ (codes " reader " ++ (decimal r ++ (codes " " ++ told_text text n)))) place
    ∙ ap (λ t. place_text m.place ++ (codes " reader " ++ (decimal r ++ (codes " " ++ t)))) told

-- a line that is kept
pub kept_line : {M : Type 0} (text : M → List ℕ) (r : ℕ) (n : Notice M) (octets : List ℕ) (at : ℕ) → r < 10
    → at ≡ length (start_text n.place) → octets ≡ heard_line text r n → slice_set octets at 48 ≡ heard_line text 0 n
kept_line text r n octets at few is line =
    ap (λ l. slice_set l at 48) line ∙ ap (λ i. slice_set (heard_line text r n) i 48) is ∙ other_digit text r 0 n few (omega arith)
