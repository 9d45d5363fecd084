-- The texts of records, some records more.
use Rattle.std.proofs.Common.{◌≡◌, ℕ, ◌+◌, List, [], ◌∷◌, ◌++◌, arith, length, sym, ap, ◌∙◌, append_assoc, add-zero}
use Rattle.rtps_records.specs.RecordFile.{Datagram, Record, Tick}
use Rattle.rtps_records.specs.Text.{IsFront, datagrams_of, text_from, text_of}

pub text_both : (line : ℕ → List ℕ → List ℕ) (n : ℕ) (xs ys : List Record) → text_from line n (xs ++ ys) ≡ text_from line n xs ++ text_from line (n + length (datagrams_of xs)) ys
text_both line n [] ys = ap (λ k. text_from line k ys) (sym (add-zero n))
text_both line n (Datagram moment octets ∷ xs) ys =
    let same : (n + 1) + length (datagrams_of xs) ≡ n + length (datagrams_of (Datagram moment octets ∷ xs)) = omega arith in
    ap (λ l. line n octets ++ l) (text_both line (n + 1) xs ys ∙ ap (λ k. text_from line (n + 1) xs ++ text_from line k ys) same)
    ∙ sym (append_assoc (line n octets) (text_from line (n + 1) xs) _)
text_both line n (Tick moment ∷ xs) ys = text_both line n xs ys

-- the texts of the first records begin those of all
pub texts_begin : (line : ℕ → List ℕ → List ℕ) (records more : List Record) (said : List ℕ) → said ≡ text_of line records → IsFront said (text_of line (records ++ more))
texts_begin line records more said e =
    (text_from line (0 + length (datagrams_of records)) more, text_both line 0 records more ∙ ap (λ l. l ++ text_from line (0 + length (datagrams_of records)) more) (sym e))
