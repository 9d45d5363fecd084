-- The next word of a text.
use Rattle.std.proofs.Common.{◌≡◌, ◌+◌, ◌<◌, ℕ, suc, List, [], ◌∷◌, ◌++◌, append_assoc, subst, length, take, drop, Option, Some, arith, ap, sym, ◌∙◌, refl}
use Rattle.std.specs.Prelude.{◌≢◌, Bool, true, false, ◌==◌, if◌then◌else◌}
use Rattle.std.specs.Char.{is_ascii_digit}
use Rattle.std.specs.List.{take_while}
use Rattle.std.proofs.lemmas.List.Sums.{take_while-cons}
use Rattle.dds_idl.specs.Gap.{gap}
use Rattle.dds_idl.specs.declared.gap.Within.TheVariants.{Code}
use Rattle.dds_idl.specs.declared.word.Kind.TheVariants.{End}
use Rattle.dds_idl.specs.declared.word.Word.{Word}
use Rattle.dds_idl.specs.declared.words.Front.{Front}
use Rattle.dds_idl.specs.Words.{AreWords, Found, last, next, begins_name, front, front_of, is_numeric, is_wordy, literal_end, run}

-- a literal ends after where it is looked for
pub literal_moves : (quote : ℕ) (is_escaped : Bool) (at : ℕ) (text : List ℕ) (end : ℕ)
    → literal_end quote is_escaped at text ≡ Some end → at < end
literal_moves quote is_escaped at [] end found = grind arith
literal_moves quote is_escaped at (octet ∷ rest) end found =
    grind (arith, literal_moves quote false (suc at) rest end, literal_moves quote true (suc at) rest end)

-- a choice, by what was chosen
choose : {P : Type 0} (b : Bool) (x y : Option Front) (f : Front)
    → (b ≡ true → x ≡ Some f → P) → (b ≡ false → y ≡ Some f → P)
    → (if b then x else y) ≡ Some f → P
choose true x y f one two is = one refl is
choose false x y f one two is = two refl is

-- a run has the first octet, if that passes
run_moves : (test : ℕ → Bool) (octet : ℕ) (rest : List ℕ) → test octet ≡ true
    → 0 < run test (octet ∷ rest)
run_moves test octet rest passes =
    let e : take_while test (octet ∷ rest) ≡ octet ∷ take_while test rest =
    take_while-cons test octet rest ∙ rw passes refl in
    omega (arith, ap length e)

-- what a name begins with may stand in it
begins_wordy : (octet : ℕ) → begins_name octet ≡ true → is_wordy octet ≡ true
begins_wordy octet begins = rw begins refl

-- and a digit in a number
digit_numeric : (octet : ℕ) → is_ascii_digit octet ≡ true → is_numeric octet ≡ true
digit_numeric octet digit = grind arith

-- a word that isn't the end has an octet
pub front_moves : (text : List ℕ) (f : Front) → front text ≡ Some f → f.kind ≢ End → 0 < f.len
front_moves [] f found some = grind arith
front_moves (octet ∷ rest) f found some =
    choose (begins_name octet) _ _ f
    (λ begins is. grind (arith, run_moves is_wordy octet rest (begins_wordy octet begins)))
    (λ _ found-2. choose (is_ascii_digit octet) _ _ f
    (λ digit is. grind (arith, run_moves is_numeric octet rest (digit_numeric octet digit)))
    (λ _ found-3. choose (octet == 34) _ _ f
    (λ _ is. grind (arith, literal_moves 34 false 1 rest))
    (λ _ found-4. choose (octet == 39) _ _ f
    (λ _ is. grind (arith, literal_moves 39 false 1 rest))
    (λ _ found-5. grind arith) found-4) found-3) found-2) found

-- the parts of a text where its next word is
pub found : (at : ℕ) (rest : List ℕ) (w : Word) (behind left : List ℕ) (len flen : ℕ)
    → len ≡ gap Code rest → w.gap.now ≡ take len rest → behind ≡ drop len rest
    → w.at ≡ at + len → front behind ≡ Some (front_of w.kind flen)
    → w.text.now ≡ take flen behind → left ≡ drop flen behind
    → length w.gap.now ≡ len → length behind + len ≡ length rest
    → length w.text.now ≡ flen → length left + flen ≡ length behind
    → Found at rest w left
found at rest w behind left len flen is_gap gap_is behind_is at_is front_is text_is left_is gap_len
    behind_len text_len left_len = record {
      is = record {
        behind_gap = gap_is ∙ ap (λ (n : ℕ). take n rest) is_gap;
        place = at_is ∙ ap (λ (n : ℕ). at + n) is_gap;
        whole = ap front (sym (behind_is ∙ ap (λ (n : ℕ). drop n rest) is_gap)) ∙ front_is
            ∙ ap (λ (n : ℕ). Some (front_of w.kind n)) (sym text_len);
        text = text_is ∙ (λ i. take (sym text_len i) ((behind_is ∙ ap (λ (n : ℕ). drop n rest) is_gap) i));
      };
      behind = left_is ∙ (λ i. drop (sym text_len i) ((behind_is ∙ ap (λ (n : ℕ). drop n rest) is_gap) i));
      ends = omega arith;
      moves = λ some. let some_len : 0 < flen = front_moves behind (front_of w.kind flen) front_is some in omega arith;
    }

-- the words before an offset of a text, and what is left after it
unfoldable pub WordsBefore : List ℕ → List Word → ℕ → List ℕ → Type 0
WordsBefore text words at rest =
    (more : List Word) → AreWords at rest more → AreWords 0 text (words ++ more)

-- the last word ends them
pub last_word : (text : List ℕ) (words : List Word) (at : ℕ) (rest left : List ℕ) (w : Word)
    → WordsBefore text words at rest → Found at rest w left → w.kind ≡ End
    → AreWords 0 text (words ++ w ∷ [])
unfolding WordsBefore
last_word text words at rest left w before found ends = before (w ∷ []) (last found.is ends)

-- another is after them
pub next_word : (text : List ℕ) (words : List Word) (at : ℕ) (rest left : List ℕ) (w : Word)
    → WordsBefore text words at rest → Found at rest w left
    → WordsBefore text (words ++ w ∷ []) (w.at + length w.text.now) left
unfolding WordsBefore
next_word text words at rest left w before found more are =
    subst (AreWords 0 text) (sym (append_assoc words (w ∷ []) more))
    (before (w ∷ more) (next found.is
    (subst (λ (r : List ℕ). AreWords (w.at + length w.text.now) r more) found.behind are)))

-- none are before the front
pub no_words : (text : List ℕ) → WordsBefore text [] 0 text
unfolding WordsBefore
no_words text more are = are
