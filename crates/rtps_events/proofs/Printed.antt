-- A text of which a part was written, a part is kept back, and the rest is still to be added.
use Rattle.std.proofs.Common.{◌≡◌, inl, inr, Option, Result, Ok, Err, OnErr, subst, List, [], ◌++◌, sym, ap, ◌∙◌, append-nil, append_assoc, ℕ, length, refl, take, drop, take-append-drop}
use Rattle.std.specs.Io.KnownBytes.{Appends}
use Rattle.std.proofs.KnownBytes.{Appends-kept, Appends-nil, Appends-trans}
use Rattle.std.proofs.Math.Seq.{take-append_seam}
use Rattle.rtps_records.specs.Runs.{Moves, PutsFront, Spills}

pub record Printed (old new : Option (List ℕ)) (whole kept rest : List ℕ) : Type 0 where
  pub written : List ℕ
  pub wrote : Appends old new written
  pub whole_is : whole ≡ written ++ (kept ++ rest)

-- the lines of a datagram are added, by either of two texts that are the same
pub said_by : (one other : ℕ → List ℕ → List ℕ) (n : ℕ) (octets kept out : List ℕ) → one ≡ other → out ≡ kept ++ one n octets → out ≡ kept ++ other n octets
said_by one other n octets kept out same said = subst (λ lines. out ≡ kept ++ lines n octets) same said

-- nothing was added yet
pub printed_none : (old : Option (List ℕ)) (kept rest : List ℕ) → Printed old old (kept ++ rest) kept rest
printed_none old kept rest = record { written = []; wrote = Appends-nil old; whole_is = refl }

-- some lines were added
pub printed_more : (old now : Option (List ℕ)) (whole kept added rest out : List ℕ) → Printed old now whole kept (added ++ rest) → out ≡ kept ++ added → Printed old now whole out rest
printed_more old now whole kept added rest out p e = record {
  written = p.written;
  wrote = p.wrote;
  whole_is = p.whole_is ∙ ap (λ l. p.written ++ l) (sym (append_assoc kept added rest) ∙ ap (λ l. l ++ rest) (sym e));
}

-- what is kept back was written if it is long
pub printed_spilled : (old now new : Option (List ℕ)) (whole kept left rest : List ℕ) → Printed old now whole kept rest → Spills now new kept left → Printed old new whole left rest
printed_spilled old now new whole kept left rest p s = elim s [
  | inl out ↦ rw out.2 (record {
    written = p.written ++ kept;
    wrote = Appends-trans _ _ _ _ _ p.wrote out.1;
    whole_is = p.whole_is ∙ sym (append_assoc p.written kept rest);
  })
  | inr same ↦ record {
    written = p.written;
    wrote = Appends-kept _ _ _ _ p.wrote same.1;
    whole_is = rw same.2 p.whole_is;
  }
]

-- nothing is left to be added
pub printed_all : (old new : Option (List ℕ)) (whole kept : List ℕ) → Printed old new whole kept [] → Moves old new whole kept
printed_all old new whole kept p = (p.written, p.wrote, p.whole_is ∙ ap (λ l. p.written ++ l) (append-nil kept))

-- what was written is a prefix of the whole text
pub printed_front : (old now new : Option (List ℕ)) (whole kept rest : List ℕ) → Printed old now whole kept rest → PutsFront now new kept → PutsFront old new whole
printed_front old now new whole kept rest p f =
    let front = take f.0 kept in
    let back = drop f.0 kept in
    let all : whole ≡ (p.written ++ front) ++ (back ++ rest) =
    p.whole_is ∙ ap (λ l. p.written ++ (l ++ rest)) (sym (take-append-drop f.0 kept)) ∙ ap (λ l. p.written ++ l) (append_assoc front back rest) ∙ sym (append_assoc p.written front (back ++ rest)) in (
      length (p.written ++ front),
      subst (Appends old new) (sym (ap (take (length (p.written ++ front))) all ∙ take-append_seam (p.written ++ front) (back ++ rest))) (Appends-trans _ _ _ _ _ p.wrote f.1),
    )

-- the same, if nothing more is written
pub printed_stop : (old now : Option (List ℕ)) (whole kept rest : List ℕ) → Printed old now whole kept rest → PutsFront old now whole
printed_stop old now whole kept rest p = printed_front old now now whole kept rest p (0, Appends-nil now)

pub on_err : {T E P : Type 0} (r : Result T E) → P → OnErr r P
on_err (Ok x) p = tt
on_err (Err e) p = p
