-- Layouts by case.
use Rattle.std.proofs.Common.{◌≡◌, ℕ, ◌-◌, ◌<◌, ◌≤◌, List, ◌++◌, replicate, refl}
use Rattle.std.specs.Prelude.{codes}
use Rattle.std.proofs.lemmas.Bool.{le-ltb, le-leb}
use Rattle.float_text.specs.declared.format.Format.{Format}
use Rattle.float_text.specs.Layout.{laid_out}
use Rattle.float_text.proofs.Rounding.{lt-leb}

-- all digits stand before the point
pub laid_out_whole : (format : Format) (digits : List ℕ) (places point before : ℕ) → point < before → before - point ≤ format.whole_digits
    → point ≤ places → laid_out format digits places point before ≡ digits ++ replicate (places - point) 48 ++ codes ".0"
unfolding laid_out
laid_out_whole format digits places point before above few whole =
    rw (lt-leb before point above, le-ltb format.whole_digits (before - point) few, le-leb point places whole) refl
