-- How a decimal is written.
use Rattle.std.specs.Prelude.{ℕ, ◌+◌, ◌-◌, nat_lt, nat_le, if◌then◌else◌, List, ◌++◌, length, take, drop, replicate, codes}
use Rattle.std.specs.Fmt.{decimal}
use Rattle.float_text.specs.declared.format.Format.{Format}

-- the digits with the point after the first one, if there are more
abbrev pub scientific : List ℕ → List ℕ
scientific digits = if nat_le (length digits) 1 then digits else take 1 digits ++ codes "." ++ drop 1 digits

-- The digits times 10 ^ (places - point). `before` is the sum of their count and of `places`: where
-- it is above `point`, before - point digits stand before the point, and else point - before zeros
-- after it. An exponent is written where these are more than the format allows.
unfoldable pub laid_out : Format → List ℕ → ℕ → ℕ → ℕ → List ℕ
laid_out format digits places point before =
    if nat_le before point then
    (if nat_le (point - before) format.leading_zeros then
    codes "0." ++ replicate (point - before) 48 ++ digits
    else scientific digits ++ codes "e-" ++ decimal (point - before + 1))
    else if nat_lt format.whole_digits (before - point) then
    scientific digits ++ codes "e" ++ decimal (before - point - 1)
    else if nat_le point places then digits ++ replicate (places - point) 48 ++ codes ".0"
    else take (before - point) digits ++ codes "." ++ drop (before - point) digits
