-- The text of locators (DDSI-RTPS 9.3.2).
use Rattle.std.specs.Prelude.{ℕ, List, [], ◌∷◌, ◌++◌, slice_index, codes}
use Rattle.std.specs.Fmt.{decimal}
use Rattle.rtps_types.specs.declared.locator.Locator.{Locator}

-- the four octets of an address with dots between
abbrev pub address_text : List ℕ → List ℕ
address_text a =
    decimal (slice_index a 0)
    ++ (codes "."
    ++ (decimal (slice_index a 1)
    ++ (codes "." ++ (decimal (slice_index a 2) ++ (codes "." ++ decimal (slice_index a 3))))))

-- an address and its port (DDSI-RTPS 9.3.2.4)
abbrev pub locator_text : Locator → List ℕ
locator_text l = address_text l.address ++ (codes ":" ++ decimal l.port)

-- locators after others, each after a comma
abbrev pub more_locators : List Locator → List ℕ
more_locators [] = []
more_locators (l ∷ ls) = codes "," ++ (locator_text l ++ more_locators ls)

-- locators joined by commas; a dash for none
abbrev pub locators_text : List Locator → List ℕ
locators_text [] = codes "-"
locators_text (l ∷ ls) = locator_text l ++ more_locators ls
