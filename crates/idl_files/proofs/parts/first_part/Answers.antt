use Rattle.std.proofs.Common.{◌≡◌, [], ◌∷◌, Option, MatchOption, Bor, subst}
use Rattle.idl_files.specs.Parts.{Text}
use Rattle.idl_files.specs.Parts.{parts_of}
use Rattle.idl_files.proofs.Places.{parts_found}
use Rattle.idl_files.proofs.parts.first_part.Goals as goal

-- what a split gives of the parts of a text
abbrev Gives : Text → Option (Bor Text × Bor Text) → Type 0
Gives text found = MatchOption found (parts_of text ≡ text ∷ []) (λ x. parts_of text ≡ x.0.now ∷ parts_of x.1.now)

pub returns-in-Some : goal.returns-in-Some
returns-in-Some c =
    subst (Gives c.args.text.now) c.in-Some.is (parts_found c.args.text.now c.split_once.result c.split_once.ensures.cases)

pub returns-in-None : goal.returns-in-None
returns-in-None c =
    subst (Gives c.args.text.now) c.in-None.is (parts_found c.args.text.now c.split_once.result c.split_once.ensures.cases)
