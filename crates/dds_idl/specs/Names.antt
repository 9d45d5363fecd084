-- What names stand for (IDL 4.2, 7.5).
use Rattle.std.specs.Prelude.{ℕ, List, ◌++◌, Bool, String, if◌then◌else◌, fold, is_some, string_bytes}
use Rattle.std.specs.declared.alloc.Global.{Global}
use Rattle.std.specs.BTreeMap.{BTreeMap, get_by_text}
use Rattle.dds_idl.specs.declared.declarations.Meaning.{Meaning}

-- names and what they stand for
abbrev pub Names : Type 0
Names = BTreeMap (String Global) Meaning

-- whether a full name is declared
abbrev pub is_declared : Names → List ℕ → Bool
is_declared names full = is_some (get_by_text names full)

-- a name in the innermost of the modules that declare it, outermost first and each by what comes
-- before a name in it; the name alone where none does
abbrev pub innermost : Names → List (String Global) → List ℕ → List ℕ
innermost names prefixes name =
    fold (λ found prefix. if is_declared names (string_bytes prefix ++ name)
    then string_bytes prefix ++ name else found) name prefixes
