-- The type of a name in files.
use Rattle.std.specs.Prelude.{◌≡◌, ◌≢◌, ◌<◌, ◌≤◌, ◌⊎◌, ◌++◌, ℕ, List, [], ◌∷◌, length, map, All, Option, Some, IfSome, IsUtf8, string_bytes}
use Rattle.std.specs.BTreeMap.{get_by_text}
use Rattle.dds_idl.specs.Place.{IsAPlace}
use Rattle.dds_idl.specs.declared.declarations.Declarations.{Declarations}
use Rattle.dds_idl.specs.declared.declarations.Meaning.TheVariants.{Described}
use Rattle.dds_idl.specs.declared.fault.IdlFault.TheVariants as idl
use Rattle.dds_idl.specs.declared.source.Source.{Source}
use Rattle.dds_xcdr.specs.declared.member.TypeId.{TypeId}
use Rattle.dds_xcdr.specs.Types.{type_in, types_of}
use Rattle.dds_xcdr.specs.Xtype.{Xtype}
use Rattle.idl_files.specs.Parts.{Text, parts_of}
use Rattle.idl_files.specs.declared.files.FileText.{FileText}
use Rattle.idl_files.specs.declared.fault.TypesFault.{TypesFault}
use Rattle.idl_files.specs.declared.fault.TypesFault.TheVariants.{CannotRead, Idl, NoMemory, NoType, TooManyFiles}

-- ---- the texts of files

-- files of these names hold these texts, as far as it is known what they hold
abbrev pub Hold : (List ℕ → Option (List ℕ)) → List Text → List FileText → Type 0
Hold holds [] [] = Unit {0}
Hold holds [] (text ∷ texts) = ⊥
Hold holds (name ∷ names) [] = ⊥
Hold holds (name ∷ names) (text ∷ texts) =
    (text.name.now ≡ name) × IfSome (holds name) (λ octets. text.octets.items ≡ octets)
    × Hold holds names texts

-- the texts of the files that a text names, at most this many, were appended
abbrev pub AddsTexts : (List ℕ → Option (List ℕ)) → Text → ℕ → List FileText → List FileText
    → Type 0
AddsTexts holds names most old new =
    (more : List FileText) × (new ≡ old ++ more) × Hold holds (parts_of names) more
    × (length (parts_of names) ≤ most)

-- one of these texts is this one
abbrev pub IsOneOf : Text → List Text → Type 0
IsOneOf name [] = ⊥
IsOneOf name (text ∷ texts) = (name ≡ text) ⊎ IsOneOf name texts

-- why a file isn't read: it can't be, or memory
abbrev pub IsUnread : Text → TypesFault → Type 0
IsUnread name (CannotRead other) = string_bytes other ≡ name
IsUnread name NoMemory = Unit {0}
IsUnread name other = ⊥

-- why the texts of files can't be had: there are more files than that, one can't be read, or memory
abbrev pub IsTextsCause : Text → ℕ → TypesFault → Type 0
IsTextsCause names most TooManyFiles = most < length (parts_of names)
IsTextsCause names most (CannotRead name) =
    IsOneOf (string_bytes name) (parts_of names)
IsTextsCause names most NoMemory = Unit {0}
IsTextsCause names most other = ⊥

-- ---- what they declare

-- a text by its name and its octets, in a file and as a source
abbrev pub named : FileText → Text × Text
named text = (text.name.now, text.octets.items)

abbrev pub said : Source → Text × Text
said source = (source.name.now, source.text.now)

-- sources are those of these texts, in order
abbrev pub AreSources : List FileText → List Source → Type 0
AreSources texts sources = map said sources ≡ map named texts

-- the texts are UTF-8, and this is the type of this name among some that they declare
abbrev pub Declare : List FileText → Text → Xtype → Type 0
Declare texts name t =
    All (λ text. IsUtf8 text.octets.items) texts
    × ((declared : Declarations) × (id : TypeId)
    × (get_by_text declared.names name ≡ Some (Described id))
    × (t ≡ type_in (types_of declared.types) id))

-- why a type of this name isn't found: there is none, or memory
abbrev pub IsUndeclared : Text → TypesFault → Type 0
IsUndeclared name (NoType other) = string_bytes other ≡ name
IsUndeclared name NoMemory = Unit {0}
IsUndeclared name other = ⊥

-- why texts don't declare a type of this name: one is refused, they declare no such type, or memory
abbrev pub IsDeclaredCause : List FileText → Text → TypesFault → Type 0
IsDeclaredCause texts name (Idl e) =
    (e.what ≢ idl.NoMemory)
    × ((sources : List Source) × AreSources texts sources × IsAPlace sources e)
IsDeclaredCause texts name (NoType other) =
    (string_bytes other ≡ name)
    × ((declared : Declarations)
    × ((id : TypeId) → id.0 < length declared.types
    → get_by_text declared.names name ≢ Some (Described id)))
IsDeclaredCause texts name NoMemory = Unit {0}
IsDeclaredCause texts name other = ⊥

-- ---- the type of a name in files

-- the type of this name that the files declare which a text names, 16 at the most
abbrev pub IsDeclared : (List ℕ → Option (List ℕ)) → Text → Text → Xtype → Type 0
IsDeclared holds names name t =
    (texts : List FileText) × Hold holds (parts_of names) texts
    × (length (parts_of names) ≤ 16) × Declare texts name t

-- why there is none
abbrev pub IsTypesCause : (List ℕ → Option (List ℕ)) → Text → Text → TypesFault → Type 0
IsTypesCause holds names name fault =
    IsTextsCause names 16 fault
    ⊎ ((texts : List FileText) × Hold holds (parts_of names) texts
    × IsDeclaredCause texts name fault)
