-- What types that are described one after another mean: each names those before it by their
-- places.
use Rattle.std.specs.Prelude.{◌≡◌, ◌≤◌, ◌<◌, ℕ, List, [], ◌∷◌, ◌++◌, length, map, get_or}
use Rattle.std.specs.List.{All}
use Rattle.std.specs.Int.{w8, w16, w32, w64}
use Rattle.dds_xcdr.specs.declared.primitive.Primitive.{Primitive}
use Rattle.dds_xcdr.specs.declared.primitive.Primitive.TheVariants.{Boolean, Octet, Char, Int8, Uint8, Int16, Uint16, Int32, Uint32, Int64, Uint64, Float, Double}
use Rattle.dds_xcdr.specs.declared.member.Case.{Case}
use Rattle.dds_xcdr.specs.declared.member.Member.{Member}
use Rattle.dds_xcdr.specs.declared.member.TypeId.{TypeId}
use Rattle.dds_xcdr.specs.declared.node.Node.{Node}
use Rattle.dds_xcdr.specs.declared.node.Node.TheVariants as node
use Rattle.dds_xcdr.specs.declared.node.Entry.{Entry}
use Rattle.dds_xcdr.specs.declared.fault.TypeFault.{TypeFault}
use Rattle.dds_xcdr.specs.declared.fault.TypeFault.TheVariants.{Unknown, BadDimensions, NoMembers, TooDeep, TooMany, NoMemory}
use Rattle.dds_xcdr.specs.Xtype.{Xtype, Fields, Named, Digits, Character, Floating, Number, Signed, Truth, Enum, Text, Sequence, Array, Struct, none, field, depth}

-- the primitive types by what they stand for and their sizes (DDS-XTypes 7.2.2.2, 7.4.1.1.1)
abbrev pub plain : Primitive → Xtype
plain Boolean = Truth
plain Octet = Number Digits 1
plain Char = Number Character 1
plain Int8 = Signed w8
plain Uint8 = Number Digits 1
plain Int16 = Signed w16
plain Uint16 = Number Digits 2
plain Int32 = Signed w32
plain Uint32 = Number Digits 4
plain Int64 = Signed w64
plain Uint64 = Number Digits 8
plain Float = Number Floating 4
plain Double = Number Floating 8

-- the type that an id names, where there is one
abbrev pub type_in : List Xtype → TypeId → Xtype
type_in types id = get_or types id.0 Truth

-- the members of a struct
abbrev pub fields_in : List Xtype → List Member → Fields
fields_in types [] = none
fields_in types (m ∷ ms) =
    field (record { name = m.name.bytes.items; is_key = m.is_key }) (type_in types m.of)
    (fields_in types ms)

-- the values of an enumeration
abbrev pub values_of : List Case → List Named
values_of cases = map (λ c. record { name = c.name.bytes.items; value = c.value }) cases

-- what a description means after these types
abbrev pub meant : List Xtype → Node → Xtype
meant types (node.Plain p) = plain p
meant types (node.Enum cases) = Enum (values_of cases.items)
meant types (node.Text bound) = Text bound
meant types (node.Sequence item bound) = Sequence (type_in types item) bound
meant types (node.Array item dimensions) = Array (type_in types item) dimensions.sizes.items
meant types (node.Struct members) = Struct (fields_in types members.items)

-- the types after these
abbrev pub built_from : List Xtype → List Node → List Xtype
built_from types [] = types
built_from types (n ∷ ns) = built_from (types ++ meant types n ∷ []) ns

-- the types that are described
abbrev pub types_of : List Node → List Xtype
types_of nodes = built_from [] nodes

-- a description names only types that stand before a place
abbrev pub NamesBelow : ℕ → Node → Type 0
NamesBelow at (node.Plain p) = Unit {0}
NamesBelow at (node.Enum cases) = Unit {0}
NamesBelow at (node.Text bound) = Unit {0}
NamesBelow at (node.Sequence item bound) = item.0 < at
NamesBelow at (node.Array item dimensions) = item.0 < at
NamesBelow at (node.Struct members) = All (λ m. m.of.0 < at) members.items

-- each description names only types before it
abbrev pub AreDescribed : List Xtype → List Node → Type 0
AreDescribed types [] = Unit {0}
AreDescribed types (n ∷ ns) =
    NamesBelow (length types) n × AreDescribed (types ++ meant types n ∷ []) ns

-- the descriptions that are kept
abbrev pub nodes_of : List Entry → List Node
nodes_of entries = map (λ e. e.node) entries

-- what is kept beside each is its depth, and none is over 32
pub record AreKept (entries : List Entry) : Type 0 where
  pub described : AreDescribed [] (nodes_of entries)
  pub depths : map (λ e. e.depth) entries ≡ map depth (types_of (nodes_of entries))
  pub bounded : All (λ e. e.depth ≤ 32) entries

-- an enumeration without values (DDS-XTypes 7.2.2.4.1), or a struct without members, whose values
-- would have no octets
abbrev pub IsEmpty : Node → Type 0
IsEmpty (node.Enum cases) = cases.items ≡ []
IsEmpty (node.Struct members) = members.items ≡ []
IsEmpty other = ⊥

-- a description is added after the others, where nothing speaks against it, and its id is its
-- place
pub record Adds (n : Node) (id : TypeId) (old new : List Node) : Type 0 where
  pub place : id.0 ≡ length old
  pub added : new ≡ old ++ n ∷ []
  pub names : NamesBelow (length old) n
  pub some : IsEmpty n → ⊥
  pub depth : depth (meant (types_of old) n) ≤ 32
  pub room : length old < 65536

-- why a description isn't added; dimensions that are wrong are never part of one
abbrev pub Refuses : Node → TypeFault → List Node → Type 0
Refuses n Unknown types = NamesBelow (length types) n → ⊥
Refuses n BadDimensions types = ⊥
Refuses n NoMembers types = IsEmpty n
Refuses n TooDeep types = 32 < depth (meant (types_of types) n)
Refuses n TooMany types = 65536 ≤ length types
Refuses n NoMemory types = Unit {0}
