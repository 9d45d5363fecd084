-- Types that are described one after another: what a description means doesn't change with those
-- after it.
use Rattle.std.proofs.Common.{◌≡◌, ℕ, zero, suc, ◌+◌, ◌≤◌, ◌<◌, Bool, true, false, if◌then◌else◌, List, [], ◌∷◌, ◌++◌, length, map, get_or, refl, sym, ◌∙◌, ap, ap₂, subst, arith, append_assoc, append-nil, length-append, add-zero}
use Rattle.std.specs.List.{All}
use Rattle.std.proofs.Math.ListN.{get_or-append}
use Rattle.std.proofs.Math.Seq.{get_or-append_seam}
use Rattle.std.proofs.lemmas.List.{get_or-map, length-map, map-append}
use Rattle.std.proofs.lemmas.List.Elements.{All-append, All-cons}
use Rattle.dds_xcdr.specs.declared.member.Member.{Member}
use Rattle.dds_xcdr.specs.declared.member.TypeId.{TypeId}
use Rattle.dds_xcdr.specs.declared.node.Node.{Node}
use Rattle.dds_xcdr.specs.declared.node.Node.TheVariants as node
use Rattle.dds_xcdr.specs.declared.node.Entry.{Entry}
use Rattle.dds_xcdr.specs.Xtype.{Xtype, Truth, Array, Sequence, Struct, depth}
use Rattle.dds_xcdr.specs.Types.{AreDescribed, AreKept, NamesBelow, built_from, fields_in, meant, nodes_of, type_in, types_of}

-- ---- what more types leave as it is

All-tail : {X : Type 0} (P : X → Type 0) (x : X) (xs : List X) → All P (x ∷ xs) → All P xs
All-tail P x xs all = λ k d below. all (suc k) d (omega arith)

type_extends : (types more : List Xtype) (id : TypeId) → id.0 < length types
    → type_in (types ++ more) id ≡ type_in types id
type_extends types more id below = get_or-append types more Truth id.0 below

fields_extend : (types more : List Xtype) (ms : List Member) → All (λ m. m.of.0 < length types) ms
    → fields_in (types ++ more) ms ≡ fields_in types ms
fields_extend types more [] all = refl
fields_extend types more (m ∷ ms) all =
    rw (
      type_extends types more m.of (all 0 m (omega arith)),
      fields_extend types more ms
          (All-tail (λ (k : Member). k.of.0 < length types) m ms all),
    ) refl

meant_extends : (types more : List Xtype) (n : Node) → NamesBelow (length types) n
    → meant (types ++ more) n ≡ meant types n
meant_extends types more (node.Plain p) below = refl
meant_extends types more (node.Enum cases) below = refl
meant_extends types more (node.Text bound) below = refl
meant_extends types more (node.Sequence item bound) below =
    ap (λ (t : Xtype). Sequence t bound) (type_extends types more item below)
meant_extends types more (node.Array item dimensions) below =
    ap (λ (t : Xtype). Array t dimensions.sizes.items) (type_extends types more item below)
meant_extends types more (node.Struct members) below =
    ap Struct (fields_extend types more members.items below)

built_extends : (types : List Xtype) (ns : List Node) → (more : List Xtype)
    × (built_from types ns ≡ types ++ more)
built_extends types [] = ([], sym (append-nil types))
built_extends types (n ∷ ns) =
    let r = built_extends (types ++ meant types n ∷ []) ns in
    (meant types n ∷ r.0, r.1 ∙ simp append_assoc)

-- ---- what is at a place

pub length_built : (types : List Xtype) (ns : List Node)
    → length (built_from types ns) ≡ length types + length ns
length_built types [] = omega arith
length_built types (n ∷ ns) =
    length_built (types ++ meant types n ∷ []) ns
    ∙ omega (arith, length-append types (meant types n ∷ []))

pub record StandsAt (types : List Xtype) (place : ℕ) (n : Node) : Type 0 where
  pub meant : meant types n ≡ get_or types place Truth
  pub below : NamesBelow place n

built_at : (types : List Xtype) (ns : List Node) (k : ℕ) (d : Node) → AreDescribed types ns
    → k < length ns → StandsAt (built_from types ns) (length types + k) (get_or ns k d)
built_at types [] k d all below = absurd (omega (arith, below))
built_at types (n ∷ ns) zero d all below =
    let here : Xtype = meant types n in
    let r = built_extends (types ++ here ∷ []) ns in
    let whole : built_from (types ++ here ∷ []) ns ≡ types ++ here ∷ r.0 = r.1
    ∙ simp append_assoc in
    let P : ℕ → Type 0 = λ place. StandsAt (built_from (types ++ here ∷ []) ns) place n in
    subst P (sym (add-zero (length types)))
    (record {
      meant = ap (λ (ts : List Xtype). meant ts n) whole ∙ meant_extends types (here ∷ r.0) n all.0
          ∙ sym (ap (λ (ts : List Xtype). get_or ts (length types) Truth) whole
          ∙ get_or-append_seam types here r.0 Truth);
      below = all.0;
    })
built_at types (n ∷ ns) (suc k) d all below =
    let here : Xtype = meant types n in
    let P : ℕ → Type 0 = λ place. StandsAt (built_from (types ++ here ∷ []) ns) place
    (get_or ns k d) in
    subst P (omega (arith, length-append types (here ∷ [])))
    (built_at (types ++ here ∷ []) ns k d all.1 (omega arith))

-- the description at a place means the type there, and names only types before it
pub node_at : (entries : List Entry) (k : ℕ) (d : Entry) → AreKept entries → k < length entries
    → StandsAt (types_of (nodes_of entries)) k (get_or entries k d).node
node_at entries k d kept below =
    let at : get_or (nodes_of entries) k d.node ≡ (get_or entries k d).node =
    get_or-map (λ (e : Entry). e.node) entries k d d.node below in
    let within : k < length (nodes_of entries) =
    omega (arith, length-map entries (λ (e : Entry). e.node)) in
    let s : StandsAt (types_of (nodes_of entries)) (0 + k) (get_or (nodes_of entries) k d.node) =
    built_at [] (nodes_of entries) k d.node kept.described within in
    let none : 0 + k ≡ k = omega arith in
    let P : ℕ → Type 0 = λ place. StandsAt (types_of (nodes_of entries)) place
    (get_or entries k d).node in
    let Q : Node → Type 0 = λ n. StandsAt (types_of (nodes_of entries)) (0 + k) n in
    subst P none (subst Q at s)

pub node_is : (entries : List Entry) (nodes : List Node) (k : ℕ) (x d : Entry) → AreKept entries
    → nodes_of entries ≡ nodes → k < length nodes → x ≡ get_or entries k d
    → StandsAt (types_of nodes) k x.node
node_is entries nodes k x d kept seen below same =
    let within : k < length entries = omega
    (arith, length-map entries (λ (e : Entry). e.node), ap length seen) in
    let P : List Node → Type 0 = λ ns. StandsAt (types_of ns) k x.node in
    let Q : Entry → Type 0 = λ e. StandsAt (types_of (nodes_of entries)) k e.node in
    subst P seen (subst Q (sym same) (node_at entries k d kept within))

-- what a node that is known means
pub means : (types : List Xtype) (n other : Node) (t : Xtype) → meant types n ≡ t → n ≡ other
    → meant types other ≡ t
means types n other t is same = ap (λ (x : Node). meant types x) (sym same) ∙ is

-- ---- depths

pub length_types : (entries : List Entry) → length (types_of (nodes_of entries)) ≡ length entries
length_types entries = omega (
  arith,
  length_built [] (nodes_of entries),
  length-map entries
      (λ (e : Entry). e.node),
)

pub depth_at : (entries : List Entry) (k : ℕ) (d : Entry) → AreKept entries → k < length entries
    → (get_or entries k d).depth ≡ depth (get_or (types_of (nodes_of entries)) k Truth)
depth_at entries k d kept below =
    let types : List Xtype = types_of (nodes_of entries) in
    sym (get_or-map (λ (e : Entry). e.depth) entries k d d.depth below)
    ∙ ap (λ (ds : List ℕ). get_or ds k d.depth) kept.depths
    ∙ get_or-map depth types k Truth d.depth (omega (arith, length_types entries))

pub depth_is : (entries : List Entry) (nodes : List Node) (k : ℕ) (x d : Entry) → AreKept entries
    → nodes_of entries ≡ nodes → k < length entries → x ≡ get_or entries k d
    → x.depth ≡ depth (get_or (types_of nodes) k Truth)
depth_is entries nodes k x d kept seen below same =
    ap (λ (e : Entry). e.depth) same ∙ depth_at entries k d kept below
    ∙ ap (λ (ns : List Node). depth (get_or (types_of ns) k Truth)) seen

-- ---- one description more

built_more : (types : List Xtype) (ns : List Node) (n : Node)
    → built_from types (ns ++ n ∷ []) ≡ built_from types ns ++ meant (built_from types ns) n ∷ []
built_more types [] n = refl
built_more types (m ∷ ns) n = built_more (types ++ meant types m ∷ []) ns n

described_more : (types : List Xtype) (ns : List Node) (n : Node) → AreDescribed types ns
    → NamesBelow (length types + length ns) n → AreDescribed types (ns ++ n ∷ [])
described_more types [] n all below = (
  let P : ℕ → Type 0 = λ place. NamesBelow place n in subst P (add-zero (length types)) below,
  tt,
)
described_more types (m ∷ ns) n all below =
    let P : ℕ → Type 0 = λ place. NamesBelow place n in (
      all.0,
      described_more (types ++ meant types m ∷ []) ns n all.1
          (subst P (omega (arith, length-append types (meant types m ∷ []))) below),
    )

pub nodes_more : (entries : List Entry) (e : Entry)
    → nodes_of (entries ++ e ∷ []) ≡ nodes_of entries ++ e.node ∷ []
nodes_more entries e = map-append (λ (x : Entry). x.node) entries (e ∷ [])

kept_more : (entries : List Entry) (e : Entry) → AreKept entries
    → NamesBelow (length entries) e.node
    → e.depth ≡ depth (meant (types_of (nodes_of entries)) e.node) → e.depth ≤ 32
    → AreKept (entries ++ e ∷ [])
kept_more entries e kept below deep bounded =
    let P : ℕ → Type 0 = λ place. NamesBelow place e.node in
    let place : length entries ≡ 0 + length (nodes_of entries) =
    omega (arith, length-map entries (λ (x : Entry). x.node)) in
    let described : AreDescribed [] (nodes_of entries ++ e.node ∷ []) =
    described_more [] (nodes_of entries) e.node kept.described (subst P place below) in
    let types : List Xtype = types_of (nodes_of entries) in
    let D : List Node → Type 0 = λ ns. AreDescribed [] ns in
    record {
      described = subst D (sym (nodes_more entries e)) described;
      depths = map-append (λ (x : Entry). x.depth) entries (e ∷ [])
          ∙ ap₂ (λ (xs ys : List ℕ). xs ++ ys) kept.depths (ap (λ (k : ℕ). k ∷ []) deep)
          ∙ sym (map-append depth types (meant types e.node ∷ []))
          ∙ ap (λ (ts : List Xtype). map depth ts) (sym (built_more [] (nodes_of entries) e.node))
          ∙ ap (λ (ns : List Node). map depth (types_of ns)) (sym (nodes_more entries e));
      bounded = All-append (λ (x : Entry). x.depth ≤ 32) entries (e ∷ []) kept.bounded
          (All-cons (λ (x : Entry). x.depth ≤ 32) e [] bounded
          (λ k d none. absurd (omega (arith, none))));
    }

-- after a description was to be added, and was or not
pub kept_pushed : (entries after : List Entry) (e : Entry) (nodes : List Node) (place : ℕ)
    (pushed : Bool) → AreKept entries → nodes_of entries ≡ nodes → NamesBelow place e.node
    → place ≡ length entries → e.depth ≡ depth (meant (types_of nodes) e.node) → e.depth ≤ 32
    → after ≡ (if pushed then entries ++ e ∷ [] else entries) → AreKept after
kept_pushed entries after e nodes place true kept seen below here deep bounded is =
    let P : ℕ → Type 0 = λ k. NamesBelow k e.node in
    let whole : e.depth ≡ depth (meant (types_of (nodes_of entries)) e.node) = deep
    ∙ ap (λ (ns : List Node). depth (meant (types_of ns) e.node)) (sym seen) in
    subst AreKept (sym is) (kept_more entries e kept (subst P here below) whole bounded)
kept_pushed entries after e nodes place false kept seen below here deep bounded is =
    subst AreKept (sym is) kept
