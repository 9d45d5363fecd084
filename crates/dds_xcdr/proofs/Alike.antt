-- Values that are encoded as numbers of a size are there where such numbers are.
use Rattle.std.proofs.Common.{◌≡◌, ℕ, suc, ◌+◌, List, [], ◌∷◌, ◌++◌, length, Some, None, refl, sym, ◌∙◌, ap, subst, append-nil, Result}
use Rattle.std.specs.Int.{byte_len, cast_signed, w32}
use Rattle.rtps_types.specs.declared.field.Endian.{Endian}
use Rattle.rtps_cdr.specs.Cdr.{AreAll}
use Rattle.rtps_cdr.specs.Reading.{Cursor}
use Rattle.dds_xcdr.specs.declared.version.Version.{Version}
use Rattle.dds_xcdr.specs.declared.fault.XcdrFault.{XcdrFault}
use Rattle.dds_xcdr.specs.declared.primitive.Primitive.{Primitive}
use Rattle.dds_xcdr.specs.declared.primitive.Primitive.TheVariants.{Boolean, Octet, Char, Int8, Uint8, Int16, Uint16, Int32, Uint32, Int64, Uint64, Float, Double}
use Rattle.dds_xcdr.specs.Xtype.{Xtype, Digits, Number, Signed, Truth, Enum, Text, Sequence, Array, Struct, ValueOf, number_size}
use Rattle.dds_xcdr.specs.Xcdr.{IsXcdr}
use Rattle.dds_xcdr.specs.Types.{plain}
use Rattle.dds_xcdr.specs.Spans.{AreItems, IsTruth, IsValue, Passes}
use Rattle.dds_xcdr.proofs.Spans.{passes_as}

-- a value is there as a number
as_number : (v : Version) (t : Xtype) (size : ℕ) (e : Endian) → number_size t ≡ Some size
    → (at : ℕ) (octets : List ℕ) → IsValue v t e at octets → IsValue v (Number Digits size) e at octets
as_number v (Number style k) size e same at octets x =
    let P : ℕ → Type 0 = λ n. IsValue v (Number Digits n) e at octets in
    subst P (cc same) x
as_number v (Signed w) size e same at octets x =
    let P : ℕ → Type 0 = λ n. IsValue v (Number Digits n) e at octets in
    let y : IsValue v (Number Digits (byte_len w)) e at octets = (x.1.0, x.1.1) in
    subst P (cc same) y
as_number v (Enum values) size e same at octets x =
    let P : ℕ → Type 0 = λ n. IsValue v (Number Digits n) e at octets in
    let y : IsValue v (Number Digits 4) e at octets = (x.1.0, x.1.1) in
    subst P (cc same) y
as_number v Truth size e same at octets x = absurd (cc same)
as_number v (Text bound) size e same at octets x = absurd (cc same)
as_number v (Sequence t bound) size e same at octets x = absurd (cc same)
as_number v (Array t dimensions) size e same at octets x = absurd (cc same)
as_number v (Struct fields) size e same at octets x = absurd (cc same)

-- and where a number is, a value is
of_number : (v : Version) (t : Xtype) (size : ℕ) (e : Endian) → number_size t ≡ Some size
    → (at : ℕ) (octets : List ℕ) → IsValue v (Number Digits size) e at octets → IsValue v t e at octets
of_number v (Number style k) size e same at octets x =
    let P : ℕ → Type 0 = λ n. IsValue v (Number Digits n) e at octets in
    subst P (cc same) x
of_number v (Signed w) size e same at octets x =
    let P : ℕ → Type 0 = λ n. IsValue v (Number Digits n) e at octets in
    let y : IsValue v (Number Digits (byte_len w)) e at octets = subst P (cc same) x in
    (cast_signed w y.0, (y.0, y.1, refl))
of_number v (Enum values) size e same at octets x =
    let P : ℕ → Type 0 = λ n. IsValue v (Number Digits n) e at octets in
    let y : IsValue v (Number Digits 4) e at octets = subst P (cc same) x in
    (cast_signed w32 y.0, (y.0, y.1, refl))
of_number v Truth size e same at octets x = absurd (cc same)
of_number v (Text bound) size e same at octets x = absurd (cc same)
of_number v (Sequence t bound) size e same at octets x = absurd (cc same)
of_number v (Array t dimensions) size e same at octets x = absurd (cc same)
of_number v (Struct fields) size e same at octets x = absurd (cc same)

-- the same of all of them
all_as : (v : Version) (s t : Xtype) (e : Endian)
    → ((at : ℕ) (octets : List ℕ) → IsValue v s e at octets → IsValue v t e at octets)
    → (xs : List (ValueOf s)) (at : ℕ) (octets : List ℕ)
    → AreAll (λ q items x. IsXcdr v s q e items x) at octets xs
    → AreItems v t (length xs) e at octets
all_as v s t e same [] at octets all = ([], refl, all)
all_as v s t e same (x ∷ xs) at octets all =
    let y = same at all.0 (x, all.3) in
    let ys = all_as v s t e same xs (at + length all.0) all.1 all.4 in
    (y.0 ∷ ys.0, ap suc ys.1, (all.0, all.1, all.2, y.1, ys.2))

items_as : (v : Version) (s t : Xtype) (n : ℕ) (e : Endian)
    → ((at : ℕ) (octets : List ℕ) → IsValue v s e at octets → IsValue v t e at octets)
    → (at : ℕ) (octets : List ℕ) → AreItems v s n e at octets → AreItems v t n e at octets
items_as v s t n e same at octets items =
    let r = all_as v s t e same items.0 at octets items.2 in
    (r.0, r.1 ∙ items.1, r.2)

-- items that are encoded as numbers are passed as numbers
pub items_alike : (v : Version) (t : Xtype) (size n : ℕ) (c after : Cursor)
    (r : Result (Unit {0}) XcdrFault) → number_size t ≡ Some size
    → Passes (AreItems v (Number Digits size) n c.endian) c after r
    → Passes (AreItems v t n c.endian) c after r
items_alike v t size n c after r same p =
    passes_as (AreItems v (Number Digits size) n c.endian) (AreItems v t n c.endian) c after r
    (λ at octets x. items_as v (Number Digits size) t n c.endian
    (λ q os y. of_number v t size c.endian same q os y) at octets x)
    (λ at octets x. items_as v t (Number Digits size) n c.endian
    (λ q os y. as_number v t size c.endian same q os y) at octets x) p

-- a value is one item
to_single : (v : Version) (t : Xtype) (e : Endian) (at : ℕ) (octets : List ℕ)
    → IsValue v t e at octets → AreItems v t 1 e at octets
to_single v t e at octets x = (x.0 ∷ [], refl, (octets, [], sym (append-nil octets), x.1, refl))

of_list : (v : Version) (t : Xtype) (e : Endian) (at : ℕ) (octets : List ℕ) (xs : List (ValueOf t))
    → length xs ≡ 1 → AreAll (λ q items x. IsXcdr v t q e items x) at octets xs
    → IsValue v t e at octets
of_list v t e at octets [] one all = absurd (cc one)
of_list v t e at octets (x ∷ []) one all =
    let whole : all.0 ≡ octets = sym (append-nil all.0)
    ∙ ap (λ (os : List ℕ). all.0 ++ os) (sym all.4) ∙ sym all.2 in
    (x, rw whole at (all.3))
of_list v t e at octets (x ∷ y ∷ ys) one all = absurd (cc one)

of_single : (v : Version) (t : Xtype) (e : Endian) (at : ℕ) (octets : List ℕ)
    → AreItems v t 1 e at octets → IsValue v t e at octets
of_single v t e at octets items = of_list v t e at octets items.0 items.1 items.2

-- a value that is encoded as a number is passed as one number
pub value_alike : (v : Version) (t : Xtype) (size : ℕ) (c after : Cursor)
    (r : Result (Unit {0}) XcdrFault) → number_size t ≡ Some size
    → Passes (AreItems v (Number Digits size) 1 c.endian) c after r
    → Passes (IsValue v t c.endian) c after r
value_alike v t size c after r same p =
    passes_as (AreItems v t 1 c.endian) (IsValue v t c.endian) c after r
    (λ at octets x. of_single v t c.endian at octets x)
    (λ at octets x. to_single v t c.endian at octets x)
    (items_alike v t size 1 c after r same p)

-- a primitive type of no size is the truth values
no_size : (p : Primitive) → None ≡ number_size (plain p) → plain p ≡ Truth
no_size Boolean e = refl
no_size Octet e = absurd (cc e)
no_size Char e = absurd (cc e)
no_size Int8 e = absurd (cc e)
no_size Uint8 e = absurd (cc e)
no_size Int16 e = absurd (cc e)
no_size Uint16 e = absurd (cc e)
no_size Int32 e = absurd (cc e)
no_size Uint32 e = absurd (cc e)
no_size Int64 e = absurd (cc e)
no_size Uint64 e = absurd (cc e)
no_size Float e = absurd (cc e)
no_size Double e = absurd (cc e)

pub truth_passes : (v : Version) (p : Primitive) (c after : Cursor)
    (r : Result (Unit {0}) XcdrFault) → None ≡ number_size (plain p) → Passes IsTruth c after r
    → Passes (IsValue v (plain p) c.endian) c after r
truth_passes v p c after r none passes =
    let truths : Passes (IsValue v Truth c.endian) c after r =
    passes_as IsTruth (IsValue v Truth c.endian) c after r (λ at octets x. (x.0, x.1))
    (λ at octets x. (x.0, x.1)) passes in
    rw (no_size p none) truths

-- what a type is known to be
pub value_known : (v : Version) (s t : Xtype) (c after : Cursor) (r : Result (Unit {0}) XcdrFault)
    → s ≡ t → Passes (IsValue v s c.endian) c after r → Passes (IsValue v t c.endian) c after r
value_known v s t c after r same passes =
    let P : Xtype → Type 0 = λ u. Passes (IsValue v u c.endian) c after r in
    subst P same passes
