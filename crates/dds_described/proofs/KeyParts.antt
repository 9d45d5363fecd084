-- Copies of keys, member by member.
use Rattle.std.proofs.Common.{◌≡◌, ℕ, ◌+◌, ◌≤◌, ◌<◌, Bool, true, false, List, [], ◌++◌, length, drop, get_or, if◌then◌else◌, ◌&&◌, ◌||◌, not, Some, None, Result, Ok, refl, sym, ◌∙◌, ap, subst, add-zero, append-nil, drop_of_length-le, Vec, Global}
use Rattle.rtps_types.specs.declared.field.Endian.{Endian}
use Rattle.rtps_cdr.specs.Reading.{Cursor, placed}
use Rattle.dds_topic.specs.Answer.{Fails}
use Rattle.dds_topic.specs.declared.unread.CatalogError.{CatalogError}
use Rattle.dds_topic.specs.declared.unread.Unread.{Unread as UnreadCode}
use Rattle.dds_xcdr.specs.declared.member.Member.{Member}
use Rattle.dds_xcdr.specs.declared.node.Node.{Node}
use Rattle.dds_xcdr.specs.declared.node.Node.TheVariants as node
use Rattle.dds_xcdr.specs.declared.primitive.Primitive.{Primitive}
use Rattle.dds_xcdr.specs.declared.primitive.Primitive.TheVariants as primitive
use Rattle.dds_xcdr.specs.declared.version.Version.{Version}
use Rattle.dds_xcdr.specs.Types.{fields_in, meant, plain, type_in}
use Rattle.dds_xcdr.specs.Xtype.{Xtype, Fields, Tag, Number, Signed, Truth, Enum, Text, Sequence, Array, Struct, none, field, ValueOf, ValuesOf}
use Rattle.dds_described.specs.Reading.{Found, value_found, values_found}
use Rattle.dds_described.specs.Writing.{all_fields, written}
use Rattle.dds_described.specs.Key.{has_key, held, held_fields, holder, is_keyed, is_left_out, kept_fields, key_type, with_first}
use Rattle.dds_described.specs.Copying.{Copy, copied, fields_copied, holder_member_copied, key_copied, key_fields_copied, key_member_copied, moved, moves, topic_key_copied}
use Rattle.dds_described.proofs.Copies.{both_moved, fails_as, fields_next, next, no_fields, parts_at}

-- ---- out of values

key_next : (v : Version) (keyed : Bool) (tag : Tag) (t : Xtype) (fields : Fields) (s : Copy)
    → key_fields_copied v keyed (field tag t fields) s
    ≡ next (key_member_copied v (is_left_out keyed tag) t s)
    (λ m. key_fields_copied v keyed fields m)
key_next v keyed tag t fields s = by_bit (is_left_out keyed tag) where
  by_bit : (b : Bool)
      → moves (λ c. values_found v (field tag t fields) c)
      (λ at e xs. all_fields (if b then kept_fields keyed fields
      else field tag (holder t) (kept_fields keyed fields)) at e
      (with_first b tag (holder t) (kept_fields keyed fields) (held t xs.0)
      (held_fields keyed fields xs.1))) s
      ≡ next (key_member_copied v b t s) (λ m. key_fields_copied v keyed fields m)
  by_bit true =
      both_moved (ValueOf t) (ValuesOf fields) (ValueOf t × ValuesOf fields)
      (λ c. value_found v t c) (λ c. values_found v fields c) (λ x xs. (x, xs))
      (λ at e xs. all_fields (kept_fields keyed fields) at e (held_fields keyed fields xs.1))
      (λ at e x. [])
      (λ at e xs. all_fields (kept_fields keyed fields) at e (held_fields keyed fields xs))
      (λ x xs at e. ap (λ (n : ℕ). all_fields (kept_fields keyed fields) n e
      (held_fields keyed fields xs)) (sym (add-zero at))) s
  by_bit false =
      both_moved (ValueOf t) (ValuesOf fields) (ValueOf t × ValuesOf fields)
      (λ c. value_found v t c) (λ c. values_found v fields c) (λ x xs. (x, xs))
      (λ at e xs. all_fields (field tag (holder t) (kept_fields keyed fields)) at e
      (held t xs.0, held_fields keyed fields xs.1))
      (λ at e x. written (holder t) at e (held t x))
      (λ at e xs. all_fields (kept_fields keyed fields) at e (held_fields keyed fields xs))
      (λ x xs at e. refl) s

no_key_fields : (v : Version) (keyed : Bool) (s : Copy) → key_fields_copied v keyed none s ≡ Ok s
no_key_fields v keyed s =
    ap (λ (os : List ℕ). Ok (record {
      reader = s.reader;
      writer = record { octets = os; endian = s.writer.endian };
    })) (append-nil s.writer.octets)

key_part : (v : Version) (keyed : Bool) (types : List Xtype) (ms : List Member) (i : ℕ)
    (x : Member) (is_left : Bool) (m : Copy) → i < length ms → x ≡ get_or ms i x
    → is_left ≡ is_left_out keyed (record { name = x.name.bytes.items; is_key = x.is_key })
    → key_fields_copied v keyed (fields_in types (drop i ms)) m
    ≡ next (key_member_copied v is_left (type_in types x.of) m)
    (λ k. key_fields_copied v keyed (fields_in types (drop (i + 1) ms)) k)
key_part v keyed types ms i x is_left m more is same =
    ap (λ (xs : List Member). key_fields_copied v keyed (fields_in types xs) m)
    (parts_at ms i x more is)
    ∙ key_next v keyed (record { name = x.name.bytes.items; is_key = x.is_key })
    (type_in types x.of) (fields_in types (drop (i + 1) ms)) m
    ∙ ap (λ (b : Bool). next (key_member_copied v b (type_in types x.of) m)
    (λ k. key_fields_copied v keyed (fields_in types (drop (i + 1) ms)) k)) (sym same)

pub key_member_done : (v : Version) (keyed : Bool) (types : List Xtype) (ms : List Member) (i : ℕ)
    (x : Member) (is_left : Bool) (m k s : Copy) → i < length ms → x ≡ get_or ms i x
    → is_left ≡ is_left_out keyed (record { name = x.name.bytes.items; is_key = x.is_key })
    → key_member_copied v is_left (type_in types x.of) m ≡ Ok k
    → key_fields_copied v keyed (fields_in types (drop i ms)) m
    ≡ key_fields_copied v keyed (fields_in types ms) s
    → key_fields_copied v keyed (fields_in types (drop (i + 1) ms)) k
    ≡ key_fields_copied v keyed (fields_in types ms) s
key_member_done v keyed types ms i x is_left m k s more is same went left =
    sym (ap (λ (r : Result Copy UnreadCode).
    next r (λ y. key_fields_copied v keyed (fields_in types (drop (i + 1) ms)) y)) went)
    ∙ sym (key_part v keyed types ms i x is_left m more is same) ∙ left

pub key_member_fails : (v : Version) (keyed other : Bool) (types : List Xtype) (ms : List Member)
    (i : ℕ) (x : Member) (is_left : Bool) (m s : Copy) (e : CatalogError) → keyed ≡ other
    → i < length ms → x ≡ get_or ms i x
    → is_left ≡ is_left_out keyed (record { name = x.name.bytes.items; is_key = x.is_key })
    → Fails e (key_member_copied v is_left (type_in types x.of) m)
    → key_fields_copied v keyed (fields_in types (drop i ms)) m
    ≡ key_fields_copied v keyed (fields_in types ms) s
    → Fails e (key_fields_copied v other (fields_in types ms) s)
key_member_fails v keyed other types ms i x is_left m s e known more is same fails left =
    fails_as Copy Copy e (key_member_copied v is_left (type_in types x.of) m)
    (key_fields_copied v other (fields_in types ms) s)
    (λ u went. ap (λ (b : Bool). key_fields_copied v b (fields_in types ms) s) (sym known)
    ∙ sym left ∙ key_part v keyed types ms i x is_left m more is same
    ∙ ap (λ (r : Result Copy UnreadCode).
    next r (λ y. key_fields_copied v keyed (fields_in types (drop (i + 1) ms)) y)) went) fails

pub key_members_done : (v : Version) (keyed other : Bool) (types : List Xtype) (ms : List Member)
    (i : ℕ) (m s : Copy) → keyed ≡ other → length ms ≤ i
    → key_fields_copied v keyed (fields_in types (drop i ms)) m
    ≡ key_fields_copied v keyed (fields_in types ms) s
    → key_fields_copied v other (fields_in types ms) s ≡ Ok m
key_members_done v keyed other types ms i m s known all left =
    ap (λ (b : Bool). key_fields_copied v b (fields_in types ms) s) (sym known) ∙ sym left
    ∙ ap (λ (xs : List Member). key_fields_copied v keyed (fields_in types xs) m)
    (drop_of_length-le ms all) ∙ no_key_fields v keyed m

-- ---- out of key payloads

holder_next : (v : Version) (keyed : Bool) (tag : Tag) (t : Xtype) (fields : Fields) (s : Copy)
    → fields_copied v (kept_fields keyed (field tag t fields)) s
    ≡ next (holder_member_copied v (is_left_out keyed tag) t s)
    (λ m. fields_copied v (kept_fields keyed fields) m)
holder_next v keyed tag t fields s = by_bit (is_left_out keyed tag) where
  by_bit : (b : Bool)
      → fields_copied v (if b then kept_fields keyed fields
      else field tag (holder t) (kept_fields keyed fields)) s
      ≡ next (holder_member_copied v b t s) (λ m. fields_copied v (kept_fields keyed fields) m)
  by_bit true = refl
  by_bit false = fields_next v tag (holder t) (kept_fields keyed fields) s

holder_part : (v : Version) (keyed : Bool) (types : List Xtype) (ms : List Member) (i : ℕ)
    (x : Member) (is_left : Bool) (m : Copy) → i < length ms → x ≡ get_or ms i x
    → is_left ≡ is_left_out keyed (record { name = x.name.bytes.items; is_key = x.is_key })
    → fields_copied v (kept_fields keyed (fields_in types (drop i ms))) m
    ≡ next (holder_member_copied v is_left (type_in types x.of) m)
    (λ k. fields_copied v (kept_fields keyed (fields_in types (drop (i + 1) ms))) k)
holder_part v keyed types ms i x is_left m more is same =
    ap (λ (xs : List Member). fields_copied v (kept_fields keyed (fields_in types xs)) m)
    (parts_at ms i x more is)
    ∙ holder_next v keyed (record { name = x.name.bytes.items; is_key = x.is_key })
    (type_in types x.of) (fields_in types (drop (i + 1) ms)) m
    ∙ ap (λ (b : Bool). next (holder_member_copied v b (type_in types x.of) m)
    (λ k. fields_copied v (kept_fields keyed (fields_in types (drop (i + 1) ms))) k)) (sym same)

pub holder_member_done : (v : Version) (keyed : Bool) (types : List Xtype) (ms : List Member)
    (i : ℕ) (x : Member) (is_left : Bool) (m k s : Copy) → i < length ms → x ≡ get_or ms i x
    → is_left ≡ is_left_out keyed (record { name = x.name.bytes.items; is_key = x.is_key })
    → holder_member_copied v is_left (type_in types x.of) m ≡ Ok k
    → fields_copied v (kept_fields keyed (fields_in types (drop i ms))) m
    ≡ fields_copied v (kept_fields keyed (fields_in types ms)) s
    → fields_copied v (kept_fields keyed (fields_in types (drop (i + 1) ms))) k
    ≡ fields_copied v (kept_fields keyed (fields_in types ms)) s
holder_member_done v keyed types ms i x is_left m k s more is same went left =
    sym (ap (λ (r : Result Copy UnreadCode).
    next r (λ y. fields_copied v (kept_fields keyed (fields_in types (drop (i + 1) ms))) y)) went)
    ∙ sym (holder_part v keyed types ms i x is_left m more is same) ∙ left

pub holder_member_fails : (v : Version) (keyed other : Bool) (types : List Xtype)
    (ms : List Member) (i : ℕ) (x : Member) (is_left : Bool) (m s : Copy) (e : CatalogError)
    → keyed ≡ other → i < length ms → x ≡ get_or ms i x
    → is_left ≡ is_left_out keyed (record { name = x.name.bytes.items; is_key = x.is_key })
    → Fails e (holder_member_copied v is_left (type_in types x.of) m)
    → fields_copied v (kept_fields keyed (fields_in types (drop i ms))) m
    ≡ fields_copied v (kept_fields keyed (fields_in types ms)) s
    → Fails e (fields_copied v (kept_fields other (fields_in types ms)) s)
holder_member_fails v keyed other types ms i x is_left m s e known more is same fails left =
    fails_as Copy Copy e (holder_member_copied v is_left (type_in types x.of) m)
    (fields_copied v (kept_fields other (fields_in types ms)) s)
    (λ u went. ap (λ (b : Bool). fields_copied v (kept_fields b (fields_in types ms)) s) (sym known)
    ∙ sym left ∙ holder_part v keyed types ms i x is_left m more is same
    ∙ ap (λ (r : Result Copy UnreadCode).
    next r (λ y. fields_copied v (kept_fields keyed (fields_in types (drop (i + 1) ms))) y)) went)
    fails

pub holder_members_done : (v : Version) (keyed other : Bool) (types : List Xtype)
    (ms : List Member) (i : ℕ) (m s : Copy) → keyed ≡ other → length ms ≤ i
    → fields_copied v (kept_fields keyed (fields_in types (drop i ms))) m
    ≡ fields_copied v (kept_fields keyed (fields_in types ms)) s
    → fields_copied v (kept_fields other (fields_in types ms)) s ≡ Ok m
holder_members_done v keyed other types ms i m s known all left =
    ap (λ (b : Bool). fields_copied v (kept_fields b (fields_in types ms)) s) (sym known) ∙ sym left
    ∙ ap (λ (xs : List Member). fields_copied v (kept_fields keyed (fields_in types xs)) m)
    (drop_of_length-le ms all) ∙ no_fields v m

-- ---- what is no struct is its own key

plain_holder : (p : Primitive) → holder (plain p) ≡ plain p
plain_holder primitive.Boolean = refl
plain_holder primitive.Octet = refl
plain_holder primitive.Char = refl
plain_holder primitive.Int8 = refl
plain_holder primitive.Uint8 = refl
plain_holder primitive.Int16 = refl
plain_holder primitive.Uint16 = refl
plain_holder primitive.Int32 = refl
plain_holder primitive.Uint32 = refl
plain_holder primitive.Int64 = refl
plain_holder primitive.Uint64 = refl
plain_holder primitive.Float = refl
plain_holder primitive.Double = refl

plain_key : (v : Version) (p : Primitive) (s : Copy)
    → key_copied v (plain p) s ≡ copied v (plain p) s
plain_key v primitive.Boolean s = refl
plain_key v primitive.Octet s = refl
plain_key v primitive.Char s = refl
plain_key v primitive.Int8 s = refl
plain_key v primitive.Uint8 s = refl
plain_key v primitive.Int16 s = refl
plain_key v primitive.Uint16 s = refl
plain_key v primitive.Int32 s = refl
plain_key v primitive.Uint32 s = refl
plain_key v primitive.Int64 s = refl
plain_key v primitive.Uint64 s = refl
plain_key v primitive.Float s = refl
plain_key v primitive.Double s = refl

pub key_default : (v : Version) (types : List Xtype) (n : Node) (t : Xtype) (s : Copy)
    → meant types n ≡ t → ((x : Vec Member Global) → n ≡ node.Struct x → ⊥)
    → key_copied v t s ≡ copied v t s
key_default v types (node.Plain p) t s is other =
    subst (λ (u : Xtype). key_copied v u s ≡ copied v u s) is (plain_key v p s)
key_default v types (node.Enum cases) t s is other =
    subst (λ (u : Xtype). key_copied v u s ≡ copied v u s) is refl
key_default v types (node.Text bound) t s is other =
    subst (λ (u : Xtype). key_copied v u s ≡ copied v u s) is refl
key_default v types (node.Sequence item bound) t s is other =
    subst (λ (u : Xtype). key_copied v u s ≡ copied v u s) is refl
key_default v types (node.Array item dimensions) t s is other =
    subst (λ (u : Xtype). key_copied v u s ≡ copied v u s) is refl
key_default v types (node.Struct members) t s is other = absurd (other members refl)

pub holder_default : (types : List Xtype) (n : Node) (t : Xtype) → meant types n ≡ t
    → ((x : Vec Member Global) → n ≡ node.Struct x → ⊥) → holder t ≡ t
holder_default types (node.Plain p) t is other =
    subst (λ (u : Xtype). holder u ≡ u) is (plain_holder p)
holder_default types (node.Enum cases) t is other = subst (λ (u : Xtype). holder u ≡ u) is refl
holder_default types (node.Text bound) t is other = subst (λ (u : Xtype). holder u ≡ u) is refl
holder_default types (node.Sequence item bound) t is other =
    subst (λ (u : Xtype). holder u ≡ u) is refl
holder_default types (node.Array item dimensions) t is other =
    subst (λ (u : Xtype). holder u ≡ u) is refl
holder_default types (node.Struct members) t is other = absurd (other members refl)

-- ---- keys of topics

-- what is written alike
moves_alike : (A : Type 0) (read : Cursor → Found A) (one other : ℕ → Endian → A → List ℕ) (s : Copy)
    → ((x : A) (at : ℕ) (e : Endian) → one at e x ≡ other at e x)
    → moves read one s ≡ moves read other s
moves_alike A read one other s same = by_found (read s.reader) where
  by_found : (x : Found A) → moved one s x ≡ moved other s x
  by_found None = refl
  by_found (Some x) =
      ap (λ (os : List ℕ). Ok (record {
        reader = placed s.reader x.1;
        writer = record { octets = s.writer.octets ++ os; endian = s.writer.endian };
      })) (same x.0 (length s.writer.octets) s.writer.endian)

no_key_left : (a b : Bool) → (a || b) ≡ false → (a ≡ false) × (b ≡ false)
no_key_left true b same = absurd (cc same)
no_key_left false b same = (refl, same)

-- without key members none is kept
pub none_kept : (fields : Fields) → has_key fields ≡ false → kept_fields true fields ≡ none
none_kept none same = refl
none_kept (field tag t fields) same =
    let parts = no_key_left tag.is_key (has_key fields) same in
    ap (λ (b : Bool). if true && not b then kept_fields true fields
    else field tag (holder t) (kept_fields true fields)) parts.0 ∙ none_kept fields parts.1

none_written : (fields : Fields) → has_key fields ≡ false → (xs : ValuesOf fields) (at : ℕ)
    (e : Endian) → all_fields (kept_fields true fields) at e (held_fields true fields xs) ≡ []
none_written none same xs at e = refl
none_written (field tag t fields) same xs at e =
    let parts = no_key_left tag.is_key (has_key fields) same in
    by_key (none_written fields parts.1 xs.1 at e) tag.is_key parts.0 where
      by_key : all_fields (kept_fields true fields) at e (held_fields true fields xs.1) ≡ []
          → (k : Bool) → k ≡ false
          → all_fields (if true && not k then kept_fields true fields
          else field tag (holder t) (kept_fields true fields)) at e
          (with_first (true && not k) tag (holder t) (kept_fields true fields) (held t xs.0)
          (held_fields true fields xs.1)) ≡ []
      by_key rest true is = absurd (cc is)
      by_key rest false is = rest

pub keyed_copied : (v : Version) (t : Xtype) (s : Copy) → is_keyed t ≡ true
    → topic_key_copied v t s ≡ key_copied v t s
keyed_copied v (Struct fields) s same =
    ap (λ (b : Bool). moves (λ c. values_found v fields c)
    (λ at e xs. all_fields (kept_fields b fields) at e (held_fields b fields xs)) s) (sym same)
keyed_copied v (Number style size) s same = absurd (cc same)
keyed_copied v (Signed w) s same = absurd (cc same)
keyed_copied v Truth s same = absurd (cc same)
keyed_copied v (Enum values) s same = absurd (cc same)
keyed_copied v (Text bound) s same = absurd (cc same)
keyed_copied v (Sequence t bound) s same = absurd (cc same)
keyed_copied v (Array t dimensions) s same = absurd (cc same)

pub unkeyed_copied : (v : Version) (t : Xtype) (s : Copy) → is_keyed t ≡ false
    → topic_key_copied v t s ≡ moves (λ c. value_found v t c) (λ at e x. []) s
unkeyed_copied v (Struct fields) s same =
    moves_alike (ValuesOf fields) (λ c. values_found v fields c)
    (λ at e xs. all_fields (kept_fields true fields) at e (held_fields true fields xs))
    (λ at e xs. []) s (λ xs at e. none_written fields same xs at e)
unkeyed_copied v (Number style size) s same = refl
unkeyed_copied v (Signed w) s same = refl
unkeyed_copied v Truth s same = refl
unkeyed_copied v (Enum values) s same = refl
unkeyed_copied v (Text bound) s same = refl
unkeyed_copied v (Sequence t bound) s same = refl
unkeyed_copied v (Array t dimensions) s same = refl

pub keyed_type : (t : Xtype) → is_keyed t ≡ true → key_type t ≡ holder t
keyed_type (Struct fields) same =
    ap (λ (b : Bool). Struct (kept_fields b fields)) (sym same)
keyed_type (Number style size) same = absurd (cc same)
keyed_type (Signed w) same = absurd (cc same)
keyed_type Truth same = absurd (cc same)
keyed_type (Enum values) same = absurd (cc same)
keyed_type (Text bound) same = absurd (cc same)
keyed_type (Sequence t bound) same = absurd (cc same)
keyed_type (Array t dimensions) same = absurd (cc same)

pub unkeyed_type : (v : Version) (t : Xtype) (s : Copy) → is_keyed t ≡ false
    → copied v (key_type t) s ≡ Ok s
unkeyed_type v (Struct fields) s same =
    ap (λ (fs : Fields). fields_copied v fs s) (none_kept fields same) ∙ no_fields v s
unkeyed_type v (Number style size) s same = no_fields v s
unkeyed_type v (Signed w) s same = no_fields v s
unkeyed_type v Truth s same = no_fields v s
unkeyed_type v (Enum values) s same = no_fields v s
unkeyed_type v (Text bound) s same = no_fields v s
unkeyed_type v (Sequence t bound) s same = no_fields v s
unkeyed_type v (Array t dimensions) s same = no_fields v s
