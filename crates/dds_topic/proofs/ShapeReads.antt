-- A shape that is read member by member is one value of its type.
use Rattle.std.proofs.Common.{◌≡◌, ℕ, ℤ, ◌<◌, ◌≤◌, List, length, Bool, true, false, nat_lt, if◌then◌else◌, ◌==◌, Result, Ok, Err, refl, sym, ap, arith}
use Rattle.std.proofs.lemmas.Grind.{common_steps}
use Rattle.std.specs.Int.{w32}
use Rattle.rtps_types.specs.declared.field.Endian.TheVariants.{Big, Little}
use Rattle.rtps_cdr.specs.declared.fault.CdrFault.{CdrFault}
use Rattle.rtps_cdr.specs.Cdr.{CdrType, Signed, Text, Both}
use Rattle.rtps_cdr.specs.Reading.{Cursor, Takes, Reads, start, value_of, text_in, signed_in}
use Rattle.rtps_cdr.specs.Following.{after_read, and_then}
use Rattle.rtps_cdr.proofs.Related.{signed_law}
use Rattle.rtps_cdr.proofs.Counted.{text_law}
use Rattle.rtps_cdr.proofs.Structs.{members_joined, members_parted}
use Rattle.dds_topic.specs.declared.unread.Unread.{Unread as UnreadCode}
use Rattle.dds_topic.specs.declared.unread.Unread.TheVariants.{Encapsulation, Malformed}
use Rattle.dds_topic.specs.ShapeMeaning.{ShapeMeaning, color_hash, shape_in, shape_meaning, shape_hash_of_key, behind_text, behind_long}
use Rattle.rtps_types.specs.declared.identity.KeyHash.{KeyHash}
use Rattle.dds_topic.specs.ShapeType.{members, IsShape, IsKey, IsAnswer, Answers, BodiesAreShapes, PayloadsAreKeys}

abbrev two : CdrType
two = Both (Signed w32) (Signed w32)

abbrev three : CdrType
three = Both (Signed w32) two

-- a color as it is judged, and a shape of what was read
abbrev judged : Result (List ℕ) CdrFault → Result (List ℕ) UnreadCode
judged color = after_read Malformed color (λ color. if nat_lt 128 (length color) then Err Malformed else Ok color)

abbrev made : Result (List ℕ) CdrFault → Result ℤ CdrFault → Result ℤ CdrFault → Result ℤ CdrFault → Result ShapeMeaning UnreadCode
made color x y size =
    and_then (judged color) (λ color.
    after_read Malformed x (λ x.
    after_read Malformed y (λ y.
    after_read Malformed size (λ size.
    Ok (record { color = color; x = x; y = y; size = size })))))

is_short : (color : List ℕ) → length color ≤ 128 → nat_lt 128 (length color) ≡ false
is_short color h = grind (arith, common_steps)

-- a shape that stands there is what the reads give
shape_only : (c c1 c2 c3 c4 : Cursor) (color : Result (List ℕ) CdrFault) (x y size : Result ℤ CdrFault) → Reads Text c c1 color → Reads (Signed w32) c1 c2 x → Reads (Signed w32) c2 c3 y → Reads (Signed w32) c3 c4 size →
    (s : ShapeMeaning) → IsShape c s → made color x y size ≡ Ok s
shape_only c c1 c2 c3 c4 color x y size r0 r1 r2 r3 s is =
    let p0 = members_parted Text three c is.behind (members s) is.stands in
    let k0 = r0.only s.color (p0.0) (p0.1) in
    let t1 : Takes three c1 is.behind (s.x, (s.y, s.size)) = rw (k0.1) (p0.2) in
    let p1 = members_parted (Signed w32) two c1 is.behind (s.x, (s.y, s.size)) t1 in
    let k1 = r1.only s.x (p1.0) (p1.1) in
    let t2 : Takes two c2 is.behind (s.y, s.size) = rw (k1.1) (p1.2) in
    let p2 = members_parted (Signed w32) (Signed w32) c2 is.behind (s.y, s.size) t2 in
    let k2 = r2.only s.y (p2.0) (p2.1) in
    let t3 : Takes (Signed w32) c3 is.behind s.size = rw (k2.1) (p2.2) in
    let k3 = r3.only s.size is.behind t3 in
    rw (k0.0, k1.0, k2.0, k3.0, is_short s.color is.short) refl

-- what the reads give stands there
shape_found : (c c1 c2 c3 c4 : Cursor) (color : Result (List ℕ) CdrFault) (x y size : Result ℤ CdrFault) → Reads Text c c1 color → Reads (Signed w32) c1 c2 x → Reads (Signed w32) c2 c3 y → Reads (Signed w32) c3 c4 size →
    IsAnswer (IsShape c) (made color x y size)
shape_found c c1 c2 c3 c4 (Err f) x y size r0 r1 r2 r3 = refl
shape_found c c1 c2 c3 c4 (Ok color) x y size r0 r1 r2 r3 = by_length c c1 c2 c3 c4 color x y size r0.found r1 r2 r3 (nat_lt 128 (length color)) refl where
  by_length : (c c1 c2 c3 c4 : Cursor) (color : List ℕ) (x y size : Result ℤ CdrFault) → Takes Text c c1 color → Reads (Signed w32) c1 c2 x → Reads (Signed w32) c2 c3 y → Reads (Signed w32) c3 c4 size → (b : Bool) → nat_lt 128 (length color) ≡ b →
      IsAnswer (IsShape c) (and_then (if b then Err Malformed else Ok color) (λ color. after_read Malformed x (λ x. after_read Malformed y (λ y. after_read Malformed size (λ size. Ok (record { color = color; x = x; y = y; size = size }))))))
  by_length c c1 c2 c3 c4 color x y size t0 r1 r2 r3 true h = refl
  by_length c c1 c2 c3 c4 color (Err f) y size t0 r1 r2 r3 false h = refl
  by_length c c1 c2 c3 c4 color (Ok x) (Err f) size t0 r1 r2 r3 false h = refl
  by_length c c1 c2 c3 c4 color (Ok x) (Ok y) (Err f) t0 r1 r2 r3 false h = refl
  by_length c c1 c2 c3 c4 color (Ok x) (Ok y) (Ok size) t0 r1 r2 r3 false h =
      let last : Takes two c2 c4 (y, size) = members_joined (Signed w32) (Signed w32) c2 c3 c4 y size r2.found r3.found in
      let rest : Takes three c1 c4 (x, (y, size)) = members_joined (Signed w32) two c1 c2 c4 x (y, size) r1.found last in
      record { short = grind (arith, common_steps); behind = c4; stands = members_joined Text three c c1 c4 color (x, (y, size)) t0 rest }

pub shape_answers : (c : Cursor) → c.position ≤ length c.octets → Answers (IsShape c) (shape_in c)
unfolding shape_in
shape_answers c within =
    let c1 : Cursor = behind_text c in
    let c2 : Cursor = behind_long c1 in
    let c3 : Cursor = behind_long c2 in
    let r0 = text_law c within in
    let long : (k : Cursor) → Reads (Signed w32) k (behind_long k) (value_of (signed_in w32 k)) = λ k. signed_law w32 k (omega arith) in
    record {
      found = shape_found c c1 c2 c3 (behind_long c3) (value_of (text_in c)) (value_of (signed_in w32 c1)) (value_of (signed_in w32 c2)) (value_of (signed_in w32 c3)) r0 (long c1) (long c2) (long c3);
      only = shape_only c c1 c2 c3 (behind_long c3) (value_of (text_in c)) (value_of (signed_in w32 c1)) (value_of (signed_in w32 c2)) (value_of (signed_in w32 c3)) r0 (long c1) (long c2) (long c3);
    }

abbrev hash_of : Result (List ℕ) UnreadCode → Result KeyHash UnreadCode
hash_of r = and_then r (λ color. Ok (color_hash color))

-- a key that stands there is what the read gives, and the other way round
key_answers_by : (c c1 : Cursor) (color : Result (List ℕ) CdrFault) → Reads Text c c1 color → Answers (IsKey c) (hash_of (judged color))
key_answers_by c c1 color r0 = record { found = found c c1 color r0; only = only c c1 color r0 } where
  only : (c c1 : Cursor) (color : Result (List ℕ) CdrFault) → Reads Text c c1 color → (hash : KeyHash) → IsKey c hash → hash_of (judged color) ≡ Ok hash
  only c c1 color r0 hash is =
      let k0 = r0.only is.color is.behind is.stands in
      rw (k0.0, is_short is.color is.short) (ap Ok (sym is.hashed))

  by_length : (c c1 : Cursor) (color : List ℕ) → Takes Text c c1 color → (b : Bool) → nat_lt 128 (length color) ≡ b → IsAnswer (IsKey c) (hash_of (if b then Err Malformed else Ok color))
  by_length c c1 color t0 true h = refl
  by_length c c1 color t0 false h = record { color = color; short = grind (arith, common_steps); behind = c1; stands = t0; hashed = refl }

  found : (c c1 : Cursor) (color : Result (List ℕ) CdrFault) → Reads Text c c1 color → IsAnswer (IsKey c) (hash_of (judged color))
  found c c1 (Err f) r0 = refl
  found c c1 (Ok color) r0 = by_length c c1 color r0.found (nat_lt 128 (length color)) refl

key_answers : (c : Cursor) → c.position ≤ length c.octets → Answers (IsKey c) (hash_of (judged (value_of (text_in c))))
key_answers c within = key_answers_by c (behind_text c) (value_of (text_in c)) (text_law c within)

other_kind : (kind : ℕ) (body : List ℕ) → 1 < kind → shape_meaning kind body ≡ Err Encapsulation
other_kind kind body h =
    let zero_not : (kind == 0) ≡ false = grind (arith, common_steps) in
    let one_not : (kind == 1) ≡ false = grind (arith, common_steps) in
    rw (zero_not, one_not) refl

other_key : (kind : ℕ) (body : List ℕ) → 1 < kind → shape_hash_of_key kind body ≡ Err Encapsulation
other_key kind body h =
    let zero_not : (kind == 0) ≡ false = grind (arith, common_steps) in
    let one_not : (kind == 1) ≡ false = grind (arith, common_steps) in
    rw (zero_not, one_not) refl

pub payloads_are_keys : PayloadsAreKeys
payloads_are_keys = record {
  big = λ body. key_answers (start Big body) (omega arith);
  little = λ body. key_answers (start Little body) (omega arith);
  other = other_key;
}

pub bodies_are_shapes : BodiesAreShapes
bodies_are_shapes = record {
  big = λ body. shape_answers (start Big body) (omega arith);
  little = λ body. shape_answers (start Little body) (omega arith);
  other = other_kind;
}
