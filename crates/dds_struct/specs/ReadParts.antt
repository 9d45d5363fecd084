-- Values that are read one after another are those of a struct, or the items of a sequence.
use Rattle.std.proofs.Common.{◌≡◌, ◌≤◌, ℕ, zero, suc, List, [], ◌∷◌, length, Result, Ok, Err, refl, ap, ◌∙◌, sym}
use Rattle.rtps_cdr.specs.declared.fault.CdrFault.{CdrFault}
use Rattle.rtps_cdr.specs.Cdr.{CdrType, Unsigned, Both, Sequence, ValueOf}
use Rattle.rtps_cdr.specs.Reading.{Cursor, Reads, Takes}
use Rattle.rtps_cdr.specs.Following.{and_then}
use Rattle.rtps_cdr.specs.Statements.{TakesAll}
use Rattle.rtps_cdr.proofs.Counted.{taken_within}
use Rattle.rtps_cdr.proofs.Structs.{members_joined, members_parted}
use Rattle.rtps_cdr.proofs.Sequences.{items_joined, items_parted}
use Rattle.dds_struct.specs.Value.{items, behind_items, settled}

-- a reader is within its octets
abbrev pub Within : Cursor → Type 0
Within c = c.position ≤ length c.octets

-- a reader stays within its octets
pub still_within : (t : CdrType) (c after : Cursor) (v : ValueOf t) → Takes t c after v → Within c
    → Within after
still_within t c after v taken within =
    let same : after.octets ≡ c.octets = ap (λ (d : Cursor). d.octets) (taken.behind) in
    rw same (taken_within t c after v taken within)

-- the result of a read is the value that the octets encode, however it is read
abbrev pub Is : (t : CdrType) → Cursor → Cursor → Result (ValueOf t) CdrFault → Type 0
Is t c ahead r = Reads t c (settled r ahead c) r

one_pair : {A B : Type 0} (x : A) (y : B) (v : A × B) → x ≡ v.0 → y ≡ v.1 → (x, y) ≡ v
one_pair x y v same other = rw (same, other) refl

ok_pair : {A B : Type 0} (x : A) (y : B) (v : A × B) (r : Result (A × B) CdrFault)
    (a : Result A CdrFault) (b : Result B CdrFault) → r ≡ Ok (x, y) → a ≡ Ok x → b ≡ Ok y
    → a ≡ Ok v.0 → b ≡ Ok v.1 → r ≡ Ok v
ok_pair x y v r a b whole first second one two =
    let same : x ≡ v.0 = cc (first, one) in
    let other : y ≡ v.1 = cc (second, two) in
    whole ∙ ap Ok (one_pair x y v same other)

-- a value that was read is encoded there
pub found_in : (t : CdrType) (c ahead : Cursor) (x : ValueOf t) (r : Result (ValueOf t) CdrFault)
    → r ≡ Ok x → Is t c ahead r → Takes t c ahead x
found_in t c ahead x (Ok y) same is =
    let one : y ≡ x = cc same in
    rw one at (is.found)
found_in t c ahead x (Err f) same is = absurd (cc same)

-- a struct: its first value, and then its second
pub both : (s t : CdrType) (c middle ahead : Cursor) (a : Result (ValueOf s) CdrFault)
    (b : Result (ValueOf t) CdrFault) → Is s c middle a
    → ((x : ValueOf s) → a ≡ Ok x → Is t middle ahead b) →
    Is (Both s t) c ahead (and_then a (λ x. and_then b (λ y. Ok (x, y))))
both s t c middle ahead (Err f) b first second = record {
  found = refl;
  only = λ v after taken. let parts = members_parted s t c after v taken in absurd
      (cc ((first.only v.0 (parts.0) (parts.1)).0));
}
both s t c middle ahead (Ok x) (Err f) first second = record {
  found = refl;
  only = λ v after taken.
      let parts = members_parted s t c after v taken in
      let place = (first.only v.0 (parts.0) (parts.1)).1 in
      absurd (cc (((second x refl).only v.1 after (rw place (parts.2))).0));
}
both s t c middle ahead (Ok x) (Ok y) first second = record {
  found = members_joined s t c middle ahead x y first.found ((second x refl).found);
  only = λ v after taken.
      let parts = members_parted s t c after v taken in
      let one = first.only v.0 (parts.0) (parts.1) in
      let two = (second x refl).only v.1 after (rw (one.1) (parts.2)) in
      (ok_pair x y v (Ok (x, y)) (Ok x) (Ok y) refl refl refl (one.0) (two.0), two.1);
}

abbrev Gives : (t : CdrType) → Result (List (ValueOf t)) CdrFault → List (ValueOf t) → Type 0
Gives t r vs = r ≡ Ok vs

-- `count` items, one after another
pub record All (t : CdrType) (c ahead : Cursor) (n : ℕ) (r : Result (List (ValueOf t)) CdrFault)
    : Type 0 where
  pub found : (vs : List (ValueOf t)) → r ≡ Ok vs → (length vs ≡ n) × TakesAll t c ahead vs
  pub only : (vs : List (ValueOf t)) (after : Cursor) → length vs ≡ n → TakesAll t c after vs
      → (r ≡ Ok vs) × (ahead ≡ after)

none_left : (t : CdrType) (c : Cursor) → All t c c 0 (Ok [])
none_left t c =
    record {
      found = λ vs same. empty vs (cc same);
      only = λ vs after counted taken. nothing vs after counted taken;
    } where
      empty : (vs : List (ValueOf t)) → [] ≡ vs → (length vs ≡ 0) × TakesAll t c c vs
      empty [] same = (refl, refl)
      empty (v ∷ vs) same = absurd (cc same)

      nothing : (vs : List (ValueOf t)) (after : Cursor) → length vs ≡ 0 → TakesAll t c after vs
          → Gives t (Ok []) vs × (c ≡ after)
      nothing [] after counted taken = (refl, sym taken)
      nothing (v ∷ vs) after counted taken = absurd (cc counted)

next_all : (t : CdrType) (c middle ahead : Cursor) (n : ℕ) (a : Result (ValueOf t) CdrFault)
    (r : Result (List (ValueOf t)) CdrFault) → Is t c middle a
    → ((x : ValueOf t) → a ≡ Ok x → All t middle ahead n r) →
    All t c ahead (suc n) (and_then a (λ x. and_then r (λ xs. Ok (x ∷ xs))))
next_all t c middle ahead n (Err f) r first others =
    record {
      found = λ vs same. absurd (cc same);
      only = λ vs after counted taken. nothing vs after counted taken;
    } where
      nothing : (vs : List (ValueOf t)) (after : Cursor) → length vs ≡ suc n → TakesAll t c after vs
          → Gives t (Err f) vs × (ahead ≡ after)
      nothing [] after counted taken = absurd (cc counted)
      nothing (v ∷ vs) after counted taken = absurd (cc ((first.only v (taken.0) (taken.1)).0))
next_all t c middle ahead n (Ok x) (Err f) first others =
    record {
      found = λ vs same. absurd (cc same);
      only = λ vs after counted taken. nothing vs after counted taken;
    } where
      nothing : (vs : List (ValueOf t)) (after : Cursor) → length vs ≡ suc n → TakesAll t c after vs
          → Gives t (Err f) vs × (ahead ≡ after)
      nothing [] after counted taken = absurd (cc counted)
      nothing (v ∷ vs) after counted taken =
          let place = (first.only v (taken.0) (taken.1)).1 in
          absurd (cc (((others x refl).only vs after (cc counted) (rw place (taken.2))).0))
next_all t c middle ahead n (Ok x) (Ok xs) first others =
    record {
      found = λ vs same. some vs (cc same);
      only = λ vs after counted taken. only vs after counted taken;
    } where
      some : (vs : List (ValueOf t)) → (x ∷ xs) ≡ vs → (length vs ≡ suc n) × TakesAll t c ahead vs
      some [] same = absurd (cc same)
      some (v ∷ vs) same =
          let one : x ≡ v = cc same in
          let more : xs ≡ vs = cc same in
          let rest = (others x refl).found vs (ap Ok more) in
          (ap suc (rest.0), (middle, rw one at (first.found), rest.1))

      only : (vs : List (ValueOf t)) (after : Cursor) → length vs ≡ suc n → TakesAll t c after vs
          → Gives t (Ok (x ∷ xs)) vs × (ahead ≡ after)
      only [] after counted taken = absurd (cc counted)
      only (v ∷ vs) after counted taken =
          let head = first.only v (taken.0) (taken.1) in
          let rest = (others x refl).only vs after (cc counted) (rw (head.1) (taken.2)) in
          let one : x ≡ v = cc (head.0) in
          let more : xs ≡ vs = cc (rest.0) in
          (ap Ok (rw (one, more) refl), rest.1)

-- items that are read one after another, each by the same read
pub all_items : (t : CdrType) (read : Cursor → Result (ValueOf t) CdrFault) (next : Cursor → Cursor)
    → ((c : Cursor) → Within c → Is t c (next c) (read c)) → (n : ℕ) (c : Cursor) → Within c →
    All t c (behind_items next n c) n (items read next n c)
unfolding items behind_items
all_items t read next law zero c within = none_left t c
all_items t read next law (suc n) c within =
    next_all t c (next c) (behind_items next n (next c)) n (read c) (items read next n (next c))
    (law c within) (λ x same. all_items t read next law n (next c) (ahead x same)) where
      ahead : (x : ValueOf t) → read c ≡ Ok x → Within (next c)
      ahead x same =
          still_within t c (next c) x (found_in t c (next c) x (read c) same (law c within)) within

items_are : (t : CdrType) (c middle ahead : Cursor) (n : ℕ) (b : Result (List (ValueOf t)) CdrFault)
    → Is (Unsigned 4) c middle (Ok n) → All t middle ahead n b → Is (Sequence t) c ahead b
items_are t c middle ahead n (Ok vs) first all = record {
  found = let some = all.found vs refl in items_joined t c middle ahead vs
      (rw (some.0) (first.found)) (some.1);
  only = λ ws after taken.
      let parts = items_parted t c after ws taken in
      let one = first.only (length ws) (parts.0) (parts.1) in
      let many : length ws ≡ n = sym (cc (one.0)) in
      all.only ws after many (rw (one.1) (parts.2));
}
items_are t c middle ahead n (Err f) first all = record {
  found = refl;
  only = λ ws after taken.
      let parts = items_parted t c after ws taken in
      let one = first.only (length ws) (parts.0) (parts.1) in
      let many : length ws ≡ n = sym (cc (one.0)) in
      absurd (cc ((all.only ws after many (rw (one.1) (parts.2))).0));
}

-- a sequence: a count, and that number of items
pub counted : (t : CdrType) (c middle ahead : Cursor) (a : Result ℕ CdrFault)
    (r : ℕ → Result (List (ValueOf t)) CdrFault) → Is (Unsigned 4) c middle a
    → ((n : ℕ) → a ≡ Ok n → All t middle ahead n (r n)) →
    Is (Sequence t) c ahead (and_then a r)
counted t c middle ahead (Err f) r first others = record {
  found = refl;
  only = λ vs after taken. let parts = items_parted t c after vs taken in absurd
      (cc ((first.only (length vs) (parts.0) (parts.1)).0));
}
counted t c middle ahead (Ok n) r first others =
    items_are t c middle ahead n (r n) first (others n refl)
