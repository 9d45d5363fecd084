-- Values that are found one after another.
use Rattle.std.proofs.Common.{◌≡◌, ℕ, zero, suc, ◌+◌, ◌-◌, ◌≤◌, Bool, true, false, List, [], ◌∷◌, ◌++◌, length, drop, if◌then◌else◌, Some, None, Ok, Err, refl, sym, ◌∙◌, ap, subst, arith, append_assoc, length-append, length-drop, drop-drop, drop_at}
use Rattle.std.proofs.lemmas.Option.{some_pair_parts}
use Rattle.rtps_types.specs.declared.field.Endian.{Endian}
use Rattle.rtps_cdr.specs.Cdr.{AreAll, CdrType, Free, IsCdr, ValueOf as CdrValueOf}
use Rattle.rtps_cdr.specs.Reading.{Cursor, Read, Reads, Takes, moved, placed, value_of}
use Rattle.dds_described.specs.Reading.{Found, found, mapped, followed, tested, items_found}
use Rattle.dds_described.specs.Laws.{Front, Finds}

-- a reader within its octets
abbrev pub Within : Cursor → Type 0
Within c = c.position ≤ length c.octets

pub still_within : (A : Type 0) (is : ℕ → List ℕ → A → Type 0) (c : Cursor) (x : A) (end : ℕ)
    → Front A is c x end → Within c → end ≤ length c.octets
still_within A is c x end f within =
    let long : length c.octets - c.position ≡ length f.front + length f.rest =
    sym (length-drop c.position c.octets) ∙ ap length f.parts ∙ length-append f.front f.rest in
    omega (arith, long, f.ends)

-- ---- one value in place of another

front_as : (A B : Type 0) (is : ℕ → List ℕ → A → Type 0) (js : ℕ → List ℕ → B → Type 0) (c : Cursor)
    (x : A) (y : B) (end : ℕ) (f : Front A is c x end) → js c.position f.front y
    → Front B js c y end
front_as A B is js c x y end f stands = record {
  front = f.front;
  rest = f.rest;
  parts = f.parts;
  stands = stands;
  ends = f.ends;
}

pub mapped_finds : (A B : Type 0) (is : ℕ → List ℕ → A → Type 0) (js : ℕ → List ℕ → B → Type 0)
    (c : Cursor) (f : A → B) (r : Found A)
    → ((os : List ℕ) (x : A) → is c.position os x → js c.position os (f x))
    → ((os : List ℕ) (y : B) → js c.position os y → (x : A) × (f x ≡ y) × is c.position os x)
    → Finds A is c r → Finds B js c (mapped f r)
mapped_finds A B is js c f None there back law = record {
  found = λ y end same. absurd (cc same);
  only = λ y end front.
      let b = back front.front y front.stands in
      absurd (cc (law.only b.0 end (front_as B A js is c y b.0 end front b.2)));
}
mapped_finds A B is js c f (Some (x, end)) there back law = record {
  found = λ y stop same.
      let parts = some_pair_parts (f x) y end stop same in
      let one : f x ≡ y = parts.0 in
      let place : end ≡ stop = parts.1 in
      let front = law.found x stop (ap (λ (n : ℕ). Some (x, n)) place) in
      front_as A B is js c x y stop front
      (subst (λ (z : B). js c.position front.front z) one (there front.front x front.stands));
  only = λ y stop front.
      let b = back front.front y front.stands in
      let same : ◌≡◌ {A = Found A} (Some (x, end)) (Some (b.0, stop)) =
      law.only b.0 stop (front_as B A js is c y b.0 stop front b.2) in
      let parts = some_pair_parts x b.0 end stop same in
      let one : x ≡ b.0 = parts.0 in
      let place : end ≡ stop = parts.1 in
      ap (λ (z : A). Some (f z, end)) one ∙ ap (λ (n : ℕ). Some (f b.0, n)) place
      ∙ ap (λ (z : B). Some (z, stop)) b.1;
}

-- the same values, said otherwise
pub finds_as : (A : Type 0) (is js : ℕ → List ℕ → A → Type 0) (c : Cursor) (r : Found A)
    → ((os : List ℕ) (x : A) → is c.position os x → js c.position os x)
    → ((os : List ℕ) (x : A) → js c.position os x → is c.position os x)
    → Finds A is c r → Finds A js c r
finds_as A is js c r there back law = record {
  found = λ x end same.
      let front = law.found x end same in
      front_as A A is js c x x end front (there front.front x front.stands);
  only = λ x end front.
      law.only x end (front_as A A js is c x x end front (back front.front x front.stands));
}

-- ---- tests

-- such octets, and what is tested of them
abbrev pub Tested : (A : Type 0) → (ℕ → List ℕ → A → Type 0) → (A → ℕ → Bool) → ℕ → List ℕ → A
    → Type 0
Tested A is p at octets x = is at octets x × (p x (at + length octets) ≡ true)

pub tested_finds : (A : Type 0) (is : ℕ → List ℕ → A → Type 0) (c : Cursor) (p : A → ℕ → Bool)
    (r : Found A) → Finds A is c r → Finds A (Tested A is p) c (tested p r)
tested_finds A is c p None law = record {
  found = λ y end same. absurd (cc same);
  only = λ y end front.
      absurd (cc (law.only y end (front_as A A (Tested A is p) is c y y end front front.stands.0)));
}
tested_finds A is c p (Some (x, end)) law = by_test (p x end) refl where
  by_test : (b : Bool) → p x end ≡ b
      → Finds A (Tested A is p) c (if b then Some (x, end) else None)
  by_test true holds = record {
    found = λ y stop same.
        let front = law.found y stop same in
        let parts = some_pair_parts x y end stop same in
        let one : x ≡ y = parts.0 in
        let place : end ≡ stop = parts.1 in
        front_as A A is (Tested A is p) c y y stop front (
          front.stands,
          ap (λ (n : ℕ). p y n) (sym front.ends ∙ sym place)
              ∙ ap (λ (z : A). p z end) (sym one) ∙ holds,
        );
    only = λ y stop front.
        law.only y stop (front_as A A (Tested A is p) is c y y stop front front.stands.0);
  }
  by_test false fails = record {
    found = λ y stop same. absurd (cc same);
    only = λ y stop front.
        let same : ◌≡◌ {A = Found A} (Some (x, end)) (Some (y, stop)) =
        law.only y stop (front_as A A (Tested A is p) is c y y stop front front.stands.0) in
        let parts = some_pair_parts x y end stop same in
        let one : x ≡ y = parts.0 in
        let place : end ≡ stop = parts.1 in
        let holds : p x end ≡ true = ap (λ (z : A). p z end) one
        ∙ ap (λ (n : ℕ). p y n) (place ∙ front.ends) ∙ front.stands.1 in
        absurd (cc (fails, holds));
  }

-- ---- one after another

-- a first value, and after it another
abbrev pub Then : (A B : Type 0) → (ℕ → List ℕ → A → Type 0) → (A → ℕ → List ℕ → B → Type 0) → ℕ
    → List ℕ → B → Type 0
Then A B is js at octets y =
    (x : A) × (front : List ℕ) × (back : List ℕ) × (octets ≡ front ++ back) × is at front x
    × js x (at + length front) back y

joined : (A B : Type 0) (is : ℕ → List ℕ → A → Type 0) (js : A → ℕ → List ℕ → B → Type 0)
    (c : Cursor) (x : A) (middle : ℕ) (y : B) (end : ℕ) → Front A is c x middle
    → Front B (js x) (placed c middle) y end → Front B (Then A B is js) c y end
joined A B is js c x middle y end first next =
    let place : middle ≡ c.position + length first.front = first.ends in
    let behind : drop middle c.octets ≡ first.rest =
    ap (λ (n : ℕ). drop n c.octets) place ∙ sym (drop-drop (length first.front) c.position c.octets)
    ∙ ap (drop (length first.front)) first.parts
    ∙ drop_at first.front first.rest (length first.front) refl in
    record {
      front = first.front ++ next.front;
      rest = next.rest;
      parts = first.parts ∙ ap (λ (os : List ℕ). first.front ++ os) (sym behind ∙ next.parts)
          ∙ simp append_assoc;
      stands = (
        x,
        first.front,
        next.front,
        refl,
        first.stands,
        subst (λ (n : ℕ). js x n next.front y) place next.stands,
      );
      ends = next.ends ∙ omega (arith, place, length-append first.front next.front);
    }

record Parted (A B : Type 0) (is : ℕ → List ℕ → A → Type 0) (js : A → ℕ → List ℕ → B → Type 0)
    (c : Cursor) (y : B) (end : ℕ) : Type 0 where
  x : A
  middle : ℕ
  first : Front A is c x middle
  next : Front B (js x) (placed c middle) y end

parted : (A B : Type 0) (is : ℕ → List ℕ → A → Type 0) (js : A → ℕ → List ℕ → B → Type 0)
    (c : Cursor) (y : B) (end : ℕ) → Front B (Then A B is js) c y end → Parted A B is js c y end
parted A B is js c y end f =
    let front : List ℕ = f.stands.1 in
    let back : List ℕ = f.stands.2 in
    let split : f.front ≡ front ++ back = f.stands.3 in
    let parts : drop c.position c.octets ≡ front ++ (back ++ f.rest) = f.parts
    ∙ ap (λ (os : List ℕ). os ++ f.rest) split ∙ simp append_assoc in
    record {
      x = f.stands.0;
      middle = c.position + length front;
      first = record {
        front = front;
        rest = back ++ f.rest;
        parts = parts;
        stands = f.stands.4;
        ends = refl;
      };
      next = record {
        front = back;
        rest = f.rest;
        parts = sym (drop-drop (length front) c.position c.octets)
            ∙ ap (drop (length front)) parts
            ∙ drop_at front (back ++ f.rest) (length front) refl;
        stands = f.stands.5;
        ends = f.ends ∙ omega (arith, ap length split, length-append front back);
      };
    }

pub followed_finds : (A B : Type 0) (is : ℕ → List ℕ → A → Type 0)
    (js : A → ℕ → List ℕ → B → Type 0) (c : Cursor) (r : Found A) (s : A → ℕ → Found B)
    → Finds A is c r
    → ((x : A) (end : ℕ) → r ≡ Some (x, end) → Finds B (js x) (placed c end) (s x end))
    → Finds B (Then A B is js) c (followed r s)
followed_finds A B is js c None s first next = record {
  found = λ y end same. absurd (cc same);
  only = λ y end front.
      let p = parted A B is js c y end front in
      absurd (cc (first.only p.x p.middle p.first));
}
followed_finds A B is js c (Some (x, middle)) s first next = record {
  found = λ y end same.
      joined A B is js c x middle y end (first.found x middle refl)
      ((next x middle refl).found y end same);
  only = λ y end front.
      let p = parted A B is js c y end front in
      let same : ◌≡◌ {A = Found A} (Some (x, middle)) (Some (p.x, p.middle)) = first.only p.x p.middle p.first in
      let parts = some_pair_parts x p.x middle p.middle same in
      let one : x ≡ p.x = parts.0 in
      let place : middle ≡ p.middle = parts.1 in
      ap (λ (z : A). s z middle) one ∙ ap (λ (n : ℕ). s p.x n) place
      ∙ (next p.x p.middle same).only y end p.next;
}

-- ---- n values of one type

-- n values, one after another
abbrev pub Items : (A : Type 0) → (ℕ → List ℕ → A → Type 0) → ℕ → ℕ → List ℕ → List A → Type 0
Items A is n at octets xs = (length xs ≡ n) × AreAll is at octets xs

nothing_found : (A : Type 0) (is : ℕ → List ℕ → A → Type 0) (c : Cursor)
    → Finds (List A) (Items A is 0) c (Some ([], c.position))
nothing_found A is c =
    record {
      found = λ xs end same. record {
        front = [];
        rest = drop c.position c.octets;
        parts = refl;
        stands = subst (λ (ys : List A). Items A is 0 c.position [] ys) (some_pair_parts [] xs c.position end same).0
            (refl, refl);
        ends = sym (some_pair_parts [] xs c.position end same).1 ∙ omega arith;
      };
      only = λ xs end front. none xs end front.front front.stands front.ends;
    } where
      none : (xs : List A) (end : ℕ) (front : List ℕ) → Items A is 0 c.position front xs
          → end ≡ c.position + length front
          → ◌≡◌ {A = Found (List A)} (Some ([], c.position)) (Some (xs, end))
      none [] end front is ends =
          ap (λ (n : ℕ). Some ([], n)) (omega (arith, ends, ap length is.1))
      none (x ∷ xs) end front is ends = absurd (cc (is.0))

-- what comes after the first of them
abbrev More : (A : Type 0) → (ℕ → List ℕ → A → Type 0) → ℕ → A → ℕ → List ℕ → List A → Type 0
More A is n x at octets ys = (xs : List A) × ((x ∷ xs) ≡ ys) × Items A is n at octets xs

pub items_finds : (A : Type 0) (is : ℕ → List ℕ → A → Type 0) (read : Cursor → Found A) (e : Endian)
    (octets : List ℕ)
    → ((c : Cursor) → c.endian ≡ e → c.octets ≡ octets → Within c → Finds A is c (read c)) → (n : ℕ)
    (c : Cursor) → c.endian ≡ e → c.octets ≡ octets → Within c
    → Finds (List A) (Items A is n) c (items_found read n c)
unfolding items_found
items_finds A is read e octets law zero c order same within = nothing_found A is c
items_finds A is read e octets law (suc n) c order same within =
    finds_as (List A) (Then A (List A) is (More A is n)) (Items A is (suc n)) c _ there back
    (followed_finds A (List A) is (More A is n) c (read c)
    (λ x end. mapped (λ xs. x ∷ xs) (items_found read n (placed c end)))
    (law c order same within)
    (λ x end is_there.
    mapped_finds (List A) (List A) (Items A is n) (More A is n x) (placed c end) (λ xs. x ∷ xs)
    (items_found read n (placed c end)) (λ os xs all. (xs, refl, all)) (λ os ys more. more)
    (items_finds A is read e octets law n (placed c end) order same
    (still_within A is c x end ((law c order same within).found x end is_there) within)))) where
      there : (os : List ℕ) (ys : List A) → Then A (List A) is (More A is n) c.position os ys
          → Items A is (suc n) c.position os ys
      there os ys t = subst (λ (zs : List A). Items A is (suc n) c.position os zs) t.5.1
          (ap suc t.5.2.0, (t.1, t.2, t.3, t.4, t.5.2.1))

      back : (os : List ℕ) (ys : List A) → Items A is (suc n) c.position os ys
          → Then A (List A) is (More A is n) c.position os ys
      back os [] items = absurd (cc (items.0))
      back os (x ∷ xs) items =
          (x, items.1.0, items.1.1, items.1.2, items.1.3, (xs, refl, (cc (items.0), items.1.4)))

-- ---- as they are read in CDR

taken : (t : CdrType) (c : Cursor) (x : CdrValueOf t) (end : ℕ)
    → Front (CdrValueOf t) (λ at os x. IsCdr Free t at c.endian os x) c x end
    → Takes t c (placed c end) x
taken t c x end f = record {
  front = f.front;
  rest = f.rest;
  parts = f.parts;
  stands = f.stands;
  behind = ap (placed c) f.ends;
}

pub cdr_finds : (t : CdrType) (c : Cursor) (r : Read (CdrValueOf t))
    → Reads t c (moved c r) (value_of r)
    → Finds (CdrValueOf t) (λ at os x. IsCdr Free t at c.endian os x) c (found r)
cdr_finds t c (Err f) law = record {
  found = λ x end same. absurd (cc same);
  only = λ x end front. absurd (cc ((law.only x (placed c end) (taken t c x end front)).0));
}
cdr_finds t c (Ok (x, end)) law = record {
  found = λ y stop same.
      let taken : Takes t c (placed c end) x = law.found in
      let place : end ≡ c.position + length taken.front =
      ap (λ (d : Cursor). d.position) taken.behind in
      let parts = some_pair_parts x y end stop same in
      let one : x ≡ y = parts.0 in
      let there : end ≡ stop = parts.1 in
      record {
        front = taken.front;
        rest = taken.rest;
        parts = taken.parts;
        stands = subst (λ (z : CdrValueOf t). IsCdr Free t c.position c.endian taken.front z) one
            taken.stands;
        ends = sym there ∙ place;
      };
  only = λ y stop front.
      let k = law.only y (placed c stop) (taken t c y stop front) in
      let one : x ≡ y = cc (k.0) in
      let there : end ≡ stop = ap (λ (d : Cursor). d.position) k.1 in
      ap (λ (z : CdrValueOf t). Some (z, end)) one ∙ ap (λ (n : ℕ). Some (y, n)) there;
}
