-- A cut is read as the first submessages of the whole.
use Rattle.std.proofs.Common.{◌≡◌, ℕ, zero, suc, ◌+◌, ◌-◌, ◌≤◌, ◌<◌, Bool, true, false, ltb, List, [], ◌∷◌, ◌++◌, length, take, drop, Option, Some, None, Ok, Err, refl, sym, ap, subst, ◌∙◌, arith, inl, inr}
use Rattle.std.proofs.lemmas.Bool.{cases_lt, le-ltb, lt-ltb}
use Rattle.std.proofs.lemmas.List.{append_assoc, drop-take, drop_all, length-drop, length-take, take-append-drop, take-take, take_all}
use Rattle.rtps_types.specs.Field.{number}
use Rattle.rtps_wire.specs.declared.submessage.SubmessageFault.{SubmessageFault}
use Rattle.rtps_wire.specs.declared.submessage.SubmessageFault.TheVariants.{Rest, Length, Invalid}
use Rattle.rtps_wire.specs.Cuts.{AreFirst, IsLast}
use Rattle.rtps_wire.specs.Fields.{endian_of}
use Rattle.rtps_wire.specs.Message.{IsReading}
use Rattle.rtps_wire.specs.Reading.{Reading, front_of, item_of, raw_front, reading, runs_to_end}
use Rattle.rtps_wire.specs.Submessage.{PartsView, Item, parts_of}
use Rattle.rtps_wire.proofs.Grammar.{one_reading}
use Rattle.rtps_wire.proofs.Steps.{reading_end, reading_fault, reading_item}

unfoldable pub items_of : List ℕ → List Item
items_of octets = (reading octets).items

fault_items : (octets : List ℕ) (f : SubmessageFault) → front_of octets ≡ Err f → items_of octets ≡ []
unfolding items_of
fault_items octets f h = ap (λ (r : Reading). r.items) (reading_fault octets f h)

nothing_items : items_of [] ≡ []
unfolding items_of raw_front
nothing_items = ap (λ (r : Reading). r.items) (reading_end [] refl)

pub item_items : (octets rest : List ℕ) (i : Item) → front_of octets ≡ Ok (Some (i, rest)) → items_of octets ≡ i ∷ items_of rest
unfolding items_of
item_items octets rest i h = ap (λ (r : Reading). r.items) (reading_item octets rest i h)

-- fewer than four octets are no submessage
short_items : (octets : List ℕ) → length octets < 4 → items_of octets ≡ []
unfolding raw_front
short_items [] h = nothing_items
short_items (x ∷ []) h = fault_items (x ∷ []) Rest refl
short_items (x ∷ y ∷ []) h = fault_items (x ∷ y ∷ []) Rest refl
short_items (x ∷ y ∷ z ∷ []) h = fault_items (x ∷ y ∷ z ∷ []) Rest refl
short_items (x ∷ y ∷ z ∷ w ∷ more) h = absurd (omega arith)

none_first : (cut whole : List Item) (octets : List ℕ) → cut ≡ [] → AreFirst cut whole octets
none_first cut whole octets h = record { first = []; others = whole; last = []; of_whole = refl; of_cut = h; ran = tt }

-- what is last in octets is last after others too
last_behind : (last : List Item) (front octets : List ℕ) → IsLast last octets → IsLast last (front ++ octets)
last_behind [] front octets h = tt
last_behind (i ∷ []) front octets h = record {
  before = front ++ h.before;
  third = h.third;
  fourth = h.fourth;
  body = h.body;
  text = ap (λ (o : List ℕ). front ++ o) h.text ∙ sym (append_assoc front h.before (i.id ∷ i.flags ∷ h.third ∷ h.fourth ∷ h.body));
  unbounded = h.unbounded;
}
last_behind (i ∷ j ∷ is) front octets h = absurd h

-- ---- a submessage that runs to the end

to_end : (id flags a b : ℕ) (body : List ℕ) (whole : List Item) (o : Option PartsView) → runs_to_end id (number (endian_of flags) 2 (a ∷ b ∷ [])) ≡ true → front_of (id ∷ flags ∷ a ∷ b ∷ body) ≡ item_of id flags o [] → AreFirst (items_of (id ∷ flags ∷ a ∷ b ∷ body)) whole (id ∷ flags ∷ a ∷ b ∷ body)
to_end id flags a b body whole None r h = none_first _ whole _ (fault_items (id ∷ flags ∷ a ∷ b ∷ body) Invalid h)
to_end id flags a b body whole (Some c) r h =
    let i : Item = record { id = id; flags = flags; content = c } in
    record {
      first = [];
      others = whole;
      last = i ∷ [];
      of_whole = refl;
      of_cut = item_items (id ∷ flags ∷ a ∷ b ∷ body) [] i h ∙ ap (λ (is : List Item). i ∷ is) nothing_items;
      ran = record { before = []; third = a; fourth = b; body = body; text = refl; unbounded = r };
    }

front_to_end : (id flags a b : ℕ) (body : List ℕ) → runs_to_end id (number (endian_of flags) 2 (a ∷ b ∷ [])) ≡ true → front_of (id ∷ flags ∷ a ∷ b ∷ body) ≡ item_of id flags (parts_of id flags body) []
unfolding raw_front
front_to_end id flags a b body r =
    let test : ltb (length body) (length body) ≡ false = le-ltb _ _ (omega arith) in
    rw (r, test, take_all (length body) body (omega arith), drop_all (length body) body (omega arith)) refl

-- ---- a submessage with a length

front_long : (id flags a b : ℕ) (more : List ℕ) → runs_to_end id (number (endian_of flags) 2 (a ∷ b ∷ [])) ≡ false → length more < number (endian_of flags) 2 (a ∷ b ∷ []) → front_of (id ∷ flags ∷ a ∷ b ∷ more) ≡ Err Length
unfolding raw_front
front_long id flags a b more r h =
    let test : ltb (length more) (number (endian_of flags) 2 (a ∷ b ∷ [])) ≡ true = lt-ltb _ _ h in
    rw (r, test) refl

front_stated : (id flags a b : ℕ) (more : List ℕ) → runs_to_end id (number (endian_of flags) 2 (a ∷ b ∷ [])) ≡ false → number (endian_of flags) 2 (a ∷ b ∷ []) ≤ length more → front_of (id ∷ flags ∷ a ∷ b ∷ more) ≡ item_of id flags (parts_of id flags (take (number (endian_of flags) 2 (a ∷ b ∷ [])) more)) (drop (number (endian_of flags) 2 (a ∷ b ∷ [])) more)
unfolding raw_front
front_stated id flags a b more r h =
    let test : ltb (length more) (number (endian_of flags) 2 (a ∷ b ∷ [])) ≡ false = le-ltb _ _ h in
    rw (r, test) refl

-- both begin with the same submessage, and after it comes a cut of what comes after it in the whole
same_front : (id flags : ℕ) (cut whole front rest rest' : List ℕ) (o : Option PartsView) → front_of cut ≡ item_of id flags o rest' → front_of whole ≡ item_of id flags o rest → cut ≡ front ++ rest' → AreFirst (items_of rest') (items_of rest) rest' → AreFirst (items_of cut) (items_of whole) cut
same_front id flags cut whole front rest rest' None h w text f = none_first _ _ _ (fault_items cut Invalid h)
same_front id flags cut whole front rest rest' (Some c) h w text f =
    let i : Item = record { id = id; flags = flags; content = c } in
    record {
      first = i ∷ f.first;
      others = f.others;
      last = f.last;
      of_whole = item_items whole rest i w ∙ ap (λ (is : List Item). i ∷ is) f.of_whole;
      of_cut = item_items cut rest' i h ∙ ap (λ (is : List Item). i ∷ is) f.of_cut;
      ran = let P : List ℕ → Type 0 = λ o. IsLast f.last o in subst P (sym text) (last_behind f.last front rest' f.ran);
    }

-- what is known of all octets that are no more than these
abbrev Shorter : List ℕ → Type 0
Shorter more = (rest : List ℕ) (j : ℕ) → length rest ≤ length more → AreFirst (items_of (take j rest)) (items_of rest) (take j rest)

stated : (id flags a b : ℕ) (more : List ℕ) (m : ℕ) → runs_to_end id (number (endian_of flags) 2 (a ∷ b ∷ [])) ≡ false → Shorter more → AreFirst (items_of (id ∷ flags ∷ a ∷ b ∷ take m more)) (items_of (id ∷ flags ∷ a ∷ b ∷ more)) (id ∷ flags ∷ a ∷ b ∷ take m more)
stated id flags a b more m r shorter =
    let s = number (endian_of flags) 2 (a ∷ b ∷ []) in
    let t = take m more in
    let count = length-take m more in
    elim (cases_lt (length t) s) [
      | inl lt ↦ none_first _ _ _ (fault_items (id ∷ flags ∷ a ∷ b ∷ t) Length (front_long id flags a b t r lt))
      | inr le ↦
          let within : s + (m - s) ≡ m = omega arith in
          let same : take s t ≡ take s more = take-take s m more (omega arith) in
          let left : drop s t ≡ take (m - s) (drop s more) = ap (λ (k : ℕ). drop s (take k more)) (sym within) ∙ drop-take s (m - s) more in
          let body = parts_of id flags (take s more) in
          let of_cut : front_of (id ∷ flags ∷ a ∷ b ∷ t) ≡ item_of id flags body (take (m - s) (drop s more)) = front_stated id flags a b t r le ∙ rw (same, left) refl in
          let of_whole = front_stated id flags a b more r (omega arith) in
          let text : id ∷ flags ∷ a ∷ b ∷ t ≡ (id ∷ flags ∷ a ∷ b ∷ take s t) ++ take (m - s) (drop s more) = rw (← left) (ap (λ (o : List ℕ). id ∷ flags ∷ a ∷ b ∷ o) (sym (take-append-drop s t))) in
          same_front id flags _ _ (id ∷ flags ∷ a ∷ b ∷ take s t) (drop s more) (take (m - s) (drop s more)) body of_cut of_whole text (shorter (drop s more) (m - s) (omega (arith, length-drop s more)))
    ]

by_length : (id flags a b : ℕ) (more : List ℕ) (m : ℕ) (r : Bool) → runs_to_end id (number (endian_of flags) 2 (a ∷ b ∷ [])) ≡ r → Shorter more → AreFirst (items_of (id ∷ flags ∷ a ∷ b ∷ take m more)) (items_of (id ∷ flags ∷ a ∷ b ∷ more)) (id ∷ flags ∷ a ∷ b ∷ take m more)
by_length id flags a b more m true r shorter = to_end id flags a b (take m more) _ (parts_of id flags (take m more)) r (front_to_end id flags a b (take m more) r)
by_length id flags a b more m false r shorter = stated id flags a b more m r shorter

-- a cut that leaves fewer than four octets
cut_short : (octets : List ℕ) (n : ℕ) → length (take n octets) < 4 → AreFirst (items_of (take n octets)) (items_of octets) (take n octets)
cut_short octets n h = none_first _ _ _ (short_items (take n octets) h)

within : (k : ℕ) (octets : List ℕ) (n : ℕ) → length octets < k → AreFirst (items_of (take n octets)) (items_of octets) (take n octets)
within zero octets n h = absurd (omega arith)
within (suc k) [] n h = let none : List ℕ = [] in cut_short none n (omega (arith, length-take n none))
within (suc k) (x ∷ []) n h = cut_short (x ∷ []) n (omega (arith, length-take n (x ∷ [])))
within (suc k) (x ∷ y ∷ []) n h = cut_short (x ∷ y ∷ []) n (omega (arith, length-take n (x ∷ y ∷ [])))
within (suc k) (x ∷ y ∷ z ∷ []) n h = cut_short (x ∷ y ∷ z ∷ []) n (omega (arith, length-take n (x ∷ y ∷ z ∷ [])))
within (suc k) (x ∷ y ∷ z ∷ w ∷ more) zero h = cut_short (x ∷ y ∷ z ∷ w ∷ more) zero (omega arith)
within (suc k) (x ∷ y ∷ z ∷ w ∷ more) (suc zero) h = cut_short (x ∷ y ∷ z ∷ w ∷ more) 1 (omega arith)
within (suc k) (x ∷ y ∷ z ∷ w ∷ more) (suc (suc zero)) h = cut_short (x ∷ y ∷ z ∷ w ∷ more) 2 (omega arith)
within (suc k) (x ∷ y ∷ z ∷ w ∷ more) (suc (suc (suc zero))) h = cut_short (x ∷ y ∷ z ∷ w ∷ more) 3 (omega arith)
within (suc k) (x ∷ y ∷ z ∷ w ∷ more) (suc (suc (suc (suc m)))) h =
    by_length x y z w more m (runs_to_end x (number (endian_of y) 2 (z ∷ w ∷ []))) refl (λ rest j less. within k rest j (omega arith))

-- wherever octets are cut, what is read first stays
pub cut_first : (octets : List ℕ) (n : ℕ) (whole cut : List Item) (fault cause : Option SubmessageFault) → IsReading octets whole fault → IsReading (take n octets) cut cause → AreFirst cut whole (take n octets)
unfolding items_of
cut_first octets n whole cut fault cause w c =
    let of_whole = ap (λ (r : Reading). r.items) (one_reading whole octets fault w) in
    let of_cut = ap (λ (r : Reading). r.items) (one_reading cut (take n octets) cause c) in
    rw (← of_whole, ← of_cut) (within (suc (length octets)) octets n (omega arith))
