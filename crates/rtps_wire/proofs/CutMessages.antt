-- A message that is cut is read as far as it goes.
use Rattle.std.proofs.Common.{◌≡◌, ℕ, zero, suc, ◌+◌, ◌-◌, ◌≤◌, ◌<◌, Bool, true, false, ltb, List, [], ◌∷◌, ◌++◌, length, take, drop, Option, Err, refl, sym, ap, subst, ◌∙◌, arith, inl, inr}
use Rattle.std.specs.Prelude.{MatchBool, nat_lt, nat_eq, slice_index}
use Rattle.std.specs.List.{starts_with}
use Rattle.std.proofs.lemmas.Bool.{cases_lt, le-ltb, lt-ltb}
use Rattle.std.proofs.lemmas.Bool.Decides.{nat_tests}
use Rattle.std.proofs.Math.Seq.{take-append-add}
use Rattle.std.proofs.lemmas.List.{drop-take, get_or-take, length-append, length-take, take-take}
use Rattle.rtps_wire.specs.declared.message_header.Header.{Header}
use Rattle.rtps_wire.specs.declared.message_header.HeaderFault.TheVariants.{Short}
use Rattle.rtps_wire.specs.declared.submessage.SubmessageFault.{SubmessageFault}
use Rattle.rtps_wire.specs.Cuts.{AreFirst, BeginWith, CutsReadFirst, KeepsWhatEnds, ReadsFirst}
use Rattle.rtps_wire.specs.MessageHeader.{header_of, protocol}
use Rattle.rtps_wire.specs.Message.{IsBefore, IsMessage, IsReading}
use Rattle.rtps_wire.specs.Reading.{Reading, reading}
use Rattle.rtps_wire.specs.Submessage.{Item}
use Rattle.rtps_wire.proofs.Cuts.{cut_first, item_items, items_of}
use Rattle.rtps_wire.proofs.Grammar.{before_front, one_reading, reading_is}
use Rattle.rtps_wire.proofs.OneReading.{message_is_only}

-- ---- a submessage that ends before the cut

take_past : (k : ℕ) (xs ys : List ℕ) → length xs ≤ k → take k (xs ++ ys) ≡ xs ++ take (k - length xs) ys
take_past k xs ys le =
    let all : k ≡ length xs + (k - length xs) = omega arith in
    ap (λ (m : ℕ). take m (xs ++ ys)) all ∙ take-append-add xs ys (k - length xs)

take_none : (m : ℕ) → take {A = ℕ} m [] ≡ []
take_none zero = refl
take_none (suc m) = refl

cut_size : (b : Bool) (after : List ℕ) (m len stated : ℕ) → MatchBool b (after ≡ []) (len ≡ stated) → MatchBool b (take m after ≡ []) (len ≡ stated)
cut_size true after m len stated h = rw h (take_none m)
cut_size false after m len stated h = h

framed_length : (i : Item) (octets after : List ℕ) (b : IsBefore i octets after) → length octets ≡ 4 + length b.body + length after
framed_length i octets after b = ap (λ (o : List ℕ). length o) b.framed.text ∙ omega (arith, length-append b.body after)

cut_before : (i : Item) (octets after : List ℕ) (n : ℕ) (b : IsBefore i octets after) → length octets ≤ n + length after → IsBefore i (take n octets) (take (n - (4 + length b.body)) after)
cut_before i octets after n b le =
    let long : length octets ≡ 4 + length b.body + length after = framed_length i octets after b in
    let four : n ≡ suc (suc (suc (suc (n - 4)))) = omega arith in
    let left : n - 4 - length b.body ≡ n - (4 + length b.body) = omega arith in
    let tail : take (n - 4) (b.body ++ after) ≡ b.body ++ take (n - (4 + length b.body)) after = take_past (n - 4) b.body after (omega arith) ∙ ap (λ (k : ℕ). b.body ++ take k after) left in
    record {
      body = b.body;
      framed = record {
        third = b.framed.third;
        fourth = b.framed.fourth;
        text = ap (take n) b.framed.text ∙ ap (λ (k : ℕ). take k (i.id ∷ i.flags ∷ b.framed.third ∷ b.framed.fourth ∷ (b.body ++ after))) four ∙ ap (λ (l : List ℕ). i.id ∷ i.flags ∷ b.framed.third ∷ b.framed.fourth ∷ l) tail;
        size = cut_size _ after (n - (4 + length b.body)) (length b.body) _ b.framed.size;
      };
      valid = b.valid;
    }

begun_shorter : (first : List Item) (octets rest : List ℕ) → BeginWith octets first rest → length rest ≤ length octets
begun_shorter [] octets rest b = let same : length octets ≡ length rest = ap (λ (o : List ℕ). length o) b in omega arith
begun_shorter (i ∷ is) octets rest b =
    let less : length rest ≤ length b.0 = begun_shorter is b.0 rest b.2 in
    let long : length octets ≡ 4 + length b.1.body + length b.0 = framed_length i octets b.0 b.1 in
    omega arith

cut_begins : (first : List Item) (octets rest : List ℕ) (n : ℕ) → BeginWith octets first rest → length octets ≤ n + length rest → (left : List ℕ) × BeginWith (take n octets) first left
cut_begins [] octets rest n b le = (take n octets, refl)
cut_begins (i ∷ is) octets rest n b le =
    let less : length rest ≤ length b.0 = begun_shorter is b.0 rest b.2 in
    let long : length octets ≡ 4 + length b.1.body + length b.0 = framed_length i octets b.0 b.1 in
    let others = cut_begins is b.0 rest (n - (4 + length b.1.body)) b.2 (omega arith) in
    (others.0, (take (n - (4 + length b.1.body)) b.0, cut_before i octets b.0 n b.1 (omega arith), others.1))

begun_items : (first : List Item) (octets left : List ℕ) → BeginWith octets first left → items_of octets ≡ first ++ items_of left
begun_items [] octets left b = ap items_of b
begun_items (i ∷ is) octets left b = item_items octets b.0 i (before_front i octets b.0 b.1) ∙ ap (λ (l : List Item). i ∷ l) (begun_items is b.0 left b.2)

keeps : (octets : List ℕ) (n : ℕ) (cut : List Item) (cause : Option SubmessageFault) → IsReading (take n octets) cut cause → KeepsWhatEnds octets n cut
unfolding items_of
keeps octets n cut cause r first rest begins le =
    let b = cut_begins first octets rest n begins le in
    let read : items_of (take n octets) ≡ cut = ap (λ (r : Reading). r.items) (one_reading cut (take n octets) cause r) in
    (items_of b.0, sym read ∙ begun_items first (take n octets) b.0 b.1)

-- ---- the header of a cut

starts_cut : (m : ℕ) (octets : List ℕ) → starts_with nat_eq (take (suc (suc (suc (suc m)))) octets) protocol ≡ starts_with nat_eq octets protocol
starts_cut m [] = refl
starts_cut m (a ∷ []) = refl
starts_cut m (a ∷ b ∷ []) = refl
starts_cut m (a ∷ b ∷ c ∷ []) = refl
starts_cut m (a ∷ b ∷ c ∷ d ∷ more) = refl

field_cut : (n at k : ℕ) (octets : List ℕ) → at + k ≤ n → take k (drop at (take n octets)) ≡ take k (drop at octets)
field_cut n at k octets le =
    let all : at + (n - at) ≡ n = omega arith in
    let left : drop at (take n octets) ≡ take (n - at) (drop at octets) = ap (λ (m : ℕ). drop at (take m octets)) (sym all) ∙ drop-take at (n - at) octets in
    ap (take k) left ∙ take-take k (n - at) (drop at octets) (omega arith)

header_cut : (octets : List ℕ) (n : ℕ) → 20 ≤ n → header_of (take n octets) ≡ header_of octets
header_cut octets n le =
    let count = length-take n octets in
    let size : nat_lt (length (take n octets)) 20 ≡ nat_lt (length octets) 20 = grind (arith, nat_tests) in
    let four : n ≡ suc (suc (suc (suc (n - 4)))) = omega arith in
    let starts : starts_with nat_eq (take n octets) protocol ≡ starts_with nat_eq octets protocol = ap (λ (k : ℕ). starts_with nat_eq (take k octets) protocol) four ∙ starts_cut (n - 4) octets in
    let major : slice_index (take n octets) 4 ≡ slice_index octets 4 = get_or-take n octets 4 0 (omega arith) in
    rw (size, starts, major, field_cut n 4 2 octets (omega arith), field_cut n 6 2 octets (omega arith), field_cut n 8 12 octets (omega arith)) refl

header_short : (octets : List ℕ) (n : ℕ) → n < 20 → header_of (take n octets) ≡ Err Short
header_short octets n l =
    let count = length-take n octets in
    let test : nat_lt (length (take n octets)) 20 ≡ true = lt-ltb _ _ (omega arith) in
    rw test refl

-- ---- a message

reads_first : (octets : List ℕ) (n : ℕ) (header : Header) (whole : List Item) (fault : Option SubmessageFault) → IsMessage octets header whole fault → 20 ≤ n → ReadsFirst octets n header whole
reads_first octets n header whole fault w le =
    let all : 20 + (n - 20) ≡ n = omega arith in
    let left : drop 20 (take n octets) ≡ take (n - 20) (drop 20 octets) = ap (λ (m : ℕ). drop 20 (take m octets)) (sym all) ∙ drop-take 20 (n - 20) octets in
    let r = reading (drop 20 (take n octets)) in
    let read : IsReading (drop 20 (take n octets)) r.items r.fault = reading_is (drop 20 (take n octets)) in
    let here : IsReading (take (n - 20) (drop 20 octets)) r.items r.fault = subst (λ (o : List ℕ). IsReading o r.items r.fault) left read in
    record {
      cut = r.items;
      cause = r.fault;
      message = message_is_only (take n octets) header r.items r.fault (record { opening = header_cut octets n le ∙ w.opening; behind = read });
      ended = keeps (drop 20 octets) (n - 20) r.items r.fault here;
      first = subst (λ (o : List ℕ). AreFirst r.items whole o) (sym left) (cut_first (drop 20 octets) (n - 20) whole r.items fault r.fault w.behind here);
    }

pub cuts_are : CutsReadFirst
cuts_are octets n header whole fault w =
    elim (cases_lt n 20) [
      | inl lt ↦ (let test : ltb n 20 ≡ true = lt-ltb _ _ lt in rw test (header_short octets n lt))
      | inr le ↦ (let test : ltb n 20 ≡ false = le-ltb _ _ le in rw test (reads_first octets n header whole fault w le))
    ]
