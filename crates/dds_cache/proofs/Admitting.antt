-- What a cache keeps once an entry came: it was put, its instance took it in, and the oldest left where there were too many.
use Rattle.std.proofs.Common.{◌≡◌, ℕ, suc, ◌+◌, ◌<◌, ◌≤◌, Bool, true, false, List, [], ◌∷◌, ◌++◌, drop, length, Some, None, refl, sym, ap, ◌∙◌, subst, arith}
use Rattle.std.specs.BTreeSet.{insert_key}
use Rattle.std.specs.List.{list_any}
use Rattle.std.specs.Option.{option_map}
use Rattle.std.specs.Ordering.{nat_cmp}
use Rattle.std.specs.Prelude.{Option, filter, if◌then◌else◌, not, ◌&&◌, nat_lt, slice_get}
use Rattle.std.proofs.lemmas.Bool.Decides.{nat_tests}
use Rattle.std.specs.Set.{remove_key}
use Rattle.rtps_types.specs.declared.identity.Guid.{Guid}
use Rattle.rtps_types.specs.declared.identity.KeyHash.{KeyHash}
use Rattle.rtps_reader.specs.declared.notice.Notice.{Notice}
use Rattle.dds_cache.specs.declared.entry.Entry.{Entry}
use Rattle.dds_cache.specs.declared.history.History.{History}
use Rattle.dds_cache.specs.declared.index.Index.{Index}
use Rattle.dds_cache.specs.declared.history.History.TheVariants.{KeepLast, KeepAll}
use Rattle.dds_cache.specs.Cache.{cached, entry_by, with_entry}
use Rattle.dds_cache.specs.Calls.{Done, Accepted}
use Rattle.dds_cache.specs.Coming.{Arrives, came, counted, dropped, is_value_of, joined_by, joins, leaving, left_by_number, made, or_fresh, without_first}
use Rattle.dds_cache.specs.Effects.{ChangesAt, IsSame, with_numbers}
use Rattle.dds_cache.specs.Placed.{ShelfView}
use Rattle.dds_cache.specs.Standing.{InstanceView, Pair, CacheIndex, StandsBy, is_key, is_pair, numbers_in, pair_order, parts, writers_in}
use Rattle.dds_cache.proofs.Answering.{stands_same}
use Rattle.dds_cache.proofs.Dropping.{dropping}
use Rattle.dds_cache.proofs.Entering.{entered, entered_parts, makes, numbers_more, put_stands}
use Rattle.dds_cache.proofs.Keys.{key_is, key_itself, pair_total}
use Rattle.dds_cache.proofs.Placing.{longer_put}
use Rattle.dds_cache.proofs.Putting.{undone}

few : {X : Type 0} (f : X → Bool) (l : List X) → length (filter f l) ≤ length l
few f [] = omega arith
few f (x ∷ xs) = by_test (f x) (few f xs)
  where
    by_test : (b : Bool) → length (filter f xs) ≤ length xs → length (if b then x ∷ filter f xs else filter f xs) ≤ suc (length xs)
    by_test true h = omega (arith, h)
    by_test false h = omega (arith, h)

joining : (v b : Bool) → (v && not b) ≡ true → b ≡ false
joining true true h = absurd cc
joining true false h = refl
joining false b h = absurd cc

-- one more writer of the instance is among all that are live
pub fits : (p : Pair) (v : Bool) (live now : List Pair) (joined : Bool) (count all : ℕ) → joined ≡ joins v p live → now ≡ joined_by v p live → all ≡ length now → count ≡ writers_in p.1 live → joined ≡ true → count < all
fits p v live now joined count all is so whole counted h =
    let some : joins v p live ≡ true = sym is ∙ h in
    let more : length now ≡ suc (length live) =
    ap length (so ∙ ap (λ b. if b then insert_key pair_order live p else live) some) ∙ longer_put pair_order pair_total p live (joining v (list_any (is_pair p) live) some) in
    omega (arith, counted, more, whole, few (λ (x : Pair). is_key p.1 x.1) live)

-- ---- what is known of the instance, where its oldest entry leaves, and where none does

numbers_of : (n : ℕ) (o : Option InstanceView) → insert_key nat_cmp (or_fresh o).numbers n ≡ insert_key nat_cmp (numbers_in o) n
numbers_of n None = refl
numbers_of n (Some i) = refl

cut_came : (v j : Bool) (most n : ℕ) (i : InstanceView) (m : ℕ) (rest : List ℕ) → insert_key nat_cmp i.numbers n ≡ m ∷ rest → nat_lt most (length (insert_key nat_cmp i.numbers n)) ≡ true
    → came v j (counted (KeepLast most) n i) ≡ with_numbers rest (came v j (with_numbers (insert_key nat_cmp i.numbers n) i))
cut_came v j most n i m rest is over =
    ap (λ b. came v j (with_numbers (if b then drop 1 (insert_key nat_cmp i.numbers n) else insert_key nat_cmp i.numbers n) i)) over
    ∙ ap (λ ns. came v j (with_numbers (drop 1 ns) i)) is ∙ told v
  where
    told : (v : Bool) → came v j (with_numbers rest i) ≡ with_numbers rest (came v j (with_numbers (insert_key nat_cmp i.numbers n) i))
    told true = refl
    told false = refl

whole_came : (v j : Bool) (most n : ℕ) (i : InstanceView) → nat_lt most (length (insert_key nat_cmp i.numbers n)) ≡ false → came v j (counted (KeepLast most) n i) ≡ came v j (with_numbers (insert_key nat_cmp i.numbers n) i)
whole_came v j most n i over = ap (λ b. came v j (with_numbers (if b then drop 1 (insert_key nat_cmp i.numbers n) else insert_key nat_cmp i.numbers n) i)) over

module _ {M : Type 0} (past : List (Done M)) (p : CacheIndex M) (s : StandsBy past p) (n : Notice M) (e : Entry M) (one : entry_by n.place n.writer n.what ≡ e ∷ []) where
  abbrev v : Bool
  v = is_value_of e.body

  abbrev pair : Pair
  pair = (e.writer, e.key)

  abbrev j : Bool
  j = joins v pair p.live

  abbrev entered_then : CacheIndex M
  entered_then = entered_parts past p s n e (makes n e one)

  -- the entry was put, what is known of its instance changed, and the entry with this number left
  pub record Came (oldest : Option ℕ) (t : CacheIndex M) : Type 0 where
    pub keep : t.keep ≡ p.keep
    pub accepted : t.accepted ≡ p.accepted + 1
    pub entries : t.entries ≡ left_by_number oldest (p.entries ++ (p.accepted, e) ∷ [])
    pub find : ChangesAt e.key (made (λ i. came v j (counted p.keep p.accepted i))) p.find t.find
    pub live : t.live ≡ joined_by v pair p.live
    pub gives_up : oldest ≡ leaving p.keep p.accepted (numbers_in (p.find e.key))

  module _ (oldest : Option ℕ) (t : CacheIndex M) (h : Came oldest t) where
    all_kept : p.keep ≡ KeepAll → IsSame entered_then t
    all_kept keeps = record {
      keep = h.keep;
      accepted = h.accepted;
      entries = h.entries ∙ ap (λ o. left_by_number o (p.entries ++ (p.accepted, e) ∷ [])) (h.gives_up ∙ ap (λ k. leaving k p.accepted (numbers_in (p.find e.key))) keeps);
      find = λ k.
          h.find k ∙ ap (λ y. if is_key e.key k then made (λ i. came v j (counted y p.accepted i)) (p.find k) else p.find k) keeps
          ∙ sym (ap (λ y. if is_key e.key k then entered v j y p.accepted (p.find k) else p.find k) keeps);
      live = h.live;
    }

    abbrev ns : List ℕ
    ns = insert_key nat_cmp (numbers_in (p.find e.key)) p.accepted

    module _ (most : ℕ) (keeps : p.keep ≡ KeepLast most) where
      found_is : (k : KeyHash) → t.find k ≡ (if is_key e.key k then made (λ i. came v j (counted (KeepLast most) p.accepted i)) (p.find k) else p.find k)
      found_is k = h.find k ∙ ap (λ y. if is_key e.key k then made (λ i. came v j (counted y p.accepted i)) (p.find k) else p.find k) keeps

      then_is : (k : KeyHash) → entered_then.find k ≡ (if is_key e.key k then entered v j (KeepLast most) p.accepted (p.find k) else p.find k)
      then_is k = ap (λ y. if is_key e.key k then entered v j y p.accepted (p.find k) else p.find k) keeps

      ns_at : (k : KeyHash) → is_key e.key k ≡ true → insert_key nat_cmp (or_fresh (p.find k)).numbers p.accepted ≡ ns
      ns_at k is = numbers_of p.accepted (p.find k) ∙ ap (λ q. insert_key nat_cmp (numbers_in (p.find q)) p.accepted) (sym (key_is e.key k is))

      none_left : nat_lt most (length ns) ≡ false → IsSame entered_then t
      none_left over = record {
        keep = h.keep;
        accepted = h.accepted;
        entries = h.entries ∙ ap (λ o. left_by_number o (p.entries ++ (p.accepted, e) ∷ [])) (h.gives_up ∙ ap (λ k. leaving k p.accepted (numbers_in (p.find e.key))) keeps ∙ ap (λ b. if b then slice_get ns 0 else None) over);
        find = λ k. found_is k ∙ by_key k (is_key e.key k) refl ∙ sym (then_is k);
        live = h.live;
      }
        where
          by_key : (k : KeyHash) (b : Bool) → is_key e.key k ≡ b → (if b then made (λ i. came v j (counted (KeepLast most) p.accepted i)) (p.find k) else p.find k) ≡ (if b then entered v j (KeepLast most) p.accepted (p.find k) else p.find k)
          by_key k true is = ap (λ x. Some x) (whole_came v j most p.accepted (or_fresh (p.find k)) (ap (λ l. nat_lt most (length l)) (ns_at k is) ∙ over))
          by_key k false is = refl

      one_left : (m : ℕ) (rest : List ℕ) → ns ≡ m ∷ rest → nat_lt most (length ns) ≡ true → IsSame (without_first e.key (m ∷ rest) entered_then) t
      one_left m rest is over = record {
        keep = h.keep;
        accepted = h.accepted;
        entries = h.entries
            ∙ ap (λ o. left_by_number o (p.entries ++ (p.accepted, e) ∷ [])) (h.gives_up ∙ ap (λ k. leaving k p.accepted (numbers_in (p.find e.key))) keeps ∙ ap (λ b. if b then slice_get ns 0 else None) over ∙ ap (λ l. slice_get l 0) is);
        find = λ k. found_is k ∙ by_key k (is_key e.key k) refl ∙ sym (ap (λ o. if is_key e.key k then option_map (with_numbers rest) o else o) (then_is k));
        live = h.live;
      }
        where
          by_key : (k : KeyHash) (b : Bool) → is_key e.key k ≡ b → (if b then made (λ i. came v j (counted (KeepLast most) p.accepted i)) (p.find k) else p.find k)
              ≡ (if b then option_map (with_numbers rest) (if b then entered v j (KeepLast most) p.accepted (p.find k) else p.find k) else (if b then entered v j (KeepLast most) p.accepted (p.find k) else p.find k))
          by_key k true same = ap (λ x. Some x) (cut_came v j most p.accepted (or_fresh (p.find k)) m rest (ns_at k same ∙ is) (ap (λ l. nat_lt most (length l)) (ns_at k same) ∙ over))
          by_key k false same = refl

    abbrev Dropped : History → Type 0
    Dropped keep = IsSame (dropped e.key keep entered_then) t

    numbers_then : (most : ℕ) → p.keep ≡ KeepLast most → numbers_in (entered_then.find e.key) ≡ ns
    numbers_then most keeps =
        ap numbers_in (then_is most keeps e.key ∙ ap (λ b. if b then entered v j (KeepLast most) p.accepted (p.find e.key) else p.find e.key) (key_itself e.key)) ∙ numbers_more v j most p.accepted (p.find e.key)

    by_keep : (keep : History) → p.keep ≡ keep → Dropped keep
    by_keep KeepAll keeps = all_kept keeps
    by_keep (KeepLast most) keeps =
        subst (λ l. IsSame (if nat_lt most (length l) then without_first e.key l entered_then else entered_then) t) (sym (numbers_then most keeps)) (by_test (nat_lt most (length ns)) refl)
      where
        by_numbers : (l : List ℕ) → ns ≡ l → nat_lt most (length ns) ≡ true → IsSame (without_first e.key l entered_then) t
        by_numbers [] is over = let none : nat_lt most 0 ≡ false = grind (arith, nat_tests) in let bad : true ≡ false = sym over ∙ ap (λ l. nat_lt most (length l)) is ∙ none in absurd cc
        by_numbers (m ∷ rest) is over = one_left most keeps m rest is over

        by_test : (b : Bool) → nat_lt most (length ns) ≡ b → IsSame (if b then without_first e.key ns entered_then else entered_then) t
        by_test true over = by_numbers ns refl over
        by_test false over = none_left most keeps over

    pub admitted : length e.key.0 ≡ 16 → StandsBy (Accepted n ∷ past) t
    admitted sized =
        let x = entered_then in
        let all : List (Entry M) = (cached p.keep past).entries ++ e ∷ [] in
        let here : StandsBy (Accepted n ∷ past) (dropped e.key p.keep x) =
        dropping (Accepted n ∷ past) all e.key p.keep x.accepted x.entries x.find x.live (put_stands past p s n e (makes n e one) sized) (sym (ap (with_entry p.keep (cached p.keep past).entries) one)) in
        stands_same (Accepted n ∷ past) (dropped e.key p.keep x) t (by_keep p.keep refl) here

-- ---- in the steps of the code

pub joined_undone : (p : Pair) (v : Bool) (live mid now : List Pair) (joined : Bool) → joined ≡ true → joined ≡ joins v p live → mid ≡ joined_by v p live → now ≡ remove_key (is_pair p) mid → now ≡ live
joined_undone p v live mid now joined was is put taken =
    let some : joins v p live ≡ true = sym is ∙ was in
    undone pair_order pair_total p live mid now (put ∙ ap (λ b. if b then insert_key pair_order live p else live) some) (joining v (list_any (is_pair p) live) some) taken

pub admitted_by : {A M : Type 0} (past : List (Done M)) (i0 i1 : Index A) (s0 s1 : ShelfView M) (s : StandsBy past (parts i0 s0)) (n : Notice M) (e : Entry M) (one : entry_by n.place n.writer n.what ≡ e ∷ []) (w : Guid) (k : KeyHash) (b : Bool) (number : ℕ) (oldest : Option ℕ)
    → w ≡ e.writer → k ≡ e.key → b ≡ is_value_of e.body → number ≡ s0.next → i1.keep ≡ i0.keep → Arrives (w, k) b number i0 i1 oldest → s1.next ≡ s0.next + 1 → s1.entries ≡ left_by_number oldest (s0.entries ++ (s0.next, e) ∷ []) → length k.0 ≡ 16
    → StandsBy (Accepted n ∷ past) (parts i1 s1)
admitted_by past i0 i1 s0 s1 s n e one w k b number oldest writer key value next keep arrives accepted entries sized =
    let a0 : Arrives (e.writer, k) b number i0 i1 oldest = subst (λ x. Arrives (x, k) b number i0 i1 oldest) writer arrives in
    let a1 : Arrives (e.writer, e.key) b number i0 i1 oldest = subst (λ x. Arrives (e.writer, x) b number i0 i1 oldest) key a0 in
    let a2 : Arrives (e.writer, e.key) (is_value_of e.body) number i0 i1 oldest = subst (λ x. Arrives (e.writer, e.key) x number i0 i1 oldest) value a1 in
    let a : Arrives (e.writer, e.key) (is_value_of e.body) s0.next i0 i1 oldest = subst (λ x. Arrives (e.writer, e.key) (is_value_of e.body) x i0 i1 oldest) next a2 in
    admitted past (parts i0 s0) s n e one oldest (parts i1 s1)
    (record { keep = keep; accepted = accepted; entries = entries; find = a.find (s.counts e.key); live = a.live; gives_up = a.gives_up })
    (subst (λ x. length x.0 ≡ 16) key sized)
