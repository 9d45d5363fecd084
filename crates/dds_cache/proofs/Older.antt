-- What leaves untaken is older than what is there.
use Rattle.std.proofs.Common.{◌≡◌, ℕ, zero, suc, Bool, true, false, List, [], ◌∷◌, ◌++◌, map, length, inl, inr, refl, sym, ap, ◌∙◌, subst, append_assoc}
use Rattle.std.specs.Prelude.{filter, if◌then◌else◌, nat_lt}
use Rattle.std.proofs.lemmas.List.{append-nil}
use Rattle.std.proofs.lemmas.List.Elements.{filter-append}
use Rattle.rtps_types.specs.declared.identity.Guid.{Guid}
use Rattle.rtps_types.specs.declared.identity.KeyHash.{KeyHash}
use Rattle.rtps_types.specs.declared.place.Place.{Place}
use Rattle.rtps_reader.specs.declared.body.Body.TheVariants as body
use Rattle.rtps_reader.specs.declared.notice.NoticeKind.{NoticeKind}
use Rattle.rtps_reader.specs.declared.notice.NoticeKind.TheVariants as kind
use Rattle.dds_cache.specs.declared.entry.Entry.{Entry}
use Rattle.dds_cache.specs.declared.history.History.TheVariants.{KeepLast}
use Rattle.dds_cache.specs.Cache.{cached, entry_by, first_by, is_of, kept_by, left_by, marked, marked_by, meets, with_entry, without_oldest}
use Rattle.dds_cache.specs.Calls.{Done, Accepted, WasRead, WasTaken, same_key}
use Rattle.dds_cache.specs.Dropped.{AreAmong, AreOlder, accepted_in, dropped_in, dropped_of, there_in, unmarked}
use Rattle.dds_cache.specs.Parted.{AreParts}
use Rattle.dds_cache.proofs.Choosing.{first_zero}
use Rattle.dds_cache.proofs.Dropping.{oldest_is}
use Rattle.dds_cache.proofs.Keys.{key_is, key_itself, key_tie}
use Rattle.dds_cache.proofs.Parting.{all_left, firsts_apart}

module _ {X : Type 0} where
  none_among : (ys : List X) → AreAmong [] ys
  none_among [] = refl
  none_among (y ∷ ys) = inr (none_among ys)

  all_among : (ys : List X) → AreAmong ys ys
  all_among [] = refl
  all_among (y ∷ ys) = inl (ys, refl, all_among ys)

  both_among : (xs ys us vs : List X) → AreAmong xs ys → AreAmong us vs → AreAmong (xs ++ us) (ys ++ vs)
  both_among xs [] us vs h k = subst (λ l. AreAmong (l ++ us) vs) (sym h) k
  both_among xs (y ∷ ys) us vs (inl h) k = inl (h.0 ++ us, ap (λ l. l ++ us) h.1, both_among h.0 ys us vs h.2 k)
  both_among xs (y ∷ ys) us vs (inr h) k = inr (both_among xs ys us vs h k)

  among_among : (xs ys zs : List X) → AreAmong xs ys → AreAmong ys zs → AreAmong xs zs
  among_among xs ys [] h k = subst (AreAmong xs) k h
  among_among xs ys (z ∷ zs) h (inl k) = by_first (subst (AreAmong xs) k.1 h) (λ us g. among_among us k.0 zs g k.2)
    where
      by_first : AreAmong xs (z ∷ k.0) → ((us : List X) → AreAmong us k.0 → AreAmong us zs) → AreAmong xs (z ∷ zs)
      by_first (inl g) more = inl (g.0, g.1, more g.0 g.2)
      by_first (inr g) more = inr (more xs g)
  among_among xs ys (z ∷ zs) h (inr k) = inr (among_among xs ys zs h k)

  record Cut (d : X) (xs ys : List X) : Type 0 where
    pub front : List X
    pub back : List X
    pub whole : ys ≡ front ++ d ∷ back
    pub rest : AreAmong xs back

  -- where the first of them is
  cut : (d : X) (xs ys : List X) → AreAmong (d ∷ xs) ys → Cut d xs ys
  cut d xs [] h = absurd cc
  cut d xs (y ∷ ys) (inl h) =
      let e = h.1 in
      let same : y ≡ d = cc in
      let tail : h.0 ≡ xs = cc in
      record { front = []; back = ys; whole = ap (λ x. x ∷ ys) same; rest = subst (λ l. AreAmong l ys) tail h.2 }
  cut d xs (y ∷ ys) (inr h) =
      let c = cut d xs ys h in
      record { front = y ∷ c.front; back = c.back; whole = ap (λ l. y ∷ l) c.whole; rest = c.rest }

-- ---- the entries of an instance

module _ {M : Type 0} where
  abbrev mine : KeyHash → List (Entry M) → List (Entry M)
  mine k es = map unmarked (filter (is_of k) es)

  mine_left : (k : KeyHash) (p : Entry M → Bool) (m : ℕ) (es : List (Entry M)) → AreAmong (mine k (left_by p m es)) (mine k es)
  mine_left k p m [] = refl
  mine_left k p zero (e ∷ es) = all_among (mine k (e ∷ es))
  mine_left k p (suc m) (e ∷ es) = by_test (p e) (mine_left k p m es) (mine_left k p (suc m) es)
    where
      here : (b : Bool) → AreAmong (mine k (left_by p m es)) (mine k es) → AreAmong (mine k (left_by p m es)) (map unmarked (if b then e ∷ filter (is_of k) es else filter (is_of k) es))
      here true one = inr one
      here false one = one

      there : (b : Bool) → AreAmong (mine k (left_by p (suc m) es)) (mine k es)
          → AreAmong (map unmarked (if b then e ∷ filter (is_of k) (left_by p (suc m) es) else filter (is_of k) (left_by p (suc m) es))) (map unmarked (if b then e ∷ filter (is_of k) es else filter (is_of k) es))
      there true rest = inl (mine k (left_by p (suc m) es), refl, rest)
      there false rest = rest

      by_test : (a : Bool) → AreAmong (mine k (left_by p m es)) (mine k es) → AreAmong (mine k (left_by p (suc m) es)) (mine k es)
          → AreAmong (mine k (if a then left_by p m es else e ∷ left_by p (suc m) es)) (map unmarked (if is_of k e then e ∷ filter (is_of k) es else filter (is_of k) es))
      by_test true one rest = here (is_of k e) one
      by_test false one rest = there (is_of k e) rest

  mine_marked : (k : KeyHash) (p : Entry M → Bool) (m : ℕ) (es : List (Entry M)) → mine k (marked_by p m es) ≡ mine k es
  mine_marked k p m [] = refl
  mine_marked k p zero (e ∷ es) = refl
  mine_marked k p (suc m) (e ∷ es) = by_test (p e) (mine_marked k p m es) (mine_marked k p (suc m) es)
    where
      here : (b : Bool) → mine k (marked_by p m es) ≡ mine k es
          → map unmarked (if b then marked e ∷ filter (is_of k) (marked_by p m es) else filter (is_of k) (marked_by p m es)) ≡ map unmarked (if b then e ∷ filter (is_of k) es else filter (is_of k) es)
      here true one = ap (λ l. unmarked e ∷ l) one
      here false one = one

      there : (b : Bool) → mine k (marked_by p (suc m) es) ≡ mine k es
          → map unmarked (if b then e ∷ filter (is_of k) (marked_by p (suc m) es) else filter (is_of k) (marked_by p (suc m) es)) ≡ map unmarked (if b then e ∷ filter (is_of k) es else filter (is_of k) es)
      there true rest = ap (λ l. unmarked e ∷ l) rest
      there false rest = rest

      by_test : (a : Bool) → mine k (marked_by p m es) ≡ mine k es → mine k (marked_by p (suc m) es) ≡ mine k es
          → mine k (if a then marked e ∷ marked_by p m es else e ∷ marked_by p (suc m) es) ≡ map unmarked (if is_of k e then e ∷ filter (is_of k) es else filter (is_of k) es)
      by_test true one rest = here (is_of k e) one
      by_test false one rest = there (is_of k e) rest

  -- the oldest of an instance
  record Oldest (k : KeyHash) (es : List (Entry M)) (x : Entry M) (rest : List (Entry M)) : Type 0 where
    pub left : filter (is_of k) (without_oldest k es) ≡ rest
    pub first : first_by (is_of k) 1 es ≡ x ∷ []
    pub is : is_of k x ≡ true

  oldest : (k : KeyHash) (es : List (Entry M)) (x : Entry M) (rest : List (Entry M)) → filter (is_of k) es ≡ x ∷ rest → Oldest k es x rest
  oldest k [] x rest h = absurd cc
  oldest k (e ∷ es) x rest h = by_test (is_of k e) refl h (oldest k es x rest)
    where
      by_test : (b : Bool) → is_of k e ≡ b → (if b then e ∷ filter (is_of k) es else filter (is_of k) es) ≡ x ∷ rest → (filter (is_of k) es ≡ x ∷ rest → Oldest k es x rest) → Oldest k (e ∷ es) x rest
      by_test true is h more =
          let same : e ≡ x = cc in
          let tail : filter (is_of k) es ≡ rest = cc in
          record {
            left = ap (λ b. filter (is_of k) (if b then es else e ∷ without_oldest k es)) is ∙ tail;
            first = ap (λ b. if b then e ∷ first_by (is_of k) 0 es else first_by (is_of k) 1 es) is ∙ ap (λ l. e ∷ l) (first_zero (is_of k) es) ∙ ap (λ y. y ∷ []) same;
            is = ap (is_of k) (sym same) ∙ is;
          }
      by_test false is h more =
          let o = more h in
          record {
            left = ap (λ b. filter (is_of k) (if b then es else e ∷ without_oldest k es)) is ∙ ap (λ b. if b then e ∷ filter (is_of k) (without_oldest k es) else filter (is_of k) (without_oldest k es)) is ∙ o.left;
            first = ap (λ b. if b then e ∷ first_by (is_of k) 0 es else first_by (is_of k) 1 es) is ∙ o.first;
            is = o.is;
          }

  -- of another instance
  another : (q k : KeyHash) → same_key q k ≡ false → (e : Entry M) → is_of q e ≡ true → is_of k e ≡ false
  another q k apart e is = sym (ap (λ x. same_key x k) (sym (key_is e.key q (key_tie e.key q ∙ is)))) ∙ apart

  other_there : (q k : KeyHash) → same_key q k ≡ false → (es : List (Entry M)) → filter (is_of k) (without_oldest q es) ≡ filter (is_of k) es
  other_there q k apart [] = refl
  other_there q k apart (e ∷ es) = by_test (is_of q e) refl (other_there q k apart es)
    where
      by_test : (a : Bool) → is_of q e ≡ a → filter (is_of k) (without_oldest q es) ≡ filter (is_of k) es
          → filter (is_of k) (if a then es else e ∷ without_oldest q es) ≡ (if is_of k e then e ∷ filter (is_of k) es else filter (is_of k) es)
      by_test true is more = sym (ap (λ b. if b then e ∷ filter (is_of k) es else filter (is_of k) es) (another q k apart e is))
      by_test false is more = ap (λ l. if is_of k e then e ∷ l else l) more

  other_dropped : (q k : KeyHash) → same_key q k ≡ false → (m : ℕ) (es : List (Entry M)) → filter (is_of k) (first_by (is_of q) m es) ≡ []
  other_dropped q k apart m [] = refl
  other_dropped q k apart zero (e ∷ es) = refl
  other_dropped q k apart (suc m) (e ∷ es) = by_test (is_of q e) refl (other_dropped q k apart m es) (other_dropped q k apart (suc m) es)
    where
      by_test : (a : Bool) → is_of q e ≡ a → filter (is_of k) (first_by (is_of q) m es) ≡ [] → filter (is_of k) (first_by (is_of q) (suc m) es) ≡ []
          → filter (is_of k) (if a then e ∷ first_by (is_of q) m es else first_by (is_of q) (suc m) es) ≡ []
      by_test true is one rest = ap (λ b. if b then e ∷ filter (is_of k) (first_by (is_of q) m es) else filter (is_of k) (first_by (is_of q) m es)) (another q k apart e is) ∙ one
      by_test false is one rest = rest

  map_append : (xs ys : List (Entry M)) → map unmarked (xs ++ ys) ≡ map unmarked xs ++ map unmarked ys
  map_append [] ys = refl
  map_append (x ∷ xs) ys = ap (λ l. unmarked x ∷ l) (map_append xs ys)

  -- ---- an entry comes

  -- of an instance: what was accepted, what left, what is there
  record Ages (all gone there : List (Entry M)) : Type 0 where
    pub before : List (Entry M)
    pub after : List (Entry M)
    pub whole : all ≡ before ++ after
    pub dropped : AreAmong gone before
    pub stands : AreAmong there after

  same_ages : (all gone there all' gone' there' : List (Entry M)) → Ages all gone there → all' ≡ all → gone' ≡ gone → there' ≡ there → Ages all' gone' there'
  same_ages all gone there all' gone' there' a w g t = record {
    before = a.before;
    after = a.after;
    whole = w ∙ a.whole;
    dropped = subst (λ l. AreAmong l a.before) (sym g) a.dropped;
    stands = subst (λ l. AreAmong l a.after) (sym t) a.stands;
  }

  -- one more comes
  comes : (all gone there : List (Entry M)) (e : Entry M) → Ages all gone there → Ages (all ++ e ∷ []) gone (there ++ e ∷ [])
  comes all gone there e a = record {
    before = a.before;
    after = a.after ++ e ∷ [];
    whole = ap (λ l. l ++ e ∷ []) a.whole ∙ append_assoc a.before a.after (e ∷ []);
    dropped = a.dropped;
    stands = both_among there a.after (e ∷ []) (e ∷ []) a.stands (all_among (e ∷ []));
  }

  -- the first that is there leaves
  leaves : (all gone : List (Entry M)) (d : Entry M) (rest : List (Entry M)) → Ages all gone (d ∷ rest) → Ages all (gone ++ d ∷ []) rest
  leaves all gone d rest a =
      let c = cut d rest a.after a.stands in
      record {
        before = a.before ++ (c.front ++ d ∷ []);
        after = c.back;
        whole = a.whole ∙ ap (λ l. a.before ++ l) (c.whole ∙ sym (append_assoc c.front (d ∷ []) c.back)) ∙ sym (append_assoc a.before (c.front ++ d ∷ []) c.back);
        dropped = both_among gone a.before (d ∷ []) (c.front ++ d ∷ []) a.dropped (both_among [] c.front (d ∷ []) (d ∷ []) (none_among c.front) (all_among (d ∷ [])));
        stands = c.rest;
      }

  -- an entry comes after others; the oldest of its instance leaves where there is one more than is kept
  module _ (n : ℕ) (e : Entry M) (es all gone : List (Entry M)) where
    abbrev both : List (Entry M)
    both = es ++ e ∷ []

    abbrev Then : KeyHash → Type 0
    Then k = Ages (all ++ filter (is_of k) (e ∷ [])) (gone ++ mine k (dropped_of n es (e ∷ []))) (mine k (kept_by (KeepLast n) e.key both))

    other : (k : KeyHash) → same_key e.key k ≡ false → Ages all gone (mine k es) → Then k
    other k apart a =
        same_ages all gone (mine k es) (all ++ filter (is_of k) (e ∷ [])) (gone ++ mine k (dropped_of n es (e ∷ []))) (mine k (kept_by (KeepLast n) e.key both)) a
        (ap (λ b. all ++ (if b then e ∷ [] else [])) apart ∙ append-nil all) (by_drop (nat_lt n (length (filter (is_of e.key) both))) ∙ append-nil gone) (by_kept (nat_lt n (length (filter (is_of e.key) both))))
      where
        none_last : filter (is_of k) both ≡ filter (is_of k) es
        none_last = filter-append (is_of k) es (e ∷ []) ∙ ap (λ b. filter (is_of k) es ++ (if b then e ∷ [] else [])) apart ∙ append-nil (filter (is_of k) es)

        by_drop : (b : Bool) → gone ++ mine k (if b then first_by (is_of e.key) 1 both else []) ≡ gone ++ []
        by_drop true = ap (λ l. gone ++ map unmarked l) (other_dropped e.key k apart 1 both)
        by_drop false = refl

        by_kept : (b : Bool) → mine k (if b then without_oldest e.key both else both) ≡ mine k es
        by_kept true = ap (map unmarked) (other_there e.key k apart both ∙ none_last)
        by_kept false = ap (map unmarked) none_last

    itself : is_of e.key e ≡ true
    itself = sym (key_tie e.key e.key) ∙ key_itself e.key

    some_last : (l : List (Entry M)) → l ++ e ∷ [] ≡ [] → ⊥
    some_last [] h = cc
    some_last (x ∷ l) h = cc

    mine_both : filter (is_of e.key) both ≡ filter (is_of e.key) es ++ e ∷ []
    mine_both = filter-append (is_of e.key) es (e ∷ []) ∙ ap (λ b. filter (is_of e.key) es ++ (if b then e ∷ [] else [])) itself

    own : e.is_read ≡ false → Ages all gone (mine e.key es) → Then e.key
    own unread a = by_test (nat_lt n (length (filter (is_of e.key) both)))
      where
        same_entry : unmarked e ≡ e
        same_entry = ap (λ b. let x : Entry M = record e { is_read = b } in x) (sym unread)

        there : mine e.key both ≡ mine e.key es ++ e ∷ []
        there = ap (map unmarked) mine_both ∙ map_append (filter (is_of e.key) es) (e ∷ []) ∙ ap (λ x. mine e.key es ++ x ∷ []) same_entry

        all_then : all ++ filter (is_of e.key) (e ∷ []) ≡ all ++ e ∷ []
        all_then = ap (λ b. all ++ (if b then e ∷ [] else [])) itself

        w : Ages (all ++ e ∷ []) gone (mine e.key es ++ e ∷ [])
        w = comes all gone (mine e.key es) e a

        by_list : (l : List (Entry M)) → filter (is_of e.key) both ≡ l → Ages (all ++ filter (is_of e.key) (e ∷ [])) (gone ++ mine e.key (first_by (is_of e.key) 1 both)) (mine e.key (without_oldest e.key both))
        by_list [] h = absurd (some_last (filter (is_of e.key) es) (sym mine_both ∙ h))
        by_list (x ∷ rest) h =
            let o = oldest e.key both x rest h in
            let first : Ages (all ++ e ∷ []) gone (unmarked x ∷ map unmarked rest) =
            same_ages (all ++ e ∷ []) gone (mine e.key es ++ e ∷ []) (all ++ e ∷ []) gone (unmarked x ∷ map unmarked rest) w refl refl (sym (ap (map unmarked) h) ∙ there) in
            same_ages (all ++ e ∷ []) (gone ++ unmarked x ∷ []) (map unmarked rest) (all ++ filter (is_of e.key) (e ∷ [])) (gone ++ mine e.key (first_by (is_of e.key) 1 both)) (mine e.key (without_oldest e.key both))
            (leaves (all ++ e ∷ []) gone (unmarked x) (map unmarked rest) first) all_then
            (ap (λ l. gone ++ map unmarked l) (ap (filter (is_of e.key)) o.first ∙ ap (λ b. if b then x ∷ [] else []) o.is)) (ap (map unmarked) o.left)

        by_test : (t : Bool) → Ages (all ++ filter (is_of e.key) (e ∷ [])) (gone ++ mine e.key (if t then first_by (is_of e.key) 1 both else [])) (mine e.key (if t then without_oldest e.key both else both))
        by_test true = by_list (filter (is_of e.key) both) refl
        by_test false =
            same_ages (all ++ e ∷ []) gone (mine e.key es ++ e ∷ []) (all ++ filter (is_of e.key) (e ∷ [])) (gone ++ []) (mine e.key both) w all_then (append-nil gone) there

    entered : (k : KeyHash) → e.is_read ≡ false → Ages all gone (mine k es) → Then k
    entered k unread a = by_key (same_key e.key k) refl
      where
        by_key : (b : Bool) → same_key e.key k ≡ b → Then k
        by_key true is = subst (λ q. Ages all gone (mine q es) → Then q) (key_is e.key k (key_tie e.key k ∙ is)) (own unread) a
        by_key false is = other k is a

  told : (n : ℕ) (k : KeyHash) (place : Place) (w : Guid) (t : NoticeKind M) (es all gone : List (Entry M)) → Ages all gone (mine k es)
      → Ages (all ++ filter (is_of k) (entry_by place w t)) (gone ++ mine k (dropped_of n es (entry_by place w t))) (mine k (with_entry (KeepLast n) es (entry_by place w t)))
  told n k place w t es all gone a = by_what t
    where
      same : Ages (all ++ []) (gone ++ []) (mine k es)
      same = same_ages all gone (mine k es) (all ++ []) (gone ++ []) (mine k es) a (append-nil all) (append-nil gone) refl

      by_what : (t : NoticeKind M) → Ages (all ++ filter (is_of k) (entry_by place w t)) (gone ++ mine k (dropped_of n es (entry_by place w t))) (mine k (with_entry (KeepLast n) es (entry_by place w t)))
      by_what (kind.Sample number time (body.Value h v)) = entered n _ es all gone k refl a
      by_what (kind.Sample number time (body.Disposed h)) = entered n _ es all gone k refl a
      by_what (kind.Sample number time (body.Unregistered h)) = same
      by_what (kind.Sample number time (body.Unread u)) = same
      by_what kind.Matched = same
      by_what kind.Unmatched = same
      by_what (kind.Incompatible policy) = same
      by_what (kind.Lost lost) = same

  ages : (n : ℕ) (k : KeyHash) (past : List (Done M)) → Ages (accepted_in k past) (dropped_in n k past) (there_in n k past)
  ages n k [] = record { before = []; after = []; whole = refl; dropped = refl; stands = refl }
  ages n k (Accepted a ∷ past) = told n k a.place a.writer a.what (cached (KeepLast n) past).entries (accepted_in k past) (dropped_in n k past) (ages n k past)
  ages n k (WasRead max flags ∷ past) =
      let c = cached (KeepLast n) past in
      same_ages (accepted_in k past) (dropped_in n k past) (there_in n k past) (accepted_in k past) (dropped_in n k past) (mine k (marked_by (meets past c flags) max c.entries)) (ages n k past) refl refl (mine_marked k (meets past c flags) max c.entries)
  ages n k (WasTaken max flags ∷ past) =
      let c = cached (KeepLast n) past in
      let a = ages n k past in
      let left = mine k (left_by (meets past c flags) max c.entries) in
      record {
        before = a.before;
        after = a.after;
        whole = a.whole;
        dropped = a.dropped;
        stands = among_among left (there_in n k past) a.after (mine_left k (meets past c flags) max c.entries) a.stands;
      }

  pub older : (n : ℕ) (past : List (Done M)) (k : KeyHash) → AreOlder n past k
  older n past k =
      let a = ages n k past in
      record { before = a.before; after = a.after; whole = a.whole; dropped = a.dropped; there = a.stands }

  -- what leaves, and what is kept, are what was there and came
  pub dropped_parts : (n : ℕ) (place : Place) (w : Guid) (t : NoticeKind M) (es : List (Entry M)) → AreParts (es ++ entry_by place w t) (with_entry (KeepLast n) es (entry_by place w t)) (dropped_of n es (entry_by place w t))
  dropped_parts n place w t es = by_what t
    where
      put : (e : Entry M) → AreParts (es ++ e ∷ []) (kept_by (KeepLast n) e.key (es ++ e ∷ [])) (dropped_of n es (e ∷ []))
      put e = by_test (nat_lt n (length (filter (is_of e.key) (es ++ e ∷ []))))
        where
          by_test : (b : Bool) → AreParts (es ++ e ∷ []) (if b then without_oldest e.key (es ++ e ∷ []) else es ++ e ∷ []) (if b then first_by (is_of e.key) 1 (es ++ e ∷ []) else [])
          by_test true = subst (λ l. AreParts (es ++ e ∷ []) l (first_by (is_of e.key) 1 (es ++ e ∷ []))) (sym (oldest_is e.key (es ++ e ∷ []))) (firsts_apart (is_of e.key) 1 (es ++ e ∷ []))
          by_test false = all_left (es ++ e ∷ [])

      same : AreParts (es ++ []) es []
      same = subst (λ l. AreParts l es []) (sym (append-nil es)) (all_left es)

      by_what : (t : NoticeKind M) → AreParts (es ++ entry_by place w t) (with_entry (KeepLast n) es (entry_by place w t)) (dropped_of n es (entry_by place w t))
      by_what (kind.Sample number time (body.Value k v)) = put _
      by_what (kind.Sample number time (body.Disposed k)) = put _
      by_what (kind.Sample number time (body.Unregistered k)) = same
      by_what (kind.Sample number time (body.Unread u)) = same
      by_what kind.Matched = same
      by_what kind.Unmatched = same
      by_what (kind.Incompatible policy) = same
      by_what (kind.Lost lost) = same
