-- No instance has more entries than are kept.
use Rattle.std.proofs.Common.{◌≡◌, ℕ, zero, suc, ◌+◌, ◌<◌, ◌≤◌, Bool, true, false, List, [], ◌∷◌, ◌++◌, length, refl, sym, ap, ◌∙◌, subst, arith}
use Rattle.std.specs.Prelude.{filter, if◌then◌else◌, nat_lt}
use Rattle.std.proofs.lemmas.Bool.Decides.{nat_tests}
use Rattle.rtps_types.specs.declared.identity.Guid.{Guid}
use Rattle.rtps_types.specs.declared.identity.KeyHash.{KeyHash}
use Rattle.rtps_types.specs.declared.place.Place.{Place}
use Rattle.rtps_reader.specs.declared.body.Body.TheVariants as body
use Rattle.rtps_reader.specs.declared.notice.NoticeKind.{NoticeKind}
use Rattle.rtps_reader.specs.declared.notice.NoticeKind.TheVariants as kind
use Rattle.dds_cache.specs.declared.entry.Entry.{Entry}
use Rattle.dds_cache.specs.declared.history.History.TheVariants.{KeepLast}
use Rattle.dds_cache.specs.Cache.{cached, entry_by, is_of, kept_by, left_by, marked, marked_by, meets, with_entry, without_oldest}
use Rattle.dds_cache.specs.Calls.{Done, Accepted, WasRead, WasTaken, same_key}
use Rattle.dds_cache.proofs.Keys.{key_is, key_itself, key_tie}

module _ {M : Type 0} where
  -- how many entries an instance has
  abbrev count : KeyHash → List (Entry M) → ℕ
  count k es = length (filter (is_of k) es)

  count_last : (k : KeyHash) (e : Entry M) (es : List (Entry M)) → count k (es ++ e ∷ []) ≡ count k es + (if is_of k e then 1 else 0)
  count_last k e [] = by_test (is_of k e)
    where
      by_test : (b : Bool) → length (if b then e ∷ [] else []) ≡ 0 + (if b then 1 else 0)
      by_test true = omega arith
      by_test false = omega arith
  count_last k e (x ∷ es) = by_test (is_of k x) (count_last k e es)
    where
      by_test : (b : Bool) → count k (es ++ e ∷ []) ≡ count k es + (if is_of k e then 1 else 0)
          → length (if b then x ∷ filter (is_of k) (es ++ e ∷ []) else filter (is_of k) (es ++ e ∷ [])) ≡ length (if b then x ∷ filter (is_of k) es else filter (is_of k) es) + (if is_of k e then 1 else 0)
      by_test true more = omega (arith, more)
      by_test false more = more

  no_more : (k key : KeyHash) (es : List (Entry M)) → count k (without_oldest key es) ≤ count k es
  no_more k key [] = omega arith
  no_more k key (e ∷ es) = by_key (is_of key e) (no_more k key es)
    where
      here : (b : Bool) → count k es ≤ length (if b then e ∷ filter (is_of k) es else filter (is_of k) es)
      here true = omega arith
      here false = omega arith

      there : (b : Bool) → count k (without_oldest key es) ≤ count k es → length (if b then e ∷ filter (is_of k) (without_oldest key es) else filter (is_of k) (without_oldest key es)) ≤ length (if b then e ∷ filter (is_of k) es else filter (is_of k) es)
      there true more = omega (arith, more)
      there false more = more

      by_key : (a : Bool) → count k (without_oldest key es) ≤ count k es → count k (if a then es else e ∷ without_oldest key es) ≤ length (if is_of k e then e ∷ filter (is_of k) es else filter (is_of k) es)
      by_key true more = here (is_of k e)
      by_key false more = there (is_of k e) more

  one_less : (key : KeyHash) (es : List (Entry M)) → 0 < count key es → count key (without_oldest key es) + 1 ≡ count key es
  one_less key [] some = omega (arith, some)
  one_less key (e ∷ es) some = by_key (is_of key e) refl some (one_less key es)
    where
      by_key : (a : Bool) → is_of key e ≡ a → 0 < length (if a then e ∷ filter (is_of key) es else filter (is_of key) es) → (0 < count key es → count key (without_oldest key es) + 1 ≡ count key es)
          → count key (if a then es else e ∷ without_oldest key es) + 1 ≡ length (if a then e ∷ filter (is_of key) es else filter (is_of key) es)
      by_key true is some more = omega arith
      by_key false is some more = ap (λ b. length (if b then e ∷ filter (is_of key) (without_oldest key es) else filter (is_of key) (without_oldest key es)) + 1) is ∙ more some

  kept : (n : ℕ) (e : Entry M) (es : List (Entry M)) (k : KeyHash) → ((q : KeyHash) → count q es ≤ n) → count k (kept_by (KeepLast n) e.key (es ++ e ∷ [])) ≤ n
  kept n e es k few = by_test (nat_lt n (count e.key (es ++ e ∷ []))) refl (same_key e.key k) refl
    where
      itself : is_of e.key e ≡ true
      itself = sym (key_tie e.key e.key) ∙ key_itself e.key

      own : count e.key (es ++ e ∷ []) ≡ count e.key es + 1
      own = count_last e.key e es ∙ ap (λ b. count e.key es + (if b then 1 else 0)) itself

      other : same_key e.key k ≡ false → count k (es ++ e ∷ []) ≤ n
      other h = let same : count k (es ++ e ∷ []) ≡ count k es + 0 = count_last k e es ∙ ap (λ b. count k es + (if b then 1 else 0)) h in omega (arith, same, few k)

      by_test : (t : Bool) → nat_lt n (count e.key (es ++ e ∷ [])) ≡ t → (b : Bool) → same_key e.key k ≡ b → count k (if t then without_oldest e.key (es ++ e ∷ []) else es ++ e ∷ []) ≤ n
      by_test true h true is =
          let less : count e.key (without_oldest e.key (es ++ e ∷ [])) + 1 ≡ count e.key (es ++ e ∷ []) = one_less e.key (es ++ e ∷ []) (omega (arith, own)) in
          let so : count e.key (without_oldest e.key (es ++ e ∷ [])) ≤ n = omega (arith, less, own, few e.key) in
          subst (λ q. count q (without_oldest e.key (es ++ e ∷ [])) ≤ n) (key_is e.key k (key_tie e.key k ∙ is)) so
      by_test true h false is = omega (arith, no_more k e.key (es ++ e ∷ []), other is)
      by_test false h true is =
          let so : count e.key (es ++ e ∷ []) ≤ n = grind (arith, nat_tests) in
          subst (λ q. count q (es ++ e ∷ []) ≤ n) (key_is e.key k (key_tie e.key k ∙ is)) so
      by_test false h false is = other is

  entered_few : (n : ℕ) (place : Place) (w : Guid) (t : NoticeKind M) (es : List (Entry M)) (k : KeyHash) → ((q : KeyHash) → count q es ≤ n) → count k (with_entry (KeepLast n) es (entry_by place w t)) ≤ n
  entered_few n place w (kind.Sample number time (body.Value h v)) es k few = kept n _ es k few
  entered_few n place w (kind.Sample number time (body.Disposed h)) es k few = kept n _ es k few
  entered_few n place w (kind.Sample number time (body.Unregistered h)) es k few = few k
  entered_few n place w (kind.Sample number time (body.Unread u)) es k few = few k
  entered_few n place w kind.Matched es k few = few k
  entered_few n place w kind.Unmatched es k few = few k
  entered_few n place w (kind.Incompatible policy) es k few = few k
  entered_few n place w (kind.Lost lost) es k few = few k

  marked_count : (k : KeyHash) (p : Entry M → Bool) (m : ℕ) (es : List (Entry M)) → count k (marked_by p m es) ≡ count k es
  marked_count k p m [] = refl
  marked_count k p zero (e ∷ es) = refl
  marked_count k p (suc m) (e ∷ es) = by_tests (p e) (is_of k e) refl (marked_count k p m es) (marked_count k p (suc m) es)
    where
      by_tests : (a b : Bool) → is_of k e ≡ b → count k (marked_by p m es) ≡ count k es → count k (marked_by p (suc m) es) ≡ count k es
          → count k (if a then marked e ∷ marked_by p m es else e ∷ marked_by p (suc m) es) ≡ length (if b then e ∷ filter (is_of k) es else filter (is_of k) es)
      by_tests true true is one rest = ap (λ b. length (if b then marked e ∷ filter (is_of k) (marked_by p m es) else filter (is_of k) (marked_by p m es))) is ∙ ap suc one
      by_tests true false is one rest = ap (λ b. length (if b then marked e ∷ filter (is_of k) (marked_by p m es) else filter (is_of k) (marked_by p m es))) is ∙ one
      by_tests false true is one rest = ap (λ b. length (if b then e ∷ filter (is_of k) (marked_by p (suc m) es) else filter (is_of k) (marked_by p (suc m) es))) is ∙ ap suc rest
      by_tests false false is one rest = ap (λ b. length (if b then e ∷ filter (is_of k) (marked_by p (suc m) es) else filter (is_of k) (marked_by p (suc m) es))) is ∙ rest

  left_count : (k : KeyHash) (p : Entry M → Bool) (m : ℕ) (es : List (Entry M)) → count k (left_by p m es) ≤ count k es
  left_count k p m [] = omega arith
  left_count k p zero (e ∷ es) = omega arith
  left_count k p (suc m) (e ∷ es) = by_test (p e) (left_count k p m es) (left_count k p (suc m) es)
    where
      here : (b : Bool) → count k (left_by p m es) ≤ count k es → count k (left_by p m es) ≤ length (if b then e ∷ filter (is_of k) es else filter (is_of k) es)
      here true one = omega (arith, one)
      here false one = one

      there : (b : Bool) → count k (left_by p (suc m) es) ≤ count k es → length (if b then e ∷ filter (is_of k) (left_by p (suc m) es) else filter (is_of k) (left_by p (suc m) es)) ≤ length (if b then e ∷ filter (is_of k) es else filter (is_of k) es)
      there true rest = omega (arith, rest)
      there false rest = rest

      by_test : (a : Bool) → count k (left_by p m es) ≤ count k es → count k (left_by p (suc m) es) ≤ count k es
          → count k (if a then left_by p m es else e ∷ left_by p (suc m) es) ≤ length (if is_of k e then e ∷ filter (is_of k) es else filter (is_of k) es)
      by_test true one rest = here (is_of k e) one
      by_test false one rest = there (is_of k e) rest

  pub at_most : (n : ℕ) (past : List (Done M)) (k : KeyHash) → length (filter (is_of k) (cached (KeepLast n) past).entries) ≤ n
  at_most n [] k = omega arith
  at_most n (Accepted a ∷ past) k = entered_few n a.place a.writer a.what (cached (KeepLast n) past).entries k (λ q. at_most n past q)
  at_most n (WasRead max flags ∷ past) k =
      let c = cached (KeepLast n) past in
      omega (arith, marked_count k (meets past c flags) max c.entries, at_most n past k)
  at_most n (WasTaken max flags ∷ past) k =
      let c = cached (KeepLast n) past in
      omega (arith, left_count k (meets past c flags) max c.entries, at_most n past k)
