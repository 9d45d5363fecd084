-- What was accepted is left or was taken, where all is kept.
use Rattle.std.proofs.Common.{◌≡◌, ℕ, zero, suc, Bool, true, false, List, [], ◌∷◌, ◌++◌, map, inl, inr, refl, sym, ap, subst, append_assoc}
use Rattle.std.specs.Prelude.{if◌then◌else◌}
use Rattle.std.specs.List.Sorted.{IsPermutation}
use Rattle.std.proofs.lemmas.List.{append-nil}
use Rattle.std.proofs.lemmas.List.Sorted.{IsPermutation-append_comm, IsPermutation-append_left, IsPermutation-append_right, IsPermutation-refl, IsPermutation-trans}
use Rattle.rtps_types.specs.declared.identity.Guid.{Guid}
use Rattle.rtps_types.specs.declared.place.Place.{Place}
use Rattle.rtps_reader.specs.declared.body.Body.TheVariants as body
use Rattle.rtps_reader.specs.declared.notice.NoticeKind.{NoticeKind}
use Rattle.rtps_reader.specs.declared.notice.NoticeKind.TheVariants as kind
use Rattle.dds_cache.specs.declared.entry.Entry.{Entry}
use Rattle.dds_cache.specs.declared.history.History.TheVariants.{KeepAll}
use Rattle.dds_cache.specs.Answered.{answered, shown_by}
use Rattle.dds_cache.specs.Cache.{cached, entry_by, first_by, left_by, marked_by, meets, with_entry}
use Rattle.dds_cache.specs.Calls.{Done, Accepted, WasRead, WasTaken}
use Rattle.dds_cache.specs.Parted.{AreParts, IsLeftOrTaken, Told, all_accepted, all_taken, told, told_by}

module _ {X : Type 0} where
  -- one more is left
  one_more : (zs xs ys : List X) (x : X) → AreParts zs xs ys → AreParts (zs ++ x ∷ []) (xs ++ x ∷ []) ys
  one_more [] xs ys x h = inl ([], ap (λ l. l ++ x ∷ []) h.0, (refl, h.1))
  one_more (z ∷ zs) xs ys x (inl h) = inl (h.0 ++ x ∷ [], ap (λ l. l ++ x ∷ []) h.1, one_more zs h.0 ys x h.2)
  one_more (z ∷ zs) xs ys x (inr h) = inr (h.0, h.1, one_more zs xs h.0 x h.2)

  pub all_left : (zs : List X) → AreParts zs zs []
  all_left [] = (refl, refl)
  all_left (z ∷ zs) = inl (zs, refl, all_left zs)

  -- the first that pass a test, and the others
  pub firsts_apart : (p : X → Bool) (m : ℕ) (zs : List X) → AreParts zs (left_by p m zs) (first_by p m zs)
  firsts_apart p m [] = (refl, refl)
  firsts_apart p zero (z ∷ zs) = all_left (z ∷ zs)
  firsts_apart p (suc m) (z ∷ zs) = by_test (p z) (firsts_apart p m zs) (firsts_apart p (suc m) zs)
    where
      by_test : (b : Bool) → AreParts zs (left_by p m zs) (first_by p m zs) → AreParts zs (left_by p (suc m) zs) (first_by p (suc m) zs)
          → AreParts (z ∷ zs) (if b then left_by p m zs else z ∷ left_by p (suc m) zs) (if b then z ∷ first_by p m zs else first_by p (suc m) zs)
      by_test true one rest = inr (first_by p m zs, refl, one)
      by_test false one rest = inl (left_by p (suc m) zs, refl, rest)

  moved : (x : X) (ys fs : List X) → IsPermutation (x ∷ ys ++ fs) (ys ++ x ∷ fs)
  moved x ys fs = subst (IsPermutation (x ∷ ys ++ fs)) (append_assoc ys (x ∷ []) fs) (IsPermutation-append_left fs (x ∷ ys) (ys ++ x ∷ []) (IsPermutation-append_comm (x ∷ []) ys))

  record Again (zs ls ys fs : List X) : Type 0 where
    pub gone : List X
    pub parts : AreParts zs ls gone
    pub all : IsPermutation gone (ys ++ fs)

  -- what is left is parted again
  again : (zs xs ys ls fs : List X) → AreParts zs xs ys → AreParts xs ls fs → Again zs ls ys fs
  again [] xs ys ls fs h k =
      let none : (ls ≡ []) × (fs ≡ []) = subst (λ l. AreParts l ls fs) h.0 k in
      record { gone = []; parts = (none.0, refl); all = subst (λ l. IsPermutation [] (l ++ fs)) (sym h.1) (subst (IsPermutation []) (sym none.1) (IsPermutation-refl [])) }
  again (z ∷ zs) xs ys ls fs (inl h) k = by_parts (subst (λ l. AreParts l ls fs) h.1 k) (λ ls fs k. again zs h.0 ys ls fs h.2 k)
    where
      by_parts : AreParts (z ∷ h.0) ls fs → ((ls fs : List X) → AreParts h.0 ls fs → Again zs ls ys fs) → Again (z ∷ zs) ls ys fs
      by_parts (inl k) more = let a = more k.0 fs k.2 in record { gone = a.gone; parts = inl (k.0, k.1, a.parts); all = a.all }
      by_parts (inr k) more =
          let a = more ls k.0 k.2 in
          let there : IsPermutation (z ∷ a.gone) (z ∷ ys ++ k.0) = IsPermutation-append_right (z ∷ []) a.gone (ys ++ k.0) a.all in
          record { gone = z ∷ a.gone; parts = inr (a.gone, refl, a.parts); all = subst (λ l. IsPermutation (z ∷ a.gone) (ys ++ l)) (sym k.1) (IsPermutation-trans (z ∷ a.gone) (z ∷ ys ++ k.0) (ys ++ z ∷ k.0) there (moved z ys k.0)) }
  again (z ∷ zs) xs ys ls fs (inr h) k =
      let a = again zs xs h.0 ls fs h.2 k in
      record { gone = z ∷ a.gone; parts = inr (a.gone, refl, a.parts); all = subst (λ l. IsPermutation (z ∷ a.gone) (l ++ fs)) (sym h.1) (IsPermutation-append_right (z ∷ []) a.gone (h.0 ++ fs) a.all) }

parts_map : {X Y : Type 0} (f : X → Y) (zs xs ys : List X) → AreParts zs xs ys → AreParts (map f zs) (map f xs) (map f ys)
parts_map f [] xs ys h = (ap (map f) h.0, ap (map f) h.1)
parts_map f (z ∷ zs) xs ys (inl h) = inl (map f h.0, ap (map f) h.1, parts_map f zs h.0 ys h.2)
parts_map f (z ∷ zs) xs ys (inr h) = inr (map f h.0, ap (map f) h.1, parts_map f zs xs h.0 h.2)

module _ {M : Type 0} where
  -- a notice that makes an entry, and one that makes none
  entered : (place : Place) (w : Guid) (t : NoticeKind M) (all : List (Told M)) (es : List (Entry M)) (gone : List (Told M)) → AreParts all (map told es) gone
      → AreParts (all ++ map told (entry_by place w t)) (map told (with_entry KeepAll es (entry_by place w t))) gone
  entered place w t all es gone h = by_what t
    where
      put : (e : Entry M) → AreParts (all ++ told e ∷ []) (map told (es ++ e ∷ [])) gone
      put e = subst (λ l. AreParts (all ++ told e ∷ []) l gone) (sym (map_last e es)) (one_more all (map told es) gone (told e) h)
        where
          map_last : (e : Entry M) (es : List (Entry M)) → map told (es ++ e ∷ []) ≡ map told es ++ told e ∷ []
          map_last e [] = refl
          map_last e (x ∷ es) = ap (λ l. told x ∷ l) (map_last e es)

      same : AreParts (all ++ []) (map told es) gone
      same = subst (λ l. AreParts l (map told es) gone) (sym (append-nil all)) h

      by_what : (t : NoticeKind M) → AreParts (all ++ map told (entry_by place w t)) (map told (with_entry KeepAll es (entry_by place w t))) gone
      by_what (kind.Sample number time (body.Value k v)) = put _
      by_what (kind.Sample number time (body.Disposed k)) = put _
      by_what (kind.Sample number time (body.Unregistered k)) = same
      by_what (kind.Sample number time (body.Unread u)) = same
      by_what kind.Matched = same
      by_what kind.Unmatched = same
      by_what (kind.Incompatible policy) = same
      by_what (kind.Lost count) = same

  -- a mark changes nothing of what was accepted
  marks_same : (p : Entry M → Bool) (m : ℕ) (es : List (Entry M)) → map told (marked_by p m es) ≡ map told es
  marks_same p m [] = refl
  marks_same p zero (e ∷ es) = refl
  marks_same p (suc m) (e ∷ es) = by_test (p e) (marks_same p m es) (marks_same p (suc m) es)
    where
      by_test : (b : Bool) → map told (marked_by p m es) ≡ map told es → map told (marked_by p (suc m) es) ≡ map told es
          → map told (if b then (record e { is_read = true }) ∷ marked_by p m es else e ∷ marked_by p (suc m) es) ≡ told e ∷ map told es
      by_test true one rest = ap (λ l. told e ∷ l) one
      by_test false one rest = ap (λ l. told e ∷ l) rest

  told_shown : (past : List (Done M)) (es : List (Entry M)) → map told_by (map (shown_by past (cached KeepAll past)) es) ≡ map told es
  told_shown past [] = refl
  told_shown past (e ∷ es) = ap (λ l. told e ∷ l) (told_shown past es)

  pub left_or_taken : (past : List (Done M)) → IsLeftOrTaken past
  left_or_taken [] = record { gone = []; parts = (refl, refl); taken = IsPermutation-refl [] }
  left_or_taken (Accepted n ∷ past) =
      let h = left_or_taken past in
      record { gone = h.gone; parts = entered n.place n.writer n.what (all_accepted past) (cached KeepAll past).entries h.gone h.parts; taken = h.taken }
  left_or_taken (WasRead max flags ∷ past) =
      let h = left_or_taken past in
      let c = cached KeepAll past in
      record { gone = h.gone; parts = subst (λ l. AreParts (all_accepted past) l h.gone) (sym (marks_same (meets past c flags) max c.entries)) h.parts; taken = h.taken }
  left_or_taken (WasTaken max flags ∷ past) =
      let h = left_or_taken past in
      let c = cached KeepAll past in
      let p = meets past c flags in
      let firsts : List (Told M) = map told (first_by p max c.entries) in
      let a = again (all_accepted past) (map told c.entries) h.gone (map told (left_by p max c.entries)) firsts h.parts (parts_map told c.entries (left_by p max c.entries) (first_by p max c.entries) (firsts_apart p max c.entries)) in
      let answers : map told_by (answered KeepAll past max flags) ≡ firsts = told_shown past (first_by p max c.entries) in
      record {
        gone = a.gone;
        parts = a.parts;
        taken = subst (λ l. IsPermutation a.gone (all_taken past ++ l)) (sym answers) (IsPermutation-trans a.gone (h.gone ++ firsts) (all_taken past ++ firsts) a.all (IsPermutation-append_left firsts h.gone (all_taken past) h.taken));
      }
