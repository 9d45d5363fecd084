-- What is left to read before and after a step of the walk.
use Rattle.std.proofs.Common.{◌≡◌, ℕ, suc, ◌+◌, ◌<◌, ◌≤◌, List, [], ◌∷◌, ◌++◌, Bool, true, false, arith, refl, sym, ap, ◌∙◌, map, length, drop, take, get_or, set, append_assoc, append-nil, if◌then◌else◌, None, Some}
use Rattle.std.specs.List.{flat_map, remove}
use Rattle.std.proofs.Math.Seq.{drop-append_seam, take-append_seam}
use Rattle.std.proofs.lemmas.Grind.{flat_map-append}
use Rattle.std.proofs.lemmas.List.{drop_all, drop_more, drop-set, length-take-le, map-append, take_all, take_more, take-set}
use Rattle.rtps_types.specs.declared.place.Place.{Place}
use Rattle.rtps_proxy.specs.Replies.{ReplyView}
use Rattle.rtps_reader.specs.declared.notice.Notice.{Notice}
use Rattle.rtps_run.specs.World.{ReportView, NoticeOf, sent_by}
use Rattle.rtps_run.specs.Merged.{same_place}
use Rattle.rtps_run.specs.Order.{RowView, answer_place, beyond, front, left, notice_place, row_after, row_at}

-- ---- one list

module _ {X : Type 0} (at : X → Place) (p : Place) where
  pub front_more : (x : X) (xs : List X) → same_place (at x) p ≡ true → front at p (x ∷ xs) ≡ x
      ∷ front at p xs
  front_more x xs same = ap (λ b. if b then x ∷ front at p xs else []) same

  pub beyond_more : (x : X) (xs : List X) → same_place (at x) p ≡ true → beyond at p (x ∷ xs)
      ≡ beyond at p xs
  beyond_more x xs same = ap (λ b. if b then beyond at p xs else x ∷ xs) same

  pub front_other : (x : X) (xs : List X) → same_place (at x) p ≡ false → front at p (x ∷ xs) ≡ []
  front_other x xs other = ap (λ b. if b then x ∷ front at p xs else []) other

  -- where none is at the place, all are left
  pub none_beyond : (xs : List X) → front at p xs ≡ [] → beyond at p xs ≡ xs
  none_beyond [] none = refl
  none_beyond (x ∷ xs) none = by_test (same_place (at x) p) none
    where
      by_test : (b : Bool) → (if b then x ∷ front at p xs else []) ≡ []
          → (if b then beyond at p xs else x ∷ xs) ≡ x ∷ xs
      by_test true e = absurd (cc)
      by_test false e = refl

-- ---- a reader's lists

module _ {M : Type 0} (p : Place) where
  pub takes_notice : (rank : ℕ) (n : Notice M) (ns : List (Notice M))
      (ss : List (Place × ReplyView)) → same_place n.place p ≡ true
      → (row_at p (record { rank = rank; told = n ∷ ns; sent = ss }) ≡ NoticeOf rank n
      ∷ row_at p (record { rank = rank; told = ns; sent = ss }))
      × (row_after p (record { rank = rank; told = ns; sent = ss })
      ≡ row_after p (record { rank = rank; told = n ∷ ns; sent = ss }))
  takes_notice rank n ns ss same = (
    ap (λ l. map (NoticeOf rank) l ++ map (sent_by (Some rank)) (front answer_place p ss))
        (front_more notice_place p n ns same),
    ap (λ l. record { rank = rank; told = l; sent = beyond answer_place p ss })
        (sym (beyond_more notice_place p n ns same)),
  )

  pub takes_answer : (rank : ℕ) (ns : List (Notice M)) (s : Place × ReplyView)
      (ss : List (Place × ReplyView)) → front notice_place p ns ≡ [] → same_place s.0 p ≡ true
      → (row_at p (record { rank = rank; told = ns; sent = s ∷ ss }) ≡ sent_by (Some rank) s
      ∷ row_at p (record { rank = rank; told = ns; sent = ss }))
      × (row_after p (record { rank = rank; told = ns; sent = ss })
      ≡ row_after p (record { rank = rank; told = ns; sent = s ∷ ss }))
  takes_answer rank ns s ss none same = (
    ap (λ l. map (NoticeOf rank) l ++ map (sent_by (Some rank)) (front answer_place p (s ∷ ss)))
        none
        ∙ ap (λ l. map (sent_by (Some rank)) l) (front_more answer_place p s ss same)
        ∙ ap (λ l. sent_by (Some rank) s ∷ map (NoticeOf rank) l
        ++ map (sent_by (Some rank)) (front answer_place p ss)) (sym none),
    ap (λ l. record { rank = rank; told = beyond notice_place p ns; sent = l })
        (sym (beyond_more answer_place p s ss same)),
  )

  pub takes_none : (rank : ℕ) (ns : List (Notice M)) (ss : List (Place × ReplyView))
      → front notice_place p ns ≡ [] → front answer_place p ss ≡ []
      → (row_at p (record { rank = rank; told = ns; sent = ss }) ≡ [])
      × (row_after p (record { rank = rank; told = ns; sent = ss })
      ≡ record { rank = rank; told = ns; sent = ss })
  takes_none rank ns ss none silent = (
    ap (λ l. map (NoticeOf rank) l ++ map (sent_by (Some rank)) (front answer_place p ss)) none
        ∙ ap (map (sent_by (Some rank))) silent,
    ap (λ l. record { rank = rank; told = l; sent = beyond answer_place p ss })
        (none_beyond notice_place p ns none)
        ∙ ap (λ l. record { rank = rank; told = ns; sent = l })
        (none_beyond answer_place p ss silent),
  )

-- ---- all lists, at the first place

module _ {M : Type 0} (p : Place) (ps : List Place) where
  -- an answer of discovery comes first
  pub takes_said : (s : Place × ReplyView) (ss : List (Place × ReplyView)) (rows : List (RowView M))
      (at : ℕ) → same_place s.0 p ≡ true
      → left (p ∷ ps) (s ∷ ss) rows at ≡ sent_by None s ∷ left (p ∷ ps) ss rows at
  takes_said s ss rows at same =
      ap (λ l. (map (sent_by None) l ++ flat_map (row_at p) (drop at rows))
      ++ left ps (beyond answer_place p (s ∷ ss))
      (take at rows ++ map (row_after p) (drop at rows)) 0)
      (front_more answer_place p s ss same)
      ∙ ap (λ l. sent_by None s ∷
      (map (sent_by None) (front answer_place p ss) ++ flat_map (row_at p) (drop at rows))
      ++ left ps l (take at rows ++ map (row_after p) (drop at rows)) 0)
      (beyond_more answer_place p s ss same)

  -- where discovery has none, an item of the reader at the index comes
  pub takes_row : (ss : List (Place × ReplyView)) (rows : List (RowView M)) (at : ℕ)
      (r new : RowView M) (x : ReportView M) → front answer_place p ss ≡ []
      → at < length rows → get_or rows at r ≡ r → row_at p r ≡ x ∷ row_at p new → row_after p new
      ≡ row_after p r
      → left (p ∷ ps) ss rows at ≡ x ∷ left (p ∷ ps) ss (set rows at new) at
  takes_row ss rows at r new x silent below here first after =
      let rest = left ps (beyond answer_place p ss) in
      let split : drop at rows ≡ r ∷ drop (at + 1) rows = drop_more rows at r below
      ∙ ap (λ y. y ∷ drop (at + 1) rows) here in
      let others : drop at (set rows at new) ≡ new
      ∷ drop (at + 1) rows = drop-set rows at new below in
      let before : take at (set rows at new) ≡ take at rows = take-set rows at new in
      ap (λ l. (map (sent_by None) l ++ flat_map (row_at p) (drop at rows))
      ++ rest (take at rows ++ map (row_after p) (drop at rows)) 0) silent
      ∙ ap (λ l. flat_map (row_at p) l ++ rest (take at rows ++ map (row_after p) l) 0) split
      ∙ ap (λ l. (l ++ flat_map (row_at p) (drop (at + 1) rows))
      ++ rest (take at rows ++ row_after p r ∷ map (row_after p) (drop (at + 1) rows)) 0) first
      ∙ ap (λ y. x ∷ flat_map (row_at p) (new ∷ drop (at + 1) rows)
      ++ rest (take at rows ++ y ∷ map (row_after p) (drop (at + 1) rows)) 0) (sym after)
      ∙ ap (λ l. x ∷ flat_map (row_at p) l ++ rest (take at rows ++ map (row_after p) l) 0)
      (sym others)
      ∙ ap (λ l. x ∷ flat_map (row_at p) (drop at (set rows at new))
      ++ rest (l ++ map (row_after p) (drop at (set rows at new))) 0) (sym before)
      ∙ ap (λ l. x ∷ (map (sent_by None) l ++ flat_map (row_at p) (drop at (set rows at new)))
      ++ rest (take at (set rows at new) ++ map (row_after p) (drop at (set rows at new))) 0)
      (sym silent)

  -- a reader that has nothing at the place is passed
  pub passes_row : (ss : List (Place × ReplyView)) (rows : List (RowView M)) (at : ℕ)
      (r : RowView M)
      → at < length rows → get_or rows at r ≡ r → row_at p r ≡ [] → row_after p r ≡ r
      → left (p ∷ ps) ss rows at ≡ left (p ∷ ps) ss rows (at + 1)
  passes_row ss rows at r below here none same =
      let rest = left ps (beyond answer_place p ss) in
      let said = map (sent_by {M = M} None) (front answer_place p ss) in
      let later = drop (at + 1) rows in
      let split : drop at rows ≡ r ∷ later = drop_more rows at r below ∙ ap (λ y. y ∷ later) here in
      let more : take (at + 1) rows ≡ take at rows ++ r ∷ [] = take_more rows at r below
      ∙ ap (λ y. take at rows ++ y ∷ []) here in
      ap (λ l. (said ++ flat_map (row_at p) l) ++ rest (take at rows ++ map (row_after p) l) 0)
      split
      ∙ ap (λ l. (said ++ (l ++ flat_map (row_at p) later))
      ++ rest (take at rows ++ row_after p r ∷ map (row_after p) later) 0) none
      ∙ ap (λ y. (said ++ flat_map (row_at p) later)
      ++ rest (take at rows ++ y ∷ map (row_after p) later) 0) same
      ∙ ap (λ l. (said ++ flat_map (row_at p) later) ++ rest l 0)
      (sym (append_assoc (take at rows) (r ∷ []) (map (row_after p) later)))
      ∙ ap (λ l. (said ++ flat_map (row_at p) later) ++ rest (l ++ map (row_after p) later) 0)
      (sym more)

  -- where no reader is left, the next place comes
  pub passes_place : (ss : List (Place × ReplyView)) (rows : List (RowView M)) (at : ℕ)
      → front answer_place p ss ≡ [] → length rows ≤ at
      → left (p ∷ ps) ss rows at ≡ left ps ss rows 0
  passes_place ss rows at silent past =
      ap (λ l. (map (sent_by None) l ++ flat_map (row_at p) (drop at rows))
      ++ left ps (beyond answer_place p ss) (take at rows ++ map (row_after p) (drop at rows))
      0) silent
      ∙ ap (λ l. flat_map (row_at p) l
      ++ left ps (beyond answer_place p ss) (take at rows ++ map (row_after p) l) 0)
      (drop_all at rows past)
      ∙ ap (λ l. left ps l (take at rows ++ []) 0) (none_beyond answer_place p ss silent)
      ∙ ap (λ l. left ps ss l 0) (append-nil (take at rows) ∙ take_all at rows past)

-- ---- a reader that has nothing left is let go

le_of : {m n : ℕ} → m < n → m ≤ n
le_of below = omega (arith, below)

next_of : (n : ℕ) → suc n ≡ n + 1
next_of n = omega arith

module _ {M : Type 0} where
  has_none : (p : Place) (r : RowView M) → r.told ≡ [] → r.sent ≡ [] → row_at p r ≡ []
  has_none p r none silent =
      ap (λ ns. map (NoticeOf r.rank) (front notice_place p ns)
      ++ map (sent_by (Some r.rank)) (front answer_place p r.sent)) none
      ∙ ap (λ ss. map (sent_by (Some r.rank)) (front answer_place p ss)) silent

  left_without : (ps : List Place) (ss : List (Place × ReplyView)) (xs ys : List (RowView M))
      (r : RowView M) → r.told ≡ [] → r.sent ≡ []
      → left ps ss (xs ++ r ∷ ys) 0 ≡ left ps ss (xs ++ ys) 0
  left_without [] ss xs ys r none silent = refl
  left_without (p ∷ ps) ss xs ys r none silent =
      let others = beyond answer_place p ss in
      let after = row_after {M = M} p in
      let said = map (sent_by {M = M} None) (front answer_place p ss) in
      let here : flat_map (row_at p) (xs ++ r ∷ ys) ≡ flat_map (row_at p) (xs ++ ys) =
      flat_map-append (row_at p) xs (r ∷ ys)
      ∙ ap (λ l. flat_map (row_at p) xs ++ (l ++ flat_map (row_at p) ys)) (has_none p r none silent)
      ∙ sym (flat_map-append (row_at p) xs ys) in
      ap (λ l. (said ++ l) ++ left ps others (map after (xs ++ r ∷ ys)) 0) here
      ∙ ap (λ l. (said ++ flat_map (row_at p) (xs ++ ys)) ++ left ps others l 0)
      (map-append after xs (r ∷ ys))
      ∙ ap (λ l. (said ++ flat_map (row_at p) (xs ++ ys)) ++ l)
      (left_without ps others (map after xs) (map after ys) (after r)
      (ap (beyond notice_place p) none) (ap (beyond answer_place p) silent))
      ∙ ap (λ l. (said ++ flat_map (row_at p) (xs ++ ys)) ++ left ps others l 0)
      (sym (map-append after xs ys))

  pub lets_go : (p : Place) (ps : List Place) (ss : List (Place × ReplyView))
      (rows : List (RowView M)) (at : ℕ) (r : RowView M)
      → at < length rows → get_or rows at r ≡ r → r.told ≡ [] → r.sent ≡ []
      → left (p ∷ ps) ss rows at ≡ left (p ∷ ps) ss (remove rows at) at
  lets_go p ps ss rows at r below here none silent =
      let rest = left ps (beyond answer_place p ss) in
      let after = row_after {M = M} p in
      let said = map (sent_by {M = M} None) (front answer_place p ss) in
      let first = take at rows in
      let later = drop (at + 1) rows in
      let split : drop at rows ≡ r ∷ later = drop_more rows at r below ∙ ap (λ y. y ∷ later) here in
      let count : length first ≡ at = length-take-le at rows (le_of below) in
      let next : suc at ≡ at + 1 = next_of at in
      let gone : remove rows at ≡ first ++ later = ap (λ n. first ++ drop n rows) next in
      let front_is : take at (first ++ later)
      ≡ first = ap (λ n. take n (first ++ later)) (sym count) ∙ take-append_seam first later in
      let rest_is : drop at (first ++ later) ≡ later = ap (λ n. drop n (first ++ later)) (sym count)
      ∙ drop-append_seam first later in
      ap (λ l. (said ++ flat_map (row_at p) l) ++ rest (first ++ map after l) 0) split
      ∙ ap (λ l. (said ++ (l ++ flat_map (row_at p) later))
      ++ rest (first ++ after r ∷ map after later) 0) (has_none p r none silent)
      ∙ ap (λ l. (said ++ flat_map (row_at p) later) ++ l)
      (left_without ps (beyond answer_place p ss) first (map after later) (after r)
      (ap (beyond notice_place p) none) (ap (beyond answer_place p) silent))
      ∙ ap (λ l. (said ++ flat_map (row_at p) l) ++ rest (first ++ map after l) 0) (sym rest_is)
      ∙ ap (λ l. (said ++ flat_map (row_at p) (drop at (first ++ later)))
      ++ rest (l ++ map after (drop at (first ++ later))) 0) (sym front_is)
      ∙ ap (λ l. left (p ∷ ps) ss l at) (sym gone)

  -- where nothing is left, nothing comes at any place
  pub left_nothing : (ps : List Place) (at : ℕ) → left {M = M} ps [] [] at ≡ []
  left_nothing [] at = refl
  left_nothing (p ∷ ps) at =
      let none : drop at [] ≡ [] = drop_all at [] (omega arith) in
      let before : take at [] ≡ [] = take_all at [] (omega arith) in
      ap (λ l. flat_map (row_at p) l ++ left ps [] (take at [] ++ map (row_after {M = M} p) l) 0)
      none
      ∙ ap (λ l. left ps [] (l ++ []) 0) before
      ∙ left_nothing ps 0
