-- The lists of a batch are sorted by place, so what the walk yields is its parts, merged.
use Rattle.std.proofs.Common.{◌≡◌, ℕ, zero, suc, ◌+◌, ◌<◌, get_or, List, [], ◌∷◌, ◌++◌, Bool, true, false, if◌then◌else◌, None, Some, Option, arith, refl, subst, sym, ap, ◌∙◌, map, length, append-nil}
use Rattle.std.specs.Prelude.{filter}
use Rattle.std.specs.List.{AllByRecursion, flat_map}
use Rattle.std.proofs.lemmas.Bool.Decides.{nat_tests}
use Rattle.std.proofs.lemmas.Grind.{flat_map-append}
use Rattle.std.proofs.lemmas.List.{map-append}
use Rattle.rtps_types.specs.declared.place.Place.{Place}
use Rattle.rtps_proxy.specs.Replies.{ReplyView}
use Rattle.rtps_reader.specs.declared.notice.Notice.{Notice}
use Rattle.rtps_reader.specs.Notice.{answer_view, notice_view}
use Rattle.rtps_run.specs.Presentation.{not_after}
use Rattle.rtps_run.specs.World.{NoticeOf, sent_by}
use Rattle.rtps_run.specs.Merged.{AreRising, PartsByRank, answers_at, merged, merged_below, notices_at, same_place}
use Rattle.rtps_reader.specs.declared.notice.Output.{Output}
use Rattle.std.specs.declared.alloc.Global.{Global}
use Rattle.rtps_run.specs.BatchOutput.{AreAnswersInOrder, AreByPlace, IsInOrder, answers_given, given_answers, given_puts, parts_given, sent_in, told_in}
use Rattle.rtps_run.specs.declared.batch_output.BatchOutput.{BatchOutput}
use Rattle.rtps_run.specs.Order.{AreLeft, IsLeft, RowView, answer_place, beyond, front, left, notice_place, rank_at, row_after, row_at, row_seen, seen}
use Rattle.rtps_run.proofs.OrderSteps.{none_beyond}

-- an item at a place is at no earlier place
elsewhere : (x q p : Place) → same_place x q ≡ true → not_after q p ≡ false → same_place x p ≡ false
elsewhere x q p at later = let g : same_place x q ≡ true = at in let h : not_after q p
    ≡ false = later in grind (arith, nat_tests, g, h)

abbrev AllLater : Place → List Place → Type 0
AllLater p ps = AllByRecursion (λ q. not_after q p ≡ false) ps

-- ---- one list

module _ {X : Type 0} (place : X → Place) where
  abbrev at : Place → List X → List X
  at p xs = filter (λ x. same_place (place x) p) xs

  abbrev along : List Place → List X → List X
  along ps xs = flat_map (λ p. at p xs) ps

  abbrev AreHere : Place → List X → Type 0
  AreHere p xs = AllByRecursion (λ x. same_place (place x) p ≡ true) xs

  all_at : (p : Place) (xs : List X) → AreHere p (at p xs)
  all_at p [] = tt
  all_at p (x ∷ xs) = by_test (same_place (place x) p) refl (all_at p xs)
    where
      by_test : (b : Bool) → same_place (place x) p ≡ b → AreHere p (at p xs)
          → AreHere p (if b then x ∷ at p xs else at p xs)
      by_test true e rest = (e, rest)
      by_test false e rest = rest

  front_all : (p : Place) (xs ys : List X) → AreHere p xs → front place p ys ≡ []
      → (front place p (xs ++ ys) ≡ xs) × (beyond place p (xs ++ ys) ≡ ys)
  front_all p [] ys h none = (none, none_beyond place p ys none)
  front_all p (x ∷ xs) ys h none =
      let more = front_all p xs ys h.1 none in
      (rw h.0 (ap (λ l. x ∷ l) more.0), rw h.0 more.1)

  front_later : (p q : Place) (xs ys : List X) → not_after q p ≡ false → AreHere q xs
      → front place p ys ≡ [] → front place p (xs ++ ys) ≡ []
  front_later p q [] ys later h none = none
  front_later p q (x ∷ xs) ys later h none = rw (elsewhere (place x) q p h.0 later) refl

  front_none : (p : Place) (xs : List X) (ps : List Place) → AllLater p ps
      → front place p (along ps xs) ≡ []
  front_none p xs [] later = refl
  front_none p xs (q ∷ ps) later = front_later p q (at q xs) (along ps xs) later.0 (all_at q xs)
      (front_none p xs ps later.1)

  -- of the items at a place and the later ones, the leading ones are those at the place, and the
  -- others are the later ones
  pub at_next : (p : Place) (ps : List Place) (xs rest : List X) → AllLater p ps → rest
      ≡ along (p ∷ ps) xs
      → (front place p rest ≡ at p xs) × (beyond place p rest ≡ along ps xs)
  at_next p ps xs rest later e =
      let both = front_all p (at p xs) (along ps xs) (all_at p xs) (front_none p xs ps later) in
      (ap (front place p) e ∙ both.0, ap (beyond place p) e ∙ both.1)

-- ---- all lists

module _ {M : Type 0} (parts : PartsByRank M) where
  row_next : (p : Place) (ps : List Place) (r : RowView M) → AllLater p ps → IsLeft parts (p ∷ ps) r
      → (row_at p r ≡ rank_at parts p r.rank) × IsLeft parts ps (row_after p r)
  row_next p ps r later l =
      let told = at_next notice_place p ps (parts.told r.rank) r.told later l.told in
      let sent = at_next answer_place p ps (parts.sent r.rank) r.sent later l.sent in (
        ap (λ ns. map (NoticeOf r.rank) ns
            ++ map (sent_by (Some r.rank)) (front answer_place p r.sent)) told.0
            ∙ ap (λ ss. map (NoticeOf r.rank) (notices_at p (parts.told r.rank))
            ++ map (sent_by (Some r.rank)) ss) sent.0,
        record { told = told.1; sent = sent.1 },
      )

  rows_next : (p : Place) (ps : List Place) (rows : List (RowView M)) → AllLater p ps
      → AllByRecursion (IsLeft parts (p ∷ ps)) rows
      → (flat_map (row_at p) rows ≡ flat_map (rank_at parts p)
      (map (λ (r : RowView M). r.rank) rows))
      × AllByRecursion (IsLeft parts ps) (map (row_after p) rows)
      × (map (λ (r : RowView M). r.rank) (map (row_after p) rows)
      ≡ map (λ (r : RowView M). r.rank) rows)
  rows_next p ps [] later l = (refl, tt, refl)
  rows_next p ps (r ∷ rows) later l =
      let here = row_next p ps r later l.0 in
      let rest = rows_next p ps rows later l.1 in (
        ap (λ x. x ++ flat_map (row_at p) rows) here.0
            ∙ ap (λ x. rank_at parts p r.rank ++ x) rest.0,
        (here.1, rest.1),
        ap (λ x. r.rank ∷ x) rest.2,
      )

  -- what is left is the parts, merged by the places that are left
  pub left_merged : (count : ℕ) (ps : List Place) (said : List (Place × ReplyView))
      (rows : List (RowView M)) → AreRising ps → AreLeft parts count ps said rows
      → left ps said rows 0 ≡ merged parts count ps
  left_merged count [] said rows rising l = refl
  left_merged count (p ∷ ps) said rows (later, rising) l =
      let first = at_next answer_place p ps parts.answers said later l.answers in
      let all = rows_next p ps rows later l.lists in
      let rest = left_merged count ps (beyond answer_place p said) (map (row_after p) rows) rising
      (record {
        answers = first.1;
        ranks = λ q. ap (flat_map (rank_at parts q)) all.2 ∙ l.ranks q;
        lists = all.1;
      }) in
      ap (λ x. (map (sent_by None) x ++ flat_map (row_at p) rows)
      ++ left ps (beyond answer_place p said) (map (row_after p) rows) 0) first.0
      ∙ ap (λ x. (map (sent_by None) (answers_at p parts.answers) ++ x)
      ++ left ps (beyond answer_place p said) (map (row_after p) rows) 0) (all.0 ∙ l.ranks p)
      ∙ ap (λ x. (map (sent_by None) (answers_at p parts.answers) ++ merged_below p parts count)
      ++ x) rest

-- ---- the readers, one more each time

module _ {M : Type 0} (parts : PartsByRank M) (count : ℕ) (ps : List Place)
    (said : List (Place × ReplyView)) where
  abbrev rank_of : RowView M → ℕ
  rank_of r = r.rank

  -- a reader without output is left out
  pub skips : (rows : List (RowView M)) → parts.told count ≡ [] → parts.sent count ≡ []
      → AreLeft parts count ps said rows → AreLeft parts (count + 1) ps said rows
  skips rows none silent l =
      let on : suc count ≡ count + 1 = omega arith in
      subst (λ n. AreLeft parts n ps said rows) on (record {
        answers = l.answers;
        ranks = λ p.
            l.ranks p ∙ sym (append-nil (merged_below p parts count))
            ∙ ap (λ (ns : List _). merged_below p parts count
            ++ (map (NoticeOf count) (notices_at p ns) ++ [])) (sym none)
            ∙ ap (λ (ss : List (Place × ReplyView)). merged_below p parts count
            ++ (map (NoticeOf count) (notices_at p (parts.told count))
            ++ map (sent_by (Some count)) (answers_at p ss))) (sym silent);
        lists = l.lists;
      })

  both : (rows : List (RowView M)) (r : RowView M) → AllByRecursion (IsLeft parts ps) rows
      → IsLeft parts ps r → AllByRecursion (IsLeft parts ps) (rows ++ r ∷ [])
  both [] r all one = (one, tt)
  both (x ∷ rows) r all one = (all.0, both rows r all.1 one)

  -- another is added
  pub adds : (rows : List (RowView M)) → AreByPlace ps parts → AreLeft parts count ps said rows
      → AreLeft parts (count + 1) ps said
      (rows ++ record { rank = count; told = parts.told count; sent = parts.sent count } ∷ [])
  adds rows sorted l =
      let on : suc count ≡ count + 1 = omega arith in
      let r : RowView M =
      record { rank = count; told = parts.told count; sent = parts.sent count } in
      subst (λ n. AreLeft parts n ps said (rows ++ r ∷ [])) on (record {
        answers = l.answers;
        ranks = λ p.
            ap (flat_map (rank_at parts p)) (map-append rank_of rows (r ∷ []))
            ∙ flat_map-append (rank_at parts p) (map rank_of rows) (count ∷ [])
            ∙ ap (λ x. x ++ (rank_at parts p count ++ [])) (l.ranks p)
            ∙ ap (λ x. merged_below p parts count ++ x) (append-nil (rank_at parts p count));
        lists = both rows r l.lists
            (record { told = sym (sorted.told count); sent = sym (sorted.sent count) });
      })

-- ---- the meanings of values

module _ {V M : Type 0} (f : V → M) where
  front_seen : (p : Place) (ns : List (Notice V)) → map (notice_view f) (front notice_place p ns)
      ≡ front notice_place p (map (notice_view f) ns)
  front_seen p [] = refl
  front_seen p (n ∷ ns) = by_test (same_place n.place p) (front_seen p ns)
    where
      by_test : (b : Bool) → map (notice_view f) (front notice_place p ns)
          ≡ front notice_place p (map (notice_view f) ns)
          → map (notice_view f) (if b then n ∷ front notice_place p ns else [])
          ≡ (if b then notice_view f n ∷ front notice_place p (map (notice_view f) ns) else [])
      by_test true rest = ap (λ l. notice_view f n ∷ l) rest
      by_test false rest = refl

  beyond_seen : (p : Place) (ns : List (Notice V)) → map (notice_view f) (beyond notice_place p ns)
      ≡ beyond notice_place p (map (notice_view f) ns)
  beyond_seen p [] = refl
  beyond_seen p (n ∷ ns) = by_test (same_place n.place p) (beyond_seen p ns)
    where
      by_test : (b : Bool) → map (notice_view f) (beyond notice_place p ns)
          ≡ beyond notice_place p (map (notice_view f) ns)
          → map (notice_view f) (if b then beyond notice_place p ns else n ∷ ns)
          ≡ (if b then beyond notice_place p (map (notice_view f) ns) else notice_view f n
          ∷ map (notice_view f) ns)
      by_test true rest = rest
      by_test false rest = refl

  notices_seen : (rank : ℕ) (ns : List (Notice V)) → map (seen f) (map (NoticeOf rank) ns)
      ≡ map (NoticeOf rank) (map (notice_view f) ns)
  notices_seen rank [] = refl
  notices_seen rank (n ∷ ns) = ap (λ l. NoticeOf rank (notice_view f n) ∷ l) (notices_seen rank ns)

  answers_seen : (by : Option ℕ) (ss : List (Place × ReplyView))
      → map (seen f) (map (sent_by by) ss) ≡ map (sent_by by) ss
  answers_seen by [] = refl
  answers_seen by (s ∷ ss) = ap (λ l. sent_by by s ∷ l) (answers_seen by ss)

  row_at_seen : (p : Place) (r : RowView V) → map (seen f) (row_at p r) ≡ row_at p (row_seen f r)
  row_at_seen p r =
      map-append (seen f) (map (NoticeOf r.rank) (front notice_place p r.told))
      (map (sent_by (Some r.rank)) (front answer_place p r.sent))
      ∙ ap (λ l. l ++ map (seen f) (map (sent_by (Some r.rank)) (front answer_place p r.sent)))
      (notices_seen r.rank (front notice_place p r.told)
      ∙ ap (map (NoticeOf r.rank)) (front_seen p r.told))
      ∙ ap (λ l. map (NoticeOf r.rank) (front notice_place p (map (notice_view f) r.told)) ++ l)
      (answers_seen (Some r.rank) (front answer_place p r.sent))

  rows_at_seen : (p : Place) (rows : List (RowView V)) → map (seen f) (flat_map (row_at p) rows)
      ≡ flat_map (row_at p) (map (row_seen f) rows)
  rows_at_seen p [] = refl
  rows_at_seen p (r ∷ rows) =
      map-append (seen f) (row_at p r) (flat_map (row_at p) rows)
      ∙ ap (λ l. l ++ map (seen f) (flat_map (row_at p) rows)) (row_at_seen p r)
      ∙ ap (λ l. row_at p (row_seen f r) ++ l) (rows_at_seen p rows)

  rows_after_seen : (p : Place) (rows : List (RowView V))
      → map (row_seen f) (map (row_after p) rows) ≡ map (row_after p) (map (row_seen f) rows)
  rows_after_seen p [] = refl
  rows_after_seen p (r ∷ rows) =
      ap (λ ns. record { rank = r.rank; told = ns; sent = beyond answer_place p r.sent }
      ∷ map (row_seen f) (map (row_after p) rows)) (beyond_seen p r.told)
      ∙ ap (λ l. row_after p (row_seen f r) ∷ l) (rows_after_seen p rows)

  -- what is left, with the meanings of the values
  pub left_seen : (ps : List Place) (said : List (Place × ReplyView)) (rows : List (RowView V))
      → map (seen f) (left ps said rows 0) ≡ left ps said (map (row_seen f) rows) 0
  left_seen [] said rows = refl
  left_seen (p ∷ ps) said rows =
      let here = map (sent_by None) (front answer_place p said) ++ flat_map (row_at p) rows in
      let more = left ps (beyond answer_place p said) (map (row_after p) rows) 0 in
      map-append (seen f) here more
      ∙ ap (λ l. l ++ map (seen f) more)
      (map-append (seen f) (map (sent_by None) (front answer_place p said))
      (flat_map (row_at p) rows)
      ∙ ap (λ l. l ++ map (seen f) (flat_map (row_at p) rows))
      (answers_seen None (front answer_place p said))
      ∙ ap (λ l. map (sent_by None) (front answer_place p said) ++ l) (rows_at_seen p rows))
      ∙ ap (λ l.
      (map (sent_by None) (front answer_place p said)
      ++ flat_map (row_at p) (map (row_seen f) rows)) ++ l)
      (left_seen ps (beyond answer_place p said) (map (row_after p) rows)
      ∙ ap (λ l. left ps (beyond answer_place p said) l 0) (rows_after_seen p rows))

-- ---- what all items are

-- the items of the lists of a batch are what it puts out
pub items_given : {V M : Type 0} (f : V → M) (given : BatchOutput V) (rows : List (RowView V))
    → IsInOrder f given
    → AreLeft (parts_given f given) (length given.outputs.items) given.places.items
    (map answer_view given.answers.items) (map (row_seen f) rows)
    → map (seen f) (left given.places.items (map answer_view given.answers.items) rows 0)
    ≡ given_puts f given
items_given f given rows sorted l =
    let said = map answer_view given.answers.items in
    left_seen f given.places.items said rows
    ∙ left_merged (parts_given f given) (length given.outputs.items) given.places.items said
    (map (row_seen f) rows) sorted.rising l

-- before a reader is looked at, there are none
pub none_yet : {M : Type 0} (parts : PartsByRank M) (ps : List Place) → AreByPlace ps parts
    → AreLeft parts 0 ps parts.answers []
none_yet parts ps sorted = record { answers = sym sorted.said; ranks = λ p. refl; lists = tt }

-- ---- the reader of a rank

pub told_some : {V M : Type 0} (f : V → M) (outputs : List (Output V Global)) (rank : ℕ)
    (o : Output V Global) → rank < length outputs → o ≡ get_or outputs rank o
    → told_in f outputs rank ≡ map (notice_view f) o.notices.items
told_some f [] rank o below e = absurd (omega (arith, below))
told_some f (x ∷ outputs) zero o below e = ap
    (λ (p : Output _ Global). map (notice_view f) p.notices.items) (sym e)
told_some f (x ∷ outputs) (suc rank) o below e = told_some f outputs rank o (omega (arith, below)) e

pub sent_some : {V : Type 0} (outputs : List (Output V Global)) (rank : ℕ) (o : Output V Global)
    → rank < length outputs → o ≡ get_or outputs rank o
    → sent_in outputs rank ≡ map answer_view o.answers.items
sent_some [] rank o below e = absurd (omega (arith, below))
sent_some (x ∷ outputs) zero o below e = ap
    (λ (p : Output _ Global). map answer_view p.answers.items) (sym e)
sent_some (x ∷ outputs) (suc rank) o below e = sent_some outputs rank o (omega (arith, below)) e

-- another reader's lists are added
pub adds_row : {V M : Type 0} (f : V → M) (given : BatchOutput V) (rank : ℕ)
    (rows new : List (RowView V)) (o : Output V Global) → rank < length given.outputs.items → o
    ≡ get_or given.outputs.items rank o
    → new ≡ rows ++
    record { rank = rank; told = o.notices.items; sent = map answer_view o.answers.items } ∷ []
    → AreByPlace given.places.items (parts_given f given)
    → AreLeft (parts_given f given) rank given.places.items (map answer_view given.answers.items)
    (map (row_seen f) rows)
    → AreLeft (parts_given f given) (rank + 1) given.places.items
    (map answer_view given.answers.items) (map (row_seen f) new)
adds_row {V} {M} f given rank rows new o below here pushed sorted l =
    let outputs = given.outputs.items in
    let row : RowView V =
    record { rank = rank; told = o.notices.items; sent = map answer_view o.answers.items } in
    let told = told_some f outputs rank o below here in
    let sent = sent_some outputs rank o below here in
    let all : map (row_seen f) new ≡ map (row_seen f) rows
    ++ record { rank = rank; told = told_in f outputs rank; sent = sent_in outputs rank } ∷ [] =
    ap (map (row_seen f)) pushed ∙ map-append (row_seen f) rows (row ∷ [])
    ∙ ap (λ (ns : List (Notice M)). map (row_seen f) rows
    ++ record { rank = rank; told = ns; sent = map answer_view o.answers.items } ∷ [])
    (sym told)
    ∙ ap (λ (ss : List (Place × ReplyView)). map (row_seen f) rows
    ++ record { rank = rank; told = told_in f outputs rank; sent = ss } ∷ []) (sym sent) in
    subst (λ l. AreLeft (parts_given f given) (rank + 1) given.places.items
    (map answer_view given.answers.items) l) (sym all)
    (adds (parts_given f given) rank given.places.items (map answer_view given.answers.items)
    (map (row_seen f) rows) sorted l)

-- ---- the answers alone

along_nothing : {M : Type 0} (ps : List Place) → flat_map (λ p. notices_at {M = M} p []) ps ≡ []
along_nothing [] = refl
along_nothing {M} (p ∷ ps) = along_nothing {M = M} ps

pub answers_sorted : {V : Type 0} (given : BatchOutput V) → AreAnswersInOrder given
    → AreByPlace given.places.items (answers_given given)
answers_sorted given a = record {
  rising = a.rising;
  said = a.said;
  told = λ rank. along_nothing given.places.items;
  sent = a.sent;
}

-- another reader's answers are added
pub adds_answers : {V : Type 0} (given : BatchOutput V) (rank : ℕ) (rows new : List (RowView V))
    (o : Output V Global) → rank < length given.outputs.items → o
    ≡ get_or given.outputs.items rank o
    → new ≡ rows ++ record { rank = rank; told = []; sent = map answer_view o.answers.items } ∷ []
    → AreAnswersInOrder given
    → AreLeft (answers_given given) rank given.places.items (map answer_view given.answers.items)
    rows
    → AreLeft (answers_given given) (rank + 1) given.places.items
    (map answer_view given.answers.items) new
adds_answers {V} given rank rows new o below here pushed a l =
    let sent = sent_some given.outputs.items rank o below here in
    let all : new ≡ rows ++
    record { rank = rank; told = []; sent = sent_in given.outputs.items rank } ∷ [] =
    pushed ∙ ap
    (λ (ss : List (Place × ReplyView)). rows ++ record { rank = rank; told = []; sent = ss }
    ∷ []) (sym sent) in
    subst (AreLeft (answers_given given) (rank + 1) given.places.items
    (map answer_view given.answers.items)) (sym all)
    (adds (answers_given given) rank given.places.items (map answer_view given.answers.items) rows
    (answers_sorted given a) l)

-- the items of these lists are the answers of the batch
pub answers_left : {V : Type 0} (given : BatchOutput V) (rows : List (RowView V))
    → AreAnswersInOrder given
    → AreLeft (answers_given given) (length given.outputs.items) given.places.items
    (map answer_view given.answers.items) rows
    → left given.places.items (map answer_view given.answers.items) rows 0 ≡ given_answers given
answers_left given rows a l = left_merged (answers_given given) (length given.outputs.items)
    given.places.items (map answer_view given.answers.items) rows a.rising l
