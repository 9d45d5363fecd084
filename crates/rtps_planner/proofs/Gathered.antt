-- Answers in order, by turn, are those of the parts, place by place.
use Rattle.std.proofs.Common.{◌≡◌, ℕ, zero, suc, ◌<◌, ◌≤◌, ◌+◌, ◌==◌, ◌||◌, ◌&&◌, List, [], ◌∷◌, ◌++◌, map, filter, length, Bool, true, false, if◌then◌else◌, Option, Some, None, refl, sym, ap, ◌∙◌, arith, append-nil, true≢false, inl, inr}
use Rattle.std.specs.Cmp.{IsStrictWeakOrder}
use Rattle.std.specs.List.{AllByRecursion, list_any}
use Rattle.std.specs.List.Sorted.{ties}
use Rattle.std.specs.Ordering.{is_lt, nat_cmp}
use Rattle.std.specs.declared.cmp.Ordering.TheVariants.{Equal}
use Rattle.std.proofs.lemmas.Bool.{and_from, and_parts, and_right, cases_lt, eq-eqb, eqb-false, eqb-true, ne_eqb, or_parts}
use Rattle.std.proofs.lemmas.Bool.Decides.{nat_tests}
use Rattle.std.proofs.lemmas.List.{map-append}
use Rattle.std.proofs.lemmas.List.Elements.{filter-append, filter_agree, recursion_from_All}
use Rattle.std.proofs.lemmas.List.Sorted.{ranks_by}
use Rattle.std.proofs.lemmas.Map.Lookups.{exact_unsigned}
use Rattle.rtps_types.specs.declared.place.Place.{Place}
use Rattle.rtps_types.specs.Place.{place_order}
use Rattle.rtps_types.specs.declared.traffic.Reply.{Reply}
use Rattle.rtps_proxy.specs.Replies.{ReplyView}
use Rattle.rtps_reader.specs.declared.notice.Notice.{Notice}
use Rattle.rtps_reader.specs.declared.notice.Output.{Output}
use Rattle.rtps_reader.specs.Notice as reader
use Rattle.rtps_run.specs.declared.outcome.Answer.{Answer}
use Rattle.rtps_run.specs.declared.outcome.Outcome.{Outcome}
use Rattle.rtps_run.specs.declared.turn.ReportKind.TheVariants as kind
use Rattle.rtps_run.specs.declared.turn.Turn.{Turn}
use Rattle.rtps_run.specs.Outcome.{IsOutcomeOf, all_answers, answer_of, answer_view, answers_from}
use Rattle.rtps_run.specs.Presentation.{not_after}
use Rattle.rtps_run.specs.Seen.{answers_in}
use Rattle.rtps_run.specs.Turn.{answer_turn, turn_order}
use Rattle.rtps_run.specs.World.{ReportView, NoticeOf, AnswerView, answer_by, sent_by}
use Rattle.rtps_run.proofs.Dealt.{answers_in-append}
use Rattle.rtps_run.proofs.OneOrder.{Rises, filter-map, filter_none, one_order, rises_map, rises_sorted, rises_then, stable_by}
use Rattle.rtps_run.proofs.Places.{all_append, all_weaker}
use Rattle.rtps_run.proofs.Turns.{alike_turns, discovery_first, discovery_turn, equal_turns, later_place, level, lower_first, same_rank, then_first, then_second, turn_at, turns_total}
use Rattle.rtps_run.specs.Merged.{AreRising, PartsByRank, answers_at, merged, merged_below, notices_at, same_place}
use Rattle.rtps_planner.specs.Commuting.{is_of}
use Rattle.rtps_run.specs.BatchOutput.{sent_in}
use Rattle.rtps_planner.specs.Outputs.{StandAmong}
use Rattle.rtps_planner.proofs.Judged.{sent_past}
use Rattle.rtps_planner.proofs.Merged.{not_later, same_self}

-- ---- the answers of the parts

module _ (said : List (Place × ReplyView)) (sent : ℕ → List (Place × ReplyView)) where
  -- at one place of the ranks below a count
  abbrev pub below : Place → ℕ → List AnswerView
  below p zero = []
  below p (suc n) = below p n ++ map (answer_by (Some n)) (answers_at p (sent n))

  abbrev pub here : Place → ℕ → List AnswerView
  here p n = map (answer_by None) (answers_at p said) ++ below p n

  abbrev pub along : ℕ → List Place → List AnswerView
  along n [] = []
  along n (p ∷ ps) = here p n ++ along n ps

heard_unseen : {M : Type 0} (rank : ℕ) (ns : List (Notice M)) → answers_in (map (NoticeOf rank) ns) ≡ []
heard_unseen rank [] = refl
heard_unseen rank (n ∷ ns) = heard_unseen rank ns

sent_seen : (M : Type 0) (rank : ℕ) (ss : List (Place × ReplyView)) → answers_in {M = M} (map (sent_by (Some rank)) ss) ≡ map (answer_by (Some rank)) ss
sent_seen M rank [] = refl
sent_seen M rank (s ∷ ss) = ap (λ l. answer_by (Some rank) s ∷ l) (sent_seen M rank ss)

said_seen : (M : Type 0) (ss : List (Place × ReplyView)) → answers_in {M = M} (map (sent_by None) ss) ≡ map (answer_by None) ss
said_seen M [] = refl
said_seen M (s ∷ ss) = ap (λ l. answer_by None s ∷ l) (said_seen M ss)

below_seen : {M : Type 0} (p : Place) (parts : PartsByRank M) (n : ℕ) → answers_in (merged_below p parts n) ≡ below parts.answers parts.sent p n
below_seen p parts zero = refl
below_seen {M} p parts (suc n) =
    let told : List (ReportView M) = map (NoticeOf n) (notices_at p (parts.told n)) in
    let sent : List (ReportView M) = map (sent_by (Some n)) (answers_at p (parts.sent n)) in
    answers_in-append (merged_below p parts n) (told ++ sent)
    ∙ ap (λ l. answers_in (merged_below p parts n) ++ l)
    (answers_in-append told sent ∙ ap (λ l. l ++ answers_in sent) (heard_unseen n (notices_at p (parts.told n))) ∙ sent_seen M n (answers_at p (parts.sent n)))
    ∙ ap (λ l. l ++ map (answer_by (Some n)) (answers_at p (parts.sent n))) (below_seen p parts n)

pub merged_seen : {M : Type 0} (parts : PartsByRank M) (n : ℕ) (places : List Place) → answers_in (merged parts n places) ≡ along parts.answers parts.sent n places
merged_seen parts n [] = refl
merged_seen {M} parts n (p ∷ ps) =
    let said : List (ReportView M) = map (sent_by None) (answers_at p parts.answers) in
    answers_in-append (said ++ merged_below p parts n) (merged parts n ps)
    ∙ ap (λ l. l ++ answers_in (merged parts n ps)) (answers_in-append said (merged_below p parts n))
    ∙ ap (λ l. (l ++ answers_in (merged_below p parts n)) ++ answers_in (merged parts n ps)) (said_seen M (answers_at p parts.answers))
    ∙ ap (λ l. (map (answer_by None) (answers_at p parts.answers) ++ l) ++ answers_in (merged parts n ps)) (below_seen p parts n)
    ∙ ap (λ l. here parts.answers parts.sent p n ++ l) (merged_seen parts n ps)

-- ---- they come by turn

-- when an answer comes
abbrev view_turn : AnswerView → Turn
view_turn s = record { place = s.place; rank = s.rank; kind = kind.Answer }

abbrev ahead : AnswerView → AnswerView → Bool
ahead a b = is_lt (turn_order (view_turn a) (view_turn b))

ahead_weak : IsStrictWeakOrder ahead
ahead_weak = ranks_by turns_total view_turn

abbrev HaveTurn : Turn → List AnswerView → Type 0
HaveTurn t xs = AllByRecursion (λ s. view_turn s ≡ t) xs

level_rises : (t : Turn) (xs : List AnswerView) → HaveTurn t xs → Rises ahead xs
level_rises t [] h = tt
level_rises t (x ∷ xs) h = (
  all_weaker (λ s. view_turn s ≡ t) (λ y. ahead y x ≡ false) xs (λ y e. level (view_turn y) (view_turn x) t e h.0) h.1,
  level_rises t xs h.1,
)

place_is : (a b : Place) → same_place a b ≡ true → a ≡ b
place_is a b h =
    let both = and_parts (a.datagram == b.datagram) (a.submessage == b.submessage) h in
    let e : a.datagram ≡ b.datagram = eqb-true a.datagram b.datagram both.0 in
    let f : a.submessage ≡ b.submessage = eqb-true a.submessage b.submessage both.1 in
    ap (λ d. record { datagram = d; submessage = a.submessage }) e ∙ ap (λ s. record { datagram = b.datagram; submessage = s }) f

same_back : (a b : Place) → same_place a b ≡ false → same_place b a ≡ false
same_back a b h = let g : same_place a b ≡ false = h in grind (arith, nat_tests, g)

-- what is at a place of a list
at_place : (p : Place) (ss : List (Place × ReplyView)) → AllByRecursion (λ s. s.0 ≡ p) (answers_at p ss)
at_place p [] = tt
at_place p (s ∷ ss) = by_test (same_place s.0 p) refl (at_place p ss)
  where
    by_test : (b : Bool) → same_place s.0 p ≡ b → AllByRecursion (λ s. s.0 ≡ p) (answers_at p ss) → AllByRecursion (λ s. s.0 ≡ p) (if b then s ∷ answers_at p ss else answers_at p ss)
    by_test true is rest = (place_is s.0 p is, rest)
    by_test false is rest = rest

said_turn : (p : Place) (ss : List (Place × ReplyView)) → AllByRecursion (λ s. s.0 ≡ p) ss → HaveTurn (discovery_turn p) (map (answer_by None) ss)
said_turn p [] h = tt
said_turn p (s ∷ ss) h = (ap discovery_turn h.0, said_turn p ss h.1)

sent_turn : (p : Place) (rank : ℕ) (ss : List (Place × ReplyView)) → AllByRecursion (λ s. s.0 ≡ p) ss → HaveTurn (turn_at p rank kind.Answer) (map (answer_by (Some rank)) ss)
sent_turn p rank [] h = tt
sent_turn p rank (s ∷ ss) h = (ap (λ q. turn_at q rank kind.Answer) h.0, sent_turn p rank ss h.1)

-- an answer of the ranks below a count, at a place
record IsRanked (p : Place) (n : ℕ) (s : AnswerView) : Type 0 where
  place : s.place ≡ p
  rank : ℕ
  is : s.rank ≡ Some rank
  below : rank < n

of_turn : (p : Place) (rank n : ℕ) → rank < n → (s : AnswerView) → view_turn s ≡ turn_at p rank kind.Answer → IsRanked p n s
of_turn p rank n less s e = record { place = ap (λ (t : Turn). t.place) e; rank = rank; is = ap (λ (t : Turn). t.rank) e; below = less }

module _ (said : List (Place × ReplyView)) (sent : ℕ → List (Place × ReplyView)) where
  ranked : (p : Place) (n : ℕ) → AllByRecursion (IsRanked p n) (below said sent p n)
  ranked p zero = tt
  ranked p (suc n) =
      all_append (IsRanked p (suc n)) (below said sent p n) (map (answer_by (Some n)) (answers_at p (sent n)))
      (all_weaker (IsRanked p n) (IsRanked p (suc n)) (below said sent p n) (λ s r. record { place = r.place; rank = r.rank; is = r.is; below = omega (arith, r.below) }) (ranked p n))
      (all_weaker (λ s. view_turn s ≡ turn_at p n kind.Answer) (IsRanked p (suc n)) (map (answer_by (Some n)) (answers_at p (sent n))) (of_turn p n (suc n) (omega arith)) (sent_turn p n (answers_at p (sent n)) (at_place p (sent n))))

  below_rises : (p : Place) (n : ℕ) → Rises ahead (below said sent p n)
  below_rises p zero = tt
  below_rises p (suc n) =
      rises_then ahead (IsRanked p n) (λ s. view_turn s ≡ turn_at p n kind.Answer)
      (λ x y r t. lower_first (view_turn x) (view_turn y) p r.rank n r.place r.is (ap (λ (u : Turn). u.place) t) (ap (λ (u : Turn). u.rank) t) r.below)
      (below said sent p n) (map (answer_by (Some n)) (answers_at p (sent n))) (ranked p n) (sent_turn p n (answers_at p (sent n)) (at_place p (sent n)))
      (below_rises p n) (level_rises (turn_at p n kind.Answer) (map (answer_by (Some n)) (answers_at p (sent n))) (sent_turn p n (answers_at p (sent n)) (at_place p (sent n))))

  here_rises : (p : Place) (n : ℕ) → Rises ahead (here said sent p n)
  here_rises p n =
      let first = map (answer_by None) (answers_at p said) in
      let turns = said_turn p (answers_at p said) (at_place p said) in
      rises_then ahead (λ s. view_turn s ≡ discovery_turn p) (IsRanked p n) (λ x y t r. discovery_first (view_turn x) (view_turn y) p r.rank t r.place r.is)
      first (below said sent p n) turns (ranked p n) (level_rises (discovery_turn p) first turns) (below_rises p n)

  here_at : (p : Place) (n : ℕ) → AllByRecursion (λ (s : AnswerView). s.place ≡ p) (here said sent p n)
  here_at p n =
      all_append (λ (s : AnswerView). s.place ≡ p) (map (answer_by None) (answers_at p said)) (below said sent p n)
      (all_weaker (λ s. view_turn s ≡ discovery_turn p) (λ s. s.place ≡ p) (map (answer_by None) (answers_at p said)) (λ s e. ap (λ (t : Turn). t.place) e) (said_turn p (answers_at p said) (at_place p said)))
      (all_weaker (IsRanked p n) (λ s. s.place ≡ p) (below said sent p n) (λ s r. r.place) (ranked p n))

  along_later : (n : ℕ) (p : Place) (ps : List Place) → AllByRecursion (λ q. not_after q p ≡ false) ps → AllByRecursion (λ (s : AnswerView). not_after s.place p ≡ false) (along said sent n ps)
  along_later n p [] h = tt
  along_later n p (q ∷ qs) h =
      all_append (λ (s : AnswerView). not_after s.place p ≡ false) (here said sent q n) (along said sent n qs)
      (all_weaker (λ (s : AnswerView). s.place ≡ q) (λ s. not_after s.place p ≡ false) (here said sent q n) (λ s e. ap (λ r. not_after r p) e ∙ h.0) (here_at q n))
      (along_later n p qs h.1)

  along_rises : (n : ℕ) (ps : List Place) → AreRising ps → Rises ahead (along said sent n ps)
  along_rises n [] up = tt
  along_rises n (p ∷ ps) up =
      rises_then ahead (λ (s : AnswerView). s.place ≡ p) (λ s. not_after s.place p ≡ false) (λ x y e l. later x y p e l)
      (here said sent p n) (along said sent n ps) (here_at p n) (along_later n p ps up.0) (here_rises p n) (along_rises n ps up.1)
    where
      later : (x y : AnswerView) (q : Place) → x.place ≡ q → not_after y.place q ≡ false → ahead y x ≡ false
      later x y q is h = rw (later_place x.place y.place (ap (not_after y.place) is ∙ h)) refl

-- ---- what comes at one turn

abbrev passes : Place → Option ℕ → AnswerView → Bool
passes p by s = same_place s.place p && is_of s.rank by

same_of : (a b : Bool) → (a ≡ true → b ≡ true) → (b ≡ true → a ≡ true) → a ≡ b
same_of true b f g = sym (f refl)
same_of false true f g = g refl
same_of false false f g = refl

of_itself : (o : Option ℕ) → is_of o o ≡ true
of_itself None = refl
of_itself (Some r) = eq-eqb r r refl

of_same : (a b : Option ℕ) → is_of a b ≡ true → a ≡ b
of_same None None h = refl
of_same None (Some b) h = absurd (true≢false (sym h))
of_same (Some a) None h = absurd (true≢false (sym h))
of_same (Some a) (Some b) h = ap Some (eqb-true a b h)

order_place : (a b : Place) → place_order a b ≡ Equal → a ≡ b
order_place a b h =
    let e : a.datagram ≡ b.datagram = exact_unsigned a.datagram b.datagram (then_first _ (nat_cmp a.submessage b.submessage) h) in
    let f : a.submessage ≡ b.submessage = exact_unsigned a.submessage b.submessage (then_second (nat_cmp a.datagram b.datagram) _ h) in
    ap (λ d. record { datagram = d; submessage = a.submessage }) e ∙ ap (λ s. record { datagram = b.datagram; submessage = s }) f

-- two answers tie where they are of one place and of one rank
tie_passes : (z s : AnswerView) → ties ahead z s ≡ passes z.place z.rank s
tie_passes z s = same_of (ties ahead z s) (passes z.place z.rank s) forth back
  where
    forth : ties ahead z s ≡ true → passes z.place z.rank s ≡ true
    forth h =
        let e = equal_turns (view_turn z) (view_turn s) h in
        let places : z.place ≡ s.place = order_place z.place s.place (then_first _ _ e) in
        let ranks : z.rank ≡ s.rank = same_rank (view_turn z) (view_turn s) e in
        and_from (same_place s.place z.place) (is_of s.rank z.rank) (ap (same_place s.place) places ∙ same_self s.place) (ap (is_of s.rank) ranks ∙ of_itself s.rank)

    back : passes z.place z.rank s ≡ true → ties ahead z s ≡ true
    back h =
        let both = and_parts (same_place s.place z.place) (is_of s.rank z.rank) h in
        let places : s.place ≡ z.place = place_is s.place z.place both.0 in
        let ranks : s.rank ≡ z.rank = of_same s.rank z.rank both.1 in
        let e : view_turn s ≡ view_turn z = ap (λ p. record { place = p; rank = s.rank; kind = kind.Answer }) places ∙ ap (λ r. record { place = z.place; rank = r; kind = kind.Answer }) ranks in
        rw (level (view_turn z) (view_turn s) (view_turn z) refl e, level (view_turn s) (view_turn z) (view_turn z) e refl) refl

and_yes : (a : Bool) → (a && true) ≡ a
and_yes true = refl
and_yes false = refl

none_passes : {X : Type 0} (g : X → AnswerView) (p : Place) (by : Option ℕ) (xs : List X) → ((x : X) → is_of (g x).rank by ≡ false) → filter (passes p by) (map g xs) ≡ []
none_passes g p by [] none = refl
none_passes g p by (x ∷ xs) none = rw (and_right (same_place (g x).place p) (is_of (g x).rank by) (none x)) (none_passes g p by xs none)

said_pass : (p : Place) (ss : List (Place × ReplyView)) → filter (passes p None) (map (answer_by None) ss) ≡ map (answer_by None) (answers_at p ss)
said_pass p ss =
    filter-map (passes p None) (answer_by None) ss
    ∙ ap (map (answer_by None)) (filter_agree (λ s. passes p None (answer_by None s)) (λ s. same_place s.0 p) (λ s. and_yes (same_place s.0 p)) ss)

said_fail : (p : Place) (r : ℕ) (ss : List (Place × ReplyView)) → filter (passes p (Some r)) (map (answer_by None) ss) ≡ []
said_fail p r ss = none_passes (answer_by None) p (Some r) ss (λ s. refl)

sent_pass : (p : Place) (r : ℕ) (ss : List (Place × ReplyView)) → filter (passes p (Some r)) (map (answer_by (Some r)) ss) ≡ map (answer_by (Some r)) (answers_at p ss)
sent_pass p r ss =
    filter-map (passes p (Some r)) (answer_by (Some r)) ss
    ∙ ap (map (answer_by (Some r))) (filter_agree (λ s. passes p (Some r) (answer_by (Some r) s)) (λ s. same_place s.0 p) (λ s. ap (λ b. same_place s.0 p && b) (eq-eqb r r refl) ∙ and_yes (same_place s.0 p)) ss)

sent_fail : (p : Place) (k r : ℕ) (ss : List (Place × ReplyView)) → (k == r) ≡ false → filter (passes p (Some r)) (map (answer_by (Some k)) ss) ≡ []
sent_fail p k r ss differ = none_passes (answer_by (Some k)) p (Some r) ss (λ s. differ)

-- what discovery, or the reader of a rank, sends at a place
abbrev part : List (Place × ReplyView) → (ℕ → List (Place × ReplyView)) → Place → Option ℕ → List AnswerView
part said sent p None = map (answer_by None) (answers_at p said)
part said sent p (Some r) = map (answer_by (Some r)) (answers_at p (sent r))

-- ---- of the outputs, one after the other

views_of : {A : Type 0} (rank : Option ℕ) (ss : List (Place × Reply A)) → map answer_view (map (answer_of rank) ss) ≡ map (answer_by rank) (map reader.answer_view ss)
views_of rank [] = refl
views_of rank (s ∷ ss) = ap (λ l. answer_by rank (reader.answer_view s) ∷ l) (views_of rank ss)

module _ {V A : Type 0} where
  abbrev rest_of : ℕ → List (Output V A) → List AnswerView
  rest_of n os = map answer_view (answers_from (n + 1) os)

  views_from : (n : ℕ) (o : Output V A) (os : List (Output V A)) → map answer_view (answers_from n (o ∷ os)) ≡ map (answer_by (Some n)) (map reader.answer_view o.answers.items) ++ rest_of n os
  views_from n o os =
      map-append answer_view (map (answer_of (Some n)) o.answers.items) (answers_from (n + 1) os)
      ∙ ap (λ l. l ++ rest_of n os) (views_of (Some n) o.answers.items)

  passes_from : (p : Place) (by : Option ℕ) (n : ℕ) (o : Output V A) (os : List (Output V A))
      → filter (passes p by) (map answer_view (answers_from n (o ∷ os))) ≡ filter (passes p by) (map (answer_by (Some n)) (map reader.answer_view o.answers.items)) ++ filter (passes p by) (rest_of n os)
  passes_from p by n o os =
      ap (filter (passes p by)) (views_from n o os)
      ∙ filter-append (passes p by) (map (answer_by (Some n)) (map reader.answer_view o.answers.items)) (rest_of n os)

  outputs_fail : (p : Place) (n : ℕ) (os : List (Output V A)) → filter (passes p None) (map answer_view (answers_from n os)) ≡ []
  outputs_fail p n [] = refl
  outputs_fail p n (o ∷ os) =
      passes_from p None n o os
      ∙ ap (λ l. l ++ filter (passes p None) (rest_of n os)) (none_passes (answer_by (Some n)) p None (map reader.answer_view o.answers.items) (λ s. refl))
      ∙ outputs_fail p (n + 1) os

  outputs_before : (p : Place) (n r : ℕ) (os : List (Output V A)) → r < n → filter (passes p (Some r)) (map answer_view (answers_from n os)) ≡ []
  outputs_before p n r [] less = refl
  outputs_before p n r (o ∷ os) less =
      passes_from p (Some r) n o os
      ∙ ap (λ l. l ++ filter (passes p (Some r)) (rest_of n os)) (sent_fail p n r (map reader.answer_view o.answers.items) (ne_eqb n r (λ e. omega (arith, less, e))))
      ∙ outputs_before p (n + 1) r os (omega (arith, less))

  outputs_pass : (p : Place) (n r k : ℕ) (os : List (Output V A)) → r ≡ n + k → filter (passes p (Some r)) (map answer_view (answers_from n os)) ≡ map (answer_by (Some r)) (answers_at p (sent_in os k))
  outputs_pass p n r k [] is = refl
  outputs_pass p n r zero (o ∷ os) is =
      let first : List (Place × ReplyView) = map reader.answer_view o.answers.items in
      let same : n ≡ r = omega (arith, is) in
      passes_from p (Some r) n o os
      ∙ ap (λ m. filter (passes p (Some r)) (map (answer_by (Some m)) first) ++ filter (passes p (Some r)) (rest_of n os)) same
      ∙ ap (λ l. l ++ filter (passes p (Some r)) (rest_of n os)) (sent_pass p r first)
      ∙ ap (λ l. map (answer_by (Some r)) (answers_at p first) ++ l) (outputs_before p (n + 1) r os (omega (arith, same)))
      ∙ append-nil (map (answer_by (Some r)) (answers_at p first))
  outputs_pass p n r (suc k) (o ∷ os) is =
      passes_from p (Some r) n o os
      ∙ ap (λ l. l ++ filter (passes p (Some r)) (rest_of n os)) (sent_fail p n r (map reader.answer_view o.answers.items) (ne_eqb n r (λ e. omega (arith, is, e))))
      ∙ outputs_pass p (n + 1) r k os (omega (arith, is))

  -- discovery's answers, and then those of the outputs
  unsorted_at : (p : Place) (answers : List (Place × Reply A)) (os : List (Output V A)) (by : Option ℕ)
      → filter (passes p by) (map answer_view (all_answers answers os)) ≡ part (map reader.answer_view answers) (sent_in os) p by
  unsorted_at p answers os by = ap (filter (passes p by)) whole ∙ filter-append (passes p by) (map (answer_by None) said) from ∙ by_rank by
    where
      said : List (Place × ReplyView)
      said = map reader.answer_view answers

      from : List AnswerView
      from = map answer_view (answers_from 0 os)

      whole : map answer_view (all_answers answers os) ≡ map (answer_by None) (map reader.answer_view answers) ++ map answer_view (answers_from 0 os)
      whole = map-append answer_view (map (answer_of None) answers) (answers_from 0 os) ∙ ap (λ l. l ++ map answer_view (answers_from 0 os)) (views_of None answers)

      by_rank : (by : Option ℕ) → filter (passes p by) (map (answer_by None) (map reader.answer_view answers)) ++ filter (passes p by) (map answer_view (answers_from 0 os)) ≡ part (map reader.answer_view answers) (sent_in os) p by
      by_rank None =
          ap (λ l. filter (passes p None) (map (answer_by None) said) ++ l) (outputs_fail p 0 os)
          ∙ append-nil (filter (passes p None) (map (answer_by None) said))
          ∙ said_pass p said
      by_rank (Some r) =
          ap (λ l. l ++ filter (passes p (Some r)) from) (said_fail p r said)
          ∙ outputs_pass p 0 r r os (omega arith)

-- ---- of the parts, place by place

module _ (said : List (Place × ReplyView)) (sent : ℕ → List (Place × ReplyView)) (p : Place) where
  below_fail : (n : ℕ) → filter (passes p None) (below said sent p n) ≡ []
  below_fail zero = refl
  below_fail (suc n) =
      filter-append (passes p None) (below said sent p n) (map (answer_by (Some n)) (answers_at p (sent n)))
      ∙ ap (λ l. l ++ filter (passes p None) (map (answer_by (Some n)) (answers_at p (sent n)))) (below_fail n)
      ∙ none_passes (answer_by (Some n)) p None (answers_at p (sent n)) (λ s. refl)

  at_twice : (ss : List (Place × ReplyView)) → AllByRecursion (λ s. s.0 ≡ p) ss → answers_at p ss ≡ ss
  at_twice [] h = refl
  at_twice (s ∷ ss) h =
      let here : same_place s.0 p ≡ true = ap (λ q. same_place q p) h.0 ∙ same_self p in
      rw here (ap (λ l. s ∷ l) (at_twice ss h.1))

  below_past : (n r : ℕ) → n ≤ r → filter (passes p (Some r)) (below said sent p n) ≡ []
  below_past zero r past = refl
  below_past (suc n) r past =
      filter-append (passes p (Some r)) (below said sent p n) (map (answer_by (Some n)) (answers_at p (sent n)))
      ∙ ap (λ l. l ++ filter (passes p (Some r)) (map (answer_by (Some n)) (answers_at p (sent n)))) (below_past n r (omega (arith, past)))
      ∙ sent_fail p n r (answers_at p (sent n)) (ne_eqb n r (λ e. omega (arith, past, e)))

  below_pass : (n r : ℕ) → r < n → filter (passes p (Some r)) (below said sent p n) ≡ map (answer_by (Some r)) (answers_at p (sent r))
  below_pass zero r less = absurd (omega (arith, less))
  below_pass (suc n) r less = filter-append (passes p (Some r)) (below said sent p n) (map (answer_by (Some n)) (answers_at p (sent n))) ∙ by_test (n == r) refl (λ fewer. below_pass n r fewer)
    where
      last : List AnswerView
      last = map (answer_by (Some n)) (answers_at p (sent n))

      by_test : (b : Bool) → (n == r) ≡ b → (r < n → filter (passes p (Some r)) (below said sent p n) ≡ map (answer_by (Some r)) (answers_at p (sent r)))
          → filter (passes p (Some r)) (below said sent p n) ++ filter (passes p (Some r)) (map (answer_by (Some n)) (answers_at p (sent n))) ≡ map (answer_by (Some r)) (answers_at p (sent r))
      by_test true e rest =
          let same : n ≡ r = eqb-true n r e in
          ap (λ l. l ++ filter (passes p (Some r)) (map (answer_by (Some n)) (answers_at p (sent n)))) (below_past n r (omega (arith, same)))
          ∙ ap (λ k. filter (passes p (Some r)) (map (answer_by (Some k)) (answers_at p (sent k)))) same
          ∙ sent_pass p r (answers_at p (sent r))
          ∙ ap (map (answer_by (Some r))) (at_twice (answers_at p (sent r)) (at_place p (sent r)))
      by_test false e rest =
          let differ : n ≡ r → ⊥ = eqb-false n r e in
          ap (λ l. filter (passes p (Some r)) (below said sent p n) ++ l) (sent_fail p n r (answers_at p (sent n)) e)
          ∙ append-nil (filter (passes p (Some r)) (below said sent p n))
          ∙ rest (omega (arith, less, differ))

  -- where no rank past the count sends anything
  here_pass : (n : ℕ) → ((r : ℕ) → n ≤ r → sent r ≡ []) → (by : Option ℕ) → filter (passes p by) (here said sent p n) ≡ part said sent p by
  here_pass n past None =
      filter-append (passes p None) (map (answer_by None) (answers_at p said)) (below said sent p n)
      ∙ ap (λ l. filter (passes p None) (map (answer_by None) (answers_at p said)) ++ l) (below_fail n)
      ∙ append-nil (filter (passes p None) (map (answer_by None) (answers_at p said)))
      ∙ said_pass p (answers_at p said)
      ∙ ap (map (answer_by None)) (at_twice (answers_at p said) (at_place p said))
  here_pass n past (Some r) =
      filter-append (passes p (Some r)) (map (answer_by None) (answers_at p said)) (below said sent p n)
      ∙ ap (λ l. l ++ filter (passes p (Some r)) (below said sent p n)) (said_fail p r (answers_at p said))
      ∙ by_rank
    where
      by_rank : filter (passes p (Some r)) (below said sent p n) ≡ map (answer_by (Some r)) (answers_at p (sent r))
      by_rank = elim (cases_lt r n) [
        | inl w ↦ below_pass n r w
        | inr w ↦ below_past n r w ∙ ap (λ ss. map (answer_by (Some r)) (answers_at p ss)) (sym (past r w))
      ]

  -- at another place nothing passes
  here_fail : (q : Place) (n : ℕ) (by : Option ℕ) → same_place q p ≡ false → filter (passes p by) (here said sent q n) ≡ []
  here_fail q n by other =
      filter_none (passes p by) (here said sent q n)
      (all_weaker (λ (s : AnswerView). s.place ≡ q) (λ s. passes p by s ≡ false) (here said sent q n)
      (λ s e. ap (λ b. b && is_of s.rank by) (ap (λ r. same_place r p) e ∙ other)) (here_at said sent q n))

  along_fail : (n : ℕ) (by : Option ℕ) (ps : List Place) → list_any (same_place p) ps ≡ false → filter (passes p by) (along said sent n ps) ≡ []
  along_fail n by [] none = refl
  along_fail n by (q ∷ qs) none =
      let parts = or_parts (same_place p q) (list_any (same_place p) qs) none in
      filter-append (passes p by) (here said sent q n) (along said sent n qs)
      ∙ ap (λ l. l ++ filter (passes p by) (along said sent n qs)) (here_fail q n by (same_back p q parts.0))
      ∙ along_fail n by qs parts.1

  along_pass : (n : ℕ) (by : Option ℕ) (ps : List Place) → AreRising ps → list_any (same_place p) ps ≡ true → filter (passes p by) (along said sent n ps) ≡ filter (passes p by) (here said sent p n)
  along_pass n by [] up some = absurd (true≢false (sym some))
  along_pass n by (q ∷ qs) up some =
      filter-append (passes p by) (here said sent q n) (along said sent n qs)
      ∙ by_test (same_place p q) refl some (λ rest. along_pass n by qs up.1 rest)
    where
      by_test : (b : Bool) → same_place p q ≡ b → (b || list_any (same_place p) qs) ≡ true
          → (list_any (same_place p) qs ≡ true → filter (passes p by) (along said sent n qs) ≡ filter (passes p by) (here said sent p n))
          → filter (passes p by) (here said sent q n) ++ filter (passes p by) (along said sent n qs) ≡ filter (passes p by) (here said sent p n)
      by_test true e some rest =
          let same : p ≡ q = place_is p q e in
          ap (λ r. filter (passes p by) (here said sent r n) ++ filter (passes p by) (along said sent n qs)) (sym same)
          ∙ ap (λ l. filter (passes p by) (here said sent p n) ++ l)
          (filter_none (passes p by) (along said sent n qs)
          (all_weaker (λ (s : AnswerView). not_after s.place q ≡ false) (λ s. passes p by s ≡ false) (along said sent n qs)
          (λ s l. ap (λ b. b && is_of s.rank by) (not_later p s.place (ap (not_after s.place) same ∙ l))) (along_later said sent n q qs up.0)))
          ∙ append-nil (filter (passes p by) (here said sent p n))
      by_test false e some rest = ap (λ l. l ++ filter (passes p by) (along said sent n qs)) (here_fail q n by (same_back p q e)) ∙ rest some

-- ---- answers in order

-- what isn't at a place among these isn't there
not_there : (p : Place) (places : List Place) (ss : List (Place × ReplyView)) → AllByRecursion (λ s. list_any (same_place s.0) places ≡ true) ss → list_any (same_place p) places ≡ false → answers_at p ss ≡ []
not_there p places [] stand none = refl
not_there p places (s ∷ ss) stand none = by_test (same_place s.0 p) refl (not_there p places ss stand.1 none)
  where
    by_test : (b : Bool) → same_place s.0 p ≡ b → answers_at p ss ≡ [] → (if b then s ∷ answers_at p ss else answers_at p ss) ≡ []
    by_test true e rest = absurd (true≢false (sym stand.0 ∙ ap (λ q. list_any (same_place q) places) (place_is s.0 p e) ∙ none))
    by_test false e rest = rest

-- the answers of an outcome of these answers and outputs are those of the parts, merged
pub sorted_merged : {V A : Type 0} (answers : List (Place × Reply A)) (os : List (Output V A)) (places : List Place) (outcome : Outcome V A) → IsOutcomeOf answers os outcome
    → AreRising places → StandAmong places (map reader.answer_view answers) → ((rank : ℕ) → StandAmong places (sent_in os rank))
    → map answer_view outcome.answers.items ≡ along (map reader.answer_view answers) (sent_in os) (length os) places
sorted_merged {V} {A} answers os places outcome has up stand stands =
    one_order ahead ahead_weak (map answer_view new) (along said (sent_in os) n places)
    (rises_map by_turn ahead answer_view (λ a b. refl) new (rises_sorted by_turn (ranks_by turns_total answer_turn) new has.sorted))
    (along_rises said (sent_in os) n places up) (λ z. same z)
  where
    by_turn : Answer A → Answer A → Bool
    by_turn a b = is_lt (turn_order (answer_turn a) (answer_turn b))

    old : List (Answer A)
    old = all_answers answers os

    new : List (Answer A)
    new = outcome.answers.items

    said : List (Place × ReplyView)
    said = map reader.answer_view answers

    n : ℕ
    n = length os

    absent : (p : Place) (by : Option ℕ) → list_any (same_place p) places ≡ false → part said (sent_in os) p by ≡ []
    absent p None none = ap (map (answer_by None)) (not_there p places said (recursion_from_All (λ s. list_any (same_place s.0) places ≡ true) said stand) none)
    absent p (Some r) none = ap (map (answer_by (Some r))) (not_there p places (sent_in os r) (recursion_from_All (λ s. list_any (same_place s.0) places ≡ true) (sent_in os r) (stands r)) none)

    merged_at : (p : Place) (by : Option ℕ) (b : Bool) → list_any (same_place p) places ≡ b → filter (passes p by) (along said (sent_in os) n places) ≡ part said (sent_in os) p by
    merged_at p by true some = along_pass said (sent_in os) p n by places up some ∙ here_pass said (sent_in os) p n (sent_past os) by
    merged_at p by false none = along_fail said (sent_in os) p n by places none ∙ sym (absent p by none)

    same : (z : AnswerView) → filter (ties ahead z) (map answer_view new) ≡ filter (ties ahead z) (along said (sent_in os) n places)
    same z =
        filter-map (ties ahead z) answer_view new
        ∙ ap (map answer_view) (stable_by by_turn old new has.stable (λ a. ties ahead z (answer_view a))
        (λ a b tie. alike_turns (view_turn z) (answer_turn a) (answer_turn b) (equal_turns (view_turn z) (answer_turn a) tie)))
        ∙ sym (filter-map (ties ahead z) answer_view old)
        ∙ filter_agree (ties ahead z) (passes z.place z.rank) (tie_passes z) (map answer_view old)
        ∙ unsorted_at z.place answers os z.rank
        ∙ sym (merged_at z.place z.rank (list_any (same_place z.place) places) refl)
        ∙ sym (filter_agree (ties ahead z) (passes z.place z.rank) (tie_passes z) (along said (sent_in os) n places))
