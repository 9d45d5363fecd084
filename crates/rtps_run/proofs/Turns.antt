-- Turns are totally ordered, and what a run puts out comes by turn.
use Rattle.std.proofs.Common.{◌≡◌, ℕ, zero, suc, ◌<◌, ◌≤◌, List, [], ◌∷◌, ◌++◌, Bool, true, false, if◌then◌else◌, nat_lt, ◌==◌, ◌&&◌, not, Option, Some, None, refl, sym, ap, ◌∙◌, arith, append-nil, append_assoc, filter, length, map, subst, true≢false}
use Rattle.std.specs.List.{AllByRecursion}
use Rattle.std.specs.Cmp.{IsStrictWeakOrder, IsTotalOrder}
use Rattle.std.specs.Cmp.Lexicographic.{options_total}
use Rattle.std.specs.Option.{option_cmp}
use Rattle.std.specs.Ordering.{is_lt, nat_cmp, ordering_reverse, ordering_then}
use Rattle.std.specs.declared.cmp.Ordering.{Ordering}
use Rattle.std.specs.declared.cmp.Ordering.TheVariants.{Less, Equal, Greater}
use Rattle.std.proofs.lemmas.Bool.Decides.{nat_tests}
use Rattle.std.proofs.lemmas.Cmp.{alike_right, nat_cmp_total, on_total, then_total, tied_itself}
use Rattle.std.proofs.lemmas.List.Sorted.{ranks_by}
use Rattle.std.proofs.lemmas.Map.Lookups.{exact_unsigned}
use Rattle.rtps_types.specs.declared.identity.Guid.{Guid}
use Rattle.rtps_types.specs.declared.place.Place.{Place}
use Rattle.rtps_types.specs.Place.{place_order}
use Rattle.rtps_discovery.specs.Addressed.{is_addressed, is_discovery}
use Rattle.rtps_types.specs.MatchChange.{MatchChange, Matches, Unmatches, Refuses}
use Rattle.rtps_discovery.specs.Changes.{ChangeAt, changes}
use Rattle.rtps_discovery.specs.Joining.{joined, without_fixed, without_reader}
use Rattle.rtps_discovery.specs.Known.{Known, Wish, is_matched, moved, passed, reader_at}
use Rattle.rtps_discovery.specs.Records.{answered, changes_by}
use Rattle.dds_topic.specs.Decoding.{Decoding}
use Rattle.rtps_proxy.specs.Change.{ChangeView}
use Rattle.rtps_proxy.specs.History.{MatchEvent}
use Rattle.rtps_proxy.specs.Matches.{Match, match_with}
use Rattle.rtps_proxy.specs.Replies.{ReplyView}
use Rattle.rtps_reader.specs.declared.notice.Notice.{Notice}
use Rattle.rtps_reader.specs.declared.notice.NoticeKind.TheVariants as notice
use Rattle.rtps_reader.specs.Reader.{Reader, answer_at, loses, lost_at, placed, presented, reader_after, ready_at, sends, sent_of, tells, told_of}
use Rattle.rtps_reader.specs.Step.{StepView, Takes, Changes, Starts, Stops, asks_of}
use Rattle.rtps_run.specs.declared.outcome.Report.{Report}
use Rattle.rtps_run.specs.declared.outcome.Report.TheVariants as report
use Rattle.rtps_run.specs.declared.turn.ReportKind.{ReportKind}
use Rattle.rtps_run.specs.declared.turn.ReportKind.TheVariants as kind
use Rattle.rtps_run.specs.declared.turn.Turn.{Turn}
use Rattle.rtps_run.specs.Occurrence.{Occurrence, Passes, Came, Joins, Parts as Goes, head_of, place_of}
use Rattle.rtps_run.specs.Outcome.{report_view}
use Rattle.rtps_run.specs.Presentation.{not_after}
use Rattle.rtps_run.specs.Rising.{OccurrencesRise}
use Rattle.rtps_run.specs.Run.{world_run}
use Rattle.rtps_run.specs.Seen.{notices_by, reader_count}
use Rattle.rtps_run.specs.Turn.{kind_order, turn_of, turn_order}
use Rattle.rtps_run.specs.World.{ReportView, NoticeOf, AnswerOf, World, addressed_to, changes_for, count_after, discovery_puts, doings, is_reliable, puts_at, puts_below, puts_run, sent_by, world_after}
use Rattle.rtps_run.proofs.Counting.{no_fewer_run, no_more}
use Rattle.rtps_run.proofs.Dealt.{notices_by-append}
use Rattle.rtps_run.proofs.Matched.{heard_then, none_below}
use Rattle.rtps_run.proofs.OneOrder.{Rises, rises_then}
use Rattle.rtps_run.proofs.Places.{all_append, all_weaker}

kinds_flip : (a b : ReportKind) → kind_order a b ≡ ordering_reverse (kind_order b a)
kinds_flip kind.Notice kind.Notice = refl
kinds_flip kind.Notice kind.Answer = refl
kinds_flip kind.Answer kind.Notice = refl
kinds_flip kind.Answer kind.Answer = refl

kinds_trans : (a b c : ReportKind) → kind_order a b ≡ Less → kind_order b c ≡ Less → kind_order a c ≡ Less
kinds_trans kind.Notice b kind.Answer h k = refl
kinds_trans kind.Notice kind.Notice kind.Notice h k = h
kinds_trans kind.Notice kind.Answer kind.Notice h k = absurd (true≢false (sym (ap is_lt k)))
kinds_trans kind.Answer kind.Notice c h k = absurd (true≢false (sym (ap is_lt h)))
kinds_trans kind.Answer kind.Answer c h k = absurd (true≢false (sym (ap is_lt h)))

kinds_alike : (a b c : ReportKind) → kind_order a b ≡ Equal → kind_order a c ≡ kind_order b c
kinds_alike kind.Notice kind.Notice c h = refl
kinds_alike kind.Notice kind.Answer c h = absurd cc
kinds_alike kind.Answer kind.Notice c h = absurd cc
kinds_alike kind.Answer kind.Answer c h = refl

kinds_total : IsTotalOrder kind_order
kinds_total = record { antisymm = kinds_flip; trans = kinds_trans; congr = kinds_alike }

pub places_total : IsTotalOrder place_order
places_total = then_total (on_total (λ (p : Place). p.datagram) nat_cmp_total) (on_total (λ (p : Place). p.submessage) nat_cmp_total)

pub turns_total : IsTotalOrder turn_order
turns_total =
    then_total (on_total (λ (t : Turn). t.place) places_total)
    (then_total (on_total (λ (t : Turn). t.rank) (options_total nat_cmp_total)) (on_total (λ (t : Turn). t.kind) kinds_total))

-- the turn of what is put out
abbrev pub put_turn : {M : Type 0} → ReportView M → Turn
put_turn (NoticeOf rank n) = record { place = n.place; rank = Some rank; kind = kind.Notice }
put_turn (AnswerOf s) = record { place = s.place; rank = s.rank; kind = kind.Answer }

abbrev pub before : {M : Type 0} → ReportView M → ReportView M → Bool
before a b = is_lt (turn_order (put_turn a) (put_turn b))

pub weak : {M : Type 0} → IsStrictWeakOrder (before {M = M})
weak = ranks_by turns_total put_turn

pub view_turn : {V M A : Type 0} (f : V → M) (r : Report V A) → put_turn (report_view f r) ≡ turn_of r
view_turn f (report.Notice rank n) = refl
view_turn f (report.Answer a) = refl

not_less : (o : Ordering) → is_lt o ≡ false → is_lt (ordering_reverse o) ≡ false → o ≡ Equal
not_less Less a b = absurd (true≢false a)
not_less Equal a b = refl
not_less Greater a b = absurd (true≢false b)

both_not : (a b : Bool) → (not a && not b) ≡ true → (a ≡ false) × (b ≡ false)
both_not true b h = absurd (true≢false (sym h))
both_not false true h = absurd (true≢false (sym h))
both_not false false h = (refl, refl)

-- two turns of which neither comes before the other are equal by the order
pub equal_turns : (a b : Turn) → (not (is_lt (turn_order a b)) && not (is_lt (turn_order b a))) ≡ true → turn_order a b ≡ Equal
equal_turns a b h =
    let two = both_not (is_lt (turn_order a b)) (is_lt (turn_order b a)) h in
    not_less (turn_order a b) two.0 (ap is_lt (sym (turns_total.antisymm b a)) ∙ two.1)

pub alike_turns : (a b c : Turn) → turn_order a b ≡ Equal → (not (is_lt (turn_order b c)) && not (is_lt (turn_order c b))) ≡ (not (is_lt (turn_order a c)) && not (is_lt (turn_order c a)))
alike_turns a b c e = rw (turns_total.congr a b c e, alike_right turns_total a b c e) refl

pub then_first : (o p : Ordering) → ordering_then o p ≡ Equal → o ≡ Equal
then_first Less p h = absurd cc
then_first Equal p h = refl
then_first Greater p h = absurd cc

pub then_second : (o p : Ordering) → ordering_then o p ≡ Equal → p ≡ Equal
then_second Less p h = absurd cc
then_second Equal p h = h
then_second Greater p h = absurd cc

ranks_same : (a b : Option ℕ) → option_cmp nat_cmp a b ≡ Equal → a ≡ b
ranks_same None None h = refl
ranks_same None (Some b) h = absurd cc
ranks_same (Some a) None h = absurd cc
ranks_same (Some a) (Some b) h = ap Some (exact_unsigned a b h)

kinds_same : (a b : ReportKind) → kind_order a b ≡ Equal → a ≡ b
kinds_same kind.Notice kind.Notice h = refl
kinds_same kind.Notice kind.Answer h = absurd cc
kinds_same kind.Answer kind.Notice h = absurd cc
kinds_same kind.Answer kind.Answer h = refl

pub same_rank : (a b : Turn) → turn_order a b ≡ Equal → a.rank ≡ b.rank
same_rank a b h = ranks_same a.rank b.rank (then_first _ (kind_order a.kind b.kind) (then_second (place_order a.place b.place) _ h))

pub same_kind : (a b : Turn) → turn_order a b ≡ Equal → a.kind ≡ b.kind
same_kind a b h = kinds_same a.kind b.kind (then_second (option_cmp nat_cmp a.rank b.rank) _ (then_second (place_order a.place b.place) _ h))

-- an earlier place comes first
pub later_place : (a b : Place) → not_after b a ≡ false → place_order b a ≡ Greater
later_place a b h = by_test (nat_lt b.datagram a.datagram) (b.datagram == a.datagram) (nat_lt b.submessage a.submessage) (b.submessage == a.submessage) refl refl refl refl
  where
    by_test : (dl de sl se : Bool) → nat_lt b.datagram a.datagram ≡ dl → (b.datagram == a.datagram) ≡ de → nat_lt b.submessage a.submessage ≡ sl → (b.submessage == a.submessage) ≡ se
        → ordering_then (if dl then Less else (if de then Equal else Greater)) (if sl then Less else (if se then Equal else Greater)) ≡ Greater
    by_test true de sl se i j k l = absurd (grind (arith, nat_tests))
    by_test false false sl se i j k l = refl
    by_test false true true se i j k l = absurd (grind (arith, nat_tests))
    by_test false true false true i j k l = absurd (grind (arith, nat_tests))
    by_test false true false false i j k l = refl

later : {M : Type 0} (x y : ReportView M) (place : Place) → (put_turn x).place ≡ place → not_after (put_turn y).place place ≡ false → before y x ≡ false
later x y place is h = rw (later_place (put_turn x).place (put_turn y).place (ap (not_after (put_turn y).place) is ∙ h)) refl

pub level : (a b t : Turn) → a ≡ t → b ≡ t → is_lt (turn_order a b) ≡ false
level a b t e f = rw (e, f) (ap is_lt (tied_itself turns_total t))

rises_level : {M : Type 0} (t : Turn) (xs : List (ReportView M)) → AllByRecursion (λ p. put_turn p ≡ t) xs → Rises before xs
rises_level t [] h = tt
rises_level t (x ∷ xs) h = (all_weaker (λ p. put_turn p ≡ t) (λ y. before y x ≡ false) xs (λ y e. level (put_turn y) (put_turn x) t e h.0) h.1, rises_level t xs h.1)

abbrev pub turn_at : Place → ℕ → ReportKind → Turn
turn_at place rank k = record { place = place; rank = Some rank; kind = k }

-- what a reader puts out at an occurrence has its place
loses_at : (M : Type 0) (place : Place) (w : Guid) (count : ℕ) → AllByRecursion (λ (n : Notice M). n.place ≡ place) (loses place w count)
loses_at M place w count = by_test (count == 0)
  where
    by_test : (b : Bool) → AllByRecursion (λ (n : Notice M). n.place ≡ place) (if b then [] else record { place = place; writer = w; what = notice.Lost count } ∷ [])
    by_test true = tt
    by_test false = (refl, tt)

presented_at : {M : Type 0} (d : Decoding M) (place : Place) (w : Guid) (ss : List ChangeView) → AllByRecursion (λ (n : Notice M). n.place ≡ place) (map (presented d place w) ss)
presented_at d place w [] = tt
presented_at d place w (s ∷ ss) = (refl, presented_at d place w ss)

told_at : {M : Type 0} (d : Decoding M) (place : Place) (w : Guid) (e : MatchEvent) (m : Option Match) → AllByRecursion (λ (n : Notice M). n.place ≡ place) (told_of d place w e m)
told_at d place w e None = tt
told_at {M} d place w e (Some m) = all_append (λ n. n.place ≡ place) (loses place w (lost_at m e)) (map (presented d place w) (ready_at m e)) (loses_at M place w (lost_at m e)) (presented_at d place w (ready_at m e))

pub tells_at : {M : Type 0} (d : Decoding M) (r : Reader) (place : Place) (asks : StepView) → AllByRecursion (λ (n : Notice M). n.place ≡ place) (tells d r place asks)
tells_at d r place (Takes w e) = told_at d place w e (match_with w r.matches)
tells_at d r place (Changes (Matches w locators)) = (refl, tt)
tells_at d r place (Changes (Unmatches w)) = (refl, tt)
tells_at d r place (Changes (Refuses w policy)) = (refl, tt)
tells_at d r place (Starts own entity reliable) = tt
tells_at d r place Stops = tt

placed_at : (place : Place) (o : Option ReplyView) → AllByRecursion (λ (s : Place × ReplyView). s.0 ≡ place) (placed place o)
placed_at place None = tt
placed_at place (Some s) = (refl, tt)

sent_at : (place : Place) (e : MatchEvent) (m : Option Match) → AllByRecursion (λ (s : Place × ReplyView). s.0 ≡ place) (sent_of place e m)
sent_at place e None = tt
sent_at place e (Some m) = placed_at place (answer_at m e)

pub sends_at : (r : Reader) (place : Place) (asks : StepView) → AllByRecursion (λ (s : Place × ReplyView). s.0 ≡ place) (sends r place asks)
sends_at r place (Takes w e) = sent_at place e (match_with w r.matches)
sends_at r place (Changes (Matches w locators)) = tt
sends_at r place (Changes (Unmatches w)) = tt
sends_at r place (Changes (Refuses w policy)) = tt
sends_at r place (Starts own entity reliable) = tt
sends_at r place Stops = tt

hears_turn : {M : Type 0} (place : Place) (rank : ℕ) (ns : List (Notice M)) → AllByRecursion (λ n. n.place ≡ place) ns → AllByRecursion (λ p. put_turn p ≡ turn_at place rank kind.Notice) (map (NoticeOf rank) ns)
hears_turn place rank [] h = tt
hears_turn place rank (n ∷ ns) h = (ap (λ l. turn_at l rank kind.Notice) h.0, hears_turn place rank ns h.1)

sends_turn : (M : Type 0) (place : Place) (rank : ℕ) (ss : List (Place × ReplyView)) → AllByRecursion (λ s. s.0 ≡ place) ss → AllByRecursion (λ (p : ReportView M). put_turn p ≡ turn_at place rank kind.Answer) (map (sent_by (Some rank)) ss)
sends_turn M place rank [] h = tt
sends_turn M place rank (s ∷ ss) h = (ap (λ l. turn_at l rank kind.Answer) h.0, sends_turn M place rank ss h.1)

answer_last : (place : Place) (rank : ℕ) → is_lt (turn_order (turn_at place rank kind.Answer) (turn_at place rank kind.Notice)) ≡ false
answer_last place rank = rw (tied_itself places_total place, tied_itself nat_cmp_total rank) refl

-- what the reader of a rank puts out at an occurrence
record IsAt {M : Type 0} (at : Place) (own : ℕ) (p : ReportView M) : Type 0 where
  place : (put_turn p).place ≡ at
  rank : (put_turn p).rank ≡ Some own

of_turn : {M : Type 0} (at : Place) (rank : ℕ) (k : ReportKind) (p : ReportView M) → put_turn p ≡ turn_at at rank k → IsAt at rank p
of_turn at rank k p e = record { place = ap (λ (t : Turn). t.place) e; rank = ap (λ (t : Turn). t.rank) e }

module _ {M : Type 0} (d : Decoding M) (place : Place) (rank : ℕ) where
  abbrev Notices : List (ReportView M) → Type 0
  Notices = AllByRecursion (λ (p : ReportView M). put_turn p ≡ turn_at place rank kind.Notice)

  step_told : (r : Reader) (a : StepView) → Notices (map (NoticeOf rank) (tells d r place a))
  step_told r a = hears_turn place rank (tells d r place a) (tells_at d r place a)

  step_sent : (r : Reader) (a : StepView) → AllByRecursion (λ (p : ReportView M). put_turn p ≡ turn_at place rank kind.Answer) (map (sent_by (Some rank)) (sends r place a))
  step_sent r a = sends_turn M place rank (sends r place a) (sends_at r place a)

  -- at one step, and at one after the other
  step_at : (r : Reader) (a : StepView) → AllByRecursion (IsAt place rank) (puts_at d place rank r a)
  step_at r a =
      all_append (IsAt place rank) (map (NoticeOf rank) (tells d r place a)) (map (sent_by (Some rank)) (sends r place a))
      (all_weaker (λ p. put_turn p ≡ turn_at place rank kind.Notice) (IsAt place rank) _ (of_turn place rank kind.Notice) (step_told r a))
      (all_weaker (λ p. put_turn p ≡ turn_at place rank kind.Answer) (IsAt place rank) _ (of_turn place rank kind.Answer) (step_sent r a))

  steps_at : (r : Reader) (doings : List StepView) → AllByRecursion (IsAt place rank) (puts_run d place rank r doings)
  steps_at r [] = tt
  steps_at r (a ∷ rest) = all_append (IsAt place rank) (puts_at d place rank r a) (puts_run d place rank (reader_after r a) rest) (step_at r a) (steps_at (reader_after r a) rest)

  -- at one step the notices come first
  step_rises : (r : Reader) (a : StepView) → Rises before (puts_at d place rank r a)
  step_rises r a =
      rises_then before (λ p. put_turn p ≡ turn_at place rank kind.Notice) (λ p. put_turn p ≡ turn_at place rank kind.Answer)
      (λ x y p q. ap is_lt (ap (λ t. turn_order t (put_turn x)) q ∙ ap (turn_order (turn_at place rank kind.Answer)) p) ∙ answer_last place rank)
      (map (NoticeOf rank) (tells d r place a)) (map (sent_by (Some rank)) (sends r place a)) (step_told r a) (step_sent r a)
      (rises_level (turn_at place rank kind.Notice) _ (step_told r a)) (rises_level (turn_at place rank kind.Answer) _ (step_sent r a))

  -- a match that begins, ends or is refused is not answered
  pub no_answer : (r : Reader) (b : MatchChange) → sends r place (Changes b) ≡ []
  no_answer r (Matches w locators) = refl
  no_answer r (Unmatches w) = refl
  no_answer r (Refuses w policy) = refl

  -- so changes of what is known bring notices alone, also where the reader stops after them
  abbrev heard : List ChangeAt → List StepView
  heard cs = map (λ (c : ChangeAt). Changes c.what) cs

  changes_told : (r : Reader) (cs : List ChangeAt) (last : List StepView) → ((s : Reader) → Notices (puts_run d place rank s last)) → Notices (puts_run d place rank r (heard cs ++ last))
  changes_told r [] last quiet = quiet r
  changes_told r (c ∷ cs) last quiet =
      all_append (λ p. put_turn p ≡ turn_at place rank kind.Notice) (puts_at d place rank r (Changes c.what)) (puts_run d place rank (reader_after r (Changes c.what)) (heard cs ++ last))
      (subst (λ (ss : List (Place × ReplyView)). Notices (map (NoticeOf rank) (tells d r place (Changes c.what)) ++ map (sent_by (Some rank)) ss)) (sym (no_answer r c.what))
      (subst Notices (sym (append-nil (map (NoticeOf rank) (tells d r place (Changes c.what))))) (step_told r (Changes c.what))))
      (changes_told (reader_after r (Changes c.what)) cs last quiet)

  -- by turn
  changes_rise : (r : Reader) (cs : List ChangeAt) → Rises (before {M = M}) (puts_run d place rank r (heard cs))
  changes_rise r cs =
      subst (λ ds. Rises (before {M = M}) (puts_run d place rank r ds)) (append-nil (heard cs))
      (rises_level (turn_at place rank kind.Notice) _ (changes_told r cs [] (λ s. tt)))

  ends_rise : (r : Reader) (cs : List ChangeAt) (b : Bool) → Rises (before {M = M}) (puts_run d place rank r (heard cs ++ (if b then Stops ∷ [] else [])))
  ends_rise r cs true = rises_level (turn_at place rank kind.Notice) _ (changes_told r cs (Stops ∷ []) (λ s. tt))
  ends_rise r cs false = rises_level (turn_at place rank kind.Notice) _ (changes_told r cs [] (λ s. tt))

-- what a reader puts out at an occurrence comes by turn: its notices, and then its answer
reader_rises : {M : Type 0} (d : Decoding M) (k : Known) (rank : ℕ) (r : Reader) (o : Occurrence) → Rises (before {M = M}) (puts_run d (place_of o) rank r (doings k rank o))
reader_rises {M} d k rank r (Passes index moment) = changes_rise d (head_of index) rank r (filter (λ (c : ChangeAt). c.rank == rank) (changes (moved moment k) (passed moment k)))
reader_rises {M} d k rank r (Joins index wish) = by_new (rank == length k.readers)
  where
    cs : List ChangeAt
    cs = filter (λ (c : ChangeAt). c.rank == rank) (changes (without_fixed (length k.readers) k) (joined wish k))

    start : StepView
    start = Starts k.own wish.entity (is_reliable wish.policies.reliability)

    by_new : (b : Bool) → Rises (before {M = M}) (puts_run d (head_of index) rank r ((if b then start ∷ [] else []) ++ map (λ (c : ChangeAt). Changes c.what) cs))
    by_new true = changes_rise d (head_of index) rank (reader_after r start) cs
    by_new false = changes_rise d (head_of index) rank r cs
reader_rises {M} d k rank r (Goes index gone) = ends_rise d (head_of index) rank r (filter (λ (c : ChangeAt). c.rank == rank) (changes k (without_reader gone k))) (rank == gone)
reader_rises {M} d k rank r (Came e) = by_kind (is_discovery e.writer)
  where
    by_test : (b : Bool) → Rises (before {M = M}) (puts_run d e.place rank r (if b then asks_of e ∷ [] else []))
    by_test true = subst (Rises before) (sym (append-nil (puts_at d e.place rank r (asks_of e)))) (step_rises d e.place rank r (asks_of e))
    by_test false = tt

    by_wish : (o : Option Wish) → Rises (before {M = M}) (puts_run d e.place rank r (addressed_to k rank e o))
    by_wish None = tt
    by_wish (Some wish) = by_test (is_addressed (is_matched k rank) wish.entity e)

    by_kind : (b : Bool) → Rises (before {M = M}) (puts_run d e.place rank r (if b then changes_for rank (changes_by k e) else addressed_to k rank e (reader_at k.readers rank)))
    by_kind true = changes_rise d e.place rank r (filter (λ (c : ChangeAt). c.rank == rank) (changes_by k e))
    by_kind false = by_wish (reader_at k.readers rank)

-- what the readers of the ranks below a count put out at an occurrence
record IsBelow {M : Type 0} (at : Place) (count : ℕ) (p : ReportView M) : Type 0 where
  place : (put_turn p).place ≡ at
  rank : ℕ
  is : (put_turn p).rank ≡ Some rank
  below : rank < count

below_at : {M : Type 0} (d : Decoding M) (k : Known) (o : Occurrence) (readers : ℕ → Reader) (n : ℕ) → AllByRecursion (IsBelow (place_of o) n) (puts_below d k o readers n)
below_at d k o readers zero = tt
below_at d k o readers (suc n) =
    all_append (IsBelow (place_of o) (suc n)) (puts_below d k o readers n) (puts_run d (place_of o) n (readers n) (doings k n o))
    (all_weaker (IsBelow (place_of o) n) (IsBelow (place_of o) (suc n)) _ (λ p b. record { place = b.place; rank = b.rank; is = b.is; below = omega (arith, b.below) }) (below_at d k o readers n))
    (all_weaker (IsAt (place_of o) n) (IsBelow (place_of o) (suc n)) _ (λ p b. record { place = b.place; rank = n; is = b.rank; below = omega arith }) (steps_at d (place_of o) n (readers n) (doings k n o)))

higher : (r k : ℕ) → r < k → nat_cmp k r ≡ Greater
higher r k h =
    let less : nat_lt k r ≡ false = grind (arith, nat_tests) in
    let same : (k == r) ≡ false = grind (arith, nat_tests) in
    rw (less, same) refl

pub lower_first : (a b : Turn) (place : Place) (r k : ℕ) → a.place ≡ place → a.rank ≡ Some r → b.place ≡ place → b.rank ≡ Some k → r < k → is_lt (turn_order b a) ≡ false
lower_first a b place r k ap1 ar bp br less = rw (ap1, ar, bp, br, tied_itself places_total place, higher r k less) refl

below_rises : {M : Type 0} (d : Decoding M) (k : Known) (o : Occurrence) (readers : ℕ → Reader) (n : ℕ) → Rises (before {M = M}) (puts_below d k o readers n)
below_rises d k o readers zero = tt
below_rises d k o readers (suc n) =
    rises_then before (IsBelow (place_of o) n) (IsAt (place_of o) n) (λ x y p q. lower_first (put_turn x) (put_turn y) (place_of o) p.rank n p.place p.is q.place q.rank p.below)
    (puts_below d k o readers n) (puts_run d (place_of o) n (readers n) (doings k n o)) (below_at d k o readers n) (steps_at d (place_of o) n (readers n) (doings k n o))
    (below_rises d k o readers n) (reader_rises d k n (readers n) o)

-- discovery's answer has no rank
abbrev pub discovery_turn : Place → Turn
discovery_turn place = record { place = place; rank = None; kind = kind.Answer }

answer_turn : (M : Type 0) (k : Known) (o : Occurrence) → AllByRecursion (λ (p : ReportView M). put_turn p ≡ discovery_turn (place_of o)) (discovery_puts k o)
answer_turn M k (Passes index moment) = tt
answer_turn M k (Joins index r) = tt
answer_turn M k (Goes index gone) = tt
answer_turn M k (Came e) = by_test (is_discovery e.writer)
  where
    by_answer : (o : Option ReplyView) → AllByRecursion (λ (p : ReportView M). put_turn p ≡ discovery_turn e.place) (map (sent_by None) (placed e.place o))
    by_answer None = tt
    by_answer (Some s) = (refl, tt)

    by_test : (b : Bool) → AllByRecursion (λ (p : ReportView M). put_turn p ≡ discovery_turn e.place) (if b then map (sent_by None) (placed e.place (answered k e)) else [])
    by_test true = by_answer (answered k e)
    by_test false = tt

-- so it comes before all that readers put out at its place
pub discovery_first : (a b : Turn) (place : Place) (r : ℕ) → a ≡ discovery_turn place → b.place ≡ place → b.rank ≡ Some r → is_lt (turn_order b a) ≡ false
discovery_first a b place r is bp br = rw (is, bp, br, tied_itself places_total place) refl

-- what is put out at an occurrence
abbrev puts_then : {M : Type 0} → Decoding M → World M → Occurrence → List (ReportView M)
puts_then d w o = discovery_puts w.known o ++ puts_below d w.known o w.readers (count_after w o)

occurrence_at : {M : Type 0} (d : Decoding M) (w : World M) (o : Occurrence) → AllByRecursion (λ (p : ReportView M). (put_turn p).place ≡ place_of o) (puts_then d w o)
occurrence_at {M} d w o =
    all_append (λ p. (put_turn p).place ≡ place_of o) (discovery_puts w.known o) (puts_below d w.known o w.readers (count_after w o))
    (all_weaker (λ p. put_turn p ≡ discovery_turn (place_of o)) (λ p. (put_turn p).place ≡ place_of o) _ (λ p is. ap (λ (t : Turn). t.place) is) (answer_turn M w.known o))
    (all_weaker (IsBelow (place_of o) (count_after w o)) (λ p. (put_turn p).place ≡ place_of o) _ (λ p b. b.place) (below_at d w.known o w.readers (count_after w o)))

occurrence_rises : {M : Type 0} (d : Decoding M) (w : World M) (o : Occurrence) → Rises (before {M = M}) (puts_then d w o)
occurrence_rises {M} d w o =
    rises_then before (λ p. put_turn p ≡ discovery_turn (place_of o)) (IsBelow (place_of o) (count_after w o)) (λ x y p q. discovery_first (put_turn x) (put_turn y) (place_of o) q.rank p q.place q.is)
    (discovery_puts w.known o) (puts_below d w.known o w.readers (count_after w o)) (answer_turn M w.known o) (below_at d w.known o w.readers (count_after w o))
    (rises_level (discovery_turn (place_of o)) _ (answer_turn M w.known o)) (below_rises d w.known o w.readers (count_after w o))

-- what is put out at occurrences, one after another
abbrev pub run_puts : {M : Type 0} → Decoding M → World M → List Occurrence → List (ReportView M)
run_puts d w [] = []
run_puts d w (o ∷ os) = puts_then d w o ++ run_puts d (world_after d w o) os

pub put_all : {M : Type 0} (d : Decoding M) (w : World M) (os : List Occurrence) → (world_run d w os).put ≡ w.put ++ run_puts d w os
put_all d w [] = sym (append-nil w.put)
put_all d w (o ∷ os) = put_all d (world_after d w o) os ∙ append_assoc w.put (puts_then d w o) (run_puts d (world_after d w o) os)

run_later : {M : Type 0} (d : Decoding M) (w : World M) (place : Place) (os : List Occurrence) → AllByRecursion (λ (o : Occurrence). not_after (place_of o) place ≡ false) os
    → AllByRecursion (λ p. not_after (put_turn p).place place ≡ false) (run_puts d w os)
run_later d w place [] h = tt
run_later d w place (o ∷ os) h =
    all_append (λ p. not_after (put_turn p).place place ≡ false) (puts_then d w o) (run_puts d (world_after d w o) os)
    (all_weaker (λ p. (put_turn p).place ≡ place_of o) (λ p. not_after (put_turn p).place place ≡ false) _ (λ p is. ap (λ l. not_after l place) is ∙ h.0) (occurrence_at d w o))
    (run_later d (world_after d w o) place os h.1)

-- it comes by turn
pub run_rises : {M : Type 0} (d : Decoding M) (w : World M) (os : List Occurrence) → OccurrencesRise os → Rises before (run_puts d w os)
run_rises d w [] up = tt
run_rises d w (o ∷ os) up =
    rises_then before (λ p. (put_turn p).place ≡ place_of o) (λ p. not_after (put_turn p).place (place_of o) ≡ false) (λ x y p q. later x y (place_of o) p q)
    (puts_then d w o) (run_puts d (world_after d w o) os) (occurrence_at d w o) (run_later d (world_after d w o) (place_of o) os up.0)
    (occurrence_rises d w o) (run_rises d (world_after d w o) os up.1)

-- no reader past the last gives out a notice
pub run_none : {M : Type 0} (d : Decoding M) (w : World M) (rank : ℕ) (os : List Occurrence) → reader_count (world_run d w os) ≤ rank → notices_by rank (run_puts d w os) ≡ []
run_none d w rank [] past = refl
run_none d w rank (o ∷ os) past =
    notices_by-append rank (puts_then d w o) (run_puts d (world_after d w o) os)
    ∙ ap (λ l. l ++ notices_by rank (run_puts d (world_after d w o) os)) (heard_then d w rank o (count_after w o) ∙ none_below d w.known o w.readers rank (count_after w o) (no_more (count_after w o) (reader_count (world_run d (world_after d w o) os)) rank (no_fewer_run d (world_after d w o) os) past))
    ∙ run_none d (world_after d w o) rank os past
