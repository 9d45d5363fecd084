-- What is put out more, put in order, is what the run puts out more.
use Rattle.std.proofs.Common.{◌≡◌, ◌≢◌, ℕ, zero, suc, ◌+◌, ◌<◌, ◌≤◌, List, [], ◌∷◌, ◌++◌, Bool, true, false, if◌then◌else◌, ◌==◌, nat_lt, ◌&&◌, not, Option, Some, None, refl, sym, ap, ◌∙◌, arith, append-nil, length, get_or, map}
use Rattle.std.specs.Prelude.{filter}
use Rattle.std.specs.List.Sorted.{ties}
use Rattle.std.specs.Ordering.{is_lt}
use Rattle.std.specs.declared.vec.Vec.{Vec}
use Rattle.std.proofs.lemmas.Bool.Decides.{nat_tests}
use Rattle.std.proofs.lemmas.List.{append_cancel_left, map-append}
use Rattle.std.proofs.lemmas.List.Elements.{filter-append}
use Rattle.std.proofs.lemmas.List.Sorted.{ranks_by}
use Rattle.rtps_discovery.specs.declared.config.Config.{Config}
use Rattle.dds_topic.specs.Decoding.{Decoding}
use Rattle.rtps_reader.specs.declared.notice.Notice.{Notice}
use Rattle.rtps_reader.specs.Notice.{notice_view}
use Rattle.rtps_run.specs.declared.outcome.Answer.{Answer}
use Rattle.rtps_run.specs.declared.outcome.Outcome.{Outcome}
use Rattle.rtps_run.specs.declared.outcome.Report.{Report}
use Rattle.rtps_run.specs.declared.outcome.Report.TheVariants as report
use Rattle.rtps_run.specs.declared.turn.ReportKind.{ReportKind}
use Rattle.rtps_run.specs.declared.turn.ReportKind.TheVariants as kind
use Rattle.rtps_run.specs.Input.{Input, index_after_all, occurrences_from}
use Rattle.rtps_run.specs.Occurrence.{Occurrence}
use Rattle.rtps_run.specs.Outcome.{Adds, answer_view, notices_in, report_view}
use Rattle.rtps_run.specs.Rising.{IsBatch, OccurrencesRise}
use Rattle.rtps_run.specs.Run.{run, world_run}
use Rattle.rtps_run.specs.Seen.{answers_in, notices_by, reader_count}
use Rattle.rtps_run.specs.Turn.{AreInOrder, notices_from, reports_of, turn_of, turn_order}
use Rattle.rtps_run.specs.World.{ReportView, NoticeOf, AnswerOf, AnswerView, World}
use Rattle.rtps_run.proofs.Dealt.{answers_in-append, notices_by-append}
use Rattle.rtps_run.proofs.OneOrder.{filter-map, one_order, rises_map, rises_sorted, stable_by}
use Rattle.rtps_run.proofs.Heads.{batch_rises}
use Rattle.rtps_run.proofs.Running.{batch_more}
use Rattle.rtps_run.proofs.Turns.{alike_turns, before, equal_turns, put_all, put_turn, run_none, run_puts, run_rises, same_kind, same_rank, turns_total, view_turn, weak}

-- a test that passes only notices of one rank
abbrev Only : {M : Type 0} → ℕ → (ReportView M → Bool) → Type 0
Only {M} r p = (k : ℕ) (n : Notice M) → k ≢ r → p (NoticeOf k n) ≡ false

abbrev NoNotice : {M : Type 0} → (ReportView M → Bool) → Type 0
NoNotice {M} p = (k : ℕ) (n : Notice M) → p (NoticeOf k n) ≡ false

abbrev NoAnswer : {M : Type 0} → (ReportView M → Bool) → Type 0
NoAnswer {M} p = (s : AnswerView) → p (AnswerOf s) ≡ false

kept : {X : Type 0} (b : Bool) (x : X) (xs ys : List X) → xs ≡ ys → (if b then x ∷ xs else xs) ≡ (if b then x ∷ ys else ys)
kept b x xs ys e = ap (λ l. if b then x ∷ l else l) e

-- such a test passes the notices of that rank
by_rank : {M : Type 0} (p : ReportView M → Bool) (r : ℕ) (xs : List (ReportView M)) → Only r p → NoAnswer p → filter p xs ≡ filter p (map (NoticeOf r) (notices_by r xs))
by_rank p r [] only none = refl
by_rank p r (AnswerOf s ∷ xs) only none = rw (none s) (by_rank p r xs only none)
by_rank p r (NoticeOf by n ∷ xs) only none = by_test (by == r) refl (by_rank p r xs only none)
  where
    by_test : (b : Bool) → (by == r) ≡ b → filter p xs ≡ filter p (map (NoticeOf r) (notices_by r xs)) → filter p (NoticeOf by n ∷ xs) ≡ filter p (map (NoticeOf r) (if b then n ∷ notices_by r xs else notices_by r xs))
    by_test true e rest = let same : by ≡ r = grind (arith, nat_tests) in ap (λ k. filter p (NoticeOf k n ∷ xs)) same ∙ kept (p (NoticeOf r n)) (NoticeOf r n) _ _ rest
    by_test false e rest = let other : by ≢ r = λ same. absurd (grind (arith, nat_tests)) in rw (only by n other) rest

-- and one that passes no notice passes answers
by_answers : {M : Type 0} (p : ReportView M → Bool) (xs : List (ReportView M)) → NoNotice p → filter p xs ≡ filter p (map AnswerOf (answers_in xs))
by_answers p [] none = refl
by_answers p (NoticeOf by n ∷ xs) none = rw (none by n) (by_answers p xs none)
by_answers p (AnswerOf s ∷ xs) none = kept (p (AnswerOf s)) (AnswerOf s) _ _ (by_answers p xs none)

viewed : {V M : Type 0} (A : Type 0) (f : V → M) (k : ℕ) (ns : List (Notice V)) → map (report_view {A = A} f) (map (report.Notice k) ns) ≡ map (NoticeOf k) (map (notice_view f) ns)
viewed A f k [] = refl
viewed A f k (n ∷ ns) = ap (λ l. NoticeOf k (notice_view f n) ∷ l) (viewed A f k ns)

viewed_answers : {V M A : Type 0} (f : V → M) (xs : List (Answer A)) → map (report_view f) (map report.Answer xs) ≡ map AnswerOf (map answer_view xs)
viewed_answers f [] = refl
viewed_answers f (x ∷ xs) = ap (λ l. AnswerOf (answer_view x) ∷ l) (viewed_answers f xs)

no_hears : {M : Type 0} (p : ReportView M → Bool) (k : ℕ) (ns : List (Notice M)) → ((n : Notice M) → p (NoticeOf k n) ≡ false) → filter p (map (NoticeOf k) ns) ≡ []
no_hears p k [] none = refl
no_hears p k (n ∷ ns) none = rw (none n) (no_hears p k ns none)

no_sends : {M : Type 0} (p : ReportView M → Bool) (ss : List AnswerView) → NoAnswer p → filter p (map AnswerOf ss) ≡ []
no_sends p [] none = refl
no_sends p (s ∷ ss) none = rw (none s) (no_sends p ss none)

-- the notices of an outcome, one list more
one_list : {V M A : Type 0} (f : V → M) (p : ReportView M → Bool) (k : ℕ) (ns : Vec (Notice V) A) (lists : List (Vec (Notice V) A))
    → filter p (map (report_view f) (notices_from k (ns ∷ lists))) ≡ filter p (map (NoticeOf k) (notices_in f ns)) ++ filter p (map (report_view f) (notices_from (k + 1) lists))
one_list {A = A} f p k ns lists =
    ap (filter p) (map-append (report_view f) (map (report.Notice k) ns.items) (notices_from (k + 1) lists) ∙ ap (λ l. l ++ map (report_view f) (notices_from (k + 1) lists)) (viewed A f k ns.items))
    ∙ filter-append p (map (NoticeOf k) (notices_in f ns)) (map (report_view f) (notices_from (k + 1) lists))

absent : {V M A : Type 0} (f : V → M) (p : ReportView M → Bool) (k : ℕ) (lists : List (Vec (Notice V) A)) → ((i : ℕ) (n : Notice M) → k ≤ i → i < k + length lists → p (NoticeOf i n) ≡ false)
    → filter p (map (report_view f) (notices_from k lists)) ≡ []
absent f p k [] none = refl
absent f p k (ns ∷ lists) none =
    one_list f p k ns lists
    ∙ ap (λ l. l ++ filter p (map (report_view f) (notices_from (k + 1) lists))) (no_hears p k (notices_in f ns) (λ n. none k n (omega arith) (omega arith)))
    ∙ absent f p (k + 1) lists (λ i n low high. none i n (omega arith) (omega arith))

present : {V M A : Type 0} (f : V → M) (p : ReportView M → Bool) (r k : ℕ) (lists : List (Vec (Notice V) A)) (more : List (ReportView M)) → Only r p → NoAnswer p → k ≤ r → r < k + length lists
    → ((i : ℕ) (other : Vec (Notice V) A) → i < length lists → notices_by (k + i) more ≡ notices_in f (get_or lists i other))
    → filter p (map (report_view f) (notices_from k lists)) ≡ filter p more
present f p r k [] more only none low high has = absurd (omega arith)
present {V} {M} {A} f p r k (ns ∷ lists) more only none low high has = by_test (k == r) refl (λ above inside. present f p r (k + 1) lists more only none above inside rest)
  where
    here : k ≡ r → notices_in f ns ≡ notices_by r more
    here same = let at : k + 0 ≡ r = omega arith in sym (has zero ns (omega arith)) ∙ ap (λ i. notices_by i more) at

    rest : (i : ℕ) (other : Vec (Notice V) A) → i < length lists → notices_by (k + 1 + i) more ≡ notices_in f (get_or lists i other)
    rest i other inside = let at : k + 1 + i ≡ k + suc i = omega arith in ap (λ j. notices_by j more) at ∙ has (suc i) other (omega arith)

    by_test : (b : Bool) → (k == r) ≡ b → (k + 1 ≤ r → r < k + 1 + length lists → filter p (map (report_view f) (notices_from (k + 1) lists)) ≡ filter p more)
        → filter p (map (report_view f) (notices_from k (ns ∷ lists))) ≡ filter p more
    by_test true e others_pass =
        let same : k ≡ r = grind (arith, nat_tests) in
        let others : filter p (map (report_view f) (notices_from (k + 1) lists)) ≡ [] = absent f p (k + 1) lists (λ i n over inside. only i n (λ at. absurd (omega arith))) in
        one_list f p k ns lists
        ∙ ap (λ l. filter p (map (NoticeOf k) (notices_in f ns)) ++ l) others ∙ append-nil (filter p (map (NoticeOf k) (notices_in f ns)))
        ∙ ap (λ j. filter p (map (NoticeOf j) (notices_in f ns))) same ∙ ap (λ l. filter p (map (NoticeOf r) l)) (here same) ∙ sym (by_rank p r more only none)
    by_test false e others_pass =
        let other : k ≢ r = λ same. absurd (grind (arith, nat_tests)) in
        one_list f p k ns lists
        ∙ ap (λ l. l ++ filter p (map (report_view f) (notices_from (k + 1) lists))) (no_hears p k (notices_in f ns) (λ n. only k n other))
        ∙ others_pass (omega arith) (omega arith)

all_reports : {V M A : Type 0} (f : V → M) (p : ReportView M → Bool) (outcome : Outcome V A)
    → filter p (map (report_view f) (reports_of outcome)) ≡ filter p (map (report_view f) (notices_from 0 outcome.notices.items)) ++ filter p (map AnswerOf (map answer_view outcome.answers.items))
all_reports f p outcome =
    ap (filter p) (map-append (report_view f) (notices_from 0 outcome.notices.items) (map report.Answer outcome.answers.items) ∙ ap (λ l. map (report_view f) (notices_from 0 outcome.notices.items) ++ l) (viewed_answers f outcome.answers.items))
    ∙ filter-append p (map (report_view f) (notices_from 0 outcome.notices.items)) (map AnswerOf (map answer_view outcome.answers.items))

-- an outcome has what was put out: each reader's notices, and the answers
record Has {V M A : Type 0} (f : V → M) (more : List (ReportView M)) (outcome : Outcome V A) : Type 0 where
  notices : (rank : ℕ) (other : Vec (Notice V) A) → rank < length outcome.notices.items → notices_by rank more ≡ notices_in f (get_or outcome.notices.items rank other)
  answers : answers_in more ≡ map answer_view outcome.answers.items
  others : (rank : ℕ) → length outcome.notices.items ≤ rank → notices_by rank more ≡ []

some_answers : {V M A : Type 0} (f : V → M) (p : ReportView M → Bool) (more : List (ReportView M)) (outcome : Outcome V A) → Has f more outcome → NoNotice p
    → filter p (map (report_view f) (reports_of outcome)) ≡ filter p more
some_answers f p more outcome has none =
    all_reports f p outcome
    ∙ ap (λ l. l ++ filter p (map AnswerOf (map answer_view outcome.answers.items))) (absent f p 0 outcome.notices.items (λ i n low high. none i n))
    ∙ ap (λ l. filter p (map AnswerOf l)) (sym has.answers) ∙ sym (by_answers p more none)

some_notices : {V M A : Type 0} (f : V → M) (p : ReportView M → Bool) (r : ℕ) (more : List (ReportView M)) (outcome : Outcome V A) → Has f more outcome → Only r p → NoAnswer p
    → filter p (map (report_view f) (reports_of outcome)) ≡ filter p more
some_notices f p r more outcome has only none =
    all_reports f p outcome
    ∙ ap (λ l. filter p (map (report_view f) (notices_from 0 outcome.notices.items)) ++ l) (no_sends p (map answer_view outcome.answers.items) none) ∙ append-nil _
    ∙ by_test (nat_lt r (length outcome.notices.items)) refl
  where
    by_test : (b : Bool) → nat_lt r (length outcome.notices.items) ≡ b → filter p (map (report_view f) (notices_from 0 outcome.notices.items)) ≡ filter p more
    by_test true e =
        let inside : r < length outcome.notices.items = grind (arith, nat_tests) in
        present f p r 0 outcome.notices.items more only none (omega arith) (omega arith)
        (λ i other below. let at : 0 + i ≡ i = omega arith in ap (λ j. notices_by j more) at ∙ has.notices i other below)
    by_test false e =
        let past : length outcome.notices.items ≤ r = grind (arith, nat_tests) in
        absent f p 0 outcome.notices.items (λ i n low high. only i n (λ same. absurd (omega arith)))
        ∙ sym (by_rank p r more only none ∙ ap (λ l. filter p (map (NoticeOf r) l)) (has.others r past))

-- two things of which the rank or the kind differs have no turn in common
no_tie : {M : Type 0} (x y : ReportView M) → ((put_turn x).rank ≡ (put_turn y).rank → (put_turn x).kind ≡ (put_turn y).kind → ⊥) → ties before x y ≡ false
no_tie x y differ = by_test (ties before x y) refl
  where
    by_test : (b : Bool) → ties before x y ≡ b → b ≡ false
    by_test false e = refl
    by_test true e = let same = equal_turns (put_turn x) (put_turn y) e in absurd (differ (same_rank (put_turn x) (put_turn y) same) (same_kind (put_turn x) (put_turn y) same))

-- at each turn there is in the outcome what was put out then, in the same order
at_turn : {V M A : Type 0} (f : V → M) (more : List (ReportView M)) (outcome : Outcome V A) → Has f more outcome → (x : ReportView M)
    → filter (ties before x) (map (report_view f) (reports_of outcome)) ≡ filter (ties before x) more
at_turn {V} {M} {A} f more outcome has x = by_kind (put_turn x).kind (put_turn x).rank refl refl
  where
    by_kind : (k : ReportKind) (o : Option ℕ) → (put_turn x).kind ≡ k → (put_turn x).rank ≡ o → filter (ties before x) (map (report_view f) (reports_of outcome)) ≡ filter (ties before x) more
    by_kind kind.Answer o e r = some_answers f (ties before x) more outcome has (λ k n. no_tie x (NoticeOf k n) (λ s t. let wrong : kind.Answer ≡ kind.Notice = sym e ∙ t in cc))
    by_kind kind.Notice None e r = some_answers f (ties before x) more outcome has (λ k n. no_tie x (NoticeOf k n) (λ s t. let wrong : None ≡ Some k = sym r ∙ s in cc))
    by_kind kind.Notice (Some rank) e r = some_notices f (ties before x) rank more outcome has
        (λ k n other. no_tie x (NoticeOf k n) (λ s t. let same : Some rank ≡ Some k = sym r ∙ s in other cc))
        (λ sent. no_tie x (AnswerOf sent) (λ s t. let wrong : kind.Notice ≡ kind.Answer = sym e ∙ t in cc))

-- an outcome in order is what was put out
in_order : {V M A : Type 0} (f : V → M) (d : Decoding M) (w : World M) (es : List Occurrence) (outcome : Outcome V A) (reports : List (Report V A))
    → Has f (run_puts d w es) outcome → AreInOrder outcome reports → OccurrencesRise es → map (report_view f) reports ≡ run_puts d w es
in_order {V} {M} {A} f d w es outcome reports has ordered up =
    one_order before weak (map (report_view f) reports) (run_puts d w es)
    (rises_map by_turn before (report_view f) same_test reports (rises_sorted by_turn (ranks_by turns_total turn_of) reports ordered.sorted))
    (run_rises d w es up) (λ z. same z)
  where
    by_turn : Report V A → Report V A → Bool
    by_turn a b = is_lt (turn_order (turn_of a) (turn_of b))

    same_test : (a b : Report V A) → before (report_view f a) (report_view f b) ≡ is_lt (turn_order (turn_of a) (turn_of b))
    same_test a b = rw (view_turn f a, view_turn f b) refl

    same : (z : ReportView M) → filter (ties before z) (map (report_view f) reports) ≡ filter (ties before z) (run_puts d w es)
    same z =
        filter-map (ties before z) (report_view f) reports
        ∙ ap (map (report_view f)) (stable_by (λ a b. is_lt (turn_order (turn_of a) (turn_of b))) (reports_of outcome) reports ordered.stable (λ r. ties before z (report_view f r))
        (λ a b tie. let e = equal_turns (put_turn z) (put_turn (report_view f a)) tie in
        ap (λ t. not (is_lt (turn_order t (turn_of b))) && not (is_lt (turn_order (turn_of b) t))) (sym (view_turn f a))
        ∙ alike_turns (put_turn z) (put_turn (report_view f a)) (turn_of b) e
        ∙ ap (λ t. not (is_lt (turn_order (put_turn z) t)) && not (is_lt (turn_order t (put_turn z)))) (sym (view_turn f b))))
        ∙ sym (filter-map (ties before z) (report_view f) (reports_of outcome))
        ∙ at_turn f (run_puts d w es) outcome has z

pub run_in_order : {V M A : Type 0} (f : V → M) (d : Decoding M) (config : Config) (inputs batch : List Input) (outcome : Outcome V A) (reports : List (Report V A))
    → IsBatch batch → Adds f (run d config inputs) (run d config (inputs ++ batch)) outcome → AreInOrder outcome reports
    → (run d config (inputs ++ batch)).put ≡ (run d config inputs).put ++ map (report_view f) reports
run_in_order {V} {M} {A} f d config inputs batch outcome reports batched adds ordered =
    let w = run d config inputs in
    let es = occurrences_from config.own (index_after_all 0 inputs) batch in
    let next : run d config (inputs ++ batch) ≡ world_run d w es = batch_more d config inputs batch (index_after_all 0 inputs) refl in
    let put : (run d config (inputs ++ batch)).put ≡ w.put ++ run_puts d w es = ap (λ (v : World M). v.put) next ∙ put_all d w es in
    let count : reader_count (run d config (inputs ++ batch)) ≡ reader_count (world_run d w es) = ap (λ (v : World M). reader_count v) next in
    let has : Has f (run_puts d w es) outcome = record {
      notices = λ rank other below. append_cancel_left (notices_by rank w.put) (notices_by rank (run_puts d w es)) (notices_in f (get_or outcome.notices.items rank other))
          (sym (notices_by-append rank w.put (run_puts d w es)) ∙ ap (notices_by rank) (sym put) ∙ adds.notices rank other (omega (arith, below, adds.readers)));
      answers = append_cancel_left (answers_in w.put) (answers_in (run_puts d w es)) (map answer_view outcome.answers.items)
          (sym (answers_in-append w.put (run_puts d w es)) ∙ ap answers_in (sym put) ∙ adds.answers);
      others = λ rank past. run_none d w rank es (omega (arith, past, adds.readers, count));
    } in
    put ∙ ap (λ l. w.put ++ l) (sym (in_order f d w es outcome reports has ordered (batch_rises config.own (index_after_all 0 inputs) batch batched)))
