-- An occurrence falls into steps of single readers.
use Rattle.std.proofs.Common.{◌≡◌, ◌≢◌, ℕ, zero, suc, ◌<◌, ◌≤◌, ◌==◌, nat_lt, List, [], ◌∷◌, ◌++◌, length, map, get_or, Bool, true, false, if◌then◌else◌, Option, Some, None, refl, sym, ap, ◌∙◌, subst, arith, append-nil, append_assoc, eq-eqb, true≢false}
use Rattle.std.specs.Prelude.{filter}
use Rattle.std.specs.List.{AllByRecursion}
use Rattle.std.specs.Ordering.{is_lt, nat_cmp}
use Rattle.std.specs.declared.cmp.Ordering.TheVariants.{Less, Equal, Greater}
use Rattle.std.proofs.lemmas.Bool.Decides.{nat_tests}
use Rattle.rtps_types.specs.declared.place.Place.{Place}
use Rattle.rtps_receiver.specs.Events.{EventView}
use Rattle.rtps_discovery.specs.Addressed.{is_discovery}
use Rattle.rtps_discovery.specs.Announcement.{Announcement, Comes, Leave, Offers, Withdraws, Asks, AsksNoMore}
use Rattle.rtps_discovery.specs.Changes.{known_run}
use Rattle.rtps_discovery.specs.Known.{Known, known_after}
use Rattle.rtps_discovery.specs.Records.{announcements, answered, known_by, noted}
use Rattle.rtps_proxy.specs.Replies.{ReplyView}
use Rattle.dds_topic.specs.Decoding.{Decoding}
use Rattle.rtps_reader.specs.Reader.{Reader, placed, reader_after, reader_run}
use Rattle.rtps_reader.specs.Standing.{ReaderView}
use Rattle.rtps_reader.specs.Step.{StepView}
use Rattle.rtps_run.specs.declared.outcome.Report.{Report}
use Rattle.rtps_run.specs.Outcome.{report_view}
use Rattle.rtps_run.specs.Seen.{notices_by, reader_count}
use Rattle.rtps_run.specs.Standing.{ReadersStand, StandsFor}
use Rattle.rtps_run.specs.Steps.{ReaderStep, step_puts, steps_run, world_stepped}
use Rattle.rtps_run.specs.Occurrence.{Occurrence, Passes, Came, Joins, Parts as Goes, place_of}
use Rattle.rtps_run.specs.World.{ReportView, World, count_after, discovery_puts, doings, known_after_event, known_then, puts_at, puts_below, puts_run, sent_by, world_after}
use Rattle.rtps_run.proofs.Dealt.{notices_by-append}
use Rattle.rtps_run.proofs.OneOrder.{Rises, filter_none}

-- ---- sums over the ranks below a count

abbrev pub sums : {P : Type 0} → (ℕ → List P) → ℕ → List P
sums g zero = []
sums g (suc n) = sums g n ++ g n

sums_same : {P : Type 0} (g h : ℕ → List P) (n : ℕ) → ((k : ℕ) → k < n → g k ≡ h k) → sums g n ≡ sums h n
sums_same g h zero same = refl
sums_same g h (suc n) same = rw (sums_same g h n (λ k less. same k (omega arith)), same n (omega arith)) refl

sums_none : {P : Type 0} (g : ℕ → List P) (n : ℕ) → ((k : ℕ) → k < n → g k ≡ []) → sums g n ≡ []
sums_none g zero none = refl
sums_none g (suc n) none = rw (sums_none g n (λ k less. none k (omega arith)), none n (omega arith)) refl

-- what the first rank at which there is something has more in front is in front of all
sums_first : {P : Type 0} (g h : ℕ → List P) (first : List P) (rank n : ℕ) → rank < n → ((k : ℕ) → k < rank → g k ≡ []) → g rank ≡ first ++ h rank → ((k : ℕ) → k ≢ rank → g k ≡ h k)
    → sums g n ≡ first ++ sums h n
sums_first g h first rank zero below none here others = absurd (omega arith)
sums_first g h first rank (suc n) below none here others = by_test (n == rank) refl (λ less. sums_first g h first rank n less none here others)
  where
    by_test : (b : Bool) → (n == rank) ≡ b → (rank < n → sums g n ≡ first ++ sums h n) → sums g n ++ g n ≡ first ++ (sums h n ++ h n)
    by_test true e more =
        let is : n ≡ rank = grind (arith, nat_tests) in
        let before : sums g n ≡ [] = sums_none g n (λ k less. none k (omega arith)) in
        let after : sums h n ≡ [] = sums_none h n (λ k less. sym (others k (λ same. absurd (omega arith))) ∙ none k (omega arith)) in
        let at : g n ≡ first ++ h n = ap g is ∙ here ∙ ap (λ k. first ++ h k) (sym is) in
        rw (before, after) at
    by_test false e more =
        let other : n ≢ rank = λ is. absurd (grind (arith, nat_tests)) in
        let less : rank < n = omega arith in
        rw (more less, others n other) (append_assoc first (sums h n) (h n))

-- ---- the steps of one rank

abbrev pub asks_for : ℕ → List ReaderStep → List StepView
asks_for rank ss = map (λ (s : ReaderStep). s.what) (filter (λ (s : ReaderStep). s.rank == rank) ss)

asks_here : (s : ReaderStep) (ss : List ReaderStep) → asks_for s.rank (s ∷ ss) ≡ s.what ∷ asks_for s.rank ss
asks_here s ss = rw (eq-eqb s.rank s.rank refl) refl

unequal : (m n : ℕ) → m ≢ n → (m == n) ≡ false
unequal m n e = grind (arith, nat_tests)

asks_there : (s : ReaderStep) (ss : List ReaderStep) (k : ℕ) → k ≢ s.rank → asks_for k (s ∷ ss) ≡ asks_for k ss
asks_there s ss k other = rw (unequal s.rank k (λ e. other (sym e))) refl

pub reader_of_steps : {M : Type 0} (d : Decoding M) (place : Place) (w : World M) (ss : List ReaderStep) (rank : ℕ) → (steps_run d place w ss).readers rank ≡ reader_run (w.readers rank) (asks_for rank ss)
reader_of_steps d place w [] rank = refl
reader_of_steps d place w (s ∷ ss) rank = reader_of_steps d place (world_stepped d place w s) ss rank ∙ by_test (s.rank == rank)
  where
    by_test : (b : Bool) → reader_run (if b then reader_after (w.readers rank) s.what else w.readers rank) (asks_for rank ss) ≡ reader_run (w.readers rank) (map (λ (s : ReaderStep). s.what) (if b then s ∷ filter (λ (s : ReaderStep). s.rank == rank) ss else filter (λ (s : ReaderStep). s.rank == rank) ss))
    by_test true = refl
    by_test false = refl

pub known_of_steps : {M : Type 0} (d : Decoding M) (place : Place) (w : World M) (ss : List ReaderStep) → (steps_run d place w ss).known ≡ w.known
known_of_steps d place w [] = refl
known_of_steps d place w (s ∷ ss) = known_of_steps d place (world_stepped d place w s) ss

-- ---- steps by rising rank

abbrev pub comes_before : ReaderStep → ReaderStep → Bool
comes_before a b = is_lt (nat_cmp a.rank b.rank)

at_most : (a b : ℕ) → is_lt (nat_cmp a b) ≡ false → b ≤ a
at_most a b h = by_test (nat_lt a b) (a == b) refl refl h
  where
    by_test : (l e : Bool) → nat_lt a b ≡ l → (a == b) ≡ e → is_lt (if l then Less else (if e then Equal else Greater)) ≡ false → b ≤ a
    by_test true e i j h = absurd (true≢false h)
    by_test false e i j h = grind (arith, nat_tests)

pub not_before : (a b : ℕ) → b ≤ a → is_lt (nat_cmp a b) ≡ false
not_before a b h = by_test (nat_lt a b) (a == b) refl
  where
    by_test : (l e : Bool) → nat_lt a b ≡ l → is_lt (if l then Less else (if e then Equal else Greater)) ≡ false
    by_test true e i = absurd (grind (arith, nat_tests))
    by_test false true i = refl
    by_test false false i = refl

above : (s : ReaderStep) (ss : List ReaderStep) (k : ℕ) → k < s.rank → AllByRecursion (λ y. comes_before y s ≡ false) ss → AllByRecursion (λ (y : ReaderStep). (y.rank == k) ≡ false) ss
above s [] k less h = tt
above s (y ∷ ys) k less h =
    let high : s.rank ≤ y.rank = at_most y.rank s.rank h.0 in
    (unequal y.rank k (λ e. absurd (omega arith)), above s ys k less h.1)

none_below : (s : ReaderStep) (ss : List ReaderStep) (k : ℕ) → k < s.rank → AllByRecursion (λ y. comes_before y s ≡ false) ss → asks_for k (s ∷ ss) ≡ []
none_below s ss k less h =
    asks_there s ss k (λ e. absurd (omega arith))
    ∙ ap (map (λ (s : ReaderStep). s.what)) (filter_none (λ (s : ReaderStep). s.rank == k) ss (above s ss k less h))

-- what steps put out, by rank
abbrev pub parts : {M : Type 0} → Decoding M → Place → (ℕ → Reader) → List ReaderStep → ℕ → List (ReportView M)
parts d place readers ss rank = puts_run d place rank (readers rank) (asks_for rank ss)

less_is : (m n : ℕ) → m < n → nat_lt m n ≡ true
less_is m n h = grind (arith, nat_tests)

not_less : (m n : ℕ) → n ≤ m → nat_lt m n ≡ false
not_less m n h = grind (arith, nat_tests)

pub put_of_steps : {M : Type 0} (d : Decoding M) (place : Place) (w : World M) (ss : List ReaderStep) → Rises comes_before ss
    → (steps_run d place w ss).put ≡ w.put ++ sums (parts d place w.readers ss) (reader_count w)
put_of_steps d place w [] up = sym (append-nil w.put) ∙ ap (λ l. w.put ++ l) (sym (sums_none (parts d place w.readers []) (reader_count w) (λ k less. refl)))
put_of_steps {M} d place w (s ∷ ss) up =
    put_of_steps d place (world_stepped d place w s) ss up.1
    ∙ append_assoc w.put (step_puts d place w s) (sums more (reader_count w))
    ∙ ap (λ l. w.put ++ l) (by_test (nat_lt s.rank (reader_count w)) refl)
  where
    all : ℕ → List (ReportView M)
    all = parts d place w.readers (s ∷ ss)

    more : ℕ → List (ReportView M)
    more = parts d place (world_stepped d place w s).readers ss

    others : (k : ℕ) → k ≢ s.rank → all k ≡ more k
    others k other = rw (asks_there s ss k other, unequal s.rank k (λ e. other (sym e))) refl

    here : all s.rank ≡ puts_at d place s.rank (w.readers s.rank) s.what ++ more s.rank
    here = rw (asks_here s ss, eq-eqb s.rank s.rank refl) refl

    by_test : (b : Bool) → nat_lt s.rank (reader_count w) ≡ b → (if b then puts_at d place s.rank (w.readers s.rank) s.what else []) ++ sums more (reader_count w) ≡ sums all (reader_count w)
    by_test true less =
        let below : s.rank < reader_count w = grind (arith, nat_tests) in
        sym (sums_first all more (puts_at d place s.rank (w.readers s.rank) s.what) s.rank (reader_count w) below
        (λ k low. ap (puts_run d place k (w.readers k)) (none_below s ss k low up.0)) here others)
    by_test false less =
        let past : reader_count w ≤ s.rank = grind (arith, nat_tests) in
        sums_same more all (reader_count w) (λ k low. sym (others k (λ e. absurd (omega arith))))

-- ---- an occurrence

-- no announcement changes our readers
pub readers_after : (k : Known) (a : Announcement) → (known_after k a).readers ≡ k.readers
readers_after k (Comes p f) = refl
readers_after k (Leave gone) = refl
readers_after k (Offers g w) = refl
readers_after k (Withdraws g) = refl
readers_after k (Asks g) = refl
readers_after k (AsksNoMore g) = refl

readers_run : (k : Known) (said : List Announcement) → (known_run k said).readers ≡ k.readers
readers_run k [] = refl
readers_run k (a ∷ said) = readers_run (known_after k a) said ∙ readers_after k a

pub readers_if : (b : Bool) (j k : Known) → j.readers ≡ k.readers → (if b then j else k).readers ≡ k.readers
readers_if true j k e = e
readers_if false j k e = refl

pub readers_stay : (k : Known) (e : EventView) → (known_after_event k e).readers ≡ k.readers
readers_stay k e = readers_if (is_discovery e.writer) (known_by k e) k (readers_run (noted k e) (announcements k e) ∙ readers_if _ _ k refl)

-- discovery's part of an occurrence, before the readers' part
abbrev pub discovered : {M : Type 0} → World M → Occurrence → World M
discovered w o = record { known = known_then w.known o; readers = w.readers; put = w.put ++ discovery_puts w.known o }

below_sums : {M : Type 0} (d : Decoding M) (k : Known) (o : Occurrence) (readers : ℕ → Reader) (n : ℕ) → puts_below d k o readers n ≡ sums (λ rank. puts_run d (place_of o) rank (readers rank) (doings k rank o)) n
below_sums d k o readers zero = refl
below_sums d k o readers (suc n) = ap (λ l. l ++ puts_run d (place_of o) n (readers n) (doings k n o)) (below_sums d k o readers n)

-- steps by rising rank that ask what the occurrence asks of each reader make of the world what the occurrence does
pub occurrence_put : {M : Type 0} (d : Decoding M) (w : World M) (o : Occurrence) (ss : List ReaderStep) → Rises comes_before ss
    → ((rank : ℕ) → rank < count_after w o → asks_for rank ss ≡ doings w.known rank o) → (world_after d w o).put ≡ (steps_run d (place_of o) (discovered w o) ss).put
occurrence_put d w o ss up same =
    sym (append_assoc w.put (discovery_puts w.known o) (puts_below d w.known o w.readers (count_after w o)))
    ∙ ap (λ l. (w.put ++ discovery_puts w.known o) ++ l)
    (below_sums d w.known o w.readers (count_after w o)
    ∙ sums_same (λ rank. puts_run d (place_of o) rank (w.readers rank) (doings w.known rank o)) (parts d (place_of o) w.readers ss) (count_after w o) (λ k less. ap (puts_run d (place_of o) k (w.readers k)) (sym (same k less))))
    ∙ sym (put_of_steps d (place_of o) (discovered w o) ss up)

pub occurrence_stands : {V M A : Type 0} (view : V → M) (d : Decoding M) (w : World M) (o : Occurrence) (ss : List ReaderStep) (earlier : List (ReportView M)) (states : List ReaderView) (reports : List (Report V A)) → Rises comes_before ss
    → ((rank : ℕ) → rank < count_after w o → asks_for rank ss ≡ doings w.known rank o)
    → ReadersStand view (steps_run d (place_of o) (discovered w o) ss) earlier states reports → ReadersStand view (world_after d w o) earlier states reports
occurrence_stands {V} {M} {A} view d w o ss earlier states reports up same stands =
    let v = steps_run d (place_of o) (discovered w o) ss in
    let put : (world_after d w o).put ≡ v.put = occurrence_put d w o ss up same in
    let known : v.known ≡ known_then w.known o = known_of_steps d (place_of o) (discovered w o) ss in
    let count : length v.known.readers ≡ count_after w o = ap (λ (k : Known). length k.readers) known in
    record {
      count = stands.count ∙ count;
      readers = λ rank other less.
          let below : rank < count_after w o = omega (arith, less, stands.count, count) in
          let is : v.readers rank ≡ reader_run (w.readers rank) (doings w.known rank o) = reader_of_steps d (place_of o) (discovered w o) ss rank ∙ ap (reader_run (w.readers rank)) (same rank below) in
          subst (λ (r : Reader). StandsFor r (notices_by rank (world_after d w o).put) rank (get_or states rank other)) is
          (subst (λ (l : List (ReportView M)). StandsFor (v.readers rank) (notices_by rank l) rank (get_or states rank other)) (sym put) (stands.readers rank other less));
      put = put ∙ stands.put;
    }

-- discovery's part puts out no notice
pub no_notice : {M : Type 0} (k : Known) (o : Occurrence) (rank : ℕ) → notices_by rank (discovery_puts {M = M} k o) ≡ []
no_notice {M} k (Passes index moment) rank = refl
no_notice {M} k (Joins index r) rank = refl
no_notice {M} k (Goes index gone) rank = refl
no_notice {M} k (Came e) rank = by_test (is_discovery e.writer) (answered k e)
  where
    by_test : (b : Bool) (o : Option ReplyView) → notices_by rank (if b then map (sent_by {M = M} None) (placed e.place o) else []) ≡ []
    by_test true None = refl
    by_test true (Some s) = refl
    by_test false o = refl

-- the readers stay as they are at discovery's part, where none comes
pub discovered_stands : {V M A : Type 0} (view : V → M) (w : World M) (o : Occurrence) (earlier : List (ReportView M)) (states : List ReaderView) (reports more : List (Report V A)) → count_after w o ≡ reader_count w
    → ReadersStand view w earlier states reports → map (report_view view) more ≡ map (report_view view) reports ++ discovery_puts w.known o → ReadersStand view (discovered w o) earlier states more
discovered_stands {V} {M} {A} view w o earlier states reports more same stands put = record {
  count = stands.count ∙ sym same;
  readers = λ rank other less.
      let given : notices_by rank (w.put ++ discovery_puts w.known o) ≡ notices_by rank w.put = notices_by-append rank w.put (discovery_puts w.known o) ∙ ap (λ l. notices_by rank w.put ++ l) (no_notice {M = M} w.known o rank) ∙ append-nil (notices_by rank w.put) in
      rw given (stands.readers rank other less);
  put = ap (λ l. l ++ discovery_puts w.known o) stands.put ∙ append_assoc earlier (map (report_view view) reports) (discovery_puts w.known o) ∙ ap (λ l. earlier ++ l) (sym put);
}
