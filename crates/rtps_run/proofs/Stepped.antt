-- One reader's step, in the world and in the states.
use Rattle.std.proofs.Common.{◌≡◌, ◌≢◌, ℕ, ◌<◌, ◌≤◌, ◌==◌, nat_lt, List, [], ◌∷◌, ◌++◌, map, length, get_or, set, Bool, true, false, if◌then◌else◌, Some, refl, sym, ap, ◌∙◌, subst, arith, append-nil, append_assoc, eq-eqb, get_or-set_same, get_or-set_other}
use Rattle.std.proofs.Math.ListN.{length-set}
use Rattle.std.proofs.lemmas.Bool.Decides.{nat_tests}
use Rattle.rtps_types.specs.declared.place.Place.{Place}
use Rattle.rtps_proxy.specs.Replies.{ReplyView}
use Rattle.dds_topic.specs.Decoding.{Decoding}
use Rattle.rtps_reader.specs.declared.notice.Notice.{Notice}
use Rattle.rtps_reader.specs.Reader.{Reader, reader_after, sends, tells}
use Rattle.rtps_reader.specs.Standing as reader
use Rattle.rtps_reader.specs.Standing.{ReaderView}
use Rattle.rtps_reader.specs.Step.{StepView}
use Rattle.rtps_run.specs.declared.outcome.Report.{Report}
use Rattle.rtps_run.specs.Outcome.{report_view}
use Rattle.rtps_run.specs.Seen.{notices_by, reader_count}
use Rattle.rtps_run.specs.Standing.{ReadersStand, StandsFor}
use Rattle.rtps_run.specs.Steps.{ReaderStep, step_puts, world_stepped}
use Rattle.rtps_run.specs.World.{ReportView, NoticeOf, World, puts_at, sent_by}
use Rattle.rtps_run.proofs.Dealt.{notices_by-append}

unequal : (m n : ℕ) → m ≢ n → (m == n) ≡ false
unequal m n e = grind (arith, nat_tests)

less_is : (m n : ℕ) → m < n → nat_lt m n ≡ true
less_is m n h = grind (arith, nat_tests)

not_less : (m n : ℕ) → n ≤ m → nat_lt m n ≡ false
not_less m n h = grind (arith, nat_tests)

-- a reader's notices are its own
pub own_notices : {M : Type 0} (rank : ℕ) (ns : List (Notice M)) → notices_by rank (map (NoticeOf rank) ns) ≡ ns
own_notices rank [] = refl
own_notices rank (n ∷ ns) = rw (eq-eqb rank rank refl) (ap (λ l. n ∷ l) (own_notices rank ns))

pub others_notices : {M : Type 0} (rank k : ℕ) (ns : List (Notice M)) → (rank == k) ≡ false → notices_by k (map (NoticeOf rank) ns) ≡ []
others_notices rank k [] e = refl
others_notices rank k (n ∷ ns) e = rw e (others_notices rank k ns e)

pub no_notice : (M : Type 0) (rank k : ℕ) (ss : List (Place × ReplyView)) → notices_by k (map (sent_by {M = M} (Some rank)) ss) ≡ []
no_notice M rank k [] = refl
no_notice M rank k (s ∷ ss) = no_notice M rank k ss

-- the notices of a step are those that its reader gives
pub told_at_step : {M : Type 0} (d : Decoding M) (place : Place) (rank : ℕ) (r : Reader) (what : StepView) → notices_by rank (puts_at d place rank r what) ≡ tells d r place what
told_at_step {M} d place rank r what =
    notices_by-append rank (map (NoticeOf rank) (tells d r place what)) (map (sent_by (Some rank)) (sends r place what))
    ∙ ap (λ l. l ++ notices_by rank (map (sent_by (Some rank)) (sends r place what))) (own_notices rank (tells d r place what))
    ∙ ap (λ l. tells d r place what ++ l) (no_notice M rank rank (sends r place what))
    ∙ append-nil (tells d r place what)

pub none_told_at_step : {M : Type 0} (d : Decoding M) (place : Place) (rank k : ℕ) (r : Reader) (what : StepView) → (rank == k) ≡ false → notices_by k (puts_at d place rank r what) ≡ []
none_told_at_step {M} d place rank k r what e =
    notices_by-append k (map (NoticeOf rank) (tells d r place what)) (map (sent_by (Some rank)) (sends r place what))
    ∙ ap (λ l. l ++ notices_by k (map (sent_by (Some rank)) (sends r place what))) (others_notices rank k (tells d r place what) e)
    ∙ no_notice M rank k (sends r place what)

-- the reader of a rank, as its state keeps it
pub state_of : {V M A : Type 0} (view : V → M) (w : World M) (earlier : List (ReportView M)) (states : List ReaderView) (reports : List (Report V A)) (rank : ℕ) (old : ReaderView)
    → ReadersStand view w earlier states reports → rank < length states → old ≡ get_or states rank old → StandsFor (w.readers rank) (notices_by rank w.put) rank old
state_of view w earlier states reports rank old stands below is =
    subst (StandsFor (w.readers rank) (notices_by rank w.put) rank) (sym is) (stands.readers rank old below)

-- a step of a reader that there is
pub step_stands : {V M A : Type 0} (view : V → M) (d : Decoding M) (place : Place) (w : World M) (earlier : List (ReportView M)) (s : ReaderStep) (states : List ReaderView) (old new : ReaderView) (reports more : List (Report V A))
    → ReadersStand view w earlier states reports → s.rank < length states → old ≡ get_or states s.rank old → new.rank ≡ old.rank
    → reader.StandsAt (reader_after (w.readers s.rank) s.what) (notices_by s.rank w.put ++ tells d (w.readers s.rank) place s.what) new
    → map (report_view view) more ≡ map (report_view view) reports ++ puts_at d place s.rank (w.readers s.rank) s.what
    → ReadersStand view (world_stepped d place w s) earlier (set states s.rank new) more
step_stands {V} {M} view d place w earlier s states old new reports more stands below is same here moved = record {
  count = length-set states s.rank new ∙ stands.count;
  readers = λ rank other less. by_test (s.rank == rank) rank refl other less;
  put = ap (λ l. w.put ++ l) put ∙ ap (λ l. l ++ puts) stands.put ∙ append_assoc earlier (map (report_view view) reports) puts ∙ ap (λ l. earlier ++ l) (sym moved);
}
  where
    puts : List (ReportView M)
    puts = puts_at d place s.rank (w.readers s.rank) s.what

    put : step_puts d place w s ≡ puts
    put = rw (less_is s.rank (reader_count w) (omega (arith, below, stands.count))) refl

    given : (rank : ℕ) → notices_by rank (w.put ++ step_puts d place w s) ≡ notices_by rank w.put ++ notices_by rank puts
    given rank = ap (λ l. notices_by rank (w.put ++ l)) put ∙ notices_by-append rank w.put puts

    one : StandsFor (reader_after (w.readers s.rank) s.what) (notices_by s.rank w.put ++ tells d (w.readers s.rank) place s.what) s.rank new
    one = record { stands = here; ranked = same ∙ (state_of view w earlier states reports s.rank old stands below is).ranked }

    by_test : (b : Bool) (rank : ℕ) → (s.rank == rank) ≡ b → (other : ReaderView) → rank < length (set states s.rank new)
        → StandsFor (if b then reader_after (w.readers rank) s.what else w.readers rank) (notices_by rank (w.put ++ step_puts d place w s)) rank (get_or (set states s.rank new) rank other)
    by_test true rank e other less =
        let at : s.rank ≡ rank = grind (arith, nat_tests) in
        subst (λ k. StandsFor (reader_after (w.readers k) s.what) (notices_by k (w.put ++ step_puts d place w s)) k (get_or (set states s.rank new) k other)) at
        (rw (given s.rank, told_at_step d place s.rank (w.readers s.rank) s.what, get_or-set_same states s.rank new other below) one)
    by_test false rank e other less =
        let apart : rank ≢ s.rank = λ is. absurd (grind (arith, nat_tests)) in
        let within : rank < length states = omega (arith, less, length-set states s.rank new) in
        rw (given rank, none_told_at_step d place s.rank rank (w.readers s.rank) s.what e, append-nil (notices_by rank w.put), get_or-set_other states s.rank rank new other apart) (stands.readers rank other within)

-- and of one that there isn't
pub no_step_stands : {V M A : Type 0} (view : V → M) (d : Decoding M) (place : Place) (w : World M) (earlier : List (ReportView M)) (s : ReaderStep) (states : List ReaderView) (reports : List (Report V A))
    → ReadersStand view w earlier states reports → length states ≤ s.rank → ReadersStand view (world_stepped d place w s) earlier states reports
no_step_stands {V} {M} view d place w earlier s states reports stands past = record {
  count = stands.count;
  readers = λ rank other less.
      let apart : (s.rank == rank) ≡ false = unequal s.rank rank (λ e. absurd (omega arith)) in
      rw (none, append-nil w.put, apart) (stands.readers rank other less);
  put = ap (λ l. w.put ++ l) none ∙ append-nil w.put ∙ stands.put;
}
  where
    none : step_puts d place w s ≡ []
    none = rw (not_less s.rank (reader_count w) (omega (arith, past, stands.count))) refl
