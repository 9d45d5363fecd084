-- A moment passes: each change of a match is a step of its reader, by rising rank.
use Rattle.std.proofs.Common.{◌≡◌, ℕ, suc, ◌≤◌, ◌==◌, nat_lt, List, [], ◌∷◌, map, get_or, Bool, true, false, if◌then◌else◌, AllPairs, IsTrue, refl, sym, ap, ◌∙◌, subst, arith, true≢false}
use Rattle.std.specs.Prelude.{max}
use Rattle.std.specs.List.Sorted.{IsStrictlySortedBy}
use Rattle.std.specs.Map.{keys_of}
use Rattle.std.specs.Ordering.{is_lt, nat_cmp}
use Rattle.std.specs.declared.cmp.Ordering.TheVariants.{Less, Equal, Greater}
use Rattle.std.proofs.lemmas.Bool.Decides.{nat_tests}
use Rattle.std.proofs.lemmas.List.Elements.{recursion_from_All}
use Rattle.rtps_types.specs.Order.{guid_order}
use Rattle.rtps_discovery.specs.Changes.{ChangeAt, changes}
use Rattle.rtps_discovery.specs.Differences as differences
use Rattle.rtps_discovery.specs.Differences.{ends_first, first_by, writer_in}
use Rattle.rtps_discovery.specs.Kept.{IsKnown, RegistryView}
use Rattle.rtps_discovery.specs.Known.{Known, moved, passed}
use Rattle.rtps_discovery.specs.Seen.{change_seen}
use Rattle.rtps_discovery.specs.declared.changes.MatchChange.{MatchChange}
use Rattle.rtps_discovery.proofs.Following.{in_order}
use Rattle.dds_topic.specs.Decoding.{Decoding}
use Rattle.rtps_reader.specs.Standing.{ReaderView}
use Rattle.rtps_run.specs.declared.outcome.Report.{Report}
use Rattle.rtps_run.specs.Occurrence.{Passes, head_of}
use Rattle.rtps_run.specs.Standing.{ReadersStand, WorldStands}
use Rattle.rtps_run.specs.Steps.{change_step, steps_run}
use Rattle.rtps_run.specs.World.{ReportView, World, changes_for, world_after}
use Rattle.rtps_run.proofs.Moving.{change_asks}
use Rattle.rtps_run.proofs.OneOrder.{Rises, rises_map}
use Rattle.rtps_run.proofs.Routed.{comes_before, discovered, discovered_stands, not_before, occurrence_stands}

-- a moment that is there already changes nothing
pub still_moved : (k : Known) (moment : ℕ) → moment ≡ k.moment → moved moment k ≡ k
still_moved k moment is = ap (λ n. record k { moment = n }) (there k.moment moment is)
  where
    there : (old new : ℕ) → new ≡ old → max old new ≡ old
    there old new same = omega (arith, same)

-- ---- changes between two states are by rank

abbrev lower : ChangeAt → ChangeAt → Bool
lower a b = is_lt (nat_cmp a.rank b.rank)

no_less : (a b : ℕ) (rest : Bool) → IsTrue (first_by (nat_cmp a b) rest) → a ≤ b
no_less a b rest h = by_test (nat_lt a b) (a == b) refl refl h
  where
    by_test : (l e : Bool) → nat_lt a b ≡ l → (a == b) ≡ e → IsTrue (first_by (if l then Less else (if e then Equal else Greater)) rest) → a ≤ b
    by_test true e i j h = grind (arith, nat_tests)
    by_test false true i j h = grind (arith, nat_tests)
    by_test false false i j h = absurd (true≢false (sym h))

pairs_rise : (cs : List ChangeAt) → AllPairs (λ a b. IsTrue (differences.comes_before a b)) cs → Rises lower cs
pairs_rise [] h = tt
pairs_rise (c ∷ cs) h = (
  recursion_from_All (λ (d : ChangeAt). lower d c ≡ false) cs (λ j d inside. later (get_or cs j d) (h 0 (suc j) d (omega arith) (omega (arith, inside)))),
  pairs_rise cs (λ i j d before inside. h (suc i) (suc j) d (omega (arith, before)) (omega (arith, inside))),
)
  where
    later : (d : ChangeAt) → IsTrue (differences.comes_before c d) → lower d c ≡ false
    later d h = not_before d.rank c.rank (no_less c.rank d.rank (first_by (guid_order (writer_in c.what) (writer_in d.what)) (ends_first c.what d.what)) h)

changes_rise : {A : Type 0} (ended : List (MatchChange A)) (before after : Known) → IsStrictlySortedBy guid_order (keys_of after.writers) → map change_seen ended ≡ changes before after
    → Rises comes_before (map change_step (map change_seen ended))
changes_rise ended before after up same =
    rises_map lower comes_before change_step (λ a b. refl) (map change_seen ended)
    (subst (Rises lower) (sym same) (pairs_rise (changes before after) (in_order before after up)))

-- ---- the whole moment

-- before the readers' part
pub before_stands : {V M A : Type 0} (view : V → M) (w : World M) (index moment : ℕ) (earlier : List (ReportView M)) (states : List ReaderView) → ReadersStand {A = A} view w earlier states []
    → ReadersStand {A = A} view (discovered w (Passes index moment)) earlier states []
before_stands view w index moment earlier states stands = discovered_stands view w (Passes index moment) earlier states [] [] refl stands refl

pub passes_stand : {V M A B : Type 0} (view : V → M) (d : Decoding M) (w : World M) (index moment : ℕ) (earlier : List (ReportView M)) (kept : RegistryView) (ended : List (MatchChange B)) (states : List ReaderView) (reports : List (Report V A))
    → IsKnown (passed moment w.known) kept → map change_seen ended ≡ changes (moved moment w.known) (passed moment w.known)
    → ReadersStand view (steps_run d (head_of index) (discovered w (Passes index moment)) (map change_step (map change_seen ended))) earlier states reports
    → WorldStands view (world_after d w (Passes index moment)) earlier kept states reports
passes_stand view d w index moment earlier kept ended states reports known same stands = record {
  known = known;
  readers = occurrence_stands view d w (Passes index moment) (map change_step (map change_seen ended)) earlier states reports (changes_rise ended (moved moment w.known) (passed moment w.known) known.ordered same)
      (λ rank below. change_asks rank (map change_seen ended) ∙ ap (changes_for rank) same) stands;
}
