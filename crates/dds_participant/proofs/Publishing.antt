-- A row of a participant shows the world that it stands at.
use Rattle.std.proofs.Common.{◌≡◌, ◌==◌, ℕ, zero, suc, ◌+◌, ◌<◌, ◌≤◌, List, [], ◌∷◌, length, get_or, None, Option, Some, true, false, inl, inr, refl, sym, ap, ◌∙◌, arith}
use Rattle.std.specs.List.{find}
use Rattle.std.specs.Option.{option_map}
use Rattle.std.proofs.lemmas.Bool.{cases_lt}
use Rattle.std.proofs.lemmas.Bool.Decides.{nat_tests}
use Rattle.dds_topic.specs.Decoding.{Decoding}
use Rattle.rtps_reader.specs.declared.status.Status.{Status}
use Rattle.rtps_run.specs.Input.{Input}
use Rattle.rtps_run.specs.Seen.{status_seen}
use Rattle.rtps_run.specs.Standing.{EngineView, ShowsAt, run_by}
use Rattle.rtps_run.proofs.Running.{seen_past}
use Rattle.dds_outlet.specs.declared.row.Look.{Look}
use Rattle.dds_outlet.specs.Rows.{look_at}
use Rattle.dds_participant.specs.Publish.{ShowsWorld, ranked_from, row_of}

-- no rank is that of an earlier place, or of a place past the last one
not_before : (xs : List (Option Status)) (from rank : ℕ) → rank < from → find (λ (entry : ℕ × Status). entry.0 == rank) (ranked_from from xs) ≡ None
not_before [] from rank before = refl
not_before (None ∷ xs) from rank before = not_before xs (from + 1) rank (omega (arith, before))
not_before (Some x ∷ xs) from rank before =
    let no : (from == rank) ≡ false = grind (arith, nat_tests) in
    rw no (not_before xs (from + 1) rank (omega (arith, before)))

not_found : (xs : List (Option Status)) (from rank : ℕ) → from + length xs ≤ rank → find (λ (entry : ℕ × Status). entry.0 == rank) (ranked_from from xs) ≡ None
not_found [] from rank past = refl
not_found (None ∷ xs) from rank past = not_found xs (from + 1) rank (omega (arith, past))
not_found (Some x ∷ xs) from rank past =
    let no : (from == rank) ≡ false = grind (arith, nat_tests) in
    rw no (not_found xs (from + 1) rank (omega (arith, past)))

found : (xs : List (Option Status)) (from i rank : ℕ) (d : Option Status) → rank ≡ from + i → i < length xs
    → find (λ (entry : ℕ × Status). entry.0 == rank) (ranked_from from xs) ≡ option_map (λ (s : Status). (rank, s)) (get_or xs i d)
found [] from i rank d e below = absurd (omega (arith, below))
found (None ∷ xs) from zero rank d e below = not_before xs (from + 1) rank (omega (arith, e))
found (Some x ∷ xs) from zero rank d e below =
    let yes : (from == rank) ≡ true = grind (arith, nat_tests) in
    let same : from ≡ rank = omega (arith, e) in
    rw yes (ap (λ (n : ℕ). Some (n, x)) same)
found (None ∷ xs) from (suc i) rank d e below = found xs (from + 1) i rank d (omega (arith, e)) (omega (arith, below))
found (Some x ∷ xs) from (suc i) rank d e below =
    let no : (from == rank) ≡ false = grind (arith, nat_tests) in
    rw no (found xs (from + 1) i rank d (omega (arith, e)) (omega (arith, below)))

abbrev look_of : ℕ → Status → Look
look_of batches status = record { batch = batches; status = status }

looked : (batches rank : ℕ) (o : Option Status) → option_map (λ (entry : ℕ × Status). look_of batches entry.1) (option_map (λ (s : Status). (rank, s)) o) ≡ option_map (look_of batches) o
looked batches rank None = refl
looked batches rank (Some s) = refl

-- of the statuses with their ranks, a look finds that of the rank
found_in : (batches : ℕ) (statuses : List (Option Status)) (rank : ℕ) (seen : Option Status) → ((other : Option Status) → rank < length statuses → get_or statuses rank other ≡ seen) → (length statuses ≤ rank → seen ≡ None)
    → look_at (row_of batches statuses) rank ≡ option_map (λ (s : Status). record { batch = batches; status = s }) seen
found_in batches statuses rank seen shown past =
    let look : ℕ × Status → Look = λ entry. record { batch = batches; status = entry.1 } in
    elim (cases_lt rank (length statuses)) [
      | inl below ↦
          ap (option_map look) (found statuses 0 rank rank None (omega arith) below)
          ∙ looked batches rank (get_or statuses rank None)
          ∙ ap (option_map (λ (s : Status). record { batch = batches; status = s })) (shown None below)
      | inr over ↦
          ap (option_map look) (not_found statuses 0 rank (omega (arith, over)))
          ∙ ap (option_map (λ (s : Status). record { batch = batches; status = s })) (sym (past over))
    ]

pub shows_world : {C M : Type 0} (decoding : C → Decoding M) (inputs : List Input) (engine : EngineView C) (batches : ℕ) → ShowsAt decoding inputs engine → ShowsWorld (row_of batches engine.statuses) (run_by decoding engine inputs)
shows_world decoding inputs engine batches shown rank =
    let w = run_by decoding engine inputs in
    found_in batches engine.statuses rank (status_seen w rank) (λ other below. shown.statuses rank other below) (λ over. seen_past w rank (omega (arith, over, shown.count)))
