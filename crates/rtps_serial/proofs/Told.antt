-- Steps one after the other.
use Rattle.std.proofs.Common.{◌≡◌, ℕ, ◌==◌, List, [], ◌∷◌, ◌++◌, map, refl, ap, ◌∙◌, append_assoc}
use Rattle.std.specs.Prelude.{filter}
use Rattle.std.proofs.lemmas.List.{map-append}
use Rattle.std.proofs.lemmas.List.Elements.{filter-append}
use Rattle.rtps_types.specs.declared.place.Place.{Place}
use Rattle.rtps_discovery.specs.Changes.{ChangeAt}
use Rattle.dds_topic.specs.Decoding.{Decoding}
use Rattle.rtps_reader.specs.Reader.{Reader, reader_after, reader_run, tells}
use Rattle.rtps_reader.specs.Step.{Changes, StepView}
use Rattle.rtps_run.specs.World.{changes_for}
use Rattle.rtps_run.proofs.Matched.{told_run}

pub run_both : (r : Reader) (xs ys : List StepView) → reader_run (reader_run r xs) ys ≡ reader_run r (xs ++ ys)
run_both r [] ys = refl
run_both r (x ∷ xs) ys = run_both (reader_after r x) xs ys

pub told_both : {M : Type 0} (d : Decoding M) (place : Place) (r : Reader) (xs ys : List StepView) → told_run d place r xs ++ told_run d place (reader_run r xs) ys ≡ told_run d place r (xs ++ ys)
told_both d place r [] ys = refl
told_both d place r (x ∷ xs) ys =
    append_assoc (tells d r place x) (told_run d place (reader_after r x) xs) (told_run d place (reader_run (reader_after r x) xs) ys)
    ∙ ap (λ l. tells d r place x ++ l) (told_both d place (reader_after r x) xs ys)

pub both_for : (rank : ℕ) (xs ys : List ChangeAt) → changes_for rank (xs ++ ys) ≡ changes_for rank xs ++ changes_for rank ys
both_for rank xs ys =
    ap (map (λ (c : ChangeAt). Changes c.what)) (filter-append (λ (c : ChangeAt). c.rank == rank) xs ys)
    ∙ map-append (λ (c : ChangeAt). Changes c.what) (filter (λ (c : ChangeAt). c.rank == rank) xs) (filter (λ (c : ChangeAt). c.rank == rank) ys)
