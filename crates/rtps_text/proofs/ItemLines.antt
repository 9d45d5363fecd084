-- The lines of the items of a batch, while they are printed one by one.
use Rattle.std.proofs.Common.{◌≡◌, ℕ, List, ◌∷◌, ◌++◌, Option, ap, map, subst, ◌∙◌}
use Rattle.rtps_records.specs.Runs.{Moves, PutsFront}
use Rattle.rtps_run.specs.Order.{seen}
use Rattle.rtps_run.specs.World.{ReportView}
use Rattle.rtps_text.specs.Replayed.{put_line, put_lines}
use Rattle.rtps_text.proofs.Run.{Printed, printed_more}

module _ {C V M : Type 0} (text : C → M → List ℕ) (f : V → M) where
  -- the lines of these items
  abbrev pub items_lines : C → List (ReportView V) → List ℕ
  items_lines k items = put_lines (text k) (map (seen f) items)

  -- the line of one more item was added
  pub one_more : (old now : Option (List ℕ)) (whole kept out : List ℕ) (k own : C)
      (items rest : List (ReportView V)) (x : ReportView V) → items ≡ x ∷ rest → own ≡ k
      → out ≡ kept ++ put_line (text own) (seen f x)
      → Printed old now whole kept (items_lines k items)
      → Printed old now whole out (items_lines k rest)
  one_more old now whole kept out k own items rest x next same pushed p =
      let line = put_line (text k) (seen f x) in
      let so_far : Printed old now whole kept (line ++ items_lines k rest) =
      subst (λ l. Printed old now whole kept (items_lines k l)) next p in
      printed_more old now whole kept line (items_lines k rest) out so_far
      (pushed ∙ ap (λ c. kept ++ put_line (text c) (seen f x)) same)

  -- the items of a walk are what a batch puts out, so their lines are those of the batch
  pub walk_front : (old new : Option (List ℕ)) (kept : List ℕ) (k : C)
      (items all : List (ReportView V)) (puts : List (ReportView M)) → items ≡ all
      → map (seen f) all ≡ puts → PutsFront old new (kept ++ items_lines k items)
      → PutsFront old new (kept ++ put_lines (text k) puts)
  walk_front old new kept k items all puts is given p =
      subst (λ l. PutsFront old new (kept ++ put_lines (text k) l)) (ap (map (seen f)) is ∙ given) p

  pub walk_moved : (old new : Option (List ℕ)) (kept left : List ℕ) (k : C)
      (items all : List (ReportView V)) (puts : List (ReportView M)) → items ≡ all
      → map (seen f) all ≡ puts → Moves old new (kept ++ items_lines k items) left
      → Moves old new (kept ++ put_lines (text k) puts) left
  walk_moved old new kept left k items all puts is given m =
      subst (λ l. Moves old new (kept ++ put_lines (text k) l) left) (ap (map (seen f)) is ∙ given)
      m
