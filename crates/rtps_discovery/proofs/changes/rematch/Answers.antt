use Rattle.std.proofs.Common.{◌≡◌, ◌<◌, ◌||◌, get_or, arith, ◌+◌, ◌∷◌, ◌++◌, [], List, ℕ, length, Bool, true, false, Option, drop, map, append_assoc, if◌then◌else◌, refl, sym, ap, ◌∙◌}
use Rattle.std.proofs.lemmas.List.{drop_more}
use Rattle.rtps_discovery.specs.Known.{Wish, is_joined, standing}
use Rattle.rtps_discovery.specs.OneWriter.{column, has_rank, matched_from, met}
use Rattle.rtps_discovery.specs.Seen.{change_seen, lent}
use Rattle.rtps_discovery.proofs.changes.rematch.Goals as goal
use Rattle.rtps_discovery.proofs.changes.rematch.Goals.{then-branch+in_ok-push, else-branch}

taken : (t : Bool) (a b : List ℕ) → t ≡ true → a ≡ (if t then a else b)
taken t a b e = rw e refl

passed : (t : Bool) (a b : List ℕ) → t ≡ false → b ≡ (if t then a else b)
passed t a b e = rw e refl

pub loop-reader-preserved : goal.loop-reader-preserved
loop-reader-preserved g c =
    let i = c.loop-reader.reader-index in
    let rank = c.loop-reader.rank in
    let reader = c.reader-item.result in
    let update = c.args.update.now in
    let left = drop (i + 1) c.args.readers.now in
    let cut : drop i c.args.readers.now ≡ reader ∷ left = drop_more c.args.readers.now i reader c.loop-reader-test.true ∙ ap (λ (r : Option Wish). r ∷ left) (sym c.reader-item.is) in
    let heard = column (has_rank c.args.fixed.now) update.writer update.locators.now (lent update.before) (lent update.after) in
    let ranks = matched_from (has_rank c.args.fixed.now) (lent update.after) in
    let here = met (has_rank c.args.fixed.now) update.writer update.locators.now rank (standing reader (lent update.before)) (standing reader (lent update.after)) in
    let earlier = map change_seen c.loop-reader.changes.items in
    let low : rank < length c.args.readers.now = omega (arith, c.loop-reader.invariant.rank, c.loop-reader-test.true) in
    let same : c.is_marked-is_fixed.result ≡ has_rank c.args.fixed.now rank =
    c.is_marked-is_fixed.ensures ∙ ap (λ l. get_or l rank false) c.deref.ensures.value ∙ c.in_ok-marks.ensures rank low in
    let met_now : map change_seen c.meet.new.changes.items ≡ earlier ++ here =
    c.in_ok-meet.ensures.changes ∙ ap (λ (b : Bool). earlier ++ met (λ _. b) update.writer update.locators.now rank (standing reader (lent update.before)) (standing reader (lent update.after))) same in
    let joined : c.in_ok-meet.field-0 ≡ (has_rank c.args.fixed.now rank || is_joined (standing reader (lent update.after))) =
    c.in_ok-meet.ensures.matched ∙ ap (λ (b : Bool). b || is_joined (standing reader (lent update.after))) same in
    let old = c.loop-reader.matched.items in
    let more = ranks (rank + 1) left in
    record {
      rank = ap (λ n. n + 1) c.loop-reader.invariant.rank;
      changes =
          ap (λ l. l ++ heard (rank + 1) left) met_now ∙ append_assoc earlier here (heard (rank + 1) left)
          ∙ ap (λ rs. earlier ++ heard rank rs) (sym cut) ∙ c.loop-reader.invariant.changes;
      matched =
          elim c.if-branch.branch [
            | then-branch+in_ok-push w ↦
                ap (λ v. v.items ++ more) w.matched-is ∙ ap (λ l. l ++ more) w.in_ok-push.ensures.items ∙ append_assoc old (rank ∷ []) more
                ∙ ap (λ l. old ++ l) (taken _ (rank ∷ more) more (sym joined ∙ w.if-branch.true))
                ∙ ap (λ rs. old ++ ranks rank rs) (sym cut) ∙ c.loop-reader.invariant.matched
            | else-branch w ↦
                ap (λ v. v.items ++ more) w.matched-is
                ∙ ap (λ l. old ++ l) (passed _ (rank ∷ more) more (sym joined ∙ w.if-branch.false))
                ∙ ap (λ rs. old ++ ranks rank rs) (sym cut) ∙ c.loop-reader.invariant.matched
          ];
    }
