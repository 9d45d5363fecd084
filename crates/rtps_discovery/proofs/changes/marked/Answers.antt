use Rattle.std.proofs.Common.{◌≡◌, ◌∙◌, ap, false, length, rules}
use Rattle.std.specs.Prelude.{replicate}
use Rattle.std.proofs.lemmas.List.{get_or-replicate, length-replicate}
use Rattle.rtps_discovery.proofs.changes.marked.Goals as goal

pub loop-rank-init : goal.loop-rank-init
loop-rank-init g c =
    let all : c.in_ok-marks.marks.items ≡ replicate c.args.number false = c.in_ok-marks.ensures.items_if_clones_equal (search rules) in
    record {
      size = ap length all ∙ length-replicate c.args.number false;
      marks = λ n low. rw all (get_or-replicate c.args.number n false false low);
    }
