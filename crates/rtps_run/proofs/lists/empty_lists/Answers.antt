use Rattle.std.proofs.Common.{◌≡◌, ◌∷◌, [], ◌∙◌, length-append, refl}
use Rattle.rtps_run.proofs.Ranks.{each_push}
use Rattle.rtps_run.proofs.lists.empty_lists.Goals as goal

pub loop-at-preserved : goal.loop-at-preserved
loop-at-preserved g c = rw c.in_ok-push.ensures.items (record {
  count = length-append c.loop-at.lists.items (c.new.result ∷ []) ∙ rw c.loop-at.invariant.count refl;
  empty = each_push (λ k v. v.items ≡ []) c.loop-at.lists.items c.new.result c.loop-at._at c.loop-at.invariant.count c.loop-at.invariant.empty c.new.ensures.items;
})
