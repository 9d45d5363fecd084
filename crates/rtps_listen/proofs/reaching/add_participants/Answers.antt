use Rattle.std.proofs.Common.{◌∙◌, ap, sym}
use Rattle.rtps_listen.specs.Reaching.{is_other, participant_at}
use Rattle.rtps_listen.proofs.Places.{none_kept, one_kept}
use Rattle.rtps_listen.proofs.reaching.add_participants.Goals as goal
use Rattle.rtps_listen.proofs.reaching.add_participants.Goals.{then-ne+in_ok-push, else-ne}

pub loop-index-preserved : goal.loop-index-preserved
loop-index-preserved c =
    elim c.if-ne.branch [
      | then-ne+in_ok-push w ↦ one_kept (is_other c.args.own) (participant_at c.args.domain c.args.peer) c.loop-index.index c.args.places.now.items
          c.loop-index.places.items c.if-ne.places.items c.participant_at-place.result c.loop-index.invariant c.participant_at-place.ensures
          (sym c.ne.ensures ∙ w.if-ne.true) (ap (λ v. v.items) w.places-is ∙ w.in_ok-push.ensures.items)
      | else-ne w ↦ none_kept (is_other c.args.own) (participant_at c.args.domain c.args.peer) c.loop-index.index c.args.places.now.items
          c.loop-index.places.items c.if-ne.places.items c.participant_at-place.result c.loop-index.invariant c.participant_at-place.ensures
          (sym c.ne.ensures ∙ w.if-ne.false) (ap (λ v. v.items) w.places-is)
    ]
