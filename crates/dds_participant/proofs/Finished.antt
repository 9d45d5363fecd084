-- A batch is finished after it was handed on.
use Rattle.std.proofs.Common.{◌≡◌, ℕ, ap, ◌∙◌, subst}
use Rattle.rtps_run.specs.Standing.{EngineView, IsFinishedFrom}
use Rattle.dds_participant.specs.Batch.{IsFinishedBy}
use Rattle.dds_participant.specs.Kept.{ParticipantView, one_more}

pub handed_finish : {C W : Type 0} (count : ℕ) (ran handed new : ParticipantView C W) → handed.engine ≡ ran.engine → handed.batches ≡ ran.batches → IsFinishedBy count handed new → IsFinishedBy count ran new
handed_finish {C} {W} count ran handed new engine batches f = record {
  engine = subst (λ (e : EngineView C). IsFinishedFrom count e new.engine) engine f.engine;
  batches = f.batches ∙ ap one_more batches;
}
