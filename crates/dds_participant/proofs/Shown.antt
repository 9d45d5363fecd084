-- What is shown after a batch that ran, and for which there was no memory in the end.
use Rattle.std.proofs.Common.{◌≡◌, List, Result, Ok, Err, OnErr, sym, subst}
use Rattle.dds_topic.specs.Decoding.{Decoding}
use Rattle.rtps_run.specs.Input.{Input}
use Rattle.rtps_run.specs.Standing.{EngineView, ShowsAt}
use Rattle.dds_participant.specs.Batch.{OnlyRuns, failing}
use Rattle.dds_participant.specs.Kept.{ParticipantView}

-- the statuses are shown that were shown before it
ran_shows : {C M W : Type 0} (decoding : C → Decoding M) (inputs : List Input) (old ran : ParticipantView C W) → OnlyRuns (failing old) ran → ShowsAt decoding inputs old.engine → ShowsAt decoding inputs ran.engine
ran_shows decoding inputs old ran same shown = record {
  count = rw (same.statuses, same.catalog, same.config) shown.count;
  statuses = rw (same.statuses, same.catalog, same.config) shown.statuses;
}

pub still_shows : {C M W T E : Type 0} (r : Result T E) (decoding : C → Decoding M) (inputs : List Input) (old admitted ran handed : ParticipantView C W) → admitted ≡ failing old → OnlyRuns admitted ran → handed.engine ≡ ran.engine
    → ShowsAt decoding inputs old.engine → OnErr r (ShowsAt decoding inputs handed.engine)
still_shows {C} {M} {W} (Ok x) decoding inputs old admitted ran handed is same on shown = tt
still_shows {C} {M} {W} (Err e) decoding inputs old admitted ran handed is same on shown =
    subst (λ (v : EngineView C). ShowsAt decoding inputs v) (sym on) (ran_shows decoding inputs old ran (subst (λ (p : ParticipantView C W). OnlyRuns p ran) is same) shown)
