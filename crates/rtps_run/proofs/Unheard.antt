-- A rank that was not given has given no notice.
use Rattle.std.proofs.Common.{◌≡◌, ℕ, ◌≤◌, List, [], ◌∷◌, ◌++◌, refl, ap, ◌∙◌, append-nil, arith}
use Rattle.rtps_discovery.specs.declared.config.Config.{Config}
use Rattle.dds_topic.specs.Decoding.{Decoding}
use Rattle.rtps_run.specs.Input.{Input, occurrences_from}
use Rattle.rtps_run.specs.Occurrence.{Occurrence}
use Rattle.rtps_run.specs.Run.{first_world, run, world_run}
use Rattle.rtps_run.specs.Seen.{notices_by, reader_count}
use Rattle.rtps_run.specs.World.{World, count_after, discovery_puts, puts_below, world_after}
use Rattle.rtps_run.proofs.Counting.{no_fewer_run}
use Rattle.rtps_run.proofs.Dealt.{notices_by-append}
use Rattle.rtps_run.proofs.Matched.{heard_then, none_below}

-- an occurrence puts out no notice of a rank that was not given by then
pub heard_past : {M : Type 0} (d : Decoding M) (w : World M) (rank : ℕ) (o : Occurrence) → count_after w o ≤ rank → notices_by rank (world_after d w o).put ≡ notices_by rank w.put
heard_past d w rank o past =
    let n = count_after w o in
    notices_by-append rank w.put (discovery_puts w.known o ++ puts_below d w.known o w.readers n)
    ∙ ap (λ l. notices_by rank w.put ++ l) (heard_then d w rank o n ∙ none_below d w.known o w.readers rank n past)
    ∙ append-nil (notices_by rank w.put)

unheard_run : {M : Type 0} (d : Decoding M) (w : World M) (os : List Occurrence) (rank : ℕ) → reader_count (world_run d w os) ≤ rank → notices_by rank (world_run d w os).put ≡ notices_by rank w.put
unheard_run d w [] rank past = refl
unheard_run d w (o ∷ os) rank past =
    let fewer = no_fewer_run d (world_after d w o) os in
    unheard_run d (world_after d w o) os rank past ∙ heard_past d w rank o (omega (arith, past, fewer))

-- and so in a run
pub unheard : {M : Type 0} (d : Decoding M) (config : Config) (inputs : List Input) (rank : ℕ) → reader_count (run d config inputs) ≤ rank → notices_by rank (run d config inputs).put ≡ []
unheard d config inputs rank past = unheard_run d (first_world config) (occurrences_from config.own 0 inputs) rank past
