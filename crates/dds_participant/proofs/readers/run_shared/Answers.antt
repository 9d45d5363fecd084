use Rattle.std.proofs.Common.{◌<◌, [], length, map, rules}
use Rattle.rtps_receiver.specs.Events.{view}
use Rattle.std.proofs.lemmas.List.Sorted.{All-permutation}
use Rattle.rtps_shards.specs.Results.{rank_in, rank_of}
use Rattle.dds_participant.specs.Readers.{IsNoneOf}
use Rattle.dds_participant.proofs.Returned.{all_run, none_of_none, same_ranks}
use Rattle.dds_participant.proofs.readers.run_shared.Goals as goal

pub put_back-requires-clause-ranks : goal.put_back-requires-clause-ranks
put_back-requires-clause-ranks g c κs outlives =
    rw c.lend.ensures.count (All-permutation (λ rank. rank < length c.args.assigned.readers.states.items) (map rank_in c.in_ok-work.work.items) (map rank_of c.in_ok-results.results.items) c.in_ok-results.ensures.ranks c.in_ok-work.ensures.ranks)

pub returns-clause-run : goal.returns-clause-run
returns-clause-run g c shares all are =
    let f = g.C.Catalog.view in
    let decoding = g.C.Catalog.decoding c.args.batch.now.catalog.now in
    let es = map view c.args.batch.now.events.now in
    let ready = c.in_ok-work.ensures.ready es shares all are in
    let idle = c.in_ok-work.ensures.idle es decoding shares all are in
    let done = c.in_ok-results.ensures.done shares ready in
    let states = c.lend.new.readers.states.items in
    let outputs = c.lend.new.readers.outputs.items in
    let back = c.put_back.ensures.back decoding shares done (same_ranks f decoding shares _ _ states outputs c.in_ok-results.ensures.ranks idle) in
    all_run f decoding shares c.args.assigned.readers.states.items c.put_back.new.readers (IsNoneOf []) (search rules) none_of_none back
