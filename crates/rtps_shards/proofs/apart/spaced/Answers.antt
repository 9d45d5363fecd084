use Rattle.std.proofs.Common.{◌≡◌, ◌∷◌, Some, rules}
use Rattle.rtps_shards.proofs.Places.{next_put, none_put}
use Rattle.rtps_shards.proofs.apart.spaced.Goals as goal

pub loop-job-preserved : goal.loop-job-preserved
loop-job-preserved g c =
    let left : c.loop-job.rest.rest.items ≡ c.in-Some.job ∷ c.next.new.self.rest.items = search rules in
    let one = next_put c.loop-job.places.items c.push.new.self.items (Some c.in-Some.job) c.loop-job.rest.rest.items c.next.new.self.rest.items c.args.jobs.items c.in_ok-push.ensures.items left c.loop-job.invariant in
    rw (none_put c.push-in-Some.new.self.items c.push-in-Some-2.new.self.items c.in_ok-push-3.ensures.items)
    (next_put c.push.new.self.items c.push-in-Some.new.self.items c.next-in-Some.result c.next.new.self.rest.items c.next-in-Some.new.self.rest.items c.args.jobs.items c.in_ok-push-2.ensures.items c.next-in-Some.ensures.items one)
