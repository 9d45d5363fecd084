use Rattle.std.proofs.Common.{◌≡◌, ◌++◌, map, ap, refl}
use Rattle.std.specs.Map.{keys_of}
use Rattle.rtps_discovery.specs.Kept.{kept}
use Rattle.rtps_discovery.specs.Leave.{endings}
use Rattle.rtps_discovery.specs.Seen.{change_seen}
use Rattle.rtps_discovery.proofs.Leaving.{Leaves, leaves}
use Rattle.rtps_discovery.proofs.registry.Registry.leave_all.Goals as goal

pub returns : goal.returns
returns g c =
    let d = kept c.args.self.now in
    let those = c.args.prefixes.now in
    let gone = c.in_ok-gone.gone.items in
    let earlier = map change_seen c.args.changes.now.items in
    let all = map change_seen c.hear_all_ends.new.changes.items in
    let l : Leaves d those c.forget_participants.new.participants.entries c.forget_participants.new.leases c.end_all_announcers.new.announcers c.take_all_writers.new.writers.entries c.rerank.new.index.entries gone = record {
      participants = c.forget_participants.ensures.left;
      covers = c.forget_participants.ensures.covers;
      announcers = c.end_all_announcers.ensures;
      gone = c.in_ok-gone.ensures.gone;
      fixed = c.in_ok-gone.ensures.fixed;
      left = c.in_ok-gone.ensures.left;
      ranks = c.in_ok-rerank.ensures;
    } in
    let told : all ≡ earlier ++ endings gone 0 d.readers = rw (c.deref.ensures.value, c.as_slice.ensures.value) at c.in_ok-hear_all_ends.ensures in
    leaves d those c.forget_participants.new.participants.entries c.forget_participants.new.leases c.end_all_announcers.new.announcers c.take_all_writers.new.writers.entries c.rerank.new.index.entries gone l c.requires
    (keys_of c.forget_all_readers.new.readers.entries) c.args.self.now.remote_readers.entries earlier all refl (ap keys_of c.forget_all_readers.ensures.left) told
