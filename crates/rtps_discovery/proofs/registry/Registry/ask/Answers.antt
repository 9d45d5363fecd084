use Rattle.std.proofs.Common.{◌∙◌, ap, rules}
use Rattle.std.specs.Map.{keys_of}
use Rattle.rtps_discovery.specs.Kept.{kept}
use Rattle.rtps_discovery.proofs.Sizes.{sized_put}
use Rattle.rtps_discovery.proofs.SortedKeys.{keys_insert}
use Rattle.rtps_discovery.proofs.Unheard.{asks}
use Rattle.rtps_discovery.proofs.registry.Registry.ask.Goals as goal

pub returns-in-Ok : goal.returns-in-Ok
returns-in-Ok g c = λ earlier.
    asks (kept c.args.self.now) c.args.reader (keys_of c.insert.new.self.entries) earlier
    (ap keys_of c.in-Ok.ensures.entries ∙ keys_insert c.args.self.now.remote_readers.entries c.args.reader tt)

pub invariant_of-self-clause-readers_sized : goal.invariant_of-self-clause-readers_sized
invariant_of-self-clause-readers_sized g c =
    sized_put c.insert.result c.args.self.now.remote_readers.entries c.insert.new.self.entries c.args.reader tt c.insert.ensures.entries c.insert.ensures.err (search rules) c.args.self.now.readers_sized
