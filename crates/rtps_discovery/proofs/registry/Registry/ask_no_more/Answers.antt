use Rattle.std.proofs.Common.{◌∙◌, ap}
use Rattle.std.specs.Map.{keys_of}
use Rattle.rtps_proxy.specs.Matches.{is_at}
use Rattle.rtps_discovery.specs.Kept.{kept}
use Rattle.rtps_discovery.specs.Sized.{are_sized}
use Rattle.rtps_discovery.proofs.Sizes.{sized_remove}
use Rattle.rtps_discovery.proofs.SortedKeys.{keys_remove}
use Rattle.rtps_discovery.proofs.Unheard.{asks_no_more}
use Rattle.rtps_discovery.proofs.registry.Registry.ask_no_more.Goals as goal

pub returns : goal.returns
returns g c = λ earlier.
    asks_no_more (kept c.args.self.now) c.args.reader (keys_of c.remove.new.self.entries) earlier
    (ap keys_of c.remove.ensures.entries ∙ keys_remove (is_at c.args.reader) c.args.self.now.remote_readers.entries)

pub invariant_of-self-clause-readers_sized : goal.invariant_of-self-clause-readers_sized
invariant_of-self-clause-readers_sized g c =
    ap (λ l. are_sized (keys_of l)) c.remove.ensures.entries ∙ sized_remove (is_at c.args.reader) c.args.self.now.remote_readers.entries c.args.self.now.readers_sized
