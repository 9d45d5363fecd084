use Rattle.std.proofs.Common.{◌≡◌, ◌++◌, drop, map}
use Rattle.rtps_discovery.specs.Start.{wish_of}
use Rattle.dds_announced.specs.Speaker.{own_reader}
use Rattle.dds_announced.proofs.speaker.Speaker.add_all.Given as goal

-- the readers so far, with the rest, are all
abbrev pub invariant-loop-reader : goal.invariant-loop-reader
invariant-loop-reader l = record {
  own : l.self.own ≡ l.fn.self.own;
  here : l.self.here ≡ l.fn.self.here;
  readers :
      l.self.readers.items ++ map (λ r. own_reader l.fn.self.own (wish_of r)) (drop l.reader-index l.readers)
      ≡ l.fn.self.readers.items ++ map (λ r. own_reader l.fn.self.own (wish_of r)) l.readers;
}
