use Rattle.std.proofs.Common.{◌≡◌, map, take}
use Rattle.rtps_proxy.specs.Matches.{AllStand}
use Rattle.rtps_reader.specs.Reader.{first_matches}
use Rattle.rtps_reader.specs.Standing.{facts_in}
use Rattle.rtps_reader.proofs.stateful.StatefulReader.new.Given as goal

-- the matches with the writers so far have begun
abbrev pub invariant-loop-facts : goal.invariant-loop-facts
invariant-loop-facts g l = record {
  rank : l.reader.rank ≡ l.rank;
  own : l.reader.own ≡ l.fn.guid.prefix;
  entity : l.reader.entity ≡ l.fn.guid.entity;
  reliable : l.reader.reliable ≡ l.reliable;
  stands : AllStand (first_matches l.fn.guid.prefix l.fn.guid.entity l.reliable (map facts_in (take l.facts-index l.fixed))) l.reader.matches;
}
