use Rattle.std.proofs.Common.{◌≡◌, ◌+◌, ◌++◌, ◌∙◌, List, [], ◌∷◌, map, take, refl, sym, ap, subst}
use Rattle.std.proofs.lemmas.List.{take_all, take_more}
use Rattle.rtps_types.specs.declared.traffic.WriterFacts.{WriterFacts}
use Rattle.rtps_proxy.specs.Matches.{AllStand}
use Rattle.rtps_reader.specs.Reader.{first_matches, first_reader}
use Rattle.rtps_reader.specs.Standing.{facts_in}
use Rattle.rtps_reader.proofs.Begun.{begun_more}
use Rattle.rtps_reader.proofs.Stepping.{started}
use Rattle.rtps_reader.proofs.stateful.StatefulReader.new.Goals as goal

pub loop-facts-preserved : goal.loop-facts-preserved
loop-facts-preserved g c =
    let so_far = c.loop-facts.invariant in
    let begun = c.in_ok-begin.ensures in
    let i = c.loop-facts.facts-index in
    let one : take (i + 1) c.args.fixed.now ≡ take i c.args.fixed.now ++ c.facts-item.result ∷ []
    = take_more c.args.fixed.now i c.facts-item.result c.loop-facts-test.true ∙ ap (λ f. take i c.args.fixed.now ++ f ∷ []) (sym c.facts-item.is) in
    record {
      rank = begun.reader.rank ∙ so_far.rank;
      own = begun.reader.own ∙ so_far.own;
      entity = begun.reader.entity ∙ so_far.entity;
      reliable = begun.reader.reliable ∙ so_far.reliable;
      stands = begun_more c.args.guid.prefix c.loop-facts.reader.own c.args.guid.entity c.loop-facts.reader.entity c.args.reliable c.loop-facts.reader.reliable (take i c.args.fixed.now) (take (i + 1) c.args.fixed.now) c.facts-item.result c.as_slice.result.now c.begin.new.self.matches
          so_far.own so_far.entity so_far.reliable c.as_slice.ensures one (begun.stands _ so_far.stands);
    }

pub returns-clause-starts : goal.returns-clause-starts
returns-clause-starts g c =
    let so_far = c.loop-facts.invariant in
    let facts = map facts_in c.args.fixed.now in
    let r = first_reader c.args.guid.prefix c.args.guid.entity c.args.reliable facts in
    let all : AllStand r.matches c.loop-facts.reader.matches
    = subst (λ (l : List (WriterFacts _)). AllStand (first_matches c.args.guid.prefix c.args.guid.entity c.args.reliable (map facts_in l)) c.loop-facts.reader.matches) (take_all c.loop-facts.facts-index c.args.fixed.now c.loop-facts-test.false) so_far.stands in
    record {
      sound = refl;
      own = so_far.own;
      entity = so_far.entity;
      reliable = so_far.reliable;
      matches = all;
      status = started r c.of_fixed-reader.result c.len.result c.loop-facts.reader.matches c.of_fixed-reader.ensures c.len.ensures all refl;
    }
