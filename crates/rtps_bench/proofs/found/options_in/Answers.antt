use Rattle.std.proofs.Common.{codes, ◌∙◌}
use Rattle.clap.specs.Words.{found_of}
use Rattle.clap.proofs.WalkLemmas.{first_value-rows}
use Rattle.rtps_bench.proofs.found.options_in.Goals as goal

pub returns : goal.returns
returns c = record {
  readers = c.number_to.ensures.value;
  topics = c.number_to-2.ensures.value;
  topic = c.topic_in.ensures;
  fixed = c.get_str.ensures ∙ first_value-rows (found_of c.args.matches.now) (codes "fixed");
  workers = c.number_to-3.ensures.value;
  batch = c.number_to-4.ensures.value;
  repeat = c.number_to-5.ensures.value;
}
