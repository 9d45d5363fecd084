use Rattle.std.proofs.Common.{codes, ap, refl, ◌∙◌}
use Rattle.clap.specs.Words.{found_of}
use Rattle.clap.proofs.WalkLemmas.{first_value-rows}
use Rattle.rtps_listen.specs.Options.{one_to, up_to}
use Rattle.rtps_listen.proofs.request.options_in.Goals as goal

pub returns : goal.returns
returns c = record {
  file = c.text_in.ensures;
  own = c.text_in-2.ensures;
  readers = c.one_to.ensures.value ∙ ap (one_to 8) c.number_in-2.ensures;
  workers = c.one_to-workers.ensures.value ∙ ap (one_to 64) c.number_in.ensures;
  batch =
      let shared = c.one_to-workers.ensures.value ∙ ap (one_to 64) c.number_in.ensures in
      c.batch_size.ensures.value ∙ rw (shared, c.number_in-3.ensures) refl;
  topic = c.text_in-3.ensures;
  type_name = c.text_in-4.ensures;
  fixed = c.get_str.ensures ∙ first_value-rows (found_of c.args.matches.now) (codes "fixed");
  no_key = c.flag_in.ensures;
  best_effort = c.flag_in-2.ensures;
  raw = c.flag_in-3.ensures;
  summary = c.flag_in-4.ensures;
  keep = c.up_to.ensures.value ∙ ap (up_to 65536) c.number_in-4.ensures;
  domain = c.up_to-2.ensures.value ∙ ap (up_to 232) c.number_in-5.ensures;
  address = c.text_in-5.ensures;
  count = c.one_to-2.ensures.value ∙ ap (one_to 65536) c.number_in-6.ensures;
  turns = c.one_to-3.ensures.value ∙ ap (one_to 100000) c.number_in-7.ensures;
  announce = c.flag_in-5.ensures;
  peers = c.get_str-2.ensures ∙ first_value-rows (found_of c.args.matches.now) (codes "peers");
  no_multicast = c.flag_in-6.ensures;
  lease = c.up_to-3.ensures.value ∙ ap (up_to 86400) c.number_in-8.ensures;
}
