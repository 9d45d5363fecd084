use Rattle.std.proofs.Common.{◌≡◌, ◌+◌, ◌*◌, take, ap, arith}
use Rattle.rtps_types.specs.Sets.{sn_view}
use Rattle.rtps_wire.specs.Answering.{word_count}
use Rattle.rtps_wire.proofs.Sent.{AckNackIsSized, acknack_built, acknack_tells, sent_again}
use Rattle.rtps_wire.proofs.acknack.write_acknack.Goals as goal

counted : (g : _) (c : goal.After-new g) → c.div_ceil-words.result ≡ word_count (sn_view c.args.answer.missing)
counted g c = omega arith

sized : (g : _) (c : goal.After-new g) → AckNackIsSized c.args.answer
sized g c = record {
  own = omega arith;
  to = omega arith;
  reader = omega arith;
  writer = omega arith;
  least = omega arith;
  signed = omega arith;
  few = omega arith;
  words = omega arith;
  again = λ rest. sent_again (sn_view c.args.answer.missing) c.div_ceil-words.result rest (counted g c) (omega arith) (omega arith) (c.push_words.ensures.read_again rest);
  count = omega arith;
}

pub returns-clause-octets : goal.returns-clause-octets
returns-clause-octets g c =
    rw (c.new.ensures, c.push_u32-2.ensures.items, c.push_words.ensures.items, c.push_u32.ensures.items, c.push_sn.ensures.items, c.push_octets-2.ensures.items, c.push_octets.ensures.items, c.in_ok-octets.ensures.items)
    (acknack_built c.args.answer (24 + 4 * c.div_ceil-words.result) c.flags_of.result _ (sized g c) (omega arith) c.flags_of.ensures (ap (λ n. take n c.args.answer.missing.words) (counted g c)))

pub returns-clause-message : goal.returns-clause-message
returns-clause-message g c = rw (returns-clause-octets g c) (acknack_tells c.args.answer (sized g c)).0

pub returns-clause-read_again : goal.returns-clause-read_again
returns-clause-read_again g c = rw (returns-clause-octets g c) (acknack_tells c.args.answer (sized g c)).1
