use Rattle.std.proofs.Common.{◌≡◌, ◌+◌, ◌*◌, ◌^◌, ◌<◌, take, ap, arith}
use Rattle.rtps_types.specs.Sets.{frag_view}
use Rattle.rtps_wire.specs.Answering.{word_count}
use Rattle.rtps_wire.proofs.Sent.{NackFragIsSized, nack_frag_built, nack_frag_tells, sent_again}
use Rattle.rtps_wire.proofs.nack_frag.write_nack_frag.Goals as goal

counted : (g : _) (c : goal.After-new g) → c.div_ceil-words.result ≡ word_count (frag_view c.args.answer.missing)
counted g c = omega arith

sized : (g : _) (c : goal.After-new g) → NackFragIsSized c.args.answer
sized g c =
    let small : c.get.result < 2 ^ 63 = omega arith in
    record {
      own = omega arith;
      to = omega arith;
      reader = omega arith;
      writer = omega arith;
      signed = rw c.get.ensures.value at small;
      base = omega arith;
      few = omega arith;
      words = omega arith;
      again = λ rest. sent_again (frag_view c.args.answer.missing) c.div_ceil-words.result rest (counted g c) (omega arith) (omega arith) (c.push_words.ensures.read_again rest);
      count = omega arith;
    }

pub returns-clause-octets : goal.returns-clause-octets
returns-clause-octets g c =
    rw (c.new.ensures, c.push_u32-3.ensures.items, c.push_words.ensures.items, c.push_u32-2.ensures.items, c.push_u32.ensures.items, c.push_sn.ensures.items, c.get.ensures.value, c.push_octets-2.ensures.items, c.push_octets.ensures.items, c.in_ok-octets.ensures.items)
    (nack_frag_built c.args.answer (28 + 4 * c.div_ceil-words.result) _ (sized g c) (omega arith) (ap (λ n. take n c.args.answer.missing.words) (counted g c)))

pub returns-clause-message : goal.returns-clause-message
returns-clause-message g c = rw (returns-clause-octets g c) (nack_frag_tells c.args.answer (sized g c)).0

pub returns-clause-read_again : goal.returns-clause-read_again
returns-clause-read_again g c = rw (returns-clause-octets g c) (nack_frag_tells c.args.answer (sized g c)).1
