use Rattle.rtps_wire.proofs.Words.{words_next}
use Rattle.rtps_announcer.proofs.acknack.get_words.Goals as goal

pub loop-k-preserved : goal.loop-k-preserved
loop-k-preserved c =
    words_next c.args.endian c.args.octets.now c.loop-k.words c.args.at c.loop-k.k c.args.count c.in_ok-words.field-0 c.loop-k-test.true c.requires.few c.in_ok-words.ensures c.loop-k.invariant.1
