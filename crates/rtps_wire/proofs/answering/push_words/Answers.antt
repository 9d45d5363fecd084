use Rattle.std.proofs.Common.{arith}
use Rattle.rtps_wire.proofs.Sent.{words_again}
use Rattle.rtps_wire.proofs.answering.push_words.Goals as goal

pub returns-clause-read_again : goal.returns-clause-read_again
returns-clause-read_again g c = λ rest. words_again c.args.words.now rest (λ k h. omega (arith, c.type_inv.words k))
