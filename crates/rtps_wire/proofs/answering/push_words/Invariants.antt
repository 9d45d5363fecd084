use Rattle.std.proofs.Common.{◌≡◌, ◌+◌, ◌*◌, ◌≤◌, ◌++◌, take, vec_len, vec_capacity}
use Rattle.rtps_wire.specs.Answering.{encoded_words}
use Rattle.rtps_wire.proofs.answering.push_words.Given as goal

abbrev pub invariant-loop-word : goal.invariant-loop-word
invariant-loop-word g l = record {
  items : l.octets.items ≡ l.initial.octets.items ++ encoded_words (take l.word-index l.words);
  len : vec_len l.octets ≡ vec_len l.initial.octets + 4 * l.word-index;
  capacity : vec_capacity l.initial.octets ≤ vec_capacity l.octets;
}
