use Rattle.std.proofs.Common.{◌≡◌, ◌++◌, take, vec_capacity}
use Rattle.rtps_frags.proofs.buffer.with_octets.Given as goal

abbrev pub invariant-loop-octet : goal.invariant-loop-octet
invariant-loop-octet g l = record {
  items : l.buffer.items ≡ l.fn.buffer.items ++ take l.octet-index l.octets;
  capacity : vec_capacity l.buffer ≡ vec_capacity l.fn.buffer;
}
