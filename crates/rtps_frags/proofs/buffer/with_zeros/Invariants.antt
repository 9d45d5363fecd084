use Rattle.std.proofs.Common.{◌≡◌, ◌++◌, ◌-◌, replicate, vec_capacity, vec_len}
use Rattle.rtps_frags.proofs.buffer.with_zeros.Given as goal

abbrev pub invariant-loop-i : goal.invariant-loop-i
invariant-loop-i g l = record {
  items : l.buffer.items ≡ l.fn.buffer.items ++ replicate (l._i - vec_len l.fn.buffer) 0;
  capacity : vec_capacity l.buffer ≡ vec_capacity l.fn.buffer;
}
