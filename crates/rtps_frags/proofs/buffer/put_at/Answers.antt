use Rattle.std.proofs.Common.{◌≡◌, ◌+◌, ◌-◌, ◌++◌, List, ℕ, length, replicate, max, ◌∙◌, ap, arith}
use Rattle.std.proofs.lemmas.List.{length-append, length-replicate}
use Rattle.rtps_frags.proofs.Places.{part_written, put_filled}
use Rattle.rtps_frags.proofs.buffer.put_at.Goals as goal

pub returns-clause-ok : goal.returns-clause-ok
returns-clause-ok g c =
    let at = c.args.at in
    let octets = c.args.octets.now in
    let old = c.args.buffer.now in
    let filled = c.fill_up.new.buffer in
    let zeros : List ℕ = replicate (at + length octets - length old.items) 0 in
    let is : filled.items ≡ old.items ++ zeros = c.in_ok-fill_up.ensures.ok ∙ ap (λ n. old.items ++ replicate (at + length octets - n) 0) old.ok.0 in
    let size : length (old.items ++ zeros) ≡ max (length old.items) (at + length octets) = simp (length-append, length-replicate) (omega arith) in
    put_filled at octets old.items zeros filled.items _ is size
    (part_written at (at + length octets - at) filled.len octets filled.items c.deref_mut.result.now c.copy_from_slice.new.self (omega arith) c.deref_mut.ensures.value c.copy_from_slice.ensures.after filled.ok.0 (omega (arith, ap length is, size)))
