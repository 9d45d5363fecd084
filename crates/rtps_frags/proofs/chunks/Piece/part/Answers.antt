use Rattle.std.proofs.Common.{◌≡◌, ◌+◌, ◌-◌, ◌≤◌, arith}
use Rattle.rtps_frags.specs.Fragments.{before, length_of}
use Rattle.rtps_frags.proofs.Cuts.{part_same, part_within}
use Rattle.rtps_frags.proofs.chunks.Piece.part.Goals as goal

pub slice_bounds-result-end : goal.slice_bounds-result-end
slice_bounds-result-end c =
    let z = c.args.sizes in
    let p = c.args.self in
    let within : (before z c.args.from - before z p.start) + length_of z c.args.from (c.args.to - c.args.from) ≤ length_of z p.start p.count = part_within z c.requires.cut p.start p.count c.args.from c.args.to c.requires.first c.requires.behind c.requires.some c.requires.within (omega arith) in
    omega (arith, within, c.before-2.ensures, c.before-3.ensures, c.length_of-length.ensures)

pub returns-clause-same : goal.returns-clause-same
returns-clause-same c = λ k le l.
    let z = c.args.sizes in
    let p = c.args.self in
    let skipped : c.before-2.result - c.before-3.result ≡ before z c.args.from - before z p.start = omega (arith, c.before-2.ensures, c.before-3.ensures) in
    let length : c.before-2.result - c.before-3.result + c.length_of-length.result - (c.before-2.result - c.before-3.result) ≡ length_of z c.args.from (c.args.to - c.args.from) = omega (arith, c.length_of-length.ensures) in
    rw (length, skipped) (part_same z c.requires.cut p.start p.count c.args.from c.args.to p.octets.now c.requires.first c.requires.behind c.requires.some c.requires.within (omega arith) k le l)
