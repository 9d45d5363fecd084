use Rattle.std.proofs.Common.{◌+◌, ◌*◌, suc, length, ap, arith, leb}
use Rattle.rtps_frags.proofs.Stored.{there_within}
use Rattle.rtps_frags.proofs.chunks.Chunks.has_place.Goals as goal

pub overflow_add-result-2 : goal.overflow_add-result-2
overflow_add-result-2 g c =
    let p = c.args.self.now in
    let h = c.requires.kept in
    let within = there_within c.args.sizes c.requires.cut p.next p.there p.buffer.items p.early.entries (suc p.next) h.kept.begun (omega arith) h in
    let fits = c.requires.free.fits in
    omega (arith, within, fits, c.requires.small)

pub overflow_mul-result : goal.overflow_mul-result
overflow_mul-result g c =
    let p = c.args.self.now in
    let h = c.requires.kept in
    let within = there_within c.args.sizes c.requires.cut p.next p.there p.buffer.items p.early.entries (suc p.next) h.kept.begun (omega arith) h in
    let fits = c.requires.free.fits in
    omega (arith, within, fits, c.requires.small)

pub returns : goal.returns
returns g c = ap (λ n. leb (n + length c.args.piece.octets.now) (2 * (c.args.self.now.there + length c.args.piece.octets.now))) c.before-2.ensures
