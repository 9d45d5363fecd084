use Rattle.std.proofs.Common.{◌≡◌, ℕ, suc, List, arith}
use Rattle.rtps_frags.specs.Buffer.{IsPutAt}
use Rattle.rtps_frags.specs.Fragments.{before}
use Rattle.rtps_frags.proofs.Stored.{place_within, placed_put, placed_stored, there_within}
use Rattle.rtps_frags.proofs.chunks.Chunks.put_in_place.Goals as goal

put_is : (at n : ℕ) (octets old same new : List ℕ) → n ≡ at → same ≡ old → IsPutAt n octets same new → IsPutAt at octets old new
put_is at n octets old same new e f put = rw (← e, ← f) put

pub overflow_add-there : goal.overflow_add-there
overflow_add-there g c =
    let p = c.args.self.now in
    let h = c.requires.kept in
    let within = there_within c.args.sizes c.requires.cut p.next p.there p.buffer.items p.early.entries (suc p.next) h.kept.begun (omega arith) h in
    let fits = c.requires.free.fits in
    omega (arith, within, fits, c.requires.small)

pub put_at-requires : goal.put_at-requires
put_at-requires g c =
    let p = c.args.self.now in
    let within = place_within c.args.sizes c.requires.cut p.next p.there p.buffer.items p.early.entries c.requires.kept c.args.piece.start c.args.piece.count c.args.piece.octets.now c.requires.free in
    omega (arith, within, c.before-at.ensures, c.requires.small)

pub returns-clause-kept : goal.returns-clause-kept
returns-clause-kept g c =
    let p = c.args.self.now in
    let z = c.args.sizes in
    let piece = c.args.piece in
    let put : IsPutAt (before z piece.start) piece.octets.now p.buffer.items c.put_at.new.buffer.items = put_is (before z piece.start) c.before-at.result piece.octets.now p.buffer.items c.make_room.new.buffer.items c.put_at.new.buffer.items c.before-at.ensures c.make_room.ensures.same c.in_ok-put_at.ensures.ok in
    rw (c.in_ok-insert.ensures.entries, c.new.ensures.items) (placed_stored z c.requires.cut p.next p.there p.buffer.items p.early.entries c.requires.kept piece.start piece.count piece.octets.now c.requires.free c.requires.later c.put_at.new.buffer.items put c.requires.few)

pub returns-clause-put : goal.returns-clause-put
returns-clause-put g c = λ k.
    let p = c.args.self.now in
    let z = c.args.sizes in
    let piece = c.args.piece in
    let put : IsPutAt (before z piece.start) piece.octets.now p.buffer.items c.put_at.new.buffer.items = put_is (before z piece.start) c.before-at.result piece.octets.now p.buffer.items c.make_room.new.buffer.items c.put_at.new.buffer.items c.before-at.ensures c.make_room.ensures.same c.in_ok-put_at.ensures.ok in
    rw (c.in_ok-insert.ensures.entries, c.new.ensures.items) (placed_put z c.requires.cut p.next p.there p.buffer.items p.early.entries c.requires.kept piece.start piece.count piece.octets.now c.requires.free c.requires.later c.put_at.new.buffer.items put k)
