use Rattle.std.proofs.Common.{◌+◌, suc, subst, arith, Result, Ok, Err}
use Rattle.std.specs.Prelude.{OnErr}
use Rattle.rtps_frags.specs.Buffer.{IsPutAt}
use Rattle.rtps_frags.specs.Fragments.{before}
use Rattle.rtps_frags.proofs.Stored.{next_finds, next_stored, there_within, weakened}
use Rattle.rtps_frags.proofs.chunks.Chunks.put_next.Goals as goal

on_err : {T E P : Type 0} (r : Result T E) → P → OnErr r P
on_err (Ok x) p = tt
on_err (Err e) p = p

pub overflow_add-there : goal.overflow_add-there
overflow_add-there g c =
    let p = c.args.self.now in
    let h = c.requires.free in
    let within = there_within c.args.sizes c.requires.cut p.next p.there p.buffer.items p.early.entries (p.next + c.args.count) h.kept.begun (omega arith) h in
    omega (arith, within, c.requires.fits, c.requires.small)

pub returns-in_err-put_at-clause-err : goal.returns-in_err-put_at-clause-err
returns-in_err-put_at-clause-err g c =
    let p = c.args.self.now in
    let some = c.requires.some in
    on_err c.from_residual.result (rw c.in_err-put_at.ensures.err (weakened c.args.sizes c.requires.cut p.next p.there p.buffer.items p.early.entries (suc p.next) (p.next + c.args.count) c.requires.free (omega (arith, some))))

pub returns-clause-ok : goal.returns-clause-ok
returns-clause-ok g c =
    let p = c.args.self.now in
    let z = c.args.sizes in
    let put : IsPutAt (before z p.next) c.args.octets.now p.buffer.items c.put_at.new.buffer.items = subst (λ n. IsPutAt n c.args.octets.now p.buffer.items c.put_at.new.buffer.items) c.before-2.ensures c.in_ok-put_at.ensures.ok in
    next_stored z c.requires.cut p.next p.there p.buffer.items p.early.entries c.args.count c.args.octets.now c.put_at.new.buffer.items c.requires.some c.requires.within c.requires.fits c.requires.free put

pub returns-clause-put : goal.returns-clause-put
returns-clause-put g c =
    let p = c.args.self.now in
    let z = c.args.sizes in
    let put : IsPutAt (before z p.next) c.args.octets.now p.buffer.items c.put_at.new.buffer.items = subst (λ n. IsPutAt n c.args.octets.now p.buffer.items c.put_at.new.buffer.items) c.before-2.ensures c.in_ok-put_at.ensures.ok in
    next_finds z c.requires.cut p.next p.there p.buffer.items p.early.entries c.args.count c.args.octets.now c.put_at.new.buffer.items c.requires.some c.requires.within c.requires.fits c.requires.free put
