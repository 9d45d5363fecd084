use Rattle.std.proofs.Common.{◌≡◌, refl, ℕ, ◌+◌, ◌&&◌, cond, leb, ltb, List, sym, ◌∙◌, ap, Ok, Err, Result, Option, Some}
use Rattle.std.specs.Prelude.{OnOk}
use Rattle.rtps_frags.specs.Buffer.{stored_at}
use Rattle.rtps_frags.specs.Fragments.{fragment_in}
use Rattle.rtps_frags.proofs.Stored.{behind, free_next, own_put, own_stored}
use Rattle.rtps_frags.proofs.chunks.Chunks.put.Goals as goal

on_ok : {T E P Q : Type 0} (r : Result T E) → (P → Q) → OnOk r P → OnOk r Q
on_ok (Ok x) f h = f h
on_ok (Err e) f h = h

pub put_next-requires-clause-free : goal.put_next-requires-clause-free
put_next-requires-clause-free g c =
    let p = c.args.self.now in
    let piece = c.args.piece in
    free_next c.args.sizes c.requires.cut p.next p.there p.buffer.items p.early.entries c.requires.kept piece.start piece.count piece.octets.now c.requires.free c.if-piece-self.true

pub returns-then-piece-self-clause-put : goal.returns-then-piece-self-clause-put
returns-then-piece-self-clause-put g c =
    let p = c.args.self.now in
    let z = c.args.sizes in
    let piece = c.args.piece in
    on_ok c.join.result (λ h. λ k. h k ∙ c.in_ok-put_next.ensures.put k
    ∙ ap (λ n. cond (leb n k && ltb k (n + piece.count)) (Some (fragment_in z n piece.octets.now k)) (stored_at z p.next p.buffer.items p.early.entries k)) (sym c.if-piece-self.true)) c.join.ensures.same

pub returns-then-has_place-clause-put : goal.returns-then-has_place-clause-put
returns-then-has_place-clause-put g c =
    let p = c.args.self.now in
    let z = c.args.sizes in
    let piece = c.args.piece in
    let early : c.extend_latest.new.self.early.entries ≡ p.early.entries = c.in_ok-extend_latest.ensures.apart c.if-branch.false in
    let same = c.in_ok-extend_latest.ensures.same c.if-branch.false in
    let stored : (k : ℕ) → stored_at z c.extend_latest.new.self.next c.extend_latest.new.self.buffer.items c.extend_latest.new.self.early.entries k ≡ stored_at z p.next p.buffer.items p.early.entries k = (λ k. rw (c.extend_latest.ensures.next, same.0, early) refl) in
    on_ok c.put_in_place.result (λ h. λ k. h k ∙ ap (λ (o : Option (List ℕ)). cond (leb piece.start k && ltb k (piece.start + piece.count)) (Some (fragment_in z piece.start piece.octets.now k)) o) (stored k)) c.put_in_place.ensures.put

pub returns-clause-kept : goal.returns-clause-kept
returns-clause-kept g c =
    let p = c.args.self.now in
    let piece = c.args.piece in
    let early : c.extend_latest.new.self.early.entries ≡ p.early.entries = c.in_ok-extend_latest.ensures.apart c.if-branch.false in
    let same = c.in_ok-extend_latest.ensures.same c.if-branch.false in
    let later = behind c.args.sizes c.requires.cut p.next p.there p.buffer.items p.early.entries c.requires.kept piece.start piece.count piece.octets.now c.requires.free c.if-piece-self.false in
    rw (c.extend_latest.ensures.next, same.0, same.1, c.in_ok-insert.ensures.entries, c.in_ok-copy_of.ensures.items, early) (own_stored c.args.sizes c.requires.cut p.next p.there p.buffer.items p.early.entries c.requires.kept piece.start piece.count piece.octets.now c.requires.free later)

pub returns-clause-put : goal.returns-clause-put
returns-clause-put g c = λ k.
    let p = c.args.self.now in
    let piece = c.args.piece in
    let early : c.extend_latest.new.self.early.entries ≡ p.early.entries = c.in_ok-extend_latest.ensures.apart c.if-branch.false in
    let same = c.in_ok-extend_latest.ensures.same c.if-branch.false in
    let later = behind c.args.sizes c.requires.cut p.next p.there p.buffer.items p.early.entries c.requires.kept piece.start piece.count piece.octets.now c.requires.free c.if-piece-self.false in
    rw (c.extend_latest.ensures.next, same.0, c.in_ok-insert.ensures.entries, c.in_ok-copy_of.ensures.items, early) (own_put c.args.sizes c.requires.cut p.next p.there p.buffer.items p.early.entries c.requires.kept piece.start piece.count piece.octets.now c.requires.free later k)
