use Rattle.std.proofs.Common.{◌≡◌, ◌+◌, suc, [], Result, Ok, Err, Some, sym, ◌∙◌, ap, subst, arith}
use Rattle.std.specs.Prelude.{OnErr}
use Rattle.std.specs.Map.{lookup, set_value}
use Rattle.std.specs.Option.{option_copied_mut}
use Rattle.rtps_frags.specs.Buffer.{AreStored, IsPutAt}
use Rattle.rtps_frags.specs.Fragments.{before}
use Rattle.rtps_frags.specs.Runs.{Run, Runs}
use Rattle.rtps_frags.proofs.Longer.{set_same, starts}
use Rattle.rtps_frags.proofs.Placed.{none_by, some_by}
use Rattle.rtps_frags.proofs.Stored.{own_longer_put, own_longer_stored, place_within, placed_longer_put, placed_longer_stored, there_within}
use Rattle.rtps_frags.proofs.chunks.Chunks.extend_latest.Goals as goal
use Rattle.rtps_frags.proofs.chunks.Chunks.extend_latest.Goals.{then-piece-self-via-then-piece-self, then-piece-self-via-else-piece-self+then-piece-self-2}

on_err : {T E P : Type 0} (r : Result T E) → P → OnErr r P
on_err (Ok x) p = tt
on_err (Err e) p = p

pub returns-then-piece-self-clause-apart : goal.returns-then-piece-self-clause-apart
returns-then-piece-self-clause-apart g c = λ no.
    let found : lookup (starts c.args.self.now.latest) c.args.self.now.early.entries ≡ Some c.in-Some.chunk.now = sym c.get_mut.ensures.value ∙ ap option_copied_mut c.in-Some.is in
    let back = (c.get_mut.follows.holds c.in-Some.chunk.now).0 in
    elim c.then-piece-self.branch [
      | then-piece-self-via-then-piece-self w ↦ rw w.self-is (back ∙ set_same c.args.self.now.latest c.args.self.now.early.entries c.in-Some.chunk.now found)
      | then-piece-self-via-else-piece-self+then-piece-self-2 w ↦ rw w.self-is (back ∙ set_same c.args.self.now.latest c.args.self.now.early.entries c.in-Some.chunk.now found)
    ]

pub returns-then-piece-self-clause-kept : goal.returns-then-piece-self-clause-kept
returns-then-piece-self-clause-kept g c =
    let p = c.args.self.now in
    let found : lookup (starts c.args.self.now.latest) c.args.self.now.early.entries ≡ Some c.in-Some.chunk.now = sym c.get_mut.ensures.value ∙ ap option_copied_mut c.in-Some.is in
    let back = (c.get_mut.follows.holds c.in-Some.chunk.now).0 in
    elim c.then-piece-self.branch [
      | then-piece-self-via-then-piece-self w ↦ rw w.self-is (subst (λ (rs : Runs). AreStored c.args.sizes (suc p.next) p.next p.there p.buffer.items rs) (sym (back ∙ set_same c.args.self.now.latest c.args.self.now.early.entries c.in-Some.chunk.now found)) c.requires.kept)
      | then-piece-self-via-else-piece-self+then-piece-self-2 w ↦ rw w.self-is (subst (λ (rs : Runs). AreStored c.args.sizes (suc p.next) p.next p.there p.buffer.items rs) (sym (back ∙ set_same c.args.self.now.latest c.args.self.now.early.entries c.in-Some.chunk.now found)) c.requires.kept)
    ]

pub returns-in_err-lengthen-clause-kept : goal.returns-in_err-lengthen-clause-kept
returns-in_err-lengthen-clause-kept g c =
    let p = c.args.self.now in
    let piece = c.args.piece in
    let found : lookup (starts p.latest) p.early.entries ≡ Some c.in-Some.chunk.now = sym c.get_mut.ensures.value ∙ ap option_copied_mut c.in-Some.is in
    let entries = (c.get_mut.follows.holds c.lengthen.new.chunk).0 ∙ ap (set_value (starts p.latest) p.early.entries) c.in_err-lengthen.ensures.err ∙ set_same p.latest p.early.entries c.in-Some.chunk.now found in
    rw entries c.requires.kept

pub returns-then-not-is_empty-clause-kept : goal.returns-then-not-is_empty-clause-kept
returns-then-not-is_empty-clause-kept g c =
    let p = c.args.self.now in
    let piece = c.args.piece in
    let found : lookup (starts p.latest) p.early.entries ≡ Some c.in-Some.chunk.now = sym c.get_mut.ensures.value ∙ ap option_copied_mut c.in-Some.is in
    let count : c.chunk.inside.count ≡ c.in-Some.chunk.now.count = ap (λ (r : Run). r.count) c.chunk.view_is in
    let ends : p.latest + c.in-Some.chunk.now.count ≡ piece.start = omega (arith, count, c.if-piece-self.false, c.if-piece-self-2.false) in
    let own : c.chunk.inside.octets.items ≡ c.in-Some.chunk.now.octets = ap (λ (r : Run). r.octets) c.chunk.view_is in
    let some : c.in-Some.chunk.now.octets ≡ [] → ⊥ = (λ e. some_by c.chunk.inside.octets.items c.chunk.inside.octets.len c.chunk.inside.octets.ok.0 (sym c.is_empty.ensures ∙ c.if-not-is_empty.true) (own ∙ e)) in
    let entries = (c.get_mut.follows.holds c.lengthen.new.chunk).0 ∙ ap (set_value (starts p.latest) p.early.entries) c.in_ok-lengthen.ensures.ok in
    rw entries (own_longer_stored c.args.sizes c.requires.cut p.next p.there p.buffer.items p.early.entries c.requires.kept piece.start piece.count piece.octets.now c.requires.free p.latest c.in-Some.chunk.now found ends some)

pub returns-then-not-is_empty-clause-put : goal.returns-then-not-is_empty-clause-put
returns-then-not-is_empty-clause-put g c = λ _ k.
    let p = c.args.self.now in
    let piece = c.args.piece in
    let found : lookup (starts p.latest) p.early.entries ≡ Some c.in-Some.chunk.now = sym c.get_mut.ensures.value ∙ ap option_copied_mut c.in-Some.is in
    let count : c.chunk.inside.count ≡ c.in-Some.chunk.now.count = ap (λ (r : Run). r.count) c.chunk.view_is in
    let ends : p.latest + c.in-Some.chunk.now.count ≡ piece.start = omega (arith, count, c.if-piece-self.false, c.if-piece-self-2.false) in
    let own : c.chunk.inside.octets.items ≡ c.in-Some.chunk.now.octets = ap (λ (r : Run). r.octets) c.chunk.view_is in
    let some : c.in-Some.chunk.now.octets ≡ [] → ⊥ = (λ e. some_by c.chunk.inside.octets.items c.chunk.inside.octets.len c.chunk.inside.octets.ok.0 (sym c.is_empty.ensures ∙ c.if-not-is_empty.true) (own ∙ e)) in
    let entries = (c.get_mut.follows.holds c.lengthen.new.chunk).0 ∙ ap (set_value (starts p.latest) p.early.entries) c.in_ok-lengthen.ensures.ok in
    rw entries (own_longer_put c.args.sizes c.requires.cut p.next p.there p.buffer.items p.early.entries c.requires.kept piece.start piece.count piece.octets.now c.requires.free p.latest c.in-Some.chunk.now found ends some k)

pub overflow_add-there : goal.overflow_add-there
overflow_add-there g c =
    let p = c.args.self.now in
    let h = c.requires.kept in
    let within = there_within c.args.sizes c.requires.cut p.next p.there p.buffer.items p.early.entries (suc p.next) h.kept.begun (omega arith) h in
    let fits = c.requires.free.fits in
    omega (arith, within, fits, c.requires.small)

pub put_at-requires : goal.put_at-requires
put_at-requires g c =
    let p = c.args.self.now in
    let within = place_within c.args.sizes c.requires.cut p.next p.there p.buffer.items p.early.entries c.requires.kept c.args.piece.start c.args.piece.count c.args.piece.octets.now c.requires.free in
    omega (arith, within, c.before-2.ensures, c.requires.small)

pub returns-in_err-put_at-clause-kept : goal.returns-in_err-put_at-clause-kept
returns-in_err-put_at-clause-kept g c =
    let p = c.args.self.now in
    let piece = c.args.piece in
    let found : lookup (starts p.latest) p.early.entries ≡ Some c.in-Some.chunk.now = sym c.get_mut.ensures.value ∙ ap option_copied_mut c.in-Some.is in
    let entries = (c.get_mut.follows.holds c.in-Some.chunk.now).0 ∙ set_same p.latest p.early.entries c.in-Some.chunk.now found in
    rw (entries, c.in_err-put_at.ensures.err) c.requires.kept

pub returns-clause-kept : goal.returns-clause-kept
returns-clause-kept g c =
    let p = c.args.self.now in
    let piece = c.args.piece in
    let found : lookup (starts p.latest) p.early.entries ≡ Some c.in-Some.chunk.now = sym c.get_mut.ensures.value ∙ ap option_copied_mut c.in-Some.is in
    let count : c.chunk.inside.count ≡ c.in-Some.chunk.now.count = ap (λ (r : Run). r.count) c.chunk.view_is in
    let ends : p.latest + c.in-Some.chunk.now.count ≡ piece.start = omega (arith, count, c.if-piece-self.false, c.if-piece-self-2.false) in
    let own : c.chunk.inside.octets.items ≡ c.in-Some.chunk.now.octets = ap (λ (r : Run). r.octets) c.chunk.view_is in
    let none : c.in-Some.chunk.now.octets ≡ [] = sym own ∙ none_by c.chunk.inside.octets.items c.chunk.inside.octets.len c.chunk.inside.octets.ok.0 (sym c.is_empty.ensures ∙ c.if-not-is_empty.false) in
    let put : IsPutAt (before c.args.sizes piece.start) piece.octets.now p.buffer.items c.put_at.new.buffer.items = subst (λ n. IsPutAt n piece.octets.now p.buffer.items c.put_at.new.buffer.items) c.before-2.ensures c.in_ok-put_at.ensures.ok in
    let run : Run = record { count = c.chunk.inside.count + piece.count; octets = c.chunk.inside.octets.items } in
    let entries = (c.get_mut.follows.holds run).0 ∙ ap (λ (r : Run). set_value (starts p.latest) p.early.entries (record { count = r.count + piece.count; octets = r.octets })) c.chunk.view_is in
    rw entries (placed_longer_stored c.args.sizes c.requires.cut p.next p.there p.buffer.items p.early.entries c.requires.kept piece.start piece.count piece.octets.now c.requires.free p.latest c.in-Some.chunk.now found ends none c.put_at.new.buffer.items put)

pub returns-clause-bounded : goal.returns-clause-bounded
returns-clause-bounded g c =
    let p = c.args.self.now in
    let piece = c.args.piece in
    let found : lookup (starts p.latest) p.early.entries ≡ Some c.in-Some.chunk.now = sym c.get_mut.ensures.value ∙ ap option_copied_mut c.in-Some.is in
    let count : c.chunk.inside.count ≡ c.in-Some.chunk.now.count = ap (λ (r : Run). r.count) c.chunk.view_is in
    let ends : p.latest + c.in-Some.chunk.now.count ≡ piece.start = omega (arith, count, c.if-piece-self.false, c.if-piece-self-2.false) in
    let own : c.chunk.inside.octets.items ≡ c.in-Some.chunk.now.octets = ap (λ (r : Run). r.octets) c.chunk.view_is in
    let none : c.in-Some.chunk.now.octets ≡ [] = sym own ∙ none_by c.chunk.inside.octets.items c.chunk.inside.octets.len c.chunk.inside.octets.ok.0 (sym c.is_empty.ensures ∙ c.if-not-is_empty.false) in
    let put : IsPutAt (before c.args.sizes piece.start) piece.octets.now p.buffer.items c.put_at.new.buffer.items = subst (λ n. IsPutAt n piece.octets.now p.buffer.items c.put_at.new.buffer.items) c.before-2.ensures c.in_ok-put_at.ensures.ok in
    let stored = placed_longer_stored c.args.sizes c.requires.cut p.next p.there p.buffer.items p.early.entries c.requires.kept piece.start piece.count piece.octets.now c.requires.free p.latest c.in-Some.chunk.now found ends none c.put_at.new.buffer.items put in
    let size = put.size in
    let filled = stored.filled in
    omega (arith, filled, size, c.put_at.ensures.bound, c.room.ensures, c.before-2.ensures, c.requires.bounded)

pub returns-clause-put : goal.returns-clause-put
returns-clause-put g c = λ _ k.
    let p = c.args.self.now in
    let piece = c.args.piece in
    let found : lookup (starts p.latest) p.early.entries ≡ Some c.in-Some.chunk.now = sym c.get_mut.ensures.value ∙ ap option_copied_mut c.in-Some.is in
    let count : c.chunk.inside.count ≡ c.in-Some.chunk.now.count = ap (λ (r : Run). r.count) c.chunk.view_is in
    let ends : p.latest + c.in-Some.chunk.now.count ≡ piece.start = omega (arith, count, c.if-piece-self.false, c.if-piece-self-2.false) in
    let own : c.chunk.inside.octets.items ≡ c.in-Some.chunk.now.octets = ap (λ (r : Run). r.octets) c.chunk.view_is in
    let none : c.in-Some.chunk.now.octets ≡ [] = sym own ∙ none_by c.chunk.inside.octets.items c.chunk.inside.octets.len c.chunk.inside.octets.ok.0 (sym c.is_empty.ensures ∙ c.if-not-is_empty.false) in
    let put : IsPutAt (before c.args.sizes piece.start) piece.octets.now p.buffer.items c.put_at.new.buffer.items = subst (λ n. IsPutAt n piece.octets.now p.buffer.items c.put_at.new.buffer.items) c.before-2.ensures c.in_ok-put_at.ensures.ok in
    let run : Run = record { count = c.chunk.inside.count + piece.count; octets = c.chunk.inside.octets.items } in
    let entries = (c.get_mut.follows.holds run).0 ∙ ap (λ (r : Run). set_value (starts p.latest) p.early.entries (record { count = r.count + piece.count; octets = r.octets })) c.chunk.view_is in
    rw entries (placed_longer_put c.args.sizes c.requires.cut p.next p.there p.buffer.items p.early.entries c.requires.kept piece.start piece.count piece.octets.now c.requires.free p.latest c.in-Some.chunk.now found ends none c.put_at.new.buffer.items put k)
