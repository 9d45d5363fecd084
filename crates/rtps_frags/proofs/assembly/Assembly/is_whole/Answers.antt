use Rattle.std.proofs.Common.{◌≡◌, Bool, false, not, sym, ◌∙◌, ◌==◌, ap, ltb}
use Rattle.rtps_frags.specs.Buffer.{front_in, runs_in}
use Rattle.rtps_frags.specs.Fragments.{There, has_all, is_empty, last_of}
use Rattle.rtps_frags.specs.Kept.{has_come}
use Rattle.rtps_frags.specs.Chunks.{there_in}
use Rattle.rtps_frags.specs.declared.sizes.Sizes.{Sizes}
use Rattle.rtps_frags.proofs.AnyOrder.{some_octets}
use Rattle.rtps_frags.proofs.Assembled.{full_is, whole_is}
use Rattle.rtps_frags.proofs.assembly.Assembly.is_whole.Goals as goal

come_is : (z : Sizes) (there : There) (spent b : Bool) → spent ≡ false → is_empty z ≡ false → has_all there 1 (last_of z) ≡ b → b ≡ has_come (record { sizes = z; there = there; spent = spent })
come_is z there spent b sound some all = sym (rw (sound, some) all)

pub returns : goal.returns
returns g c =
    let a = c.self.inside in
    let p = a.chunks in
    let some : is_empty a.sizes ≡ false = sym c.is_empty.ensures ∙ c.if-is_empty.false in
    ap (λ n. n == a.sizes.sample) (c.upto.ensures ∙ sym c.self.invariant.0.kept.full)
    ∙ full_is a.sizes p.next (front_in a.sizes p.next p.buffer.items) (runs_in a.sizes p.buffer.items p.early.entries) c.self.invariant.0.kept (some_octets a.sizes (ap not some))
    ∙ come_is a.sizes (there_in a.sizes p) a.spent (ltb (last_of a.sizes) p.next) c.if-self.false some (whole_is a.sizes p.next (front_in a.sizes p.next p.buffer.items) (runs_in a.sizes p.buffer.items p.early.entries) c.self.invariant.0.kept)
    ∙ ap has_come c.self.view_is
