use Rattle.std.proofs.Common.{◌≡◌, ℕ, suc, min, false, ◌&&◌, ◌||◌, leb, ltb, sym, ◌∙◌, ap, arith, refl, add-one}
use Rattle.rtps_frags.specs.Buffer.{front_in, runs_in}
use Rattle.rtps_frags.specs.Fragments.{There, has, is_empty, last_of}
use Rattle.rtps_frags.specs.Kept.{AssemblyView}
use Rattle.rtps_frags.specs.Missing.{missing, missing_by}
use Rattle.rtps_frags.specs.Chunks.{holds, there_in}
use Rattle.rtps_frags.specs.declared.sizes.Sizes.{Sizes}
use Rattle.rtps_frags.proofs.Assembled.{has_is, missing_same}
use Rattle.rtps_frags.proofs.Placed.{apart_in, covers_in}
use Rattle.rtps_frags.proofs.assembly.Assembly.missing_up_to.Goals as goal

none_of : (z : Sizes) (there : There) (last : ℕ) → is_empty z ≡ false → missing_by (has there) (min last (last_of z)) ≡ missing z there last
none_of z there last some = sym (rw some refl)

pub returns : goal.returns
returns g c =
    let a = c.self.inside in
    let p = a.chunks in
    let end : c.min-end.result ≡ min c.args.last (last_of a.sizes) = omega (arith, c.min-end.ensures, c.last.ensures) in
    let same : missing_by (holds p) (min c.args.last (last_of a.sizes)) ≡ missing_by (has (there_in a.sizes p)) (min c.args.last (last_of a.sizes)) =
    missing_same (holds p) (has (there_in a.sizes p)) (min c.args.last (last_of a.sizes)) (λ k one le. sym (has_is a.sizes p.next (front_in a.sizes p.next p.buffer.items) (runs_in a.sizes p.buffer.items p.early.entries) c.self.invariant.0.kept k one (omega (arith, le)) ∙ ap (λ b. (leb 1 k && ltb k p.next) || b) (covers_in a.sizes p.buffer.items p.early.entries k)))
    in
    c.missing_up_to.ensures ∙ ap (missing_by (holds p)) end ∙ same ∙ none_of a.sizes (there_in a.sizes p) c.args.last (sym c.is_empty.ensures ∙ c.if-is_empty.false) ∙ ap (λ (k : AssemblyView). missing k.sizes k.there c.args.last) c.self.view_is

pub missing_up_to-requires-clause-apart : goal.missing_up_to-requires-clause-apart
missing_up_to-requires-clause-apart g c =
    let p = c.self.inside.chunks in
    rw add-one (apart_in c.self.inside.sizes p.buffer.items p.early.entries (suc p.next) c.self.invariant.0.kept.apart)
