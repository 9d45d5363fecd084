use Rattle.std.proofs.Common.{◌≡◌, ℕ, ◌+◌, ◌&&◌, length, false, cond, sym, ◌∙◌, ap, arith, leb, ltb, Option, Some, None, Ok, Err, Result}
use Rattle.std.specs.Prelude.{is_some, is_err, OnOk}
use Rattle.std.specs.Option.{option_or}
use Rattle.rtps_frags.specs.declared.fault.FragFault.{FragFault}
use Rattle.rtps_frags.specs.declared.sizes.Sizes.{Sizes}
use Rattle.rtps_frags.specs.Fragments.{There, fault_of, fragment_in, last_of, with_fragments}
use Rattle.rtps_frags.specs.Kept.{AssemblyView, with_part}
use Rattle.rtps_frags.specs.Chunks.{part_at, there_in}
use Rattle.rtps_frags.proofs.Faultless.{Faultless, faultless}
use Rattle.rtps_frags.proofs.Listed.{listed_same, puts_listed}
use Rattle.rtps_frags.proofs.assembly.Assembly.add.Goals as goal

none_wrong : (z : Sizes) (start count octets : ℕ) (fault : Option FragFault) → fault ≡ fault_of z start count octets → fault ≡ None → Faultless z start count octets
none_wrong z start count octets fault is none = faultless z start count octets (ap is_some (sym is ∙ none))

on_ok : {T E P : Type 0} (r : Result T E) → is_err r ≡ false → OnOk r P → P
on_ok (Ok x) h p = p
on_ok (Err e) h p = absurd cc

same_kept : (z : Sizes) (s t : There) → s ≡ t → ◌≡◌ {A = AssemblyView} (record { sizes = z; there = s; spent = false }) (record { sizes = z; there = t; spent = false })
same_kept z s t e = ap {B = AssemblyView} (λ (x : There). record { sizes = z; there = x; spent = false }) e

pub add-requires-clause-cut : goal.add-requires-clause-cut
add-requires-clause-cut g c = (none_wrong c.self.inside.sizes c.args.start c.args.count (length c.args.payload.now) c.fault_in.result c.fault_in.ensures c.in_default.is).fragment

pub add-requires-clause-small : goal.add-requires-clause-small
add-requires-clause-small g c = (none_wrong c.self.inside.sizes c.args.start c.args.count (length c.args.payload.now) c.fault_in.result c.fault_in.ensures c.in_default.is).small

pub add-requires-clause-first : goal.add-requires-clause-first
add-requires-clause-first g c = (none_wrong c.self.inside.sizes c.args.start c.args.count (length c.args.payload.now) c.fault_in.result c.fault_in.ensures c.in_default.is).first

pub add-requires-clause-within : goal.add-requires-clause-within
add-requires-clause-within g c =
    let within = (none_wrong c.self.inside.sizes c.args.start c.args.count (length c.args.payload.now) c.fault_in.result c.fault_in.ensures c.in_default.is).within in
    omega (arith, within, c.from.ensures)

pub add-requires-clause-enough : goal.add-requires-clause-enough
add-requires-clause-enough g c =
    let enough = (none_wrong c.self.inside.sizes c.args.start c.args.count (length c.args.payload.now) c.fault_in.result c.fault_in.ensures c.in_default.is).enough in
    rw c.from.ensures enough

pub returns-clause-ok : goal.returns-clause-ok
returns-clause-ok g c =
    let z = c.self.inside.sizes in
    let f = none_wrong z c.args.start c.args.count (length c.args.payload.now) c.fault_in.result c.fault_in.ensures c.in_default.is in
    let was = part_at z c.self.inside.chunks in
    let now = part_at z c.add.new.self in
    let added : (k : ℕ) → now k ≡ option_or (was k) (cond (leb c.args.start k && ltb k (c.args.start + c.args.count)) (Some (fragment_in z c.args.start c.args.payload.now k)) None) =
    (λ k. on_ok c.add.result (sym c.is_err.ensures.value ∙ c.if-is_err.false) c.add.ensures.added k ∙ ap (λ n. option_or (was k) (cond (leb c.args.start k && ltb k (c.args.start + n)) (Some (fragment_in z c.args.start c.args.payload.now k)) None)) c.from.ensures)
    in
    let there : there_in z c.add.new.self ≡ with_fragments z c.args.start c.args.payload.now (there_in z c.self.inside.chunks) c.args.start c.args.count =
    listed_same now (λ k. option_or (was k) (cond (leb c.args.start k && ltb k (c.args.start + c.args.count)) (Some (fragment_in z c.args.start c.args.payload.now k)) None)) 1 (last_of z) (λ k _ _. added k)
    ∙ sym (puts_listed z c.args.start c.args.payload.now (last_of z) was c.args.start c.args.count f.first f.within)
    in
    same_kept z (there_in z c.add.new.self) (with_fragments z c.args.start c.args.payload.now (there_in z c.self.inside.chunks) c.args.start c.args.count) there ∙ ap (λ (k : AssemblyView). with_part k c.args.start c.args.count c.args.payload.now) c.self.view_is
