use Rattle.std.proofs.Common.{◌≡◌, Some, None, List, refl, sym, ap, ◌∙◌, subst, rules}
use Rattle.std.specs.Map.{lookup}
use Rattle.std.specs.Option.{option_copied_mut, option_map}
use Rattle.rtps_types.specs.declared.identity.KeyHash.{KeyHash}
use Rattle.dds_cache.specs.declared.instance.Instance.{Instance}
use Rattle.dds_cache.specs.Effects.{ChangesAt, left}
use Rattle.dds_cache.specs.Standing.{is_key, known_at}
use Rattle.dds_cache.proofs.Knowing.{changed, unknown}
use Rattle.dds_cache.proofs.instance.note_leave.Goals as goal

pub returns-in_default : goal.returns-in_default
returns-in_default g c =
    let es = c.args.instances.now.entries in
    let none : lookup (is_key c.args.key) es ≡ None = sym c.get_mut.ensures.value ∙ ap option_copied_mut c.in_default.is in
    let same : c.get_mut.follows.lender-at-none.entries ≡ es = search rules in
    subst (λ (l : List (KeyHash × Instance g.row.A.Denot)). ChangesAt c.args.key (option_map (left)) (known_at es) (known_at l)) (sym same) (unknown es c.args.key (left) none)

pub returns-in-Some : goal.returns-in-Some
returns-in-Some g c =
    let es = c.args.instances.now.entries in
    let i = c.in-Some.instance.now in
    let some : lookup (is_key c.args.key) es ≡ Some i = sym c.get_mut.ensures.value ∙ ap option_copied_mut c.in-Some.is in
    let v : Instance g.row.A.Denot = record i { live = c.saturating_sub-instance.result } in
    changed es (c.get_mut.follows.lender v).entries c.args.key i v (left) some ((c.get_mut.follows.holds v).3 (rw some refl)).0 (search rules)
