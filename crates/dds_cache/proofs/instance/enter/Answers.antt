use Rattle.std.proofs.Common.{◌≡◌, Some, None, sym, ap, ◌∙◌, subst, rules, List, cond, refl, ◌<◌}
use Rattle.std.specs.Map.{lookup}
use Rattle.std.specs.Option.{option_copied_mut}
use Rattle.std.proofs.lemmas.Result.{on_err_weaker, on_ok_weaker}
use Rattle.rtps_types.specs.declared.identity.KeyHash.{KeyHash}
use Rattle.dds_cache.specs.declared.instance.Instance.{Instance}
use Rattle.dds_cache.specs.Coming.{entered_by}
use Rattle.dds_cache.specs.Standing.{InstanceView, is_key}
use Rattle.dds_cache.proofs.Knowing.{changed_made, counted_here, counted_none, newly_made, stays}
use Rattle.dds_cache.proofs.instance.enter.Goals as goal

pub returns-in-Some-clause-entered : goal.returns-in-Some-clause-entered
returns-in-Some-clause-entered g c = λ few.
    let es = c.args.instances.now.entries in
    let i = c.in-Some.instance.now in
    let v = c.enter.new.self in
    let some : lookup (is_key c.args.key) es ≡ Some i = sym c.get_mut.ensures.value ∙ ap option_copied_mut c.in-Some.is in
    on_ok_weaker c.enter.result (changed_made es (c.get_mut.follows.lender v).entries c.args.key i v (entered_by c.args.keep c.args.arrival) some ((c.get_mut.follows.holds v).3 (rw some refl)).0)
    (c.enter.ensures.entered (counted_here es c.args.key i c.args.arrival.all c.args.arrival.joined some few))

pub returns-in-Some-clause-err : goal.returns-in-Some-clause-err
returns-in-Some-clause-err g c =
    let es = c.args.instances.now.entries in
    let i = c.in-Some.instance.now in
    let v = c.enter.new.self in
    let some : lookup (is_key c.args.key) es ≡ Some i = sym c.get_mut.ensures.value ∙ ap option_copied_mut c.in-Some.is in
    on_err_weaker c.enter.result (stays es (c.get_mut.follows.lender v).entries c.args.key i v some ((c.get_mut.follows.holds v).3 (rw some refl)).0) c.enter.ensures.err

pub returns-in-Ok-clause-entered : goal.returns-in-Ok-clause-entered
returns-in-Ok-clause-entered g c = λ few.
    let es = c.args.instances.now.entries in
    let none : lookup (is_key c.args.key) es ≡ None = sym c.get_mut.ensures.value ∙ ap option_copied_mut c.in_default.is in
    let same : c.get_mut.follows.lender-at-none.entries ≡ es = search rules in
    newly_made es c.insert.new.self.entries c.args.key c.enter-2.new.self (entered_by c.args.keep c.args.arrival) none
    (subst (λ (l : List (KeyHash × Instance g.row.A.Denot)). (q : KeyHash) → lookup (is_key q) c.insert.new.self.entries ≡ cond (is_key c.args.key q) (Some c.enter-2.new.self) (lookup (is_key q) l)) same c.in-Ok.ensures.updates.0)
    (c.in_ok-oldest.ensures.entered (λ h. subst (λ n. n < c.args.arrival.all) (sym (ap (λ (k : InstanceView). k.live) c.new-made.ensures)) (counted_none es c.args.key c.args.arrival.all c.args.arrival.joined none few h)) ∙ ap (entered_by c.args.keep c.args.arrival) c.new-made.ensures)
