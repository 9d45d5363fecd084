use Rattle.std.proofs.Common.{◌≡◌, Some, None, sym, ap, ◌∙◌, rules}
use Rattle.std.specs.Map.{lookup}
use Rattle.std.specs.Option.{option_copied_mut}
use Rattle.dds_cache.specs.Cache.{marked}
use Rattle.dds_cache.specs.Standing.{is_number}
use Rattle.dds_cache.proofs.Marks.{no_mark, set_mark}
use Rattle.dds_cache.proofs.shelf.mark.Goals as goal

pub returns-in_default : goal.returns-in_default
returns-in_default g c =
    let es = c.args.entries.now.entries in
    let none : lookup (is_number c.args.number) es ≡ None = sym c.get_mut.ensures.value ∙ ap option_copied_mut c.in_default.is in
    let same : c.get_mut.follows.lender-at-none.entries ≡ es = search rules in
    same ∙ sym (no_mark c.args.number es none)

pub returns-in-Some : goal.returns-in-Some
returns-in-Some g c =
    let es = c.args.entries.now.entries in
    let e = c.in-Some.entry.now in
    let some : lookup (is_number c.args.number) es ≡ Some e = sym c.get_mut.ensures.value ∙ ap option_copied_mut c.in-Some.is in
    (c.get_mut.follows.holds (marked e)).0 ∙ set_mark c.args.number e es some
