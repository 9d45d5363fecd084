use Rattle.std.proofs.Common.{◌≡◌, ◌<◌, length, ltb, true, arith, Some, refl, ap, sym, ◌∙◌}
use Rattle.std.specs.Prelude.{slice_get}
use Rattle.std.specs.Map.{lookup}
use Rattle.std.specs.Option.{option_copied, option_map}
use Rattle.std.proofs.lemmas.Option.{slice_get-map, slice_get_read}
use Rattle.std.proofs.lemmas.Bool.Decides.{nat_tests}
use Rattle.dds_cache.specs.Effects.{shown_as}
use Rattle.dds_cache.specs.Lent.{answer_at, joined}
use Rattle.dds_cache.specs.Standing.{is_number}
use Rattle.dds_cache.proofs.answers.Answers.get.Goals as goal

pub returns : goal.returns
returns g c =
    let es = c.args.self.now.entries.entries in
    let l = c.args.self.now.answered.items in
    let one = c.in_ok-chosen.chosen.now in
    let test : ltb c.args.at (length c.deref.result.now) ≡ true = sym c.in_ok-chosen.ensures.lookup.0 in
    let within : c.args.at < length c.deref.result.now = grind (arith, nat_tests) in
    let first : slice_get l c.args.at ≡ Some one = ap (λ x. slice_get x c.args.at) (sym c.deref.ensures.value) ∙ slice_get_read c.deref.result.now (length c.deref.result.now) c.args.at one refl within c.in_ok-chosen.ensures.lookup.1 in
    let found : lookup (is_number one.number) es ≡ Some c.in_ok-entry.entry.now = sym c.get-2.ensures ∙ ap option_copied c.in_ok-entry.was in
    sym (ap joined (slice_get-map (answer_at es) l c.args.at ∙ ap (option_map (answer_at es)) first) ∙ ap (option_map (λ e. shown_as e one)) found ∙ ap (λ s. Some s) (sym c.lend.ensures))
