use Rattle.std.proofs.Common.{◌≡◌, ◌+◌, List, [], ◌∷◌, drop, get_or, refl}
use Rattle.std.proofs.lemmas.List.{at_drop_all, drop_more}
use Rattle.rtps_types.specs.declared.identity.GuidPrefix.{GuidPrefix}
use Rattle.rtps_discovery.proofs.Several.{ending_all, ending_more}
use Rattle.rtps_discovery.proofs.leave.end_all_announcers.Goals as goal

pub loop-prefix-init : goal.loop-prefix-init
loop-prefix-init g c = λ ms all. record { matches = ms; stand = all; same = refl }

pub loop-prefix-preserved : goal.loop-prefix-preserved
loop-prefix-preserved g c = λ ms stand.
    let i = c.loop-prefix.prefix-index in
    let all = c.args.prefixes.now in
    let p : GuidPrefix = get_or all i (record { 0 = [] }) in
    let left = drop (i + 1) all in
    let cut : drop i all ≡ p ∷ left = drop_more all i (record { 0 = [] }) c.loop-prefix-test.true in
    ending_more p left all (drop i all) ms c.loop-prefix.announcers c.end_announcers.new.announcers cut c.end_announcers.ensures (c.loop-prefix.invariant ms stand)

pub returns : goal.returns
returns g c = λ ms stand.
    let i = c.loop-prefix.prefix-index in
    let all = c.args.prefixes.now in
    let none : drop i all ≡ [] = at_drop_all (λ (l : List GuidPrefix). l) all i c.loop-prefix-test.false in
    ending_all (drop i all) all ms c.loop-prefix.announcers none (c.loop-prefix.invariant ms stand)
