use Rattle.std.proofs.Common.{◌≡◌, ◌+◌, List, [], ◌∷◌, drop, get_or, not, sym, ap, ◌∙◌}
use Rattle.std.specs.Prelude.{filter}
use Rattle.std.proofs.lemmas.List.{at_drop_all, drop_more}
use Rattle.rtps_types.specs.declared.identity.GuidPrefix.{GuidPrefix}
use Rattle.rtps_discovery.specs.Leave.{any_of}
use Rattle.rtps_discovery.proofs.Several.{endpoints_go, none_go}
use Rattle.rtps_discovery.proofs.leave.forget_all_readers.Goals as goal

pub loop-prefix-preserved : goal.loop-prefix-preserved
loop-prefix-preserved g c =
    let i = c.loop-prefix.prefix-index in
    let all = c.args.prefixes.now in
    let p : GuidPrefix = get_or all i (record { 0 = [] }) in
    let left = drop (i + 1) all in
    let cut : drop i all ≡ p ∷ left = drop_more all i (record { 0 = [] }) c.loop-prefix-test.true in
    record {
      stay = endpoints_go p left c.loop-prefix.readers.entries c.forget_readers.new.readers.entries c.forget_readers.ensures.left
          ∙ ap (λ ps. filter (λ e. not (any_of ps e)) c.loop-prefix.readers.entries) (sym cut) ∙ c.loop-prefix.invariant.stay;
      sized = c.forget_readers.ensures.sized;
    }

pub returns-clause-left : goal.returns-clause-left
returns-clause-left g c =
    let i = c.loop-prefix.prefix-index in
    let all = c.args.prefixes.now in
    let none : drop i all ≡ [] = at_drop_all (λ (l : List GuidPrefix). l) all i c.loop-prefix-test.false in
    sym (none_go (drop i all) c.loop-prefix.readers.entries none) ∙ c.loop-prefix.invariant.stay
