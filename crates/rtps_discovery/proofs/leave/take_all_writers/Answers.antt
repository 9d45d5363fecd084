use Rattle.std.proofs.Common.{◌≡◌, ◌+◌, List, [], ◌∷◌, ◌++◌, drop, get_or, map, not, sym, ap, ◌∙◌, append_assoc, append-nil}
use Rattle.std.specs.Prelude.{filter}
use Rattle.std.proofs.lemmas.List.{at_drop_all, drop_more}
use Rattle.rtps_types.specs.declared.identity.GuidPrefix.{GuidPrefix}
use Rattle.rtps_discovery.specs.Leave.{any_of, are_of, gone_by, gone_of}
use Rattle.rtps_discovery.proofs.Several.{endpoints_go, none_go}
use Rattle.rtps_discovery.proofs.leave.take_all_writers.Goals as goal

pub loop-prefix-preserved : goal.loop-prefix-preserved
loop-prefix-preserved g c =
    let i = c.loop-prefix.prefix-index in
    let all = c.args.prefixes.now in
    let p : GuidPrefix = get_or all i (record { 0 = [] }) in
    let left = drop (i + 1) all in
    let old = c.loop-prefix.writers.entries in
    let cut : drop i all ≡ p ∷ left = drop_more all i (record { 0 = [] }) c.loop-prefix-test.true in
    record {
      gone = ap (λ l. l ++ gone_by left c.take_writers.new.writers.entries) c.in_ok-take_writers.ensures.gone
          ∙ ap (λ es. (map gone_of c.loop-prefix.gone.items ++ filter (are_of p) old) ++ gone_by left es) c.in_ok-take_writers.ensures.left
          ∙ append_assoc (map gone_of c.loop-prefix.gone.items) (filter (are_of p) old) (gone_by left (filter (λ e. not (are_of p e)) old))
          ∙ ap (λ ps. map gone_of c.loop-prefix.gone.items ++ gone_by ps old) (sym cut) ∙ c.loop-prefix.invariant.gone;
      fixed = c.in_ok-take_writers.ensures.fixed;
      stay = endpoints_go p left old c.take_writers.new.writers.entries c.in_ok-take_writers.ensures.left
          ∙ ap (λ ps. filter (λ e. not (any_of ps e)) old) (sym cut) ∙ c.loop-prefix.invariant.stay;
      sized = c.take_writers.ensures.sized;
    }

pub returns-clause-gone : goal.returns-clause-gone
returns-clause-gone g c =
    let i = c.loop-prefix.prefix-index in
    let all = c.args.prefixes.now in
    let none : drop i all ≡ [] = at_drop_all (λ (l : List GuidPrefix). l) all i c.loop-prefix-test.false in
    sym (ap (λ ps. map gone_of c.loop-prefix.gone.items ++ gone_by ps c.loop-prefix.writers.entries) none ∙ append-nil (map gone_of c.loop-prefix.gone.items)) ∙ c.loop-prefix.invariant.gone

pub returns-clause-left : goal.returns-clause-left
returns-clause-left g c =
    let i = c.loop-prefix.prefix-index in
    let all = c.args.prefixes.now in
    let none : drop i all ≡ [] = at_drop_all (λ (l : List GuidPrefix). l) all i c.loop-prefix-test.false in
    sym (none_go (drop i all) c.loop-prefix.writers.entries none) ∙ c.loop-prefix.invariant.stay
