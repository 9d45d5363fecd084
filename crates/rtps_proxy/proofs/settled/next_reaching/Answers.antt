use Rattle.std.proofs.Common.{◌≡◌, suc, ◌+◌, ◌<◌, ◌≤◌, [], arith, get_or, drop, add-one}
use Rattle.std.proofs.lemmas.List.{drop_all}
use Rattle.rtps_proxy.specs.Runs.{Run, end_of}
use Rattle.rtps_proxy.proofs.Apart.{first_reaches, next_behind, reach_all}
use Rattle.rtps_proxy.proofs.settled.next_reaching.Goals as goal

pub returns-then-at-runs-clause-behind : goal.returns-then-at-runs-clause-behind
returns-then-at-runs-clause-behind c =
    let none : drop c.args.at c.args.runs.now ≡ [] = drop_all c.args.at c.args.runs.now (omega arith) in
    rw none tt

pub returns-then-get-number-clause-behind : goal.returns-then-get-number-clause-behind
returns-then-get-number-clause-behind c =
    let runs = c.args.runs.now in
    let d : Run = c.index-runs-at.result in
    rw (add-one c.args.at) (reach_all c.requires.apart.0 (c.args.number + 1) runs (suc c.args.at) d c.requires.apart.1 (λ l.
    let before : c.args.number ≤ end_of (get_or runs c.args.at d) = first_reaches c.args.number runs c.args.at d (omega arith) c.requires.behind in
    let next : end_of (get_or runs c.args.at d) < end_of (get_or runs (suc c.args.at) d) = next_behind c.requires.apart.0 runs c.args.at d d c.requires.apart.1 l in
    omega arith))

pub returns-clause-behind : goal.returns-clause-behind
returns-clause-behind c =
    reach_all c.requires.apart.0 (c.args.number + 1) c.args.runs.now c.args.at c.index-runs-at.result c.requires.apart.1 (λ l. omega arith)
