use Rattle.std.proofs.Common.{◌≡◌, ◌&&◌, sym, arith, get_or, ltb, leb, length, true, false}
use Rattle.std.specs.List.{list_any}
use Rattle.std.proofs.lemmas.Bool.Decides.{nat_tests}
use Rattle.rtps_proxy.specs.Runs.{Run, start_of, within}
use Rattle.rtps_proxy.proofs.Apart.{found_in, found_none}
use Rattle.rtps_proxy.proofs.settled.is_begun.Goals as goal

pub returns-then-at-runs : goal.returns-then-at-runs
returns-then-at-runs c =
    let runs = c.args.runs.now in
    let d : Run = c.index-runs-at.result in
    let is : list_any (within c.args.number) runs ≡ (ltb c.args.at (length runs) && leb (start_of (get_or runs c.args.at d)) c.args.number) = found_in c.requires.apart.0 runs c.args.at c.args.number d c.requires.apart.1 c.requires.before c.requires.behind in
    let some : ltb c.args.at (length runs) ≡ true = grind (arith, nat_tests) in
    let first : start_of (get_or runs c.args.at d) ≡ c.get.result = sym c.get.ensures.value in
    sym (rw (some, first) at is)

pub returns-else-at-runs : goal.returns-else-at-runs
returns-else-at-runs c =
    let none : ltb c.args.at (length c.args.runs.now) ≡ false = grind (arith, nat_tests) in
    rw none (sym (found_none c.args.runs.now c.args.at c.args.number c.requires.before (omega arith)))
