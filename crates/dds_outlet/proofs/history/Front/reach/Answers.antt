use Rattle.std.proofs.Common.{◌<◌, ◌≤◌, ap, subst, arith, length, List, refl}
use mathlib.Core.List.{IsPrefix}
use Rattle.dds_outlet.specs.declared.history.Entry.{Entry}
use Rattle.dds_outlet.proofs.Fronts.{length_rows, prefix_rows, prefix_shorter}
use Rattle.dds_outlet.proofs.history.Front.reach.Goals as goal

pub returns-then-other-self-clause-rows : goal.returns-then-other-self-clause-rows
returns-then-other-self-clause-rows c =
    let own = c.args.self.now.seen.log in
    let others = c.args.other.now.seen.log in
    let reached = c.learn.new.self.log in
    let begins : IsPrefix own reached =
    subst (λ (l : List Entry). IsPrefix l reached)
    (ap (λ s. s.log) c.again-reached.ensures) c.learn.ensures.2
    in
    let shorter : length others < length own =
    omega (arith, c.args.self.now.counted, c.args.other.now.counted)
    in
    let short : length others ≤ length own = omega (arith, shorter) in (
      refl,
      prefix_rows others own
          (prefix_shorter others own reached c.learn.ensures.3 begins short),
      omega (arith, shorter, length_rows own, length_rows others),
    )

pub returns-clause-later : goal.returns-clause-later
returns-clause-later c =
    let own = c.args.self.now.seen.log in
    let others = c.args.other.now.seen.log in
    let reached = c.learn.new.self.log in
    let begins : IsPrefix own reached =
    subst (λ (l : List Entry). IsPrefix l reached)
    (ap (λ s. s.log) c.again-reached.ensures) c.learn.ensures.2
    in
    let short : length own ≤ length others =
    omega (arith, c.args.self.now.counted, c.args.other.now.counted)
    in
    rw c.again.ensures
    (prefix_rows own others
    (prefix_shorter own others reached begins c.learn.ensures.3 short))
