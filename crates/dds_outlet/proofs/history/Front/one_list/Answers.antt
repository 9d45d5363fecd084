use Rattle.std.proofs.Common.{ap, subst, List}
use mathlib.Core.List.{IsPrefix}
use Rattle.dds_outlet.specs.declared.history.Entry.{Entry}
use Rattle.dds_outlet.specs.History.{rows_of}
use Rattle.dds_outlet.proofs.Fronts.{prefix_either, prefix_rows}
use Rattle.dds_outlet.proofs.history.Front.one_list.Goals as goal

pub returns : goal.returns
returns c =
    let own = c.args.self.now.seen.log in
    let others = c.args.other.now.seen.log in
    let reached = c.learn.new.self.log in
    let begins : IsPrefix own reached =
    subst (λ (l : List Entry). IsPrefix l reached)
    (ap (λ s. s.log) c.again-reached.ensures) c.learn.ensures.2
    in
    prefix_either (rows_of own) (rows_of others) (rows_of reached)
    (prefix_rows own reached begins)
    (prefix_rows others reached c.learn.ensures.3)
