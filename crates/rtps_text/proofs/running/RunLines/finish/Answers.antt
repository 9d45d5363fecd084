use Rattle.std.proofs.Common.{◌≡◌, false, rules, true}
use Rattle.rtps_text.proofs.Run.{ends_plain, ends_summed, on_ok_all}
use Rattle.rtps_text.proofs.running.RunLines.finish.Goals as goal

pub returns-then-not-self-clause-ok : goal.returns-then-not-self-clause-ok
returns-then-not-self-clause-ok g c =
    let plain : c.args.self.now.summary ≡ false = search rules in
    ends_plain _ _ c.args.self.now.participant.engine c.args.self.now.summary c.args.out.now.items plain

pub returns-clause-ok : goal.returns-clause-ok
returns-clause-ok g c =
    let engine = c.args.self.now.participant.engine in
    let wanted : c.args.self.now.summary ≡ true = search rules in
    on_ok_all c.push_summary.result c.push_summary.ensures.sums
    (λ sums. ends_summed g.C.Catalog.text_of g.C.Catalog.decoding engine c.args.self.now.summary c.args.out.now.items c.push_summary.new.out.items wanted c.push_summary.ensures.keeps sums)
