use Rattle.std.proofs.Common.{rules, ◌≡◌, ◌+◌, ◌++◌, ◌∙◌, List, ap, sym, drop, map}
use Rattle.std.proofs.lemmas.List.{drop_more}
use Rattle.rtps_types.specs.declared.datagram.Datagram.{Datagram}
use Rattle.rtps_types.specs.declared.identity.GuidPrefix.{GuidPrefix}
use Rattle.rtps_announcer.specs.Announcing.{sends_run, state_run}
use Rattle.rtps_run.specs.Input.{arrived}
use Rattle.dds_announced.specs.Hearings.{all_heard}
use Rattle.dds_announced.proofs.Onward.{ended_on, heard_on}
use Rattle.dds_announced.proofs.hearing.hear_all.Goals as goal

pub loop-datagram-preserved : goal.loop-datagram-preserved
loop-datagram-preserved c =
    let i = c.loop-datagram.datagram-index in
    let ds = c.args.datagrams.now in
    let a = c.loop-datagram.announcer in
    record {
      same = search rules;
      failed = search rules;
      sends = heard_on a c.take.new.self _ c.loop-datagram.sends.items c.take.new.sends.items _
          (λ (own : GuidPrefix). all_heard own (map arrived (drop (i + 1) ds)))
          c.in_ok-take.ensures.heard c.in_ok-take.ensures.same
          (ap (λ (l : List Datagram). c.loop-datagram.sends.items ++ sends_run a.rules a.state (all_heard a.own (map arrived l)))
          (sym (drop_more ds i _ c.loop-datagram-test.true))
          ∙ c.loop-datagram.invariant.sends);
      state = ended_on a c.take.new.self _ c.loop-datagram.sends.items c.take.new.sends.items _
          (λ (own : GuidPrefix). all_heard own (map arrived (drop (i + 1) ds)))
          c.in_ok-take.ensures.heard c.in_ok-take.ensures.same
          (ap (λ (l : List Datagram). state_run a.rules a.state (all_heard a.own (map arrived l)))
          (sym (drop_more ds i _ c.loop-datagram-test.true))
          ∙ c.loop-datagram.invariant.state);
    }
