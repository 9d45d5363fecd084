use Rattle.std.proofs.Common.{rules, ◌≡◌, ◌∙◌, List, ap, sym, map}
use Rattle.rtps_announcer.specs.declared.hearing.Hearing.{Hearing}
use Rattle.rtps_announcer.specs.declared.hearing.Hearing.TheVariants.{Joins}
use Rattle.rtps_announcer.specs.declared.rules.Rules.{Rules}
use Rattle.rtps_announcer.specs.Announcing.{State, first, state_run}
use Rattle.dds_announced.specs.Speaker.{own_readers}
use Rattle.dds_announced.proofs.Joined.{joins_each}
use Rattle.dds_announced.proofs.voice.Voice.new.Goals as goal

pub returns-clause-heard : goal.returns-clause-heard
returns-clause-heard c =
    let config = c.args.config.now in
    let joined = c.in-Ok-join_all.ensures in
    let begun = c.new-announcer.result in
    let readers : c.add_all.new.self.readers.items ≡ own_readers config.own config.readers.items =
    search rules in
    let each : map (λ r. Joins) c.add_all.new.self.readers.items
    ≡ map (λ r. Joins) config.readers.items =
    ap (λ l. map (λ r. Joins) l) readers ∙ joins_each config.own config.readers.items in
    let at : c.join_all.new.announcer.state
    ≡ state_run begun.rules begun.state (map (λ r. Joins) config.readers.items) = search rules in
    record {
      state = at
          ∙ ap (λ (s : State). state_run begun.rules s (map (λ r. Joins) config.readers.items))
          c.new-announcer.ensures.stands.state
          ∙ ap (λ (l : List Hearing). state_run begun.rules first l) (sym each)
          ∙ ap (λ (r : Rules). state_run r first (map (λ r. Joins) c.add_all.new.self.readers.items))
          (sym joined.same.rules);
      failed = joined.failed;
    }
