-- Both parts are where one list of inputs brings them.
use Rattle.std.proofs.Common.{◌≡◌, List, [], ◌∷◌, ◌++◌, refl, sym, ap, subst, map, ◌∙◌, append_assoc}
use Rattle.std.specs.List.{flat_map}
use Rattle.rtps_types.specs.declared.identity.GuidPrefix.{GuidPrefix}
use Rattle.rtps_discovery.specs.declared.config.Config.{Config}
use Rattle.dds_topic.specs.Decoding.{Decoding}
use Rattle.rtps_run.specs.Input.{Input}
use Rattle.rtps_announcer.specs.declared.hearing.Hearing.{Hearing}
use Rattle.rtps_announcer.specs.declared.hearing.Hearing.TheVariants.{Joins}
use Rattle.rtps_announcer.specs.declared.rules.Rules.{Rules}
use Rattle.rtps_announcer.specs.Announcing.{State, first, state_run}
use Rattle.rtps_announcer.proofs.Running.{state_more}
use Rattle.dds_announced.specs.Announced.{StayTogether}
use Rattle.dds_announced.specs.Hearings.{all_heard, heard_at, heard_of}

-- what is heard of some inputs, and then of others
all_more : (own : GuidPrefix) (xs ys : List Input) → all_heard own (xs ++ ys) ≡ all_heard own xs ++ all_heard own ys
all_more own [] ys = refl
all_more own (x ∷ xs) ys = ap (λ l. heard_of own x ++ l) (all_more own xs ys) ∙ sym (append_assoc (heard_of own x) (all_heard own xs) (all_heard own ys))

heard_more : (config : Config) (xs ys : List Input) → heard_at config (xs ++ ys) ≡ heard_at config xs ++ all_heard config.own ys
heard_more config xs ys =
    ap (λ l. map (λ r. Joins) config.readers.items ++ l) (all_more config.own xs ys)
    ∙ sym (append_assoc (map (λ r. Joins) config.readers.items) (all_heard config.own xs) (all_heard config.own ys))

pub stay_together : {C M : Type 0} (V : Type 0) (decoding : C → Decoding M) → StayTogether V decoding
stay_together V decoding earlier inputs old new before after stand run config own announces same =
    let c = old.run.engine.config in
    let hs = heard_at c earlier in
    let r = old.announcer.rules in
    record {
      run = run;
      announcer = record {
        state = announces.state
            ∙ ap (λ (s : State). state_run r s (all_heard old.announcer.own inputs)) stand.announcer.state
            ∙ ap (λ (p : GuidPrefix). state_run r (state_run r first hs) (all_heard p inputs)) own
            ∙ sym (state_more r first hs (all_heard c.own inputs))
            ∙ ap (λ (l : List Hearing). state_run r first l) (sym (heard_more c earlier inputs))
            ∙ ap (λ (x : Rules). state_run x first (heard_at c (earlier ++ inputs))) (sym same.announcer.rules)
            ∙ ap (λ (x : Config). state_run new.announcer.rules first (heard_at x (earlier ++ inputs))) (sym config);
        failed = announces.failed;
      };
    }
