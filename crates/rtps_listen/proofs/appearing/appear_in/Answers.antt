use Rattle.std.proofs.Common.{ap, refl}
use Rattle.rtps_listen.proofs.Appeared.{appears_all, config_none, config_refused, places_none, places_refused, ports_none, ports_refused, prefix_none, prefix_refused, run_refused}
use Rattle.rtps_listen.proofs.appearing.appear_in.Goals as goal

pub returns-in_err-given-clause-refused : goal.returns-in_err-given-clause-refused
returns-in_err-given-clause-refused g c =
    config_refused c.args.options.now c.config_of.result _ _ c.in_err-given.was c.from_residual.ensures.1 c.config_of.ensures.refused
    c.in_err-given.ensures.cause

pub returns-in_err-given-clause-appears : goal.returns-in_err-given-clause-appears
returns-in_err-given-clause-appears g c =
    config_none _ c.args.options.now _ _ _ _ c.from_residual.ensures.1 c.in_err-given.ensures.cause

pub returns-in_err-reach-clause-refused : goal.returns-in_err-reach-clause-refused
returns-in_err-reach-clause-refused g c =
    places_refused c.args.options.now c.in_ok-given.given c.reach_of.result _ _ c.in_ok-given.ensures.refused c.reach_of.ensures.refused
    c.in_err-reach.was c.from_residual-in_err-reach.ensures.1 c.in_err-reach.ensures.fault

pub returns-in_err-reach-clause-appears : goal.returns-in_err-reach-clause-appears
returns-in_err-reach-clause-appears g c =
    places_none _ c.args.options.now _ _ _ _ c.from_residual-in_err-reach.ensures.1 c.in_err-reach.ensures.fault

pub returns-in_err-config-clause-refused : goal.returns-in_err-config-clause-refused
returns-in_err-config-clause-refused g c =
    prefix_refused c.args.options.now c.in_ok-given.given c.in_ok-reach.reach _ _ c.in_ok-given.ensures.refused c.in_ok-reach.ensures.reach
    c.from_residual-in_err-config.ensures.1 c.in_err-config.ensures.fault

pub returns-in_err-config-clause-appears : goal.returns-in_err-config-clause-appears
returns-in_err-config-clause-appears g c =
    prefix_none _ c.args.options.now _ _ _ _ c.from_residual-in_err-config.ensures.1 c.in_err-config.ensures.fault

pub returns-in_err-network-clause-refused : goal.returns-in_err-network-clause-refused
returns-in_err-network-clause-refused g c =
    ports_refused _ c.args.options.now c.in_ok-given.given c.in_ok-reach.reach c.in_ok-config.config _ _ c.in_ok-given.ensures.refused
    c.in_ok-reach.ensures.reach c.in_ok-config.ensures.config c.from_residual-in_err-network.ensures.1 c.in_err-network.ensures.fault

pub returns-in_err-network-clause-appears : goal.returns-in_err-network-clause-appears
returns-in_err-network-clause-appears g c =
    ports_none _ c.args.options.now _ _ _ _ _ c.in_ok-config.config _ c.from_residual-in_err-network.ensures.1 c.in_err-network.ensures.fault
    (ap (λ h. record c.args.station.now { host = h }) c.in_err-network.ensures.same)

pub returns-clause-refused : goal.returns-clause-refused
returns-clause-refused g c =
    run_refused c.args.options.now c.in_ok-given.given c.in_ok-reach.reach c.run_over-ended.result _ c.in_ok-given.ensures.refused
    c.in_ok-reach.ensures.reach c.run_over-ended.ensures.fault c.leave.ensures.ended

pub returns-clause-appears : goal.returns-clause-appears
returns-clause-appears g c =
    appears_all _ c.args.options.now c.in_ok-reach.reach c.in_ok-config.config _ _ c.in_ok-network.network _ _ _ _ _ c.run_over-ended.result _
    c.in_ok-reach.ensures.reach c.in_ok-config.ensures.config c.in_ok-network.ensures.appeared c.in_ok-network.ensures.quiet
    c.in_ok-network.ensures.silent refl c.insert-network.ensures.value c.run_over-ended.ensures.listens c.run_over-ended.ensures.speech
    c.leave.ensures.same c.leave.ensures.ended c.leave.ensures.left refl
